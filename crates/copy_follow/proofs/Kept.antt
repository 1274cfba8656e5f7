-- Candidates that are checkpoints of the origin, and runs under their notes.
use Rattle.std.proofs.Common.{◌≡◌, ℕ, ◌<◌, length, get_or, List, [], All, Option, map, sym, subst}
use Rattle.std.proofs.lemmas.List.Elements.{All-get_or, All-nil, All-weaker}
use Rattle.signed_note.specs.Keys.{Key}
use Rattle.mirror_sources.specs.Recorded.{KeepsRecord}
use Rattle.mirror_folders.specs.Shelf.{Put}
use Rattle.copy_places.specs.Candidates.{IsCandidate, note_of}
use Rattle.copy_places.specs.declared.candidate.Candidate.{Candidate}
use Rattle.copy_follow.specs.Runs.{FollowsCandidates, KeepsEach}
use Rattle.copy_follow.specs.RunStanding.{IsHeadOf}
use Rattle.copy_follow.proofs.Runs.{each_none, each_then}

-- candidates are checkpoints of the origin
pub heads_open : (origin : List ℕ) (keys : List Key) (candidates : List Candidate) → All (IsCandidate origin keys) candidates →
    All (IsHeadOf origin) candidates
heads_open origin keys candidates opened =
    All-weaker (IsCandidate origin keys) (IsHeadOf origin)
    (λ c is. record {
      text = is.is_open.text;
      lines = is.is_open.lines;
      extensions = is.is_open.extensions;
      is_note = is.is_open.is_note;
      is_checkpoint = is.is_open.is_checkpoint;
    })
    candidates opened

-- each of them is a checkpoint of the origin
pub head_at : (origin : List ℕ) (candidates : List Candidate) (i : ℕ) (candidate : Candidate) → i < length candidates →
    candidate ≡ get_or candidates i candidate → All (IsHeadOf origin) candidates → IsHeadOf origin candidate
head_at origin candidates i candidate lt is all =
    subst (IsHeadOf origin) (sym is) (All-get_or (IsHeadOf origin) candidates i candidate lt all)

module _ (digest : List ℕ → List ℕ) (origin : List ℕ) (keys : List Key) (so : List ℕ → Type 0) where
  -- a call that puts nothing is a run without candidates
  pub follows_none : (x y : Option (List Put)) → KeepsRecord x y → FollowsCandidates digest origin keys so x y
  follows_none x y kept = record {
    candidates = [];
    opened = All-nil (IsCandidate origin keys);
    had = All-nil (λ c. so (note_of c));
    keeps = (each_none digest origin [] x y kept).whole;
    pruned = (each_none digest origin [] x y kept).pruned;
  }

  -- a call that puts nothing, and then a run under the notes of candidates
  pub follows_candidates : (given candidates : List Candidate) (x y z : Option (List Put)) → candidates ≡ given →
      All (IsCandidate origin keys) given → All (λ c. so (note_of c)) given → KeepsRecord x y →
      KeepsEach digest origin (map note_of candidates) y z → FollowsCandidates digest origin keys so x z
  follows_candidates given candidates x y z is opens gave kept run =
      let notes = map note_of candidates in
      let each = each_then digest origin notes x z y (each_none digest origin notes x y kept) run in
      record {
        candidates = candidates;
        opened = subst (All (IsCandidate origin keys)) (sym is) opens;
        had = subst (All (λ c. so (note_of c))) (sym is) gave;
        keeps = each.whole;
        pruned = each.pruned;
      }
