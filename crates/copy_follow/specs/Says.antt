-- The facts about the candidates that an answer states.
use Rattle.std.specs.Prelude.{◌≡◌, ◌≢◌, ◌⊎◌, ◌↔◌, ℕ, ◌<◌, ◌≤◌, false, List, [], ◌∷◌, ◌++◌, length, All, Contains, Option, None, Some, ⊤}
use Rattle.std.specs.Cmp.Lexicographic.{slice_cmp}
use Rattle.std.specs.List.Sorted.{IsSorted}
use Rattle.std.specs.Ordering.{is_gt, nat_cmp}
use Rattle.tlog_hash.specs.Tree.{mth}
use Rattle.tlog_tiles.specs.declared.paths.Path.TheVariants.{Checkpoint}
use Rattle.mirror_folders.specs.Shelf.{Put, HasPut}
use Rattle.copy_follow.specs.Copies.{IsCopy}
use Rattle.copy_follow.specs.Moments.{InTheEnd}
use Rattle.copy_follow.specs.Pruned.{IsPrunedCopy, OfPrunedCopies}
use Rattle.copy_places.specs.Agreeing.{Agrees}
use Rattle.copy_places.specs.Candidates.{note_of, point_of, turn_cmp}
use Rattle.copy_places.specs.Lines.{AreLines, IsInSomeLine}
use Rattle.copy_places.specs.declared.candidate.Candidate.{Candidate}
use Rattle.copy_places.specs.declared.fork_line.ForkLine.{ForkLine}
use Rattle.copy_follow.specs.Rule.{FollowsRule, IsOfCopy}
use Rattle.copy_follow.specs.RunStanding.{IsFoundCopy}
use Rattle.copy_follow.specs.declared.report.Followed.{Followed}

-- ---- candidates

-- the note is the other note, or its bytes come before those of the other
abbrev pub IsNoteUpTo : List ℕ → List ℕ → Type 0
IsNoteUpTo note other = is_gt (slice_cmp nat_cmp note other) ≡ false

-- ---- lines

-- there is a copy, and it has more entries
abbrev pub IsUnderCopy : Option (ℕ × List ℕ) → ℕ → Type 0
IsUnderCopy None size = ⊥
IsUnderCopy (Some copy) size = size < copy.0

-- no line reports a candidate, all have fewer entries than the copy, and the first of them has that size and root
pub record IsBehind (candidates : List Candidate) (copy : Option (ℕ × List ℕ)) (forks : List ForkLine)
    (larger : List (ℕ × List ℕ)) (point : ℕ × List ℕ) : Type 0 where
  pub no_forks : forks ≡ []
  pub no_larger : larger ≡ []
  pub smaller : All (λ candidate. IsUnderCopy copy candidate.size.0) candidates
  pub first : Candidate
  pub others : List Candidate
  pub candidates_are : candidates ≡ first ∷ others
  pub is : point ≡ (first.size.0, first.root)

-- ---- the note

-- the note is that of a candidate of the copy's size and root
pub record IsNoteOfOne (candidates : List Candidate) (followed : Followed) (note : List ℕ) : Type 0 where
  pub candidate : Candidate
  pub listed : Contains candidates candidate
  pub note_is : note ≡ note_of candidate
  pub copy_is : followed.copy ≡ Some (candidate.size.0, candidate.root)

-- the note is not greater than the old one, if the old copy had the same size
abbrev pub IsUpToOld : Option (List ℕ) → List (List ℕ) → ℕ → List ℕ → Type 0
IsUpToOld None entries size note = ⊤
IsUpToOld (Some old) entries size note = length entries ≡ size → IsNoteUpTo note old

-- the note is the old one
abbrev pub IsOldNote : Option (List ℕ) → List ℕ → Type 0
IsOldNote None note = ⊥
IsOldNote (Some old) note = note ≡ old

module _ (digest : List ℕ → List ℕ) where
  -- there is a copy. The candidate agrees with it, and is not larger
  abbrev pub AgreesWithCopy : Option (ℕ × List ℕ) → Candidate → Type 0
  AgreesWithCopy None candidate = ⊥
  AgreesWithCopy (Some copy) candidate =
      (candidate.size.0 ≤ copy.0)
      × Agrees digest (point_of candidate) (record { size = copy.0; root = copy.1 })

  -- a candidate agrees with the copy and is not larger, or it is in a fork line or among the larger ones
  abbrev pub IsSettled : Followed → Candidate → Type 0
  IsSettled followed candidate =
      AgreesWithCopy followed.copy candidate
      ⊎ (IsInSomeLine followed.forks.items candidate
      ⊎ Contains followed.larger.items (candidate.size.0, candidate.root))

  -- the facts about each of the candidates. Without a copy there is a fork line
  pub record SettlesEach (candidates : List Candidate) (followed : Followed) : Type 0 where
    pub each : All (IsSettled followed) candidates
    pub rule : FollowsRule followed.copy candidates followed.forks.items followed.larger.items
    pub behind : (point : ℕ × List ℕ) → (followed.behind ≡ Some point)
        ↔ IsBehind candidates followed.copy followed.forks.items followed.larger.items point
    pub some : followed.copy ≡ None → followed.forks.items ≢ []

  module _ (origin : List ℕ) (candidates : List Candidate) where
    -- the shelf has such a copy, with the size and root of the answer, of entries that begin with these. Its note is the least among
    -- the candidates of that size and root and the old note
    pub record HasLeastNote (such : List ℕ → List (List ℕ) → List Put → Type 0) (followed : Followed)
        (old : Option (List ℕ)) (entries : List (List ℕ)) (puts : List Put) : Type 0 where
      pub note : List ℕ
      pub more : List (List ℕ)
      pub copy : such note (entries ++ more) puts
      pub copy_is : followed.copy ≡ Some (length (entries ++ more), mth digest (entries ++ more))
      pub least : All (λ candidate. followed.copy ≡ Some (candidate.size.0, candidate.root) →
          IsNoteUpTo note (note_of candidate)) candidates
      pub up_to_old : IsUpToOld old entries (length (entries ++ more)) note
      pub had : IsNoteOfOne candidates followed note ⊎ IsOldNote old note

    -- the shelf has such a copy at the end, if there is one. If partial files of the old copy were replaced by full ones, so may those
    -- of the new one be
    pub record HasLeastInTheEnd (old new : Option (List Put)) (followed : Followed) : Type 0 where
      pub some : (held : List Put) → old ≡ Some held → (note : List ℕ) (entries : List (List ℕ)) →
          IsCopy digest origin note entries held →
          InTheEnd new (HasLeastNote (IsCopy digest origin) followed (Some note) entries)
      pub pruned : OfPrunedCopies digest origin old
          (λ held note entries. InTheEnd new (HasLeastNote (IsPrunedCopy digest origin) followed (Some note) entries))
      pub none : (held : List Put) → old ≡ Some held → ¬ HasPut held Checkpoint → followed.copy ≢ None →
          InTheEnd new (HasLeastNote (IsCopy digest origin) followed None [])

  -- the facts that an answer states about the gathered candidates, and about the copy that was found first
  pub record Says (origin : List ℕ) (so : List Candidate → Type 0) (old new : Option (List Put)) (followed : Followed)
      : Type 0 where
    pub candidates : List Candidate
    pub gathered : so candidates
    pub rising : IsSorted turn_cmp candidates
    pub settles : SettlesEach candidates followed
    pub first : Option Candidate
    pub found : IsFoundCopy origin old first
    pub lines : AreLines first candidates followed.forks.items
    pub of_copy : All (IsOfCopy first candidates followed.copy) followed.forks.items
    pub noted : HasLeastInTheEnd origin candidates old new followed
