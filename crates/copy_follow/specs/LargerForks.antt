-- A larger candidate that contradicts the copy is in a fork line, if places have the files of the proof and answer truly.
use Rattle.std.specs.Prelude.{◌≡◌, ◌⊎◌, ℕ, ◌^◌, ◌<◌, List, ◌++◌, Contains, get_or, length, take, Option, Some}
use Rattle.std.specs.FinSet as set
use Rattle.std.proofs.Common.{inl, inr}
use Rattle.tlog_hash.specs.Tree.{strings}
use Rattle.tlog_tiles.specs.declared.paths.Path.{Path}
use Rattle.node_store.specs.Strings.{NoClash}
use Rattle.mirror_model.specs.Forks.{IsPrefix, Point}
use Rattle.mirror_model.specs.Strings.{IsDigest}
use Rattle.mirror_model.specs.TrueLaws.{AreShort}
use Rattle.copy_places.specs.Agreeing.{Agrees}
use Rattle.copy_places.specs.Answered.{MustGive, MustGivePart}
use Rattle.copy_places.specs.Candidates.{point_of}
use Rattle.copy_places.specs.Forks.{HasPoint, LacksForkClash}
use Rattle.copy_places.specs.Lines.{IsInSomeLine}
use Rattle.copy_places.specs.Nobodys.{AreGiven, IsReasonClear}
use Rattle.copy_places.specs.declared.candidate.Candidate.{Candidate}
use Rattle.copy_places.specs.declared.places.Places.{Places}
use Rattle.copy_follow.specs.Says.{SettlesEach}
use Rattle.copy_follow.specs.Told.{CouldNotBeHad, TellsAbove}
use Rattle.copy_follow.specs.declared.report.Followed.{Followed}

module _ (digest : List ℕ → List ℕ) {S : Type 0} (may : S → Path → Option (List ℕ) → Type 0) (failed : S → ℕ)
    (asked : S → Option (List Path)) (old new : Places S) where
  -- "first" is a list with the smaller point, and "entries" one with the larger point, which does not begin with it. For each full file
  -- of the proof, some place may answer nothing but the truth, and did not fail. So may one place, or two together, for the edge. No two
  -- different strings of the first tree, and of that of as many of the entries, share a digest
  pub record IsContradicted (small large : Point) (first entries : List (List ℕ)) : Type 0 where
    pub first_point : HasPoint digest small first
    pub short : AreShort entries
    pub point : HasPoint digest large entries
    pub apart : ¬ IsPrefix first entries
    pub given : AreGiven entries (MustGive may old new digest entries) (MustGivePart may old new digest entries)
        (length old.list.items) small.size
    pub clear : NoClash digest (set.from_list (strings digest first ++ strings digest (take small.size entries)))

  -- no two different strings of the entries' tree, and of what the reason names, share a digest: the check of a proof that the two agree,
  -- or the edge and the way of a proof that could not be had
  abbrev pub IsClear : {small large : Point} → Agrees digest small large ⊎ CouldNotBeHad digest may failed asked old new small.size large →
      List (List ℕ) → Type 0
  IsClear (inl agrees) entries = LacksForkClash digest agrees.proof entries
  IsClear (inr had) entries = IsReasonClear digest had.puts had.moment.ends.tiles.items (length old.list.items) had.why entries

-- if one of the candidates that an answer settles is larger than the copy, and contradicts it so, a fork line has it. Premise: no two
-- different strings of the two trees, and of what "tells" names for the candidate, share a digest
abbrev pub ContradictionsAreLines : {S : Type 0} → (S → Path → Option (List ℕ) → Type 0) → (S → ℕ) → (S → Option (List Path)) → Type 0
ContradictionsAreLines {S} may failed asked =
    (digest : List ℕ → List ℕ) → IsDigest digest → (old new : Places S) (followed : Followed) (copy : ℕ × List ℕ) →
    followed.copy ≡ Some copy → (candidates : List Candidate) → SettlesEach digest candidates followed →
    (tells : TellsAbove digest may failed asked old new copy followed) (some : 0 < copy.0) (candidate : Candidate) →
    Contains candidates candidate → copy.0 < candidate.size.0 → candidate.size.0 < 2 ^ 64 → (first entries : List (List ℕ)) →
    IsContradicted digest may failed asked old new (record { size = copy.0; root = copy.1 }) (point_of candidate) first entries →
    ((k : ℕ) (d : ℕ × List ℕ) (listed : k < length followed.larger.items) →
    get_or followed.larger.items k d ≡ (candidate.size.0, candidate.root) →
    IsClear digest may failed asked old new (tells k d listed some) entries) →
    IsInSomeLine followed.forks.items candidate
