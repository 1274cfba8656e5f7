-- Fork lines are added, turn after turn.
use Rattle.std.proofs.Common.{Result, Ok, Err, OnOk, ◌≡◌, ◌≢◌, List, [], ◌∷◌, ◌++◌, Option, Some, None, IfSome, refl, sym, subst}
use Rattle.copy_places.specs.Adding.{AddsFork}
use Rattle.copy_places.specs.Lines.{AreLines, IsFirstOrListed, IsInSomeLine, KeepsLines}
use Rattle.copy_places.specs.Candidates.{IsOnePoint}
use Rattle.copy_places.specs.declared.candidate.Candidate.{Candidate}
use Rattle.copy_places.specs.declared.fork_line.ForkLine.{ForkLine}
use Rattle.copy_places.proofs.Lines.{known_more, lines_added, lines_more, listed_now}

module _ (first : Option Candidate) where
  -- after the turn of a candidate that is a fork with the copy
  pub lines_forked : (done : List Candidate) (c : Candidate) (copy : Option Candidate) (old new : List ForkLine) →
      copy ≢ None → IfSome copy (λ held. AddsFork held c old new) → IfSome copy (λ held. IsOnePoint held c → ⊥) →
      IfSome copy (IsFirstOrListed first done) → AreLines first done old → AreLines first (done ++ c ∷ []) new
  lines_forked done c None old new some adds apart known l = absurd (some refl)
  lines_forked done c (Some held) old new some adds apart known l =
      lines_added first (done ++ c ∷ []) held c old new adds apart (known_more first done c held known)
      (listed_now done c c (record { size_is = refl; root_is = refl; note_is = refl })) (lines_more first done c old l)

-- a call that adds the fork of the copy and a candidate
pub fork_adds : {T E : Type 0} (r : Result T E) (copy : Option Candidate) (held c : Candidate) (old new : List ForkLine) →
    copy ≡ Some held → OnOk r (AddsFork held c old new) → OnOk r (IfSome copy (λ copy. AddsFork copy c old new))
fork_adds (Ok t) copy held c old new is adds = subst (λ o. IfSome o (λ copy. AddsFork copy c old new)) (sym is) adds
fork_adds (Err e) copy held c old new is adds = tt

-- a line of the copy and a candidate was added
pub line_added : {T E : Type 0} (r : Result T E) (old new : List ForkLine) (c : Candidate) (P : Type 0) →
    OnOk r (KeepsLines old new) → OnOk r (IsInSomeLine new c) → OnOk r (P → KeepsLines old new × IsInSomeLine new c)
line_added (Ok x) old new c P kept is = λ some. (kept, is)
line_added (Err e) old new c P kept is = tt
