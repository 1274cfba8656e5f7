-- Forks of two candidates, and the lines that report them.
use Rattle.std.proofs.Common.{◌≡◌, ◌≢◌, ℕ, ◌≤◌, List, ◌∷◌, take, drop, Option, OnOk, Ok, Err, Result, sym, subst}
use Rattle.std.proofs.lemmas.List.Elements.{All-append, All-cons, All-drop, All-take}
use Rattle.std.specs.List.{insert}
use Rattle.tlog_proof.specs.declared.proof.Proof.{Proof}
use Rattle.copy_places.specs.Forks.{ShowsFork}
use Rattle.copy_places.specs.Shown.{AreFork, IsLine, ShowsEach, ShowsLine}
use Rattle.copy_places.specs.Candidates.{IsSame, point_of}
use Rattle.copy_places.specs.declared.candidate.Candidate.{Candidate}
use Rattle.copy_places.specs.declared.fork_line.ForkLine.{ForkLine}
use Rattle.copy_places.specs.Adding.{AddsFork, AddsLine, IsForkLine}

same_point : (a b : Candidate) → IsSame a b → point_of a ≡ point_of b
same_point a b s = λ i. record { size = sym s.size_is i; root = sym s.root_is i }

module _ (digest : List ℕ → List ℕ) where
  -- a line of two candidates whose fork the proof shows
  line_shows : (small large : Candidate) (proof : Option Proof) (line : ForkLine) → IsLine small large proof line →
      ShowsFork digest (point_of small) (point_of large) proof → ShowsLine digest line
  line_shows small large proof line is shown =
      subst (λ p. ShowsFork digest p (point_of line.large) line.proof) (same_point small line.small is.small_is)
      (subst (λ p. ShowsFork digest (point_of small) p line.proof) (same_point large line.large is.large_is)
      (subst (λ p. ShowsFork digest (point_of small) (point_of large) p) (sym is.proof_is) shown))

  pub insert_shows : (lines : List ForkLine) (at : ℕ) (line : ForkLine) → ShowsEach digest lines → ShowsLine digest line →
      ShowsEach digest (insert lines at line)
  insert_shows lines at line each shown =
      All-append (ShowsLine digest) (take at lines) (line ∷ drop at lines) (All-take (ShowsLine digest) at lines each)
      (All-cons (ShowsLine digest) line (drop at lines) shown (All-drop (ShowsLine digest) at lines each))

-- the fork of two candidates was added
pub fork_added : {T E : Type 0} (r : Result T E) (old new : List ForkLine) (line : ForkLine) (first second : Candidate)
    (proof : Option Proof) → ((digest : List ℕ → List ℕ) → AreFork digest first second proof → ShowsLine digest line) →
    OnOk r ((digest : List ℕ → List ℕ) → ShowsEach digest old → ShowsLine digest line → ShowsEach digest new) →
    OnOk r ((digest : List ℕ → List ℕ) → AreFork digest first second proof → ShowsEach digest old → ShowsEach digest new)
fork_added (Ok x) old new line first second proof shows adds =
    λ digest fork each. adds digest each (shows digest fork)
fork_added (Err e) old new line first second proof shows adds = tt

pub fork_adds : {T E : Type 0} (r : Result T E) (first second : Candidate) (line : ForkLine) (old new : List ForkLine) →
    IsForkLine first second line → OnOk r (AddsLine line old new) → OnOk r (AddsFork first second old new)
fork_adds (Ok t) first second line old new of_both adds = record { line = line; is = of_both; adds = adds }
fork_adds (Err e) first second line old new of_both adds = tt
