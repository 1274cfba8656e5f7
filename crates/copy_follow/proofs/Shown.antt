-- Forks of the copy and candidates.
use Rattle.std.proofs.Common.{◌≡◌, ◌≢◌, ◌⊎◌, inl, inr, ℕ, ◌≤◌, List, [], Option, Some, None, IfOk, IfSome, OnOk, Ok, Err, Result, refl, sym, subst, ◌∙◌, arith}
use Rattle.std.proofs.lemmas.Bool.{cases_lt}
use Rattle.tlog_proof.specs.declared.proof.Proof.{Proof}
use Rattle.copy_places.specs.Shown.{AreFork, ShowsEach}
use Rattle.copy_places.specs.declared.candidate.Candidate.{Candidate}
use Rattle.copy_places.specs.declared.fork_line.ForkLine.{ForkLine}
use Rattle.copy_follow.specs.declared.report.Followed.{Followed}
use Rattle.copy_follow.specs.declared.run.Run.{Run}

module _ (digest : List ℕ → List ℕ) where
  -- a candidate of the copy's size or without entries, whose root is not the one that it has to have
  pub due_shows : (copy candidate : Candidate) (due : List ℕ) → candidate.size.0 ≤ copy.size.0 →
      (candidate.size.0 ≡ 0) ⊎ (candidate.size.0 ≡ copy.size.0) → (candidate.size.0 ≡ copy.size.0 → due ≡ copy.root) →
      (candidate.size.0 ≢ copy.size.0 → due ≡ digest []) → candidate.root ≢ due → AreFork digest copy candidate None
  due_shows copy candidate due le which as_copy as_none other = elim (cases_lt candidate.size.0 copy.size.0) [
    | inl lt ↦
        let apart : candidate.size.0 ≢ copy.size.0 = omega (arith, lt) in
        let none : candidate.size.0 ≡ 0 = elim which [ inl zero ↦ zero | inr same ↦ absurd (apart same) ] in
        inr (inl (lt, inr (none, λ e. other (e ∙ sym (as_none apart)))))
    | inr ge ↦
        let same : candidate.size.0 ≡ copy.size.0 = omega (arith, le, ge) in
        inr (inr (refl, sym same, λ e. other (sym e ∙ sym (as_copy same))))
  ]

  -- the lines of a report
  pub reported_forks : (run : Run) {E : Type 0} (r : Result Followed E) →
      IfOk r (λ f. (digest : List ℕ → List ℕ) → ShowsEach digest run.forks.items → ShowsEach digest f.forks.items) →
      ShowsEach digest run.forks.items → IfOk r (λ f. ShowsEach digest f.forks.items)
  reported_forks run (Ok f) h each = h digest each
  reported_forks run (Err e) h each = tt

-- the fork of the copy and a candidate was added
pub fork_added : {T E : Type 0} (r : Result T E) (old new : List ForkLine) (copy : Option Candidate)
    (held candidate : Candidate) (proof : Option Proof) → copy ≡ Some held →
    OnOk r ((digest : List ℕ → List ℕ) → AreFork digest held candidate proof → ShowsEach digest old → ShowsEach digest new) →
    OnOk r ((digest : List ℕ → List ℕ) → IfSome copy (λ c. AreFork digest c candidate proof) → ShowsEach digest old →
    ShowsEach digest new)
fork_added (Ok x) old new copy held candidate proof is shows =
    λ digest fork. shows digest (subst (λ o. IfSome o (λ c. AreFork digest c candidate proof)) is fork)
fork_added (Err e) old new copy held candidate proof is shows = tt
