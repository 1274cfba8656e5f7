-- The waits of a run.
use Rattle.std.proofs.Common.{◌≡◌, ℕ, ◌+◌, ◌-◌, ◌≤◌, List, ◌∷◌, Option, Some, None, arith, inl, inr}
use Rattle.std.specs.Prelude.{sum}
use Rattle.std.proofs.lemmas.Bool.{cases_lt}
use Rattle.std.proofs.lemmas.List.Sums.{sum_by-cons}
use Rattle.std.proofs.lemmas.Nat.{pow_pos}
use Rattle.mirror_client.specs.Waits.{AreWithin, IsUsualWait, WaitIs, Waits, WaitsDone, WaitsMore}

-- a usual wait takes a second at least
usual_some : (before usual : ℕ) → IsUsualWait before usual → 1 ≤ usual
usual_some before usual is = elim (cases_lt before 5) [
  | inl early ↦ omega (arith, is.early early, pow_pos before)
  | inr late ↦ omega (arith, is.late late)
]

-- a wait takes a second at least, and no more than is left
wait_some : (named : Option ℕ) (before left wait : ℕ) → WaitIs named before left (Some wait) → 1 ≤ wait
wait_some (Some n) before left wait is = omega (arith, is.0)
wait_some None before left wait (usual, is, least, more) = omega (arith, usual_some before usual is, least, more)

wait_left : (named : Option ℕ) (before left wait : ℕ) → WaitIs named before left (Some wait) → wait ≤ left
wait_left (Some n) before left wait is = is.1
wait_left None before left wait (usual, is, least, more) = omega (arith, least)

-- all waits of a run are within what is left
pub within : (left : ℕ) (waits : List ℕ) → Waits left waits → AreWithin left waits
within n list (WaitsDone left) = record { together = omega arith; count = omega arith }
within n list (WaitsMore named before left wait {waits = rest} is run) =
    let more = within (left - wait) rest run in
    let some = wait_some named before left wait is in
    let fits = wait_left named before left wait is in
    let all : sum (wait ∷ rest) ≡ wait + sum rest = sum_by-cons (λ (x : ℕ). x) wait rest in
    record {
      together = omega (arith, more.together, fits, all);
      count = omega (arith, more.count, some, fits);
    }
