-- What a call within a range says of the whole range.
use Rattle.std.proofs.Common.{ℕ, ◌+◌, ◌≤◌, Result, Ok, Err, OnOk, arith}
use Rattle.tlog_proof.specs.Making.{IsWhy}
use Rattle.tlog_proof.specs.declared.making.MakeFault.{MakeFault}
use Rattle.tlog_proof.specs.declared.making.MakeFault.TheVariants.{Ranges, OutOfMemory}

pub on_ok : {T E : Type 0} (result : Result T E) (P Q : Type 0) → (P → Q) → OnOk result P → OnOk result Q
on_ok (Ok x) P Q f h = f h
on_ok (Err e) P Q f h = tt

-- a fault within a range, after steps, is one of the range
pub why_wider : {S E : Type 0} (steps : S → S → Type 0) (why : S → S → ℕ → ℕ → E → Type 0) (start len s n : ℕ) (x y z : S) →
    start ≤ s → s + n ≤ start + len → (steps y z → steps x z) →
    ((s n : ℕ) (fault : E) → why y z s n fault → why x z s n fault) → (fault : MakeFault E) →
    IsWhy steps why s n y z fault → IsWhy steps why start len x z fault
why_wider steps why start len s n x y z from upto longer more (Ranges e) (a, b, low, high, h) =
    (a, b, omega arith, omega arith, more a b e h)
why_wider steps why start len s n x y z from upto longer more OutOfMemory h = longer h
