-- The reports on a copy are those of a mirror with its checkpoint.
use Rattle.std.proofs.Common.{◌≡◌, ℕ, ◌<◌, length, refl, arith}
use Rattle.std.proofs.lemmas.Bool.{lt-ltb, le-ltb, le-leb, eq-eqb, ne_eqb}
use Rattle.tlog_proof.specs.declared.make.ProofFault.TheVariants.{NoSuchSize, NoSuchIndex, FirstIsZero, Backwards, OutOfMemory}
use Rattle.tlog_proof.specs.declared.proof.Ask.TheVariants.{Inclusion, Consistency}
use Rattle.program_copies.specs.Laws.{RefusesAsMirror, PrintsAsMirror}

positive_is_not : (m : ℕ) → 0 < m → m ≡ 0 → ⊥
positive_is_not m some none = omega (arith, some, none)

pub refuses_as_mirror : RefusesAsMirror
refuses_as_mirror digest es (Inclusion n i) NoSuchSize h = rw (lt-ltb (length es) n h)
refuses_as_mirror digest es (Inclusion n i) NoSuchIndex h =
    rw (le-ltb (length es) n h.0) (rw (le-leb n i h.1))
refuses_as_mirror digest es (Inclusion n i) FirstIsZero h = absurd h
refuses_as_mirror digest es (Inclusion n i) Backwards h = absurd h
refuses_as_mirror digest es (Inclusion n i) OutOfMemory h = absurd h
refuses_as_mirror digest es (Consistency m n) NoSuchSize h = rw (lt-ltb (length es) n h)
refuses_as_mirror digest es (Consistency m n) NoSuchIndex h = absurd h
refuses_as_mirror digest es (Consistency m n) FirstIsZero h =
    rw (le-ltb (length es) n h.0) (rw (eq-eqb m 0 h.1))
refuses_as_mirror digest es (Consistency m n) Backwards h =
    rw (le-ltb (length es) n h.0) (rw (ne_eqb m 0 (positive_is_not m h.1)) (rw (lt-ltb n m h.2)))
refuses_as_mirror digest es (Consistency m n) OutOfMemory h = absurd h

pub tells_as_mirror : PrintsAsMirror
tells_as_mirror digest v point heads served = record {
  heads = _;
  served = point;
  are_heads = heads;
  is_served = served;
  is = refl;
}
