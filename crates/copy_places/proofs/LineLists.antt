-- Lists of fork lines: the candidates that they report.
use Rattle.std.proofs.Common.{◌≡◌, inl, inr, ℕ, List, [], ◌∷◌, Contains, Result, Ok, Err, OnOk, refl, sym, subst, arith}
use Rattle.std.specs.List.{insert}
use Rattle.std.proofs.lemmas.List.Elements.{Contains-append_right}
use Rattle.std.proofs.lemmas.List.Sorted.{Contains-permutation, IsPermutation-insert}
use Rattle.copy_places.specs.Lines.{HasLineOf, IsInLine, IsInSomeLine, KeepsLines}
use Rattle.copy_places.specs.declared.candidate.Candidate.{Candidate}
use Rattle.copy_places.specs.declared.fork_line.ForkLine.{ForkLine}
use Rattle.copy_places.proofs.Points.{one_then}

pub kept_itself : (lines : List ForkLine) → KeepsLines lines lines
kept_itself lines line among = among

pub kept_then : (a b c : List ForkLine) → KeepsLines a b → KeepsLines b c → KeepsLines a c
kept_then a b c p q line among = q line (p line among)

pub kept_insert : (lines new : List ForkLine) (at : ℕ) (line : ForkLine) → new ≡ insert lines at line → KeepsLines lines new
kept_insert lines new at line e x among =
    subst (λ l. Contains l x) (sym e)
    (Contains-permutation (line ∷ lines) (insert lines at line) x (IsPermutation-insert lines at line)
    (Contains-append_right (line ∷ []) lines x among))

pub has_insert : (lines new : List ForkLine) (at : ℕ) (line : ForkLine) → new ≡ insert lines at line → HasLineOf new line
has_insert lines new at line e = record {
  same = line;
  listed = subst (λ l. Contains l line) (sym e)
      (Contains-permutation (line ∷ lines) (insert lines at line) line (IsPermutation-insert lines at line)
      (0, omega arith, refl));
  small_is = (refl, refl);
  large_is = (refl, refl);
}

-- a candidate of a line is in a line of the list with the same points
pub in_line_of : (lines : List ForkLine) (line : ForkLine) (candidate : Candidate) → HasLineOf lines line →
    IsInLine candidate line → IsInSomeLine lines candidate
in_line_of lines line candidate h (inl p) =
    record { line = h.same; listed = h.listed; is_in = inl (one_then candidate line.small h.same.small p h.small_is) }
in_line_of lines line candidate h (inr p) =
    record { line = h.same; listed = h.listed; is_in = inr (one_then candidate line.large h.same.large p h.large_is) }

pub lines_kept : (old new : List ForkLine) (a : Candidate) → KeepsLines old new → IsInSomeLine old a → IsInSomeLine new a
lines_kept old new a kept q = record { line = q.line; listed = kept q.line q.listed; is_in = q.is_in }

-- a line was added
pub line_has : {T E : Type 0} (r : Result T E) (new : List ForkLine) (line : ForkLine) (c : Candidate) → IsInLine c line →
    OnOk r (HasLineOf new line) → OnOk r (IsInSomeLine new c)
line_has (Ok x) new line c p h = in_line_of new line c h p
line_has (Err e) new line c p h = tt
