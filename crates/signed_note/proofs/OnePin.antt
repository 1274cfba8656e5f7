-- The pins of a line have one digest.
use Rattle.std.proofs.Common.{◌≡◌, ℕ, zero, suc, ◌<◌, List, [], ◌∷◌, length, refl, sym, ap, ◌∙◌, subst, arith}
use Rattle.std.specs.List.{swap}
use Rattle.std.specs.List.Sorted.{IsPermutation}
use Rattle.std.proofs.lemmas.List.Sorted.{IsPermutation-keeps}
use Rattle.signed_note.specs.KeyKinds.{Pins, ArePins}
use Rattle.signed_note.specs.KeyFiles.{AreWords, HasWords, IsHexOf, IsPinText}
use Rattle.signed_note.specs.KeyKinds.{IsOwnName}
use Rattle.signed_note.specs.declared.key_line.KeyLine.TheVariants.{Pin}

swap_one : {X : Type 0} (d : X) (i j : ℕ) → i < 1 → j < 1 → swap (d ∷ []) i j ≡ d ∷ []
swap_one d zero zero l m = refl
swap_one d (suc i) j l m = absurd (omega (arith, l))
swap_one d zero (suc j) l m = absurd (omega (arith, m))

-- a list with one item has only one order
pub one_order : {X : Type 0} (d : X) (ys : List X) → IsPermutation (d ∷ []) ys → ys ≡ d ∷ []
one_order d ys h =
    IsPermutation-keeps (d ∷ []) (λ l. l ≡ d ∷ []) refl
    (λ l i j a b is. ap (λ k. swap k i j) is ∙ swap_one d i j (omega (arith, a, ap length is)) (omega (arith, b, ap length is)))
    ys h

pub one_pin : (text name digits : List ℕ) (id : ℕ) (digest : List ℕ) (p : Pins) → AreWords text name id digits →
    IsOwnName name → IsHexOf digits digest → length digest ≡ 32 → ArePins name id (digest ∷ []) p →
    IsPinText text (Pin p)
one_pin text name digits id digest p words own hex long are = (
  digest,
  subst (λ n. HasWords text n p.id digest) (sym are.name_is)
      (subst (λ i. HasWords text name i digest) (sym are.id_is)
      record { digits = digits; words = words; own_name = own; bytes_are = hex }),
  long,
  one_order digest p.digests are.digests_are,
)
