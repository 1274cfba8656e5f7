-- The length of a temporary file's name.
use Rattle.std.proofs.Common.{◌≡◌, ◌+◌, ℕ, List, ◌∷◌, ◌++◌, length, length-append, ap, arith}

pub name_len : (bytes stem mid digits tail : List ℕ) → bytes ≡ 46 ∷ (stem ++ (mid ++ (digits ++ tail))) →
    length bytes ≡ 1 + length stem + length mid + length digits + length tail
name_len bytes stem mid digits tail e =
    omega (
      arith,
      ap length e,
      length-append stem (mid ++ (digits ++ tail)),
      length-append mid (digits ++ tail),
      length-append digits tail,
    )
