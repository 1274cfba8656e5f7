-- The origins of test logs.
use Rattle.std.proofs.Common.{◌≤◌, ℕ, [], ◌∷◌, refl, lit<, lit≤}
use lib.Utf8.{encode}
use Rattle.std.proofs.lemmas.List.Elements.{All-nil, All-cons}
use Rattle.mirror_model.specs.Origin.{IsOrigin}

-- `ex` is an origin
pub ex_is_origin : IsOrigin (101 ∷ 120 ∷ [])
unfolding encode
ex_is_origin = record {
  utf8 = (101 ∷ 120 ∷ [], (refl, refl));
  some = lit< tt;
  most = lit≤ tt;
  printed = let P : ℕ → Type 0 = λ byte. 32 ≤ byte in
      All-cons P 101 (120 ∷ []) (lit≤ tt) (All-cons P 120 [] (lit≤ tt) (All-nil P));
}

-- `ey` is an origin
pub ey_is_origin : IsOrigin (101 ∷ 121 ∷ [])
unfolding encode
ey_is_origin = record {
  utf8 = (101 ∷ 121 ∷ [], (refl, refl));
  some = lit< tt;
  most = lit≤ tt;
  printed = let P : ℕ → Type 0 = λ byte. 32 ≤ byte in
      All-cons P 101 (121 ∷ []) (lit≤ tt) (All-cons P 121 [] (lit≤ tt) (All-nil P));
}
