use Rattle.std.proofs.Common.{◌≤◌, ℕ, [], ◌∷◌, refl, lit<, lit≤}
use lib.Utf8.{encode}
use Rattle.std.proofs.lemmas.List.Elements.{All-nil, All-cons}
use Rattle.mirror_model.specs.Origin.{IsOrigin}

-- `bench` is an origin
pub bench_is_origin : IsOrigin (98 ∷ 101 ∷ 110 ∷ 99 ∷ 104 ∷ [])
unfolding encode
bench_is_origin = record {
  utf8 = (98 ∷ 101 ∷ 110 ∷ 99 ∷ 104 ∷ [], (refl, refl));
  some = lit< tt;
  most = lit≤ tt;
  printed = let P : ℕ → Type 0 = λ byte. 32 ≤ byte in
      All-cons P 98 (101 ∷ 110 ∷ 99 ∷ 104 ∷ []) (lit≤ tt)
      (All-cons P 101 (110 ∷ 99 ∷ 104 ∷ []) (lit≤ tt)
      (All-cons P 110 (99 ∷ 104 ∷ []) (lit≤ tt)
      (All-cons P 99 (104 ∷ []) (lit≤ tt) (All-cons P 104 [] (lit≤ tt) (All-nil P)))));
}
