-- Lists of reports, item by item.
use Rattle.std.proofs.Common.{◌≡◌, ℕ, ◌+◌, ◌<◌, List, [], ◌∷◌, ◌++◌, length, take, get_or, sym, ap, ◌∙◌}
use Rattle.std.specs.List.{flat_map}
use Rattle.std.proofs.lemmas.List.{flat_map_more, take_more}

-- the report of one more item follows the reports of those before it
pub recorded_more :
    {X A : Type 0} (f : X → List A) (base : List A) (xs : List X) (i : ℕ) (x d : X) → x ≡ get_or xs i d →
    i < length xs → (old new : List A) → old ≡ base ++ flat_map f (take i xs) → new ≡ old ++ f x →
    new ≡ base ++ flat_map f (take (i + 1) xs)
recorded_more f base xs i x d at lt old new before is =
    is ∙ (ap (λ t. t ++ f x) before ∙ (flat_map_more f base (take i xs) x ∙
    ap (λ ys. base ++ flat_map f ys) (ap (λ y. take i xs ++ y ∷ []) at ∙ sym (take_more xs i d lt))))
