use Rattle.std.proofs.Common.{◌≡◌, ℕ, ◌+◌, ◌<◌, List, [], ◌∷◌, ◌++◌, length, map, take, get_or, sym, ap, ◌∙◌}
use Rattle.std.proofs.lemmas.List.{map-append, take_more}
use Rattle.tlog_mirror.proofs.rows.slices_of.Goals as goal

-- the values of a list of slices, with one more
slices_more :
    {A B C : Type 0} (f : A → C) (g : B → C) (xs ys : List A) (a : A) (bs : List B) (i : ℕ) (b : B) →
    ys ≡ xs ++ a ∷ [] →
    f a ≡ g b → i < length bs → b ≡ get_or bs i b → map f xs ≡ map g (take i bs) → map f ys ≡ map g (take (i + 1) bs)
slices_more f g xs ys a bs i b grown same lt at before =
    ap (map f) grown ∙ map-append f xs (a ∷ []) ∙ (λ t. before t ++ same t ∷ [])
    ∙ sym (ap (map g) (take_more bs i b lt ∙ ap (λ x. take i bs ++ x ∷ []) (sym at)) ∙
    map-append g (take i bs) (b ∷ []))

pub loop-row-preserved : goal.loop-row-preserved
loop-row-preserved c =
    slices_more (λ slice. slice.now)
    (λ row. row.items) c.loop-row.slices.items c.push.new.self.items c.as_slice.result c.args.rows.now
    c.loop-row.row-index c.row-item.result c.in_ok-push.ensures.items c.as_slice.ensures.value c.loop-row-test.true
    c.row-item.is c.loop-row.invariant
