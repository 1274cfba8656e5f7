-- The root of the brought entries.
use Rattle.std.proofs.Common.{◌≡◌, ℕ, ◌≤◌, ◌*◌, List, [], ◌∷◌, map, refl, sym, ap, subst, ◌∙◌, arith, All, not, ◌==◌}
use Rattle.std.proofs.lemmas.List.Elements.{All-cons, All-filter, All-head, All-nil, All-tail}
use Rattle.tlog_shape.specs.Edge.{edge_index_of, width_of}
use Rattle.tlog_hash.specs.Rows.{level_row}
use Rattle.mirror_model.specs.Edge.{all_levels, edge_levels, edge_root, edge_row}
use Rattle.mirror_model.proofs.EdgeRoots.{edge_root_is}
use Rattle.log_reader.specs.EdgeRows.{row_at}
use Rattle.copy_follow.specs.Copies.{BroughtRowsLeadToRoot}

all_within : All (λ level. level ≤ 7) all_levels
all_within =
    let P = λ (level : ℕ). level ≤ 7 in
    All-cons P 0 (1 ∷ 2 ∷ 3 ∷ 4 ∷ 5 ∷ 6 ∷ 7 ∷ []) (omega arith)
    (All-cons P 1 (2 ∷ 3 ∷ 4 ∷ 5 ∷ 6 ∷ 7 ∷ []) (omega arith)
    (All-cons P 2 (3 ∷ 4 ∷ 5 ∷ 6 ∷ 7 ∷ []) (omega arith)
    (All-cons P 3 (4 ∷ 5 ∷ 6 ∷ 7 ∷ []) (omega arith)
    (All-cons P 4 (5 ∷ 6 ∷ 7 ∷ []) (omega arith)
    (All-cons P 5 (6 ∷ 7 ∷ []) (omega arith)
    (All-cons P 6 (7 ∷ []) (omega arith)
    (All-cons P 7 [] (omega arith) (All-nil P))))))))

pub levels_within : (n : ℕ) → All (λ level. level ≤ 7) (edge_levels n)
unfolding edge_levels
levels_within n = All-filter (λ level. not (width_of n level == 0)) (λ level. level ≤ 7) all_levels all_within

pub map_same : (f g : ℕ → List (List ℕ)) (levels : List ℕ) → All (λ level. level ≤ 7) levels →
    ((level : ℕ) → level ≤ 7 → f level ≡ g level) → map f levels ≡ map g levels
map_same f g [] all same = refl
map_same f g (x ∷ xs) all same =
    λ i. same x (All-head (λ level. level ≤ 7) x xs all) i
    ∷ map_same f g xs (All-tail (λ level. level ≤ 7) x xs all) same i

pub brought_root : BroughtRowsLeadToRoot
brought_root digest tip edge note known old new small b =
    let long = b.size_is in
    let rows : map (row_at edge) (edge_levels edge.size) ≡ map (edge_row digest b.next) (edge_levels edge.size) =
    map_same (row_at edge) (edge_row digest b.next) (edge_levels edge.size) (levels_within edge.size)
    (λ level upto. subst (λ n. row_at edge level ≡ level_row digest b.next level (256 * edge_index_of n level) (width_of n level)) (sym long)
    (b.rows_are level upto)) in
    ap (edge_root digest) (rows ∙ ap (λ n. map (edge_row digest b.next) (edge_levels n)) (sym long))
    ∙ edge_root_is digest b.next (omega (arith, long, small))
