-- The hashes of ranges of one entry each.
use Rattle.std.proofs.Common.{◌≡◌, ℕ, zero, suc, ◌+◌, ◌*◌, ◌<◌, ◌≤◌, List, [], ◌∷◌, length, take, drop, map, get_or}
use Rattle.std.proofs.Common.{refl, sym, ap, ◌∙◌, arith}
use Rattle.std.proofs.Math.Seq.{drop-cons}
use Rattle.tlog_hash.specs.Rows.{ranges}
use Rattle.tlog_hash.specs.Tree.{leaf_hash, mth}
use Rattle.tlog_hash.proofs.Trees.{mth-one}

-- the hashes of level 0 are the leaf hashes
pub rows_of_leaves : (digest : List ℕ → List ℕ) (w first : ℕ) (es : List (List ℕ)) → first + w ≤ length es →
    map (mth digest) (ranges 1 first w es) ≡ map (leaf_hash digest) (take w (drop first es))
rows_of_leaves digest zero first es le = refl
rows_of_leaves digest (suc w) first es le =
    let x = get_or es first [] in
    let lt : first < length es = omega arith in
    let d : drop first es ≡ x ∷ drop (suc first) es = drop-cons es first [] lt in
    let same : first * 1 ≡ first = omega arith in
    let next : first + 1 ≡ suc first = omega arith in
    let one : mth digest (take 1 (drop (first * 1) es)) ≡ leaf_hash digest x =
    ap (λ n. mth digest (take 1 (drop n es))) same ∙
    (ap (λ (l : List (List ℕ)). mth digest (take 1 l)) d ∙ mth-one digest x) in
    let rest : map (mth digest) (ranges 1 (first + 1) w es) ≡ map (leaf_hash digest) (take w (drop (suc first) es)) =
    rows_of_leaves digest w (first + 1) es (omega arith) ∙
    ap (λ n. map (leaf_hash digest) (take w (drop n es))) next in
    ap (λ (h : List ℕ). h ∷ map (mth digest) (ranges 1 (first + 1) w es)) one
    ∙ (ap (λ (hs : List (List ℕ)). leaf_hash digest x ∷ hs) rest ∙
    sym (ap (λ (l : List (List ℕ)). map (leaf_hash digest) (take (suc w) l)) d))
