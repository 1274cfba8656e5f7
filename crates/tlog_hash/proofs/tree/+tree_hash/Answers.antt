use Rattle.std.proofs.Common.{◌≡◌, ℕ, ◌-◌, ◌<◌, ◌≤◌, List, [], ◌∷◌, ◌++◌, length, take, drop, map, get_or, sym, ap, ◌∙◌}
use Rattle.std.proofs.Common.{arith}
use Rattle.std.proofs.lemmas.List.{take-map, drop-map, length-map}
use denote.Bor.{Bor}
use Rattle.tlog_shape.specs.Split.{split_of}
use Rattle.tlog_hash.specs.Tree.{mth}
use Rattle.tlog_hash.proofs.Trees.{mth-none, mth-one, mth-join, rest_of}
use Rattle.tlog_hash.proofs.tree.+tree_hash.Goals as goal

abbrev bytes : List (Bor (List ℕ)) → List (List ℕ)
bytes es = map (λ e. e.now) es

none : (digest : List ℕ → List ℕ) (es : List (Bor (List ℕ))) → length es < 1 → mth digest (bytes es) ≡ digest []
none digest [] h = mth-none digest
none digest (x ∷ es) h = absurd (omega arith)

one : (digest : List ℕ → List ℕ) (es : List (Bor (List ℕ))) (d : Bor (List ℕ)) → 1 ≤ length es → length es < 2 →
    mth digest (bytes es) ≡ digest (0 ∷ (get_or es 0 d).now)
one digest [] d g h = absurd (omega arith)
one digest (x ∷ []) d g h = mth-one digest x.now
one digest (x ∷ y ∷ es) d g h = absurd (omega arith)

parts : (digest : List ℕ → List ℕ) (es : List (Bor (List ℕ))) (k : ℕ) → 2 ≤ length es → k ≡ split_of (length es) →
    digest (1 ∷ mth digest (bytes (take k es)) ++ mth digest (bytes (take (length es - k) (drop k es))))
    ≡ mth digest (bytes es)
parts digest es k two is =
    let f : Bor (List ℕ) → List ℕ = λ e. e.now in
    let len : length (map f es) ≡ length es = length-map es f in
    ap (λ xs. digest (1 ∷ mth digest (bytes (take k es)) ++ mth digest (bytes xs))) (rest_of k es)
    ∙ (λ i. digest (1 ∷ mth digest (sym (take-map f k es) i) ++ mth digest (sym (drop-map f k es) i)))
    ∙ ap (λ n. digest (1 ∷ mth digest (take n (bytes es)) ++ mth digest (drop n (bytes es))))
    (is ∙ ap split_of (sym len))
    ∙ sym (mth-join digest (bytes es) (omega (arith, len)))

pub returns-in-empty : goal.returns-in-empty
returns-in-empty g t c = c.empty.ensures ∙ sym (none g.H.TreeHash.digest c.args.entries.now c.in-empty.len_below)

pub returns-in-len1 : goal.returns-in-len1
returns-in-len1 g t c =
    c.leaf.ensures ∙ sym (one g.H.TreeHash.digest c.args.entries.now _ c.in-len1.len_at_least c.in-len1.len_below)

pub returns-in_default : goal.returns-in_default
returns-in_default g t c =
    rw (c.node.ensures, c.tree_hash-left.ensures, c.tree_hash-right.ensures)
    (parts g.H.TreeHash.digest c.args.entries.now c.split-k.result (omega arith) c.split-k.ensures.value)
