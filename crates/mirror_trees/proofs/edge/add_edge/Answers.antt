use Rattle.std.proofs.Common.{◌≡◌, ◌<◌, List, ℕ, [], ◌∷◌, length, Vec, Global, OnOk, sym, ap, subst}
use Rattle.std.proofs.Common.{◌∙◌, arith}
use Rattle.std.specs.FinSet as set
use Rattle.std.proofs.lemmas.Bool.Decides.{nat_tests}
use Rattle.std.proofs.lemmas.List.{nil_from_length}
use Rattle.tlog_hash.specs.Tree.{fold_of, joins}
use Rattle.mirror_model.specs.Edge.{edge_strings}
use Rattle.mirror_model.specs.Strings.{HasClash}
use Rattle.mirror_trees.proofs.EdgeRows.{items_of, split_rows, edge_strings_are, edge_clash}
use Rattle.mirror_trees.proofs.BuiltTrees.{added_none}
use Rattle.mirror_trees.proofs.edge.add_edge.Goals as goal

pub returns-then-is_empty-clause-ok : goal.returns-then-is_empty-clause-ok
returns-then-is_empty-clause-ok g c =
    let d = g.H.TreeHash.digest in
    let none : c.args.rows.items ≡ [] = nil_from_length c.args.rows.items (grind (arith, nat_tests, c.args.rows.ok)) in
    added_none c.args.store.now ∙
    ap (λ (rows : List (Vec (List ℕ) Global)). set.union c.args.store.now
    (set.from_list (edge_strings d (items_of rows)))) (sym none)

pub returns-in-Ok-clause-ok : goal.returns-in-Ok-clause-ok
returns-in-Ok-clause-ok g c =
    let d = g.H.TreeHash.digest in
    let low = c.remove-lowest.result in
    let rest = c.remove-lowest.new.self.items in
    let some : 0 < length c.args.rows.items = (grind (arith, nat_tests, c.args.rows.ok)) in
    let split : c.args.rows.items ≡ low ∷ rest =
    split_rows c.args.rows.items low some c.remove-lowest.ensures.value ∙
    ap (λ xs. low ∷ xs) (sym c.remove-lowest.ensures.items) in
    let start_is = c.in-Ok.ensures.hash ∙ ap (fold_of d) c.as_slice.ensures.value in
    let store_is =
    c.in-Ok.ensures.ok ∙
    ap (λ xs. set.union c.args.store.now (set.from_list (joins d xs))) c.as_slice.ensures.value in
    subst (λ x. OnOk c.add_above.result (c.add_above.new.store ≡ x))
    (edge_strings_are d low.items (items_of rest) c.in-Ok.start start_is c.args.store.now c.add_row.new.store store_is
    ∙ ap (λ (rows : List (Vec (List ℕ) Global)). set.union c.args.store.now
    (set.from_list (edge_strings d (items_of rows)))) (sym split))
    c.add_above.ensures.ok

pub returns-in-Ok-clause-collision : goal.returns-in-Ok-clause-collision
returns-in-Ok-clause-collision g c = λ is.
    let d = g.H.TreeHash.digest in
    let low = c.remove-lowest.result in
    let rest = c.remove-lowest.new.self.items in
    let some : 0 < length c.args.rows.items = (grind (arith, nat_tests, c.args.rows.ok)) in
    let split : c.args.rows.items ≡ low ∷ rest =
    split_rows c.args.rows.items low some c.remove-lowest.ensures.value ∙
    ap (λ xs. low ∷ xs) (sym c.remove-lowest.ensures.items) in
    let start_is = c.in-Ok.ensures.hash ∙ ap (fold_of d) c.as_slice.ensures.value in
    let store_is =
    c.in-Ok.ensures.ok ∙
    ap (λ xs. set.union c.args.store.now (set.from_list (joins d xs))) c.as_slice.ensures.value in
    subst (HasClash d)
    (edge_strings_are d low.items (items_of rest) c.in-Ok.start start_is c.args.store.now c.add_row.new.store store_is
    ∙ ap (λ (rows : List (Vec (List ℕ) Global)). set.union c.args.store.now
    (set.from_list (edge_strings d (items_of rows)))) (sym split))
    (c.add_above.ensures.collision is)

pub returns-in-Err-clause-collision : goal.returns-in-Err-clause-collision
returns-in-Err-clause-collision g c = λ is.
    let d = g.H.TreeHash.digest in
    let low = c.remove-lowest.result in
    let rest = c.remove-lowest.new.self.items in
    let some : 0 < length c.args.rows.items = (grind (arith, nat_tests, c.args.rows.ok)) in
    let split : c.args.rows.items ≡ low ∷ rest =
    split_rows c.args.rows.items low some c.remove-lowest.ensures.value ∙
    ap (λ xs. low ∷ xs) (sym c.remove-lowest.ensures.items) in
    subst (HasClash d)
    (ap (λ (rows : List (Vec (List ℕ) Global)). set.union c.args.store.now
    (set.from_list (edge_strings d (items_of rows)))) (sym split))
    (edge_clash d low.items (items_of rest) c.args.store.now
    (subst (λ xs. HasClash d (set.union c.args.store.now (set.from_list (joins d xs)))) c.as_slice.ensures.value
    (c.in-Err.ensures.collision (cc (is)))))
