use Rattle.std.proofs.Common.{◌≡◌, ◌∷◌, ◌++◌, IfOk, OnOk, sym, ap, ◌∙◌, subst, arith, take}
use Rattle.std.specs.FinSet as set
use Rattle.std.proofs.lemmas.Result.{err_from_is_err_and}
use Rattle.tlog_hash.specs.Tree.{joins, fold_of}
use Rattle.node_store.specs.Strings.{Clashes}
use Rattle.tlog_hash.proofs.Trees.{fold_of-single, fold_of-parts}
use Rattle.mirror_trees.proofs.BuiltTrees.{row_parts, row_last, after, joins_single, added_none, added_last, clash_left}
use Rattle.mirror_trees.proofs.BuiltTrees.{clash_right, clash_last}
use Rattle.mirror_trees.proofs.Gained.{gained_none, gained_left, gained_right, gained_last}
use Rattle.mirror_trees.proofs.building.+add_row.Goals as goal

pub returns-then-row-eq1-clause-hash : goal.returns-then-row-eq1-clause-hash
returns-then-row-eq1-clause-hash g t c = fold_of-single g.H.TreeHash.digest c.args.row.now c.if-row-eq1.true

pub returns-then-row-eq1-clause-ok : goal.returns-then-row-eq1-clause-ok
returns-then-row-eq1-clause-ok g t c =
    added_none c.args.store.now ∙
    ap (λ xs. set.union c.args.store.now (set.from_list xs))
    (sym (joins_single g.H.TreeHash.digest c.args.row.now c.if-row-eq1.true))

pub returns-in_err-left-clause-collision : goal.returns-in_err-left-clause-collision
returns-in_err-left-clause-collision g t c = λ is.
    let d = g.H.TreeHash.digest in
    let row = c.args.row.now in
    let k = c.split-k.result in
    clash_left d c.args.store.now (joins d (take k row)) (joins d (after d row k)) (joins d row) (row_last d row k)
    (row_parts d row k (omega arith) c.split-k.ensures.value)
    (let p = err_from_is_err_and c.from_residual.result c.from_residual.ensures.1 in c.in_err-left.ensures.collision
    (cc (p.1, p.2, is)))

pub returns-in_err-right-clause-collision : goal.returns-in_err-right-clause-collision
returns-in_err-right-clause-collision g t c = λ is.
    let d = g.H.TreeHash.digest in
    let row = c.args.row.now in
    let k = c.split-k.result in
    clash_right d c.args.store.now (joins d (take k row)) (joins d (after d row k)) (joins d row) (row_last d row k)
    (row_parts d row k (omega arith) c.split-k.ensures.value)
    c.add_row.new.store c.in_ok-left.ensures.ok
    (let p = err_from_is_err_and c.from_residual-in_err-right.result c.from_residual-in_err-right.ensures.1 in
    c.in_err-right.ensures.collision (cc (p.1, p.2, is)))

pub returns-clause-hash : goal.returns-clause-hash
returns-clause-hash g t c =
    let d = g.H.TreeHash.digest in
    let row = c.args.row.now in
    let k = c.split-k.result in
    let both : d (1 ∷ c.in_ok-left.left ++ c.in_ok-right.right) ≡ fold_of d row =
    (λ i. d (1 ∷ c.in_ok-left.ensures.hash i ++ c.in_ok-right.ensures.hash i)) ∙
    fold_of-parts d row k (omega arith) c.split-k.ensures.value in
    subst (λ x. IfOk c.insert.result (λ hash. hash ≡ x)) both c.insert.ensures.digest

pub returns-clause-ok : goal.returns-clause-ok
returns-clause-ok g t c =
    let d = g.H.TreeHash.digest in
    let row = c.args.row.now in
    let k = c.split-k.result in
    let last : 1 ∷ c.in_ok-left.left ++ c.in_ok-right.right ≡ row_last d row k =
    λ i. 1 ∷ c.in_ok-left.ensures.hash i ++ c.in_ok-right.ensures.hash i in
    let all =
    added_last d c.args.store.now (joins d (take k row)) (joins d (after d row k)) (joins d row) (row_last d row k)
    (row_parts d row k
    (omega arith) c.split-k.ensures.value) c.add_row.new.store c.add_row-2.new.store c.in_ok-left.ensures.ok
    c.in_ok-right.ensures.ok in
    subst (λ x. OnOk c.insert.result (c.insert.new.self ≡ x))
    (ap (set.insert c.add_row-2.new.store) last ∙ all) c.insert.ensures.ok

pub returns-clause-collision : goal.returns-clause-collision
returns-clause-collision g t c = λ is.
    let d = g.H.TreeHash.digest in
    let row = c.args.row.now in
    let k = c.split-k.result in
    let last : 1 ∷ c.in_ok-left.left ++ c.in_ok-right.right ≡ row_last d row k =
    λ i. 1 ∷ c.in_ok-left.ensures.hash i ++ c.in_ok-right.ensures.hash i in
    clash_last d c.args.store.now (joins d (take k row)) (joins d (after d row k)) (joins d row) (row_last d row k)
    (row_parts d row k (omega arith) c.split-k.ensures.value)
    c.add_row.new.store c.add_row-2.new.store c.in_ok-left.ensures.ok c.in_ok-right.ensures.ok
    (subst (Clashes d c.add_row-2.new.store) last (c.insert.ensures.collision.0 is))

pub returns-then-row-eq1-clause-gained : goal.returns-then-row-eq1-clause-gained
returns-then-row-eq1-clause-gained g t c = gained_none c.args.store.now (joins g.H.TreeHash.digest c.args.row.now)

pub returns-in_err-left-clause-gained : goal.returns-in_err-left-clause-gained
returns-in_err-left-clause-gained g t c =
    let d = g.H.TreeHash.digest in
    let row = c.args.row.now in
    let k = c.split-k.result in
    gained_left (joins d (take k row)) (joins d (after d row k)) (joins d row) (row_last d row k)
    (row_parts d row k (omega arith) c.split-k.ensures.value)
    c.args.store.now c.add_row.new.store c.add_row.ensures.gained

pub returns-in_err-right-clause-gained : goal.returns-in_err-right-clause-gained
returns-in_err-right-clause-gained g t c =
    let d = g.H.TreeHash.digest in
    let row = c.args.row.now in
    let k = c.split-k.result in
    gained_right (joins d (take k row)) (joins d (after d row k)) (joins d row) (row_last d row k)
    (row_parts d row k (omega arith) c.split-k.ensures.value)
    c.args.store.now c.add_row.new.store c.add_row-2.new.store c.add_row.ensures.gained c.add_row-2.ensures.gained

pub returns-clause-gained : goal.returns-clause-gained
returns-clause-gained g t c =
    let d = g.H.TreeHash.digest in
    let row = c.args.row.now in
    let k = c.split-k.result in
    let last : 1 ∷ c.in_ok-left.left ++ c.in_ok-right.right ≡ row_last d row k =
    λ i. 1 ∷ c.in_ok-left.ensures.hash i ++ c.in_ok-right.ensures.hash i in
    gained_last (joins d (take k row)) (joins d (after d row k)) (joins d row) (row_last d row k)
    (row_parts d row k (omega arith) c.split-k.ensures.value)
    c.insert.result c.args.store.now c.add_row.new.store c.add_row-2.new.store c.insert.new.self _ last
    c.add_row.ensures.gained c.add_row-2.ensures.gained c.insert.ensures.ok c.insert.ensures.err
