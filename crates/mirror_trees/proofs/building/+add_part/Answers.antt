use Rattle.std.proofs.Common.{◌≡◌, ◌∷◌, ◌++◌, IfOk, OnOk, sym, ap, ◌∙◌, subst, arith, take}
use Rattle.std.specs.FinSet as set
use Rattle.std.proofs.lemmas.Result.{err_from_is_err_and}
use Rattle.tlog_hash.specs.Tree.{mth, strings}
use Rattle.node_store.specs.Strings.{Clashes}
use Rattle.mirror_model.specs.Strings.{HasClash}
use Rattle.tlog_hash.proofs.Trees.{mth-none, mth-one, strings-none, strings-one}
use Rattle.mirror_trees.proofs.BuiltTrees.{bytes_of, rest_after, entries_parts, entries_last, entries_mth, entries_none}
use Rattle.mirror_trees.proofs.BuiltTrees.{entries_one, added_none, added_one, clash_inserted, added_last, clash_left}
use Rattle.mirror_trees.proofs.BuiltTrees.{clash_right, clash_last}
use Rattle.mirror_trees.proofs.building.+add_part.Goals as goal

pub returns-in-empty-clause-hash : goal.returns-in-empty-clause-hash
returns-in-empty-clause-hash g t c =
    c.empty.ensures ∙
    sym (ap (mth g.H.TreeHash.digest) (entries_none g.H.TreeHash.digest c.args.entries.now c.in-empty.len_below) ∙
    mth-none g.H.TreeHash.digest)

pub returns-in-empty-clause-ok : goal.returns-in-empty-clause-ok
returns-in-empty-clause-ok g t c =
    added_none c.args.store.now
    ∙ ap (λ xs. set.union c.args.store.now (set.from_list xs))
    (sym (ap (strings g.H.TreeHash.digest)
    (entries_none g.H.TreeHash.digest c.args.entries.now c.in-empty.len_below) ∙ strings-none g.H.TreeHash.digest))

pub returns-in-len1-clause-hash : goal.returns-in-len1-clause-hash
returns-in-len1-clause-hash g t c =
    let d = g.H.TreeHash.digest in
    let one = entries_one c.args.entries.now _ c.in-len1.len_at_least c.in-len1.len_below in
    subst (λ x. IfOk c.insert_noted.result (λ hash. hash ≡ x)) (sym (ap (mth d) one ∙ mth-one d _)) c.insert_noted.ensures.digest

pub returns-in-len1-clause-ok : goal.returns-in-len1-clause-ok
returns-in-len1-clause-ok g t c =
    let d = g.H.TreeHash.digest in
    let one = entries_one c.args.entries.now _ c.in-len1.len_at_least c.in-len1.len_below in
    subst (λ x. OnOk c.insert_noted.result (c.insert_noted.new.self ≡ x))
    (added_one c.args.store.now _ ∙
    ap (λ xs. set.union c.args.store.now (set.from_list xs))
    (sym (ap (strings d) one ∙ strings-one d _))) c.insert_noted.ensures.ok

pub returns-in-len1-clause-collision : goal.returns-in-len1-clause-collision
returns-in-len1-clause-collision g t c = λ is.
    let d = g.H.TreeHash.digest in
    let one = entries_one c.args.entries.now _ c.in-len1.len_at_least c.in-len1.len_below in
    subst (HasClash d)
    (added_one c.args.store.now _ ∙
    ap (λ xs. set.union c.args.store.now (set.from_list xs)) (sym (ap (strings d) one ∙ strings-one d _)))
    (clash_inserted d c.args.store.now _ (c.insert_noted.ensures.collision.0 is))

pub returns-in_err-left-in_default-clause-collision : goal.returns-in_err-left-in_default-clause-collision
returns-in_err-left-in_default-clause-collision g t c = λ is.
    let d = g.H.TreeHash.digest in
    let es = c.args.entries.now in
    let k = c.split-k.result in
    clash_left d c.args.store.now (strings d (bytes_of (take k es))) (strings d (bytes_of (rest_after d es k)))
    (strings d (bytes_of es)) (entries_last d es k) (entries_parts d es k (omega arith) c.split-k.ensures.value)
    (let p = err_from_is_err_and c.from_residual.result c.from_residual.ensures.1 in
    c.in_err-left-in_default.ensures.collision (cc (p.1, p.2, is)))

pub returns-in_err-right-in_default-clause-collision : goal.returns-in_err-right-in_default-clause-collision
returns-in_err-right-in_default-clause-collision g t c = λ is.
    let d = g.H.TreeHash.digest in
    let es = c.args.entries.now in
    let k = c.split-k.result in
    clash_right d c.args.store.now (strings d (bytes_of (take k es))) (strings d (bytes_of (rest_after d es k)))
    (strings d (bytes_of es)) (entries_last d es k) (entries_parts d es k (omega arith) c.split-k.ensures.value)
    c.add_part.new.store c.in_ok-left-in_default.ensures.ok
    (let p = err_from_is_err_and
    c.from_residual-in_err-right-in_default.result c.from_residual-in_err-right-in_default.ensures.1 in
    c.in_err-right-in_default.ensures.collision (cc (p.1, p.2, is)))

pub returns-in_ok-right-in_default-clause-hash : goal.returns-in_ok-right-in_default-clause-hash
returns-in_ok-right-in_default-clause-hash g t c =
    let d = g.H.TreeHash.digest in
    let es = c.args.entries.now in
    let k = c.split-k.result in
    let both : d (1 ∷ c.in_ok-left-in_default.left ++ c.in_ok-right-in_default.right) ≡ mth d (bytes_of es) =
    (λ i. d (1 ∷ c.in_ok-left-in_default.ensures.hash i ++ c.in_ok-right-in_default.ensures.hash i)) ∙
    entries_mth d es k (omega arith) c.split-k.ensures.value in
    subst (λ x. IfOk c.insert_noted-in_default.result (λ hash. hash ≡ x)) both c.insert_noted-in_default.ensures.digest

pub returns-in_ok-right-in_default-clause-ok : goal.returns-in_ok-right-in_default-clause-ok
returns-in_ok-right-in_default-clause-ok g t c =
    let d = g.H.TreeHash.digest in
    let es = c.args.entries.now in
    let k = c.split-k.result in
    let last : 1 ∷ c.in_ok-left-in_default.left ++ c.in_ok-right-in_default.right ≡ entries_last d es k =
    λ i. 1 ∷ c.in_ok-left-in_default.ensures.hash i ++ c.in_ok-right-in_default.ensures.hash i in
    let all =
    added_last d c.args.store.now (strings d (bytes_of (take k es))) (strings d (bytes_of (rest_after d es k)))
    (strings d (bytes_of es)) (entries_last d es k)
    (entries_parts d es k
    (omega arith) c.split-k.ensures.value) c.add_part.new.store c.add_part-in_default.new.store
    c.in_ok-left-in_default.ensures.ok c.in_ok-right-in_default.ensures.ok in
    subst (λ x. OnOk c.insert_noted-in_default.result (c.insert_noted-in_default.new.self ≡ x))
    (ap (set.insert c.add_part-in_default.new.store) last ∙ all) c.insert_noted-in_default.ensures.ok

pub returns-in_ok-right-in_default-clause-collision : goal.returns-in_ok-right-in_default-clause-collision
returns-in_ok-right-in_default-clause-collision g t c = λ is.
    let d = g.H.TreeHash.digest in
    let es = c.args.entries.now in
    let k = c.split-k.result in
    let last : 1 ∷ c.in_ok-left-in_default.left ++ c.in_ok-right-in_default.right ≡ entries_last d es k =
    λ i. 1 ∷ c.in_ok-left-in_default.ensures.hash i ++ c.in_ok-right-in_default.ensures.hash i in
    clash_last d c.args.store.now (strings d (bytes_of (take k es))) (strings d (bytes_of (rest_after d es k)))
    (strings d (bytes_of es)) (entries_last d es k) (entries_parts d es k (omega arith) c.split-k.ensures.value)
    c.add_part.new.store c.add_part-in_default.new.store c.in_ok-left-in_default.ensures.ok
    c.in_ok-right-in_default.ensures.ok
    (subst (Clashes d c.add_part-in_default.new.store) last (c.insert_noted-in_default.ensures.collision.0 is))

pub returns-in_ok-right-in_default-clause-noted : goal.returns-in_ok-right-in_default-clause-noted
returns-in_ok-right-in_default-clause-noted g t c = λ before p.
    c.insert_noted-in_default.ensures.noted before
    (c.add_part-in_default.ensures.noted before (c.add_part.ensures.noted before p))
