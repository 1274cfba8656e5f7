use Rattle.std.proofs.Common.{◌≡◌, ◌<◌, ◌^◌, ℕ, List, All, map, length, ap, sym, ◌∙◌, subst}
use Rattle.std.proofs.lemmas.Result.{IfOk-from_err}
use Rattle.tlog_hash.specs.Tree.{mth}
use Rattle.tlog_tiles.specs.Layout.{full_row, AreFullRows}
use Rattle.mirror_model.specs.Complete.{IsTreeOf}
use Rattle.mirror_trees.proofs.LeafRows.{at_some}
use Rattle.mirror_trees.proofs.FileSteps.{at_some_and, at_none, all_of_map, short_entries, all_leaves, no_leaves}
use Rattle.mirror_trees.proofs.files.files_of.Goals as goal

pub returns-in_default-3 : goal.returns-in_default-3
returns-in_default-3 g c =
    let digest = g.H.TreeHash.digest in
    let es = c.requires.held.entries in
    let tree = c.requires.held.is in
    let leaves : c.in-Some.leaves.items ≡ full_row digest es 0 =
    at_some_and c.in_ok-leaves.field-0 c.in-Some.leaves _ c.in-Some.is (c.in_ok-leaves.ensures es tree) in
    no_leaves digest c.args.store.now c.args.size c.args.root.now es tree c.as_slice-2.result.now
    (c.as_slice-2.ensures.value ∙ leaves)
    (at_none c.in_ok-entries.field-0 _ c.in_default-3.is c.in_ok-entries.ensures.none)

pub from_rows-requires-clause-short : goal.from_rows-requires-clause-short
from_rows-requires-clause-short g c =
    let digest = g.H.TreeHash.digest in
    let es = c.requires.held.entries in
    let tree = c.requires.held.is in
    let leaves : c.in-Some.leaves.items ≡ full_row digest es 0 =
    at_some_and c.in_ok-leaves.field-0 c.in-Some.leaves _ c.in-Some.is (c.in_ok-leaves.ensures es tree) in
    let lent : map (λ e. e.now) c.in-Some-3.entries.items ≡ es =
    all_leaves digest c.args.store.now c.args.size c.args.root.now es tree c.requires.clean c.as_slice-2.result.now _
    (c.as_slice-2.ensures.value ∙ leaves)
    (at_some c.in_ok-entries.field-0 c.in-Some-3.entries _ c.in-Some-3.is c.in_ok-entries.ensures.some) in
    all_of_map (λ (e : List ℕ). length e < 2 ^ 16) (λ e. e.now) c.as_slice-3.result.now
    (subst (All (λ (e : List ℕ). length e < 2 ^ 16)) (sym (ap (map (λ e. e.now)) c.as_slice-3.ensures.value ∙ lent))
    (short_entries digest c.args.store.now c.args.size c.args.root.now es tree c.requires.short))

pub from_rows-requires-clause-root : goal.from_rows-requires-clause-root
from_rows-requires-clause-root g c =
    let digest = g.H.TreeHash.digest in
    let es = c.requires.held.entries in
    let tree = c.requires.held.is in
    let leaves : c.in-Some.leaves.items ≡ full_row digest es 0 =
    at_some_and c.in_ok-leaves.field-0 c.in-Some.leaves _ c.in-Some.is (c.in_ok-leaves.ensures es tree) in
    let lent : map (λ e. e.now) c.in-Some-3.entries.items ≡ es =
    all_leaves digest c.args.store.now c.args.size c.args.root.now es tree c.requires.clean c.as_slice-2.result.now _
    (c.as_slice-2.ensures.value ∙ leaves)
    (at_some c.in_ok-entries.field-0 c.in-Some-3.entries _ c.in-Some-3.is c.in_ok-entries.ensures.some) in
    sym (ap (mth digest) (ap (map (λ e. e.now)) c.as_slice-3.ensures.value ∙ lent) ∙ tree.root_is)

pub from_rows-requires-clause-rows : goal.from_rows-requires-clause-rows
from_rows-requires-clause-rows g c =
    let digest = g.H.TreeHash.digest in
    let es = c.requires.held.entries in
    let tree = c.requires.held.is in
    let leaves : c.in-Some.leaves.items ≡ full_row digest es 0 =
    at_some_and c.in_ok-leaves.field-0 c.in-Some.leaves _ c.in-Some.is (c.in_ok-leaves.ensures es tree) in
    let lent : map (λ e. e.now) c.in-Some-3.entries.items ≡ es =
    all_leaves digest c.args.store.now c.args.size c.args.root.now es tree c.requires.clean c.as_slice-2.result.now _
    (c.as_slice-2.ensures.value ∙ leaves)
    (at_some c.in_ok-entries.field-0 c.in-Some-3.entries _ c.in-Some-3.is c.in_ok-entries.ensures.some) in
    let rows : AreFullRows digest es 8 (map (λ row. row.items) c.in-Some-2.rows.items) =
    at_some_and c.in_ok-rows.field-0 c.in-Some-2.rows _ c.in-Some-2.is
    (c.in_ok-rows.ensures es tree (c.as_slice.ensures.value ∙ leaves)) in
    subst (λ xs. AreFullRows digest xs 8 (map (λ row. row.items) c.in-Some-2.rows.items))
    (sym (ap (map (λ e. e.now)) c.as_slice-3.ensures.value ∙ lent)) rows

pub returns : goal.returns
returns g c =
    let digest = g.H.TreeHash.digest in
    let es = c.requires.held.entries in
    let tree = c.requires.held.is in
    let leaves : c.in-Some.leaves.items ≡ full_row digest es 0 =
    at_some_and c.in_ok-leaves.field-0 c.in-Some.leaves _ c.in-Some.is (c.in_ok-leaves.ensures es tree) in
    let lent : map (λ e. e.now) c.in-Some-3.entries.items ≡ es =
    all_leaves digest c.args.store.now c.args.size c.args.root.now es tree c.requires.clean c.as_slice-2.result.now _
    (c.as_slice-2.ensures.value ∙ leaves)
    (at_some c.in_ok-entries.field-0 c.in-Some-3.entries _ c.in-Some-3.is c.in_ok-entries.ensures.some) in
    subst (IsTreeOf digest c.args.store.now c.args.size c.args.root.now)
    (sym (c.in_ok-from_rows.ensures ∙ ap (map (λ e. e.now)) c.as_slice-3.ensures.value ∙ lent)) tree

pub returns-in_err-leaves : goal.returns-in_err-leaves
returns-in_err-leaves g c = IfOk-from_err _ _ c.from_residual.ensures.0

pub returns-in_err-rows : goal.returns-in_err-rows
returns-in_err-rows g c = IfOk-from_err _ _ c.from_residual-in_err-rows.ensures.0

pub returns-in_err-entries : goal.returns-in_err-entries
returns-in_err-entries g c = IfOk-from_err _ _ c.from_residual-in_err-entries.ensures.0

pub returns-in_err-from_rows : goal.returns-in_err-from_rows
returns-in_err-from_rows g c = IfOk-from_err _ _ c.from_residual-in_err-from_rows.ensures.0
