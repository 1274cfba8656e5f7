use Rattle.std.proofs.lemmas.Result.{err_from_is_err_and}
use Rattle.mirror_files.proofs.ListedItems.{store_made, store_refused}
use Rattle.mirror_trees.proofs.EmptySets.{empty_no_clash}
use Rattle.mirror_files.proofs.storing.store_of.Goals as goal

pub add_lists-requires-clause-no_clash : goal.add_lists-requires-clause-no_clash
add_lists-requires-clause-no_clash g c = empty_no_clash g.H.TreeHash.digest c.in-Ok.store c.in-Ok.ensures

pub returns-in_err-add_lists : goal.returns-in_err-add_lists
returns-in_err-add_lists g c =
    let p = err_from_is_err_and c.from_residual.result c.from_residual.ensures.1 in
    rw (p.1, p.2) (store_refused g.H.TreeHash.digest _ c.in-Ok.store c.in-Ok.ensures c.in_err-add_lists.field-0.0
    c.add_lists.new.store c.in_err-add_lists.ensures)

pub returns : goal.returns
returns g c =
    store_made g.H.TreeHash.digest _ c.in-Ok.store c.in-Ok.ensures c.add_lists.new.store c.in_ok-add_lists.ensures
