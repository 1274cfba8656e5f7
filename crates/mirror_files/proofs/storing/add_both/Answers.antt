use Rattle.std.proofs.lemmas.Result.{err_from_is_err_and}
use Rattle.mirror_files.proofs.ListedItems.{first_refused, both_added}
use Rattle.mirror_files.proofs.storing.add_both.Goals as goal

pub returns-in_err-add_listed : goal.returns-in_err-add_listed
returns-in_err-add_listed g c =
    let p = err_from_is_err_and c.from_residual.result c.from_residual.ensures.1 in
    rw (p.1, p.2) (first_refused g.H.TreeHash.digest c.args.store.now _ _ c.in_err-add_listed.field-0.0 c.add_listed.new.store _ c.in_err-add_listed.ensures)

pub returns : goal.returns
returns g c =
    both_added g.H.TreeHash.digest c.args.store.now _ _ c.add_listed.new.store c.add_listed-2.new.store
    c.add_listed-2.result c.in_ok-add_listed.ensures.0 c.add_listed-2.ensures
