use Rattle.std.proofs.Common.{sym, ◌∙◌}
use Rattle.std.proofs.lemmas.Bool.{false≢true}
use Rattle.std.proofs.lemmas.Result.{err_from_is_err_and}
use Rattle.mirror_files.proofs.Updated.{found, no_point, other_root, too_large}
use Rattle.mirror_files.proofs.beginning.size_before.Goals as goal

pub returns-in_err-size : goal.returns-in_err-size
returns-in_err-size g c =
    let p = err_from_is_err_and c.from_residual.result c.from_residual.ensures.1 in
    rw (p.1, p.2) (no_point g.H.TreeHash.digest c.args.top.now c.args.origin.now c.args.checkpoint.now c.in_err-size.field-0.0
    c.in_err-size.ensures)

pub returns-then-is_same : goal.returns-then-is_same
returns-then-is_same g c =
    found g.H.TreeHash.digest c.args.top.now c.args.origin.now c.args.checkpoint.now c.in_ok-size.size c.in_ok-size.root
    c.in_ok-size.ensures c.in-Some.hash c.in-Some.ensures.some (c.is_same.ensures.0 c.if-is_same.true)

pub returns-else-is_same : goal.returns-else-is_same
returns-else-is_same g c =
    other_root g.H.TreeHash.digest c.args.top.now c.args.origin.now c.args.checkpoint.now c.in_ok-size.size c.in_ok-size.root
    c.in_ok-size.ensures c.in-Some.hash c.in-Some.ensures.some
    (λ same. false≢true (sym c.if-is_same.false ∙ c.is_same.ensures.1 same))

pub returns-in-None : goal.returns-in-None
returns-in-None g c =
    too_large g.H.TreeHash.digest c.args.top.now c.args.origin.now c.args.checkpoint.now c.in_ok-size.size c.in_ok-size.root
    c.in_ok-size.ensures c.in-None.ensures.none
