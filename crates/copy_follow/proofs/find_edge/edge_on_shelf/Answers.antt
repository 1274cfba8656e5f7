use Rattle.std.proofs.Common.{sym, ◌∙◌}
use Rattle.std.proofs.lemmas.Bool.{false≢true}
use Rattle.copy_follow.specs.Damaged.{HasOtherRoot, HasWrongRow}
use Rattle.std.proofs.Common.{refl}
use Rattle.copy_follow.proofs.Exits.{counted_exit, err_exit}
use Rattle.copy_follow.specs.declared.bring_fault.BringFault.TheVariants.{OutOfMemory}
use Rattle.std.proofs.lemmas.Result.{IfOk-from_err}
use Rattle.copy_follow.proofs.find_edge.edge_on_shelf.Goals as goal

pub returns-in_default-clause-none : goal.returns-in_default-clause-none
returns-in_default-clause-none g c =
    let wrong = rw c.in_default.is at c.in_ok-edge.ensures.none in HasWrongRow wrong.0 wrong.1

pub returns-else-branch-clause-none : goal.returns-else-branch-clause-none
returns-else-branch-clause-none g c =
    let read = rw c.in-Some.is at c.in_ok-edge.ensures.edge in
    HasOtherRoot c.in-Some.edge read (λ same. false≢true (sym c.if-branch.false ∙ c.in_ok-leads_to.ensures.1 same))

pub returns-in_err-edge : goal.returns-in_err-edge
returns-in_err-edge g c = record {
  fault = err_exit _ c.from_residual.result c.in_err-edge.field-0.0 c.from_residual.ensures c.in_err-edge.ensures.fault;
  counted = counted_exit c.from_residual.result c.in_err-edge.field-0.0 c.from_residual.ensures (g.D.Shelf.failed c.args.shelf.now)
      (g.D.Shelf.failed c.args.shelf.now) (g.D.Shelf.failed c.rows_on_shelf.new.shelf) refl c.in_err-edge.ensures.counted;
  places = err_exit _ c.from_residual.result c.in_err-edge.field-0.0 c.from_residual.ensures c.in_err-edge.ensures.places;
  same = c.rows_on_shelf.ensures.same;
  still = c.rows_on_shelf.ensures.still;
  read = IfOk-from_err c.from_residual.result _ c.from_residual.ensures.0;
  none = IfOk-from_err c.from_residual.result _ c.from_residual.ensures.0;
  leads = IfOk-from_err c.from_residual.result _ c.from_residual.ensures.0;
}

pub returns-in_err-leads_to : goal.returns-in_err-leads_to
returns-in_err-leads_to g c = record {
  fault = err_exit _ c.from_residual-in_err-leads_to.result OutOfMemory c.from_residual-in_err-leads_to.ensures tt;
  counted = counted_exit c.from_residual-in_err-leads_to.result OutOfMemory c.from_residual-in_err-leads_to.ensures (g.D.Shelf.failed c.args.shelf.now)
      (g.D.Shelf.failed c.rows_on_shelf.new.shelf) (g.D.Shelf.failed c.rows_on_shelf.new.shelf) c.in_ok-edge.ensures.counted refl;
  places = err_exit _ c.from_residual-in_err-leads_to.result OutOfMemory c.from_residual-in_err-leads_to.ensures tt;
  same = c.rows_on_shelf.ensures.same;
  still = c.rows_on_shelf.ensures.still;
  read = IfOk-from_err c.from_residual-in_err-leads_to.result _ c.from_residual-in_err-leads_to.ensures.0;
  none = IfOk-from_err c.from_residual-in_err-leads_to.result _ c.from_residual-in_err-leads_to.ensures.0;
  leads = IfOk-from_err c.from_residual-in_err-leads_to.result _ c.from_residual-in_err-leads_to.ensures.0;
}
