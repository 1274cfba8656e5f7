use Rattle.std.proofs.Common.{refl, ℕ, List, [], get_or, sym, subst, ◌∙◌, arith}
use Rattle.copy_follow.specs.Found.{IsRowRead}
use Rattle.copy_follow.proofs.Earlier.{kept_then}
use Rattle.log_reader.proofs.RowLists.{count_more, rows_more}
use Rattle.copy_follow.proofs.ShelfReads.{row_before}
use Rattle.copy_follow.proofs.Exits.{counted_exit, err_exit}
use Rattle.copy_follow.specs.declared.bring_fault.BringFault.TheVariants.{OutOfMemory}
use Rattle.std.proofs.lemmas.Result.{IfOk-from_err}
use Rattle.copy_follow.proofs.find_edge.rows_on_shelf.Goals as goal

pub loop-level-preserved : goal.loop-level-preserved
loop-level-preserved g c =
    let x = g.D.Shelf.puts c.args.shelf.now in
    let y = g.D.Shelf.puts c.loop-level.shelf in
    let z = g.D.Shelf.puts c.row_on_shelf.new.shelf in
    let level = c.loop-level.level in
    let before = c.loop-level.rows.items in
    let is = c.in_ok-push-in-Some.ensures.items in
    record {
      counted = c.in_ok-row.ensures.counted ∙ c.loop-level.invariant.counted;
      same = kept_then x y z c.loop-level.invariant.same c.row_on_shelf.ensures.same;
      still = c.row_on_shelf.ensures.still ∙ c.loop-level.invariant.still;
      count = count_more before c.push.new.self.items c.in-Some.row level is c.loop-level.invariant.count;
      rows = rows_more (λ k row. IsRowRead x c.args.size k row) before c.push.new.self.items c.in-Some.row level is
          c.loop-level.invariant.count c.loop-level.invariant.rows
          (row_before x y c.args.size level c.in-Some.row.items c.loop-level.invariant.same
          (rw c.in-Some.is at c.in_ok-row.ensures.row));
    }

pub returns-clause-edge : goal.returns-clause-edge
returns-clause-edge g c = record {
  size_is = c.new.ensures.size;
  rows_are = λ level upto.
      subst (λ (rs : List (List (List ℕ))). IsRowRead (g.D.Shelf.puts c.args.shelf.now) c.args.size level (get_or rs level []))
      (sym c.new.ensures.rows) (c.loop-level.invariant.rows level (omega arith));
}

pub returns-in_err-row : goal.returns-in_err-row
returns-in_err-row g c = record {
  fault = err_exit _ c.from_residual.result c.in_err-row.field-0.0 c.from_residual.ensures c.in_err-row.ensures.fault;
  counted = counted_exit c.from_residual.result c.in_err-row.field-0.0 c.from_residual.ensures (g.D.Shelf.failed c.args.shelf.now)
      (g.D.Shelf.failed c.loop-level.shelf) (g.D.Shelf.failed c.row_on_shelf.new.shelf) c.loop-level.invariant.counted c.in_err-row.ensures.counted;
  places = err_exit _ c.from_residual.result c.in_err-row.field-0.0 c.from_residual.ensures c.in_err-row.ensures.places;
  same = kept_then (g.D.Shelf.puts c.args.shelf.now) (g.D.Shelf.puts c.loop-level.shelf) (g.D.Shelf.puts c.row_on_shelf.new.shelf)
      c.loop-level.invariant.same c.row_on_shelf.ensures.same;
  still = c.row_on_shelf.ensures.still ∙ c.loop-level.invariant.still;
  edge = IfOk-from_err c.from_residual.result _ c.from_residual.ensures.0;
  none = IfOk-from_err c.from_residual.result _ c.from_residual.ensures.0;
}

pub returns-in_err-push-in-Some : goal.returns-in_err-push-in-Some
returns-in_err-push-in-Some g c = record {
  fault = err_exit _ c.from_residual-in_err-push-in-Some.result OutOfMemory c.from_residual-in_err-push-in-Some.ensures tt;
  counted = counted_exit c.from_residual-in_err-push-in-Some.result OutOfMemory c.from_residual-in_err-push-in-Some.ensures (g.D.Shelf.failed c.args.shelf.now)
      (g.D.Shelf.failed c.row_on_shelf.new.shelf) (g.D.Shelf.failed c.row_on_shelf.new.shelf) (c.in_ok-row.ensures.counted ∙ c.loop-level.invariant.counted) refl;
  places = err_exit _ c.from_residual-in_err-push-in-Some.result OutOfMemory c.from_residual-in_err-push-in-Some.ensures tt;
  same = kept_then (g.D.Shelf.puts c.args.shelf.now) (g.D.Shelf.puts c.loop-level.shelf) (g.D.Shelf.puts c.row_on_shelf.new.shelf)
      c.loop-level.invariant.same c.row_on_shelf.ensures.same;
  still = c.row_on_shelf.ensures.still ∙ c.loop-level.invariant.still;
  edge = IfOk-from_err c.from_residual-in_err-push-in-Some.result _ c.from_residual-in_err-push-in-Some.ensures.0;
  none = IfOk-from_err c.from_residual-in_err-push-in-Some.result _ c.from_residual-in_err-push-in-Some.ensures.0;
}
