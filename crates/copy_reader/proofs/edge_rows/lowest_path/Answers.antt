use Rattle.std.proofs.Common.{◌≡◌, ◌<◌, ap, sym, ◌∙◌, arith}
use Rattle.tlog_shape.specs.Edge.{width_of}
use Rattle.copy_reader.specs.Order.{edge_file, edge_order, first_path}
use Rattle.copy_reader.proofs.Orders.{each_none, lowest_is, still_none}
use Rattle.copy_reader.proofs.edge_rows.lowest_path.Goals as goal

pub loop-level-init : goal.loop-level-init
loop-level-init c = each_none (edge_file c.args.size) 0

pub loop-level-preserved : goal.loop-level-preserved
loop-level-preserved c =
    let none : width_of c.args.size c.loop-level.level ≡ 0 =
    omega (arith, c.edge_width.ensures, c.if-edge_width-gt0.false) in
    still_none c.args.size c.loop-level.level c.loop-level.invariant none

pub returns-then-edge_width-gt0 : goal.returns-then-edge_width-gt0
returns-then-edge_width-gt0 c =
    let some : 0 < width_of c.args.size c.loop-level.level =
    omega (arith, c.edge_width.ensures, c.if-edge_width-gt0.true) in
    c.edge_path.ensures ∙ sym (lowest_is c.args.size c.loop-level.level c.loop-level-test.true c.loop-level.invariant some)

pub returns : goal.returns
returns c =
    let all : 8 ≡ c.loop-level.level = omega arith in
    sym (ap (λ k. first_path (edge_order c.args.size k)) all ∙ ap first_path c.loop-level.invariant)
