use Rattle.std.proofs.Common.{Ok, Err, option_map, refl, subst}
use Rattle.program_copies.specs.Repairing.{PrintsRepair}
use Rattle.program_copies.proofs.Repaired.{ends_printed, printed_done, unprinted_done}
use Rattle.program_copies.proofs.repair.repair_and_follow.Goals as goal

pub returns-in-Err : goal.returns-in-Err
returns-in-Err g c =
    ends_printed g.H.TreeHash.digest g.S.Source.may_answer g.S.Source.failed g.S.Source.asked _ _ c.args.places.now
    c.repair_reporting-answer.new.places _ _ (g.D.Shelf.puts c.args.folders.now) (g.D.Shelf.puts c.args.folders.now)
    (g.D.Shelf.puts c.repair_reporting-answer.new.folders) (g.D.Shelf.failed c.args.folders.now) (g.D.Shelf.failed c.repair_reporting-answer.new.folders)
    _ _ _ _ c.args.repaired.now c.repair_reporting-answer.new.repaired
    (option_map (λ v. v.items) c.args.given) c.requires c.repair_reporting-answer.result c.repair_reporting-answer.ensures refl
    c.in-Err.fault (subst (λ n. PrintsRepair n (g.W.Write.contents c.args.output.now) (g.W.Write.contents c.print_repair.new.output)
    c.repair_reporting-answer.result (Err c.in-Err.fault)) c.put.ensures c.in-Err.ensures)

pub returns-in-Ok-follow_open : goal.returns-in-Ok-follow_open
returns-in-Ok-follow_open g c =
    printed_done g.H.TreeHash.digest g.S.Source.may_answer g.S.Source.failed g.S.Source.asked _ _ c.args.places.now
    c.follow_open.new.places _ _ (g.D.Shelf.puts c.args.folders.now) (g.D.Shelf.puts c.args.folders.now)
    (g.D.Shelf.puts c.follow_open.new.folders) (g.D.Shelf.failed c.args.folders.now) (g.D.Shelf.failed c.follow_open.new.folders)
    _ _ _ _ c.args.repaired.now c.repair_reporting-answer.new.repaired c.repair_reporting-answer.new.places
    (g.D.Shelf.puts c.repair_reporting-answer.new.folders) (g.D.Shelf.failed c.repair_reporting-answer.new.folders)
    c.repair_reporting-answer.result c.repair_reporting-answer.ensures
    (g.W.Write.contents c.print_repair.new.output) c.in-Ok.printed c.if-printed.true (subst (λ n. PrintsRepair n (g.W.Write.contents c.args.output.now) (g.W.Write.contents c.print_repair.new.output)
    c.repair_reporting-answer.result (Ok c.in-Ok.printed)) c.put.ensures c.in-Ok.ensures)
    (Ok c.in-Ok-follow_open.status)
    (rw c.in-Ok-follow_open.is at (c.follow_open.ensures.runs (g.D.Shelf.puts c.repair_reporting-answer.new.folders)))

pub returns-in-Err-follow_open : goal.returns-in-Err-follow_open
returns-in-Err-follow_open g c =
    printed_done g.H.TreeHash.digest g.S.Source.may_answer g.S.Source.failed g.S.Source.asked _ _ c.args.places.now
    c.follow_open.new.places _ _ (g.D.Shelf.puts c.args.folders.now) (g.D.Shelf.puts c.args.folders.now)
    (g.D.Shelf.puts c.follow_open.new.folders) (g.D.Shelf.failed c.args.folders.now) (g.D.Shelf.failed c.follow_open.new.folders)
    _ _ _ _ c.args.repaired.now c.repair_reporting-answer.new.repaired c.repair_reporting-answer.new.places
    (g.D.Shelf.puts c.repair_reporting-answer.new.folders) (g.D.Shelf.failed c.repair_reporting-answer.new.folders)
    c.repair_reporting-answer.result c.repair_reporting-answer.ensures
    (g.W.Write.contents c.print_repair.new.output) c.in-Ok.printed c.if-printed.true (subst (λ n. PrintsRepair n (g.W.Write.contents c.args.output.now) (g.W.Write.contents c.print_repair.new.output)
    c.repair_reporting-answer.result (Ok c.in-Ok.printed)) c.put.ensures c.in-Ok.ensures)
    (Err c.in-Err-follow_open.fault)
    (rw c.in-Err-follow_open.is at (c.follow_open.ensures.runs (g.D.Shelf.puts c.repair_reporting-answer.new.folders)))

pub returns-else-printed : goal.returns-else-printed
returns-else-printed g c =
    unprinted_done g.H.TreeHash.digest g.S.Source.may_answer g.S.Source.failed g.S.Source.asked _ _ c.args.places.now
    c.follow_unprinted-fault.new.places _ _ (g.D.Shelf.puts c.args.folders.now) (g.D.Shelf.puts c.args.folders.now)
    (g.D.Shelf.puts c.follow_unprinted-fault.new.folders) (g.D.Shelf.failed c.args.folders.now) (g.D.Shelf.failed c.follow_unprinted-fault.new.folders)
    _ _ _ _ c.args.repaired.now c.repair_reporting-answer.new.repaired c.repair_reporting-answer.new.places
    (g.D.Shelf.puts c.repair_reporting-answer.new.folders) (g.D.Shelf.failed c.repair_reporting-answer.new.folders)
    c.repair_reporting-answer.result c.repair_reporting-answer.ensures
    c.in-Ok.printed c.if-printed.false (subst (λ n. PrintsRepair n (g.W.Write.contents c.args.output.now) (g.W.Write.contents c.print_repair.new.output)
    c.repair_reporting-answer.result (Ok c.in-Ok.printed)) c.put.ensures c.in-Ok.ensures) c.follow_unprinted-fault.result
    c.follow_unprinted-fault.ensures
