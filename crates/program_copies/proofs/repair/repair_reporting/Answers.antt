use Rattle.program_copies.proofs.Repaired.{repairs_between}
use Rattle.program_copies.proofs.repair.repair_reporting.Goals as goal

pub returns : goal.returns
returns g c =
    repairs_between g.H.TreeHash.digest g.S.Source.may_answer g.S.Source.failed g.S.Source.asked _ _ c.args.places.now
    c.repair_open-answer.new.places (g.D.Shelf.puts c.args.folders.now) (g.D.Shelf.puts c.report_puts.new.folders)
    (g.D.Shelf.puts c.repair_open-answer.new.folders) (g.D.Shelf.puts c.report_end.new.folders)
    (g.D.Shelf.failed c.args.folders.now) (g.D.Shelf.failed c.report_puts.new.folders)
    (g.D.Shelf.failed c.repair_open-answer.new.folders) (g.D.Shelf.failed c.report_end.new.folders)
    c.args.repaired.now c.repair_open-answer.new.repaired c.repair_open-answer.result c.report_puts.ensures.puts
    c.report_end.ensures.puts c.report_puts.ensures.failed c.report_end.ensures.failed c.repair_open-answer.ensures
