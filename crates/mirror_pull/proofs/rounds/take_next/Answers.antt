use Rattle.std.proofs.Common.{List, Option, subst}
use Rattle.tlog_tiles.specs.declared.paths.Path.{Path}
use Rattle.mirror_pull.specs.Replying.{PathFollows}
use Rattle.mirror_pull.proofs.Hints.{path_before, honestly_before}
use Rattle.mirror_pull.proofs.rounds.take_next.Goals as goal

pub returns-clause-replied : goal.returns-clause-replied
returns-clause-replied g c =
    let may = g.S.Source.may_answer in
    let asked = g.S.Source.asked in
    path_before (may c.args.source.now) (may c.expect.new.self) c.expect.ensures.later (asked c.args.source.now)
    (asked c.take_path.new.source) c.args.asked.now.items c.take_path.new.asked.items g.H.TreeHash.digest
    c.args.mirror.now.view c.args.path c.take_path.new.mirror.view c.take_path.result
    (subst (λ (recorded : Option (List Path)). PathFollows (may c.expect.new.self) recorded (asked c.take_path.new.source)
    c.args.asked.now.items c.take_path.new.asked.items g.H.TreeHash.digest c.args.mirror.now.view c.args.path
    c.take_path.new.mirror.view c.take_path.result) c.expect.ensures.recorded c.take_path.ensures.replied)

pub returns-clause-honest : goal.returns-clause-honest
returns-clause-honest g c =
    let may = g.S.Source.may_answer in
    honestly_before (may c.args.source.now) (may c.expect.new.self) c.expect.ensures.later c.args.asked.now.items
    c.take_path.new.asked.items g.H.TreeHash.digest c.args.mirror.now.view c.args.path c.take_path.new.mirror.view
    c.take_path.result c.take_path.ensures.honest
