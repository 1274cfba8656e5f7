use Rattle.std.proofs.Common.{[], ◌∷◌, ◌++◌, subst, ◌∙◌}
use Rattle.std.specs.Prelude.{OnErr, OnOk}
use Rattle.byte_streams.specs.Streams.{AppendsPrefix}
use Rattle.tlog_tiles.specs.Path.{index_text}
use Rattle.tlog_mirror.specs.Pieces.{Sends}
use Rattle.tlog_mirror.proofs.MissingSteps.{part_line, full_line, never_both}
use Rattle.tlog_mirror.proofs.lines.write_file.Goals as goal

pub returns-then-is_part-clause-ok : goal.returns-then-is_part-clause-ok
returns-then-is_part-clause-ok g c =
    let part = c.is_part.ensures.0 c.if-is_part.true in
    subst (λ t. OnOk c.write_line.result (Sends (g.W.Write.contents c.args.output.now)
    (g.W.Write.contents c.write_line.new.output) c.write_line.new.held.items (c.args.held.now.items ++ t)))
    ((λ i. c.requires.begin i ++ (index_text c.args.number ++ c.requires.part i))
    ∙ part_line c.args.size c.args.level c.args.number part.0 part.1 c.requires.within) c.write_line.ensures.ok

pub returns-then-is_part-clause-err : goal.returns-then-is_part-clause-err
returns-then-is_part-clause-err g c =
    let part = c.is_part.ensures.0 c.if-is_part.true in
    subst (λ t. OnErr c.write_line.result (AppendsPrefix (g.W.Write.contents c.args.output.now)
    (g.W.Write.contents c.write_line.new.output) (c.args.held.now.items ++ t)))
    ((λ i. c.requires.begin i ++ (index_text c.args.number ++ c.requires.part i))
    ∙ part_line c.args.size c.args.level c.args.number part.0 part.1 c.requires.within) c.write_line.ensures.err

pub returns-clause-ok : goal.returns-clause-ok
returns-clause-ok g c =
    subst (λ t. OnOk c.write_line-2.result (Sends (g.W.Write.contents c.args.output.now)
    (g.W.Write.contents c.write_line-2.new.output) c.write_line-2.new.held.items (c.args.held.now.items ++ t)))
    ((λ i. c.requires.begin i ++ (index_text c.args.number ++ 10 ∷ []))
    ∙ full_line c.args.size c.args.level c.args.number
    (λ h. let is_so = c.is_part.ensures.1 h in never_both c.is_part.result is_so c.if-is_part.false)) c.write_line-2.ensures.ok

pub returns-clause-err : goal.returns-clause-err
returns-clause-err g c =
    subst (λ t. OnErr c.write_line-2.result (AppendsPrefix (g.W.Write.contents c.args.output.now)
    (g.W.Write.contents c.write_line-2.new.output) (c.args.held.now.items ++ t)))
    ((λ i. c.requires.begin i ++ (index_text c.args.number ++ 10 ∷ []))
    ∙ full_line c.args.size c.args.level c.args.number
    (λ h. let is_so = c.is_part.ensures.1 h in never_both c.is_part.result is_so c.if-is_part.false)) c.write_line-2.ensures.err
