use Rattle.std.proofs.Common.{◌∙◌}
use Rattle.mirror_files.proofs.page.finish.Goals as goal
use Rattle.mirror_files.proofs.Putting.{ends}

pub returns : goal.returns
returns g c =
    ends (g.W.Write.contents c.args.writer.now) (g.W.Write.contents c.write_through.new.writer) c.args.page.now
    c.write_through.new.held.items c.as_slice.result.now c.write_through.result c.write_through.ensures.writes
    c.write_through.ensures.empty (λ text h. c.as_slice.ensures ∙ c.finalize_reset-digest.ensures.digest text h)
