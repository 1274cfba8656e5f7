use Rattle.std.proofs.Common.{length, ap, ◌∙◌, arith}
use Rattle.tlog_tiles.proofs.PieceLemmas.{length-ends_of}
use Rattle.tlog_tiles.proofs.log_files.LogFiles.size.Goals as goal

pub returns : goal.returns
returns g c =
    let len = ap length c.self.invariant.ends_are ∙ length-ends_of 0 _ in
    let view = ap length c.self.view_is in
    omega (arith, c.len.ensures, c.self.inside.ends.ok, len, view)
