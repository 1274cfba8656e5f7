use Rattle.std.proofs.Common.{ap, ◌∙◌}
use Rattle.program_io.specs.ProgressText.{with_file}
use Rattle.program_io.proofs.source.count_found.Goals as goal

pub returns-in-Some : goal.returns-in-Some
returns-in-Some g c =
    rw c.in-Some.is (c.count.ensures.counted ∙ (ap (λ counts. with_file counts c.len.result) c.expect_log.ensures.counts
    ∙ ap (with_file c.args.progress.now.counts) c.len.ensures))
