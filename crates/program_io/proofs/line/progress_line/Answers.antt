use Rattle.std.proofs.Common.{rules}
use Rattle.program_io.specs.ProgressText.{progress_text}
use Rattle.program_io.proofs.Printed.{line_is, printed_progress}
use Rattle.program_io.proofs.line.progress_line.Goals as goal

pub returns-clause-line : goal.returns-clause-line
returns-clause-line c =
    line_is (progress_text c.args.task c.args.all c.args.counts) c.end_line.new.text.items
    (printed_progress c.args.task c.args.all c.args.counts) (search rules)
