use Rattle.std.proofs.Common.{rules}
use Rattle.program_io.specs.ProgressText.{grown_text}
use Rattle.program_io.specs.declared.task.Task.TheVariants.{Follow}
use Rattle.program_io.proofs.Printed.{line_is, printed_grown}
use Rattle.program_io.proofs.line.followed_line.Goals as goal

pub returns-clause-line : goal.returns-clause-line
returns-clause-line c =
    line_is (grown_text Follow c.args.old c.args.size c.args.counts) c.end_line.new.text.items
    (printed_grown Follow c.args.old c.args.size c.args.counts) (search rules)
