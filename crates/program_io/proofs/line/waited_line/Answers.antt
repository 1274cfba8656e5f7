use Rattle.std.proofs.Common.{rules}
use Rattle.program_io.specs.ProgressText.{waited_text}
use Rattle.program_io.proofs.Printed.{line_is, printed_waited}
use Rattle.program_io.proofs.line.waited_line.Goals as goal

pub returns-clause-line : goal.returns-clause-line
returns-clause-line c = λ printed.
    line_is (waited_text c.args.task c.args.seconds c.args.place.now) c.end_line.new.text.items
    (printed_waited c.args.task c.args.seconds c.args.place.now printed) (search rules)
