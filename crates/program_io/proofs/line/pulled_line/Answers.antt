use Rattle.std.proofs.Common.{rules}
use Rattle.program_io.specs.ProgressText.{pulled_text}
use Rattle.program_io.proofs.Printed.{line_is, printed_pulled}
use Rattle.program_io.proofs.line.pulled_line.Goals as goal

pub returns-clause-line : goal.returns-clause-line
returns-clause-line c =
    line_is (pulled_text c.args.held c.args.size c.args.counts) c.end_line.new.text.items
    (printed_pulled c.args.held c.args.size c.args.counts) (search rules)
