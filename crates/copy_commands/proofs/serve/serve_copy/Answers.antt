use Rattle.program_io.proofs.Listened.{line_written, none_accepted, none_opened}
use Rattle.copy_commands.proofs.serve.serve_copy.Goals as goal

pub returns-in-Err-clause-line : goal.returns-in-Err-clause-line
returns-in-Err-clause-line g c =
    none_opened c.args.serve.now.port (g.O.Write.contents c.args.output.now) (g.O.Write.contents c.listen.new.output) c.in-Err.error
    c.in-Err.ensures.line

pub returns-in-Ok-answer_all-clause-line : goal.returns-in-Ok-answer_all-clause-line
returns-in-Ok-answer_all-clause-line g c =
    line_written c.args.serve.now.port (g.O.Write.contents c.args.output.now) (g.O.Write.contents c.listen.new.output) c.in-Ok.opened
    c.in-Ok.ensures.line

pub returns-clause-line : goal.returns-clause-line
returns-clause-line g c =
    none_accepted c.args.serve.now.port (g.O.Write.contents c.args.output.now) (g.O.Write.contents c.listen.new.output)
    c.in-Ok.opened c.in-Ok.ensures.line c.port_fault.result c.port_fault.ensures
