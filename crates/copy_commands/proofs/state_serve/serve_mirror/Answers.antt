use Rattle.program_io.proofs.Listened.{line_written, none_accepted, none_opened}
use Rattle.copy_commands.proofs.state_serve.serve_mirror.Goals as goal

pub returns-in-Err : goal.returns-in-Err
returns-in-Err g c = record {
  line = none_opened c.args.serve.now.port (g.O.Write.contents c.args.output.now) (g.O.Write.contents c.listen.new.output)
      c.in-Err.error c.in-Err.ensures.line;
}

pub returns-in-Ok-serve_all : goal.returns-in-Ok-serve_all
returns-in-Ok-serve_all g c = record {
  line = line_written c.args.serve.now.port (g.O.Write.contents c.args.output.now) (g.O.Write.contents c.listen.new.output)
      c.in-Ok.opened c.in-Ok.ensures.line;
}

pub returns : goal.returns
returns g c = record {
  line = none_accepted c.args.serve.now.port (g.O.Write.contents c.args.output.now) (g.O.Write.contents c.listen.new.output)
      c.in-Ok.opened c.in-Ok.ensures.line c.port_fault.result c.port_fault.ensures;
}
