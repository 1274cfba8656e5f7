use Rattle.std.proofs.Common.{Err, ap, inl, inr, refl}
use Rattle.program_library.proofs.Keyed.{nothing_done}
use Rattle.program_io.proofs.Written.{keeps_itself}
use Rattle.program_library.proofs.given.obey.Goals as goal

pub run_command-requires : goal.run_command-requires
run_command-requires g c = rw c.in-Ok.is at c.requires

pub returns-in-Ok-clause-runs : goal.returns-in-Ok-clause-runs
returns-in-Ok-clause-runs g c = λ words is. inr record {
  command = c.in-Ok.command;
  asked = rw c.in-Ok.is at is.command;
  done = c.run_command.ensures.does;
}

pub returns-in-Ok-clause-ends : goal.returns-in-Ok-clause-ends
returns-in-Ok-clause-ends g c = c.run_command.ensures.ends

pub returns-in-Err-clause-runs : goal.returns-in-Err-clause-runs
returns-in-Err-clause-runs g c = λ words is. inl record {
  fault = c.in-Err.fault;
  answer_is = ap Err c.refused.ensures;
  reads = rw c.in-Err.is at is.command;
  quiet = keeps_itself _;
  files = refl;
  folders = refl;
}

pub returns-in-Err-clause-ends : goal.returns-in-Err-clause-ends
returns-in-Err-clause-ends g c = nothing_done _ _

pub returns-in-Ok-clause-same : goal.returns-in-Ok-clause-same
returns-in-Ok-clause-same g c = c.run_command.ensures.same
