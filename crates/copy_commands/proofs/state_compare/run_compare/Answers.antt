use Rattle.copy_commands.proofs.StateAsking.{compares_state}
use Rattle.program_io.proofs.Written.{keeps_itself}
use Rattle.copy_commands.proofs.state_compare.run_compare.Goals as goal

pub returns-in-Err : goal.returns-in-Err
returns-in-Err g c = record {
  answer = rw c.new.ensures c.in-Err.ensures;
  status = tt;
  quiet = λ other. keeps_itself (g.W.Write.contents c.args.output.now);
}

pub returns-in-Ok : goal.returns-in-Ok
returns-in-Ok g c = record {
  answer = compares_state _ _ _ _ _ _ _ c.in-Ok.mirror.view c.in-Ok.ensures _ c.compare_mirror-answer.result
      c.compare_mirror-answer.ensures.answer;
  status = c.compare_mirror-answer.ensures.status;
  quiet = c.compare_mirror-answer.ensures.quiet;
}
