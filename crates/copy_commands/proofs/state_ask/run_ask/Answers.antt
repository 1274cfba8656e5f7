use Rattle.copy_commands.proofs.StateAsking.{asked_quietly, asked_status, asks_state}
use Rattle.program_io.proofs.Written.{keeps_itself}
use Rattle.copy_commands.proofs.state_ask.run_ask.Goals as goal

pub returns-in-Err : goal.returns-in-Err
returns-in-Err g c = record {
  answer = rw c.new.ensures c.in-Err.ensures;
  status = tt;
  quiet = λ other. keeps_itself (g.W.Write.contents c.args.output.now);
}

pub returns-in-Ok : goal.returns-in-Ok
returns-in-Ok g c = record {
  answer = asks_state _ _ _ _ _ _ _ c.in-Ok.mirror.view c.in-Ok.ensures _ c.print_report-answer.result c.asked.result
      c.asked.ensures c.print_report-answer.ensures.answer;
  status = asked_status c.print_report-answer.result c.asked.result c.asked.ensures c.print_report-answer.ensures.status;
  quiet = asked_quietly c.print_report-answer.result c.asked.result _ _ c.asked.ensures c.print_report-answer.ensures.quiet;
}
