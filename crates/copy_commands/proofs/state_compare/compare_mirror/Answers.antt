use Rattle.std.proofs.Common.{Ok, Err, option_map}
use Rattle.copy_commands.proofs.StateAsking.{asked_quietly, asked_status, compares_view}
use Rattle.copy_commands.proofs.Compares.{heads_same, names_same}
use Rattle.program_io.proofs.Written.{keeps_itself}
use Rattle.copy_commands.proofs.state_compare.compare_mirror.Goals as goal

pub returns-in-Err : goal.returns-in-Err
returns-in-Err g c = record {
  answer = rw c.new.ensures (names_same (λ name. name.now) _ _ _ c.as_slice.result.now c.args.compare.now.files.items
      (Err c.in-Err.fault) c.as_slice.ensures.value c.in-Err.ensures);
  status = tt;
  quiet = λ other. keeps_itself (g.W.Write.contents c.args.output.now);
}

pub returns : goal.returns
returns g c = record {
  answer = compares_view _ _ _ _ _ _ _ (option_map (λ h. h.items) c.in-Ok.heads)
      (names_same (λ name. name.now) _ _ _ c.as_slice.result.now c.args.compare.now.files.items
      (Ok (option_map (λ h. h.items) c.in-Ok.heads)) c.as_slice.ensures.value c.in-Ok.ensures)
      c.print_comparison-answer.result c.asked.result c.asked.ensures
      (heads_same _ _ (option_map (λ h. h.now) c.lend.result) (option_map (λ h. h.items) c.in-Ok.heads) _ _
      c.print_comparison-answer.result c.lend.ensures c.print_comparison-answer.ensures.answer);
  status = asked_status c.print_comparison-answer.result c.asked.result c.asked.ensures c.print_comparison-answer.ensures.status;
  quiet = asked_quietly c.print_comparison-answer.result c.asked.result _ _ c.asked.ensures c.print_comparison-answer.ensures.quiet;
}
