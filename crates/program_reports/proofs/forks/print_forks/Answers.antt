use Rattle.std.proofs.Common.{ℕ, List, Option}
use Rattle.mirror_model.specs.View.{View}
use Rattle.tlog_mirror.specs.ForksWritten.{WritesForksPrefix}
use Rattle.program_reports.specs.Questions.{PrintsReportPrefix}
use Rattle.program_reports.specs.declared.question.Question.TheVariants.{Forks}
use Rattle.program_reports.proofs.Statuses.{status_of}
use Rattle.program_reports.proofs.forks.print_forks.Goals as goal

prefix : (digest : List ℕ → List ℕ) (v : View) (old new : Option (List ℕ)) → WritesForksPrefix digest v old new →
    PrintsReportPrefix digest Forks v old new
prefix digest v old new w = record {
  printed = w.text;
  ended = (status_of w.text).0;
  tells = record { text = w.is_text; status = (status_of w.text).1 };
  written = w.written;
}

pub returns-in-Err-WriteFault-clause-answer : goal.returns-in-Err-WriteFault-clause-answer
returns-in-Err-WriteFault-clause-answer g c =
    prefix g.H.TreeHash.digest c.args.mirror.now.view (g.W.Write.contents c.args.output.now)
    (g.W.Write.contents c.noted_forks.new.output)
    (rw c.in-Err-WriteFault.field-0-is at c.in-Err-WriteFault.ensures.writes)
