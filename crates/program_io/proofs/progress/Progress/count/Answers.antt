use Rattle.std.proofs.Common.{◌∙◌, ap, subst, option_map}
use Rattle.std.specs.Time.{instant_nanos}
use Rattle.byte_streams.specs.Streams.{AppendsPrefix}
use Rattle.program_io.specs.ProgressView.{printed_line}
use Rattle.program_io.proofs.Reports.{tells_prefix, not_silent}
use Rattle.program_io.proofs.progress.Progress.count.Goals as goal

pub returns-in-Ok-clause-recorded : goal.returns-in-Ok-clause-recorded
returns-in-Ok-clause-recorded g c =
    let contents = g.W.Write.contents in
    let new = c.report_at.new.self in
    record {
      line = subst (λ writer. AppendsPrefix (contents writer) (contents new.writer) (printed_line new))
          (ap (λ t. t.writer) c.self.view_is)
          (tells_prefix contents (instant_nanos c.in-Ok.now) _ new c.report_at.ensures);
      silent = λ none. absurd (not_silent (option_map instant_nanos c.self.inside.due) c.is_recorded.result
          c.is_recorded.ensures c.if-not-is_recorded.false (ap (λ t. t.due) c.self.view_is ∙ none));
    }
