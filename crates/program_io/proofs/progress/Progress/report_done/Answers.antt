use Rattle.std.proofs.Common.{subst}
use Rattle.byte_streams.specs.Streams.{AppendsPrefix}
use Rattle.program_io.specs.ProgressView.{ProgressView, printed_line}
use Rattle.program_io.specs.ProgressText.{line_of, progress_text}
use Rattle.program_io.proofs.progress.Progress.report_done.Goals as goal

pub returns-clause-line : goal.returns-clause-line
returns-clause-line g c =
    let contents = g.W.Write.contents in
    let inside = c.self.inside in
    subst (λ (t : ProgressView _). AppendsPrefix (contents t.writer) (contents c.write_made.new.writer) (printed_line t))
    c.self.view_is
    (c.write_made.ensures (line_of (progress_text inside.task inside.all inside.counts)) c.progress_line-line.ensures.text)
