use Rattle.std.proofs.Common.{subst}
use Rattle.byte_streams.specs.Streams.{AppendsPrefix}
use Rattle.program_io.specs.ProgressView.{ProgressView}
use Rattle.program_io.specs.ProgressText.{line_of, pulled_text}
use Rattle.program_io.proofs.progress.Progress.report_pulled.Goals as goal

pub returns-clause-line : goal.returns-clause-line
returns-clause-line g c =
    let contents = g.W.Write.contents in
    let text = pulled_text c.args.held c.args.size c.self.inside.counts in
    subst (λ (t : ProgressView _). AppendsPrefix (contents t.writer) (contents c.write_made.new.writer)
    (line_of (pulled_text c.args.held c.args.size t.counts))) c.self.view_is
    (c.write_made.ensures (line_of text) c.pulled_line-line.ensures.text)
