use Rattle.std.proofs.Common.{option_map, refl, subst}
use Rattle.std.specs.Time.{instant_nanos}
use Rattle.program_io.specs.ProgressView.{ProgressView, ReportsAt}
use Rattle.program_io.specs.ProgressText.{line_of, progress_text}
use Rattle.program_io.proofs.progress.Progress.report_at.Goals as goal

pub returns : goal.returns
returns g c =
    let inside = c.self.inside in
    let new : ProgressView _ = record {
      writer = c.write_made.new.writer;
      task = inside.task;
      all = inside.all;
      counts = inside.counts;
      due = option_map instant_nanos c.next_due-self-inside.result;
      last_len = inside.last_len;
    } in
    subst (λ (t : ProgressView _). ReportsAt g.W.Write.contents (instant_nanos c.args.now) t new) c.self.view_is
    (record {
      same = record { task = refl; all = refl; counts = refl };
      late = λ due. c.next_due-self-inside.ensures;
      line = λ due. c.write_made.ensures (line_of (progress_text inside.task inside.all inside.counts))
          c.progress_line-line.ensures.text;
      early = λ early. absurd (early (c.is_due.ensures.0 c.if-not-is_due.false));
    })
