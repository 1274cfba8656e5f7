use Rattle.std.proofs.Common.{◌≡◌, List, ℕ, subst, ◌∙◌}
use Rattle.std.specs.Io.KnownBytes.{Appends}
use Rattle.byte_streams.specs.Streams.{AppendsPrefix}
use Rattle.program_reports.specs.Pulling.{pulled_lines}
use Rattle.program_io.proofs.Written.{keeps_itself}
use Rattle.state_commands.proofs.pull.report_pulled.Goals as goal

pub returns-in-Err-clause-answer : goal.returns-in-Err-clause-answer
returns-in-Err-clause-answer g c = λ state start held.
    rw c.new.ensures (c.in-Err.ensures state start held, keeps_itself (g.W.Write.contents c.args.output.now))

pub returns-in_default-clause-answer : goal.returns-in_default-clause-answer
returns-in_default-clause-answer g c = λ state start held.
    rw c.new-in_default.ensures (c.in-Ok.ensures state start held, keeps_itself (g.W.Write.contents c.args.output.now))

pub returns-in-Ok-write_whole-clause-answer : goal.returns-in-Ok-write_whole-clause-answer
returns-in-Ok-write_whole-clause-answer g c = λ state start held.
    let old = g.W.Write.contents c.args.output.now in
    let new = g.W.Write.contents c.write_whole.new.writer in
    let text : c.as_bytes.result.now ≡ pulled_lines c.args.pulled.now = c.as_bytes.ensures.value ∙
    c.in-Ok-pulled_text.ensures in (
      c.in-Ok.ensures state start held,
      subst (λ (b : List ℕ). Appends old new b) text c.in-Ok-write_whole.ensures.ok,
      c.pulled_status.ensures,
    )

pub returns-clause-answer : goal.returns-clause-answer
returns-clause-answer g c = λ state start held.
    let old = g.W.Write.contents c.args.output.now in
    let new = g.W.Write.contents c.write_whole.new.writer in
    let text : c.as_bytes.result.now ≡ pulled_lines c.args.pulled.now = c.as_bytes.ensures.value ∙
    c.in-Ok-pulled_text.ensures in rw c.new-in-Err-write_whole.ensures (
      c.in-Ok.ensures state start held,
      subst (λ (b : List ℕ). AppendsPrefix old new b) text c.in-Err-write_whole.ensures.err,
    )
