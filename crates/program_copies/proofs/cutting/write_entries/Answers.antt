use Rattle.std.proofs.Common.{ℕ, List, OnErr, OnOk, ◌∙◌, subst}
use Rattle.std.specs.Io.KnownBytes.{Appends}
use Rattle.byte_streams.specs.Streams.{AppendsPrefix}
use Rattle.program_copies.proofs.Cuts.{lines_text}
use Rattle.program_copies.proofs.cutting.write_entries.Goals as goal

pub returns-in-Ok-clause-ok : goal.returns-in-Ok-clause-ok
returns-in-Ok-clause-ok g c =
    subst (λ (w : List ℕ). OnOk c.write_bytes.result
    (Appends (g.W.Write.contents c.args.output.now) (g.W.Write.contents c.write_bytes.new.output) w))
    (c.as_bytes.ensures.value ∙ (c.in-Ok.ensures ∙ lines_text c.args.base64 c.args.entries.now c.if-base64.true))
    c.write_bytes.ensures.ok

pub returns-in-Ok-clause-err : goal.returns-in-Ok-clause-err
returns-in-Ok-clause-err g c =
    subst (λ (w : List ℕ). OnErr c.write_bytes.result
    (AppendsPrefix (g.W.Write.contents c.args.output.now) (g.W.Write.contents c.write_bytes.new.output) w))
    (c.as_bytes.ensures.value ∙ (c.in-Ok.ensures ∙ lines_text c.args.base64 c.args.entries.now c.if-base64.true))
    c.write_bytes.ensures.err
