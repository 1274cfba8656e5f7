use Rattle.std.proofs.Common.{subst, sym, ◌∙◌}
use Rattle.std.proofs.lemmas.Bool.{false≢true}
use Rattle.signed_note.specs.Notes.{IsNote}
use Rattle.mirror_files.proofs.Points.{head_is, not_a_checkpoint, not_a_note}
use Rattle.mirror_files.proofs.beginning.read_point.Goals as goal

pub returns-in-Err : goal.returns-in-Err
returns-in-Err c =
    rw c.note_fault.ensures (not_a_note c.args.bytes.now c.args.origin.now c.in-Err.fault c.in-Err.ensures)

pub returns-in-Err-read : goal.returns-in-Err-read
returns-in-Err-read c =
    let is = subst (λ t. IsNote c.args.bytes.now t c.in-Ok.note.lines) (sym c.text.ensures) c.in-Ok.ensures.1 in
    rw c.text_fault.ensures (not_a_checkpoint c.args.bytes.now c.args.origin.now c.text.result.now c.in-Ok.note.lines is
    c.in-Err-read.fault c.in-Err-read.ensures.answer)

pub returns-else-is_of_log : goal.returns-else-is_of_log
returns-else-is_of_log c =
    let is = subst (λ t. IsNote c.args.bytes.now t c.in-Ok.note.lines) (sym c.text.ensures) c.in-Ok.ensures.1 in
    let checkpoint = c.in-Ok-read.checkpoint in
    head_is c.args.bytes.now c.args.origin.now c.text.result.now c.in-Ok.note.lines is checkpoint.size checkpoint.root
    checkpoint.extensions checkpoint.origin c.in-Ok-read.ensures.answer
    (λ same. false≢true (sym c.if-is_of_log.false ∙ c.is_of-is_of_log.ensures.1 same))
