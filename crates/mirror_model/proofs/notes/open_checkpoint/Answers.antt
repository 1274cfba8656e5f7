use Rattle.std.proofs.Common.{◌≡◌, rules, subst}
use Rattle.tlog_checkpoint.specs.Grammar.{IsCheckpoint}
use Rattle.mirror_model.specs.Refusals.{IsCheckpointNote}
use Rattle.mirror_model.proofs.OpenedNotes.{opened, not_opened}
use Rattle.mirror_model.proofs.notes.open_checkpoint.Goals as goal

pub returns-in-Ok-open_note : goal.returns-in-Ok-open_note
returns-in-Ok-open_note g c =
    let note = c.args.note.now in
    let k = c.in-Ok.checkpoint in
    let is : IsCheckpointNote note.bytes k note.text note.lines = record {
      is_note = c.requires;
      is_checkpoint = subst (λ t. IsCheckpoint t k.origin k.size k.root k.extensions) c.text.ensures
          c.in-Ok.ensures.answer;
    } in
    let same : k.origin ≡ c.args.origin.now = search rules in
    opened note.bytes note.text c.args.origin.now note.lines _ k is same c.in-Ok-open_note.ensures

pub returns-in-Err-open_note : goal.returns-in-Err-open_note
returns-in-Err-open_note g c =
    let note = c.args.note.now in
    let k = c.in-Ok.checkpoint in
    let is : IsCheckpointNote note.bytes k note.text note.lines = record {
      is_note = c.requires;
      is_checkpoint = subst (λ t. IsCheckpoint t k.origin k.size k.root k.extensions) c.text.ensures
          c.in-Ok.ensures.answer;
    } in
    let same : k.origin ≡ c.args.origin.now = search rules in
    not_opened note.bytes note.text c.args.origin.now note.lines _ k is same c.in-Err-open_note.field-0
    c.in-Err-open_note.ensures
