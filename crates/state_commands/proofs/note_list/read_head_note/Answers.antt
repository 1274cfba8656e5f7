use Rattle.std.proofs.Common.{ℕ, List, subst}
use Rattle.tlog_checkpoint.specs.Grammar.{IsCheckpoint}
use Rattle.state_commands.proofs.note_list.read_head_note.Goals as goal

pub returns-clause-head : goal.returns-clause-head
returns-clause-head c =
    let note = c.in-Ok.note in
    let read = c.in-Ok-read.checkpoint in
    let is : IsCheckpoint note.text read.origin read.size read.root read.extensions =
    subst (λ (text : List ℕ). IsCheckpoint text read.origin read.size read.root read.extensions)
    c.text.ensures c.in-Ok-read.ensures.answer in (
      read.origin,
      record {
        text = note.text;
        lines = note.lines;
        extensions = read.extensions;
        is_note = c.in-Ok.ensures.1;
        is_checkpoint = is;
      },
    )
