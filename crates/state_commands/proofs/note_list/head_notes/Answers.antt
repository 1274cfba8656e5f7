use Rattle.std.proofs.Common.{List, ℕ, [], ◌∷◌, Some, map, sym, subst}
use Rattle.std.proofs.lemmas.List.{map-append}
use Rattle.tlog_mirror.specs.NoteLists.{IsNoteAt}
use Rattle.state_commands.specs.NoteFiles.{head_note}
use Rattle.state_commands.proofs.NoteWalks.{meets_none, meets_more, meets_all}
use Rattle.state_commands.proofs.note_list.head_notes.Goals as goal

pub loop-i-init : goal.loop-i-init
loop-i-init g c = rw c.new-heads.ensures.items (meets_none c.args.mirror.now.view)

pub loop-i-preserved : goal.loop-i-preserved
loop-i-preserved g c =
    let v = c.args.mirror.now.view in
    let i = c.loop-i.i in
    let heads = c.loop-i.heads.items in
    let head = c.in_ok-read_head_note.field-0 in
    let at : IsNoteAt v i (Some head.bytes.now) =
    subst (λ (note : List ℕ). IsNoteAt v i (Some note)) (sym c.in_ok-read_head_note.ensures.note) c.in-Some.ensures in
    rw (c.in_ok-push.ensures.items, map-append head_note heads (head ∷ []))
    (meets_more v i (map head_note heads) (head_note head) c.in_ok-read_head_note.ensures.head at c.loop-i.invariant)

pub returns-in_default : goal.returns-in_default
returns-in_default g c =
    meets_all c.args.mirror.now.view c.loop-i.i (map head_note c.loop-i.heads.items) c.in_default.ensures c.loop-i.invariant
