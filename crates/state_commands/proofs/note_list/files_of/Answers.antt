use Rattle.std.proofs.Common.{◌∷◌, [], map}
use Rattle.std.proofs.lemmas.List.{map-append}
use Rattle.state_commands.specs.NoteFiles.{head_note, note_file}
use Rattle.state_commands.proofs.NoteWalks.{files_more}
use Rattle.state_commands.proofs.note_list.files_of.Goals as goal

pub loop-i-preserved : goal.loop-i-preserved
loop-i-preserved c =
    let files = c.loop-i.files.items in
    let file = c.in_ok-file_at.field-0 in
    rw (c.in_ok-push.ensures.items, map-append note_file files (file ∷ []))
    (files_more (map head_note c.args.heads.now) c.loop-i.i (note_file file) c.in_ok-file_at.ensures (map note_file files)
    c.loop-i.invariant)
