use Rattle.std.proofs.Common.{◌≡◌, map, take}
use Rattle.state_commands.specs.NoteFiles.{files_of, head_note, note_file}
use Rattle.state_commands.proofs.note_list.files_of.Given as goal

-- the files so far are those of the first notes
abbrev pub invariant-loop-i : goal.invariant-loop-i
invariant-loop-i l = map note_file l.files.items ≡ files_of (take l.i (map head_note l.heads))
