use Rattle.std.proofs.Common.{map, take}
use Rattle.state_commands.specs.NoteFiles.{note_file}
use Rattle.state_commands.specs.NoteTexts.{IsRecorded, PutsEach, in_folder}
use Rattle.state_commands.proofs.noted.put_notes.Given as goal

-- the notes so far were put or left
abbrev pub invariant-loop-note : goal.invariant-loop-note
invariant-loop-note g l =
    IsRecorded (PutsEach (map (λ note. in_folder l.folder (note_file note)) (take l.note-index l.notes)))
    (g.F.NamedFiles.puts l.fn.files) (g.F.NamedFiles.puts l.files)
