use Rattle.std.proofs.Common.{map}
use Rattle.state_commands.specs.NoteFiles.{head_note}
use Rattle.state_commands.proofs.NoteWalks.{MeetsFirst}
use Rattle.state_commands.proofs.note_list.head_notes.Given as goal

-- the notes so far are the first ones
abbrev pub invariant-loop-i : goal.invariant-loop-i
invariant-loop-i g l = MeetsFirst l.mirror.view l.i (map head_note l.heads.items)
