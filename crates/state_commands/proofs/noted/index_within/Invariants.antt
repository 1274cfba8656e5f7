use Rattle.std.proofs.Common.{◌≤◌, ◌<◌, ℕ, map}
use Rattle.state_commands.specs.NoteFiles.{head_note}
use Rattle.state_commands.specs.Ordered.{IsNoteWith}
use Rattle.state_commands.proofs.noted.index_within.Given as goal

-- no note so far has these bytes, and the size and root of the note
abbrev pub invariant-loop-j : goal.invariant-loop-j
invariant-loop-j l = (k : ℕ) → l.start ≤ k → k < l.j → ¬ IsNoteWith (map head_note l.heads) l.i l.bytes k
