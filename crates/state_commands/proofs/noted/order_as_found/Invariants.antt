use Rattle.std.proofs.Common.{map}
use Rattle.state_commands.specs.NoteFiles.{head_note}
use Rattle.state_commands.specs.Ordered.{AreHeads, IsOrdered}
use Rattle.state_commands.proofs.noted.order_as_found.Given as goal

-- the notes are in order for the names so far
abbrev pub invariant-loop-i : goal.invariant-loop-i
invariant-loop-i g l =
    AreHeads (map head_note l.fn.heads) →
    IsOrdered (g.F.NamedFiles.puts l.files) l.folder (map head_note l.fn.heads) (map head_note l.heads) l.i
