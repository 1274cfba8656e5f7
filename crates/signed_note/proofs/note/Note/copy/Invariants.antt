use Rattle.std.proofs.Common.{◌≡◌, take}
use Rattle.signed_note.proofs.note.Note.copy.Given as goal

-- the lines up to here are copied
abbrev pub invariant-loop-line : goal.invariant-loop-line
invariant-loop-line l = l.lines.items ≡ take l.line-index l.self-inside.lines.items
