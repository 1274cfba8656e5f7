use Rattle.std.proofs.Common.{◌≡◌, map, take, string_bytes}
use Rattle.tlog_checkpoint.proofs.reading.copy_lines.Given as goal

abbrev pub invariant-loop-line : goal.invariant-loop-line
invariant-loop-line l = map string_bytes l.copies.items ≡ map (λ line. line.now) (take l.line-index l.lines)
