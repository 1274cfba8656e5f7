use Rattle.std.proofs.Common.{◌≡◌, take}
use Rattle.tlog_tiles.specs.Row.{row_text}
use Rattle.tlog_tiles.proofs.row.write_row.Given as goal

-- the hashes up to here are written
abbrev pub invariant-loop-hash : goal.invariant-loop-hash
invariant-loop-hash l = l.bytes.items ≡ row_text (take l.hash-index l.row)
