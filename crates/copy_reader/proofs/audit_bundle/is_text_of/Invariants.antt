use Rattle.std.proofs.Common.{◌≡◌, ◌++◌, take}
use Rattle.tlog_tiles.specs.Row.{row_text}
use Rattle.copy_reader.proofs.audit_bundle.is_text_of.Given as goal

-- the bytes are those of the hashes so far, and the rest
abbrev pub invariant-loop-hash : goal.invariant-loop-hash
invariant-loop-hash l = l.bytes ≡ row_text (take l.hash-index l.row) ++ l.rest
