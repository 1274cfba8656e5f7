use Rattle.std.proofs.Common.{◌≡◌, ◌+◌, ◌%◌, take, sum}
use Rattle.tlog_hash.proofs.sum.sum_from.Given as goal

abbrev pub invariant-loop-byte : goal.invariant-loop-byte
invariant-loop-byte l = l.total ≡ (l.before + sum (take l.byte-index l.bytes)) % 256
