use Rattle.std.proofs.Common.{◌≡◌, ◌*◌, length, take, All}
use Rattle.tlog_tiles.specs.Row.{row_text}
use Rattle.tlog_tiles.proofs.row.read_row.Given as goal

-- the hashes up to here are those of the bytes up to here
abbrev pub invariant-loop-i : goal.invariant-loop-i
invariant-loop-i l = record {
  count : length l.row.items ≡ l.i;
  sizes : All (λ hash. length hash ≡ 32) l.row.items;
  text : take (32 * l.i) l.bytes ≡ row_text l.row.items;
}
