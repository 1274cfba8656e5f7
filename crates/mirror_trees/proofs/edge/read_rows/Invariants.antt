use Rattle.std.proofs.Common.{◌≡◌, ◌*◌, map, take, length}
use Rattle.mirror_model.specs.Item.{row_of}
use Rattle.mirror_trees.proofs.EdgeRows.{bytes_of, items_of}
use Rattle.mirror_trees.proofs.edge.read_rows.Given as goal

-- the rows so far are read, and have their widths
abbrev pub invariant-loop-i : goal.invariant-loop-i
invariant-loop-i l = record {
  hashes : items_of l.rows.items ≡ map row_of (bytes_of (take l.i l.edge));
  lengths : map length (bytes_of (take l.i l.edge)) ≡ map (λ width. 32 * width) (take l.i l.widths);
}
