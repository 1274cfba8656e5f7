use Rattle.std.proofs.Common.{◌≡◌, ◌++◌, [], take, string_bytes}
use Rattle.std.specs.List.{AllByRecursion}
use Rattle.tlog_text.specs.Hash.{Is32Bytes}
use Rattle.tlog_proof.specs.Text.{path_lines}
use Rattle.tlog_proof.proofs.write.add_hashes.Given as goal

abbrev pub invariant-loop-hash : goal.invariant-loop-hash
invariant-loop-hash l = record {
  written : string_bytes l.text ≡ string_bytes l.fn.text ++ path_lines (take l.hash-index l.path) [];
  hashes : AllByRecursion Is32Bytes (take l.hash-index l.path);
}
