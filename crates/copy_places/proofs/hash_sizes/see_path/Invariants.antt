use Rattle.std.proofs.Common.{take}
use Rattle.std.specs.List.{AllByRecursion}
use Rattle.tlog_text.specs.Hash.{Is32Bytes}
use Rattle.copy_places.proofs.hash_sizes.see_path.Given as goal

abbrev pub invariant-loop-hash : goal.invariant-loop-hash
invariant-loop-hash l = AllByRecursion Is32Bytes (take l.hash-index l.path)
