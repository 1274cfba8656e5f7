use Rattle.std.proofs.Common.{◌≡◌, ◌≤◌, length}
use Rattle.std.specs.Str.{IsUtf8}
use Rattle.std.specs.List.{AllByRecursion}
use Rattle.tlog_text.specs.Hash.{Is32Bytes}
use Rattle.tlog_proof.specs.Text.{path_lines}
use Rattle.tlog_proof.specs.declared.limits.TheConstants.{MAX_PATH}
use Rattle.tlog_proof.proofs.read.path_fields.Given as goal

abbrev pub invariant-loop-rest : goal.invariant-loop-rest
invariant-loop-rest l = record {
  text : IsUtf8 l.rest;
  read : l.text ≡ path_lines l.path.items l.rest;
  few : length l.path.items ≤ MAX_PATH;
  hashes : AllByRecursion Is32Bytes l.path.items;
}

abbrev pub decreases-loop-rest : goal.decreases-loop-rest
decreases-loop-rest l = length l.rest
