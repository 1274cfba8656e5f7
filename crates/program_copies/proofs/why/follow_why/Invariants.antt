use Rattle.std.specs.Prelude.{string_bytes}
use Rattle.program_copies.specs.Whys.{AreWhyLines}
use Rattle.program_copies.proofs.why.follow_why.Given as goal

abbrev pub invariant-loop-place : goal.invariant-loop-place
invariant-loop-place g l = AreWhyLines (string_bytes l.text)
