use Rattle.std.specs.Prelude.{string_bytes}
use Rattle.program_copies.specs.Whys.{AreWhyLines}
use Rattle.program_copies.proofs.why.push_repaired.Given as goal

abbrev pub invariant-loop-damaged : goal.invariant-loop-damaged
invariant-loop-damaged l = AreWhyLines (string_bytes l.text)
