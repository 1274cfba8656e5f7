use Rattle.std.proofs.Common.{◌≡◌, ◌-◌, ◌++◌, take, map, replicate}
use Rattle.std.specs.Prelude.{bit_xor}
use Rattle.signed_note.proofs.hmac.masked_block.Given as goal

abbrev pub invariant-loop-i : goal.invariant-loop-i
invariant-loop-i l = l.block ≡ map (λ b. bit_xor b l.mask) (take l.i l.key) ++ replicate (64 - l.i) l.mask
