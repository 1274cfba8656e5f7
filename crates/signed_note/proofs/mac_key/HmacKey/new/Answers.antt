use Rattle.std.proofs.Common.{arith}
use Rattle.std.proofs.lemmas.Bool.Decides.{nat_tests}
use Rattle.signed_note.proofs.mac_key.HmacKey.new.Goals as goal

pub invariant_of-result : goal.invariant_of-result
invariant_of-result c = (
  rw c.in_ok-from_str.ensures.ok (c.is_own_name.ensures.0 c.if-not-is_own_name.false),
  rw c.in_ok-from_slice.ensures.items (record { some = grind (arith, nat_tests); short = omega arith }),
)
