use Rattle.std.proofs.Common.{◌≡◌}
use Rattle.mirror_client.proofs.ahead.Ahead.attend.Given as goal

-- the greatest number of requests stays, and the stream
abbrev pub invariant-loop : goal.invariant-loop
invariant-loop g l = (l.self.most ≡ l.fn.self.most) × (l.stream ≡ l.fn.stream)
