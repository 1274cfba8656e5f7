use Rattle.std.proofs.Common.{◌≡◌}
use Rattle.mirror_client.proofs.ahead.Ahead.ask_due.Given as goal

-- the greatest number of requests and the path stay
abbrev pub invariant-loop : goal.invariant-loop
invariant-loop g l = (l.self.most ≡ l.fn.self.most) × (l.one.path ≡ l.fn.one.path)
