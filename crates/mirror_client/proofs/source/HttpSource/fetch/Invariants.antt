use Rattle.mirror_client.specs.Waits.{Spends}
use Rattle.mirror_client.proofs.source.HttpSource.fetch.Given as goal

-- the failures stay, and the seconds that are left may be fewer
abbrev pub invariant-loop : goal.invariant-loop
invariant-loop g l = Spends l.fn.self l.self
