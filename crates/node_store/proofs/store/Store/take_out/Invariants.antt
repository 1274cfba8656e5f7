use Rattle.std.proofs.Common.{take}
use Rattle.node_store.specs.Strings.{IsWithout}
use Rattle.node_store.proofs.store.Store.take_out.Given as goal

-- the strings of the digests so far are removed
abbrev pub invariant-loop-digest : goal.invariant-loop-digest
invariant-loop-digest g l = IsWithout g.H.TreeHash.digest l.fn.self (take l.digest-index l.digests) l.self
