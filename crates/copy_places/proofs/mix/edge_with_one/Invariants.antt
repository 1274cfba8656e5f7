use Rattle.std.proofs.Common.{◌<◌, ℕ, get_or}
use Rattle.copy_places.specs.Mixes.{HaveNoMix}
use Rattle.copy_places.specs.declared.mix.GivenRows.{GivenRows}
use Rattle.copy_places.proofs.mix.edge_with_one.Given as goal

-- the places so far have no mix with this one
abbrev pub invariant-loop-i : goal.invariant-loop-i
invariant-loop-i g l = (i : ℕ) (d : GivenRows) → i < l.i →
    HaveNoMix g.H.TreeHash.digest l.size l.root (get_or l.given i d) (get_or l.given l.j d)
