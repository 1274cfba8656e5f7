use Rattle.std.proofs.Common.{◌<◌, ℕ, get_or}
use Rattle.copy_places.specs.Mixes.{HaveNoMix}
use Rattle.copy_places.specs.declared.mix.GivenRows.{GivenRows}
use Rattle.copy_places.proofs.mix.edge_of_pairs.Given as goal

-- no two of the places so far have a mix
abbrev pub invariant-loop-j : goal.invariant-loop-j
invariant-loop-j g l = (i j : ℕ) (d : GivenRows) → i < j → j < l.j →
    HaveNoMix g.H.TreeHash.digest l.size l.root (get_or l.given i d) (get_or l.given j d)
