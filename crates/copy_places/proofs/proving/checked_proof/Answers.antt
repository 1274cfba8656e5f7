use Rattle.copy_places.proofs.Checked.{checked_agree, checked_fork, first_agrees}
use Rattle.copy_places.proofs.proving.checked_proof.Goals as goal

pub returns-in-Ok-clause-fork : goal.returns-in-Ok-clause-fork
returns-in-Ok-clause-fork g c =
    checked_fork g.H.TreeHash.digest c.args.small.now c.args.large.now c.requires.less c.in-Ok.proof c.in-Ok.ensures.asked
    c.in-Ok.ensures.holds c.differing.ensures.hashes c.differing.result c.differing.ensures.some

pub returns-in-Ok-clause-agrees : goal.returns-in-Ok-clause-agrees
returns-in-Ok-clause-agrees g c =
    checked_agree g.H.TreeHash.digest c.args.small.now c.args.large.now c.requires.less c.in-Ok.proof c.in-Ok.ensures.asked
    c.in-Ok.ensures.holds c.differing.ensures.hashes c.differing.result c.differing.ensures.none

pub returns-in-Ok-clause-first : goal.returns-in-Ok-clause-first
returns-in-Ok-clause-first g c = λ entries size_is root_is source none.
    first_agrees g.H.TreeHash.digest entries c.args.small.now c.args.large.now.size.0 c.requires.less size_is c.in-Ok.proof
    (c.in-Ok.ensures.honest entries size_is root_is source) c.differing.result c.differing.ensures.none none
