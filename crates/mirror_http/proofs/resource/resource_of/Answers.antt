use Rattle.mirror_http.proofs.OneResource.{names_none, unequal}
use Rattle.mirror_http.proofs.resource.resource_of.Goals as goal

pub returns-in-None-clause-none : goal.returns-in-None-clause-none
returns-in-None-clause-none c =
    names_none c.args.target.now (unequal _ _ _ c.eq.ensures c.if-eq.false)
    (unequal _ _ _ c.eq-2.ensures c.if-eq-2.false) c.in_default.ensures.none c.in_default-numbers_of.ensures.none
    c.in_default-numbers_of-2.ensures.none c.in-None.ensures.none
