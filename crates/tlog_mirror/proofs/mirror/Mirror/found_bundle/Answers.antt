use Rattle.mirror_trees.proofs.ServedParts.{bundle_some, bundle_none}
use Rattle.tlog_mirror.proofs.mirror.Mirror.found_bundle.Goals as goal

pub returns-clause-some : goal.returns-clause-some
returns-clause-some g c =
    bundle_some g.H.TreeHash.digest c.args.self.now.view c.in-Some.top c.in-Some.ensures.some (λ bytes. bytes.items)
    c.args.index c.args.width c.bundle.result c.bundle.ensures.within c.bundle.ensures.some

pub returns-clause-none : goal.returns-clause-none
returns-clause-none g c =
    bundle_none g.H.TreeHash.digest c.args.self.now.view c.in-Some.top c.in-Some.ensures.some (λ bytes. bytes.items)
    c.args.index c.args.width c.bundle.result c.bundle.ensures.none
