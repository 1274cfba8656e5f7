use Rattle.mirror_trees.proofs.ServedParts.{range_some, range_none}
use Rattle.tlog_mirror.proofs.mirror.Mirror.range_hash.Goals as goal

pub returns-clause-some : goal.returns-clause-some
returns-clause-some g c =
    range_some g.H.TreeHash.digest c.args.self.now.view c.in-Some.top c.in-Some.ensures.some
    c.args.start c.args.len c.hash.result c.hash.ensures.some

pub returns-clause-none : goal.returns-clause-none
returns-clause-none g c =
    range_none g.H.TreeHash.digest c.args.self.now.view c.in-Some.top c.in-Some.ensures.some
    c.args.start c.args.len c.hash.result c.hash.ensures.none
