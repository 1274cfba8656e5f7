use Rattle.std.proofs.Common.{sym, ap, subst}
use Rattle.tlog_hash.specs.Shape.{shape}
use Rattle.mirror_trees.specs.Levels.{ListsLost, first_from}
use Rattle.mirror_trees.proofs.LevelLists.{nothing_of_none, first_fits}
use Rattle.mirror_trees.proofs.levels.next_missing.Goals as goal

pub returns-then-size-eq0-clause-first : goal.returns-then-size-eq0-clause-first
returns-then-size-eq0-clause-first g c = λ numbers lists.
    sym (ap (first_from c.args.from)
    (nothing_of_none c.args.level g.H.TreeHash.digest c.args.store.now c.args.root.now numbers
    (subst (λ n. ListsLost g.H.TreeHash.digest c.args.store.now c.args.level (shape n) 0 c.args.root.now numbers)
    c.if-size-eq0.true lists)))

pub returns-clause-fits : goal.returns-clause-fits
returns-clause-fits g c =
    first_fits c.args.level g.H.TreeHash.digest c.args.store.now c.args.from c.args.size c.args.root.now
    c.next_lost.result c.if-size-eq0.false c.next_lost.ensures
