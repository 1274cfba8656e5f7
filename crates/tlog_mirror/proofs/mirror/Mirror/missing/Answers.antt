use Rattle.std.specs.Prelude.{string_bytes}
use Rattle.tlog_mirror.proofs.KnownTrees.{all_known}
use Rattle.tlog_mirror.proofs.ServedNotes.{no_head_held, head_held, lists_missing}
use Rattle.tlog_mirror.proofs.mirror.Mirror.missing.Goals as goal

pub returns-then-is_none-clause-none : goal.returns-then-is_none-clause-none
returns-then-is_none-clause-none g c =
    no_head_held g.H.TreeHash.digest
    (string_bytes c.self.inside.origin) c.self.inside.kept.items c.self.inside.strings c.self.inside.known.remembered
    c.self.invariant.0 c.args.self.now c.self.view_is c.args.size c.args.root.now
    c.first_with.result c.is_none.result c.is_none.ensures c.if-is_none.true
    (rw c.as_slice.ensures.value at c.first_with.ensures.none)

pub missing_of-requires-clause-known : goal.missing_of-requires-clause-known
missing_of-requires-clause-known g c = all_known g.H.TreeHash.digest _ _ _ c.self.inside.known c.self.invariant

pub returns-in-Ok-clause-head : goal.returns-in-Ok-clause-head
returns-in-Ok-clause-head g c =
    head_held g.H.TreeHash.digest
    (string_bytes c.self.inside.origin) c.self.inside.kept.items c.self.inside.strings c.self.inside.known.remembered
    c.self.invariant.0 c.args.self.now c.self.view_is c.args.size c.args.root.now
    c.first_with.result c.is_none.result c.is_none.ensures c.if-is_none.false
    (rw c.as_slice.ensures.value at c.first_with.ensures.some)

pub returns-in-Ok-clause-some : goal.returns-in-Ok-clause-some
returns-in-Ok-clause-some g c =
    lists_missing g.H.TreeHash.digest
    (string_bytes c.self.inside.origin) c.self.inside.kept.items c.self.inside.strings c.self.inside.known.remembered
    c.self.invariant.0 c.args.self.now c.self.view_is c.args.size c.args.root.now
    c.in-Ok.paths.items c.in-Ok.ensures.sorted c.in-Ok.ensures.exact
