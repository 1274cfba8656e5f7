use Rattle.std.proofs.Common.{sym, ◌∙◌}
use Rattle.std.specs.Prelude.{string_bytes}
use Rattle.tlog_mirror.proofs.KnownTrees.{all_known}
use Rattle.tlog_mirror.proofs.ServedNotes.{found_complete, no_head}
use Rattle.tlog_mirror.proofs.mirror.Mirror.is_complete.Goals as goal

pub is_built-requires : goal.is_built-requires
is_built-requires g c = all_known g.H.TreeHash.digest _ _ _ c.self.inside.known c.self.invariant

pub returns-then-is_some : goal.returns-then-is_some
returns-then-is_some g c =
    found_complete g.H.TreeHash.digest
    (string_bytes c.self.inside.origin) c.self.inside.kept.items c.self.inside.strings c.self.inside.known.remembered
    c.self.invariant.0 c.args.self.now c.self.view_is c.args.size c.args.root.now
    c.first_with.result c.is_built.result (sym c.is_some.ensures ∙ c.if-is_some.true)
    (rw c.as_slice.ensures.value at c.first_with.ensures.some) c.is_built.ensures

pub returns-else-is_some : goal.returns-else-is_some
returns-else-is_some g c =
    no_head g.H.TreeHash.digest
    (string_bytes c.self.inside.origin) c.self.inside.kept.items c.self.inside.strings c.self.inside.known.remembered
    c.self.invariant.0 c.args.self.now c.self.view_is c.args.size c.args.root.now
    c.first_with.result c.is_some.result c.is_some.ensures c.if-is_some.false
    (rw c.as_slice.ensures.value at c.first_with.ensures.none)
