use Rattle.std.proofs.Common.{None, subst}
use Rattle.std.specs.Prelude.{string_bytes, Some}
use Rattle.tlog_mirror.proofs.KnownTrees.{all_known}
use Rattle.mirror_trees.specs.Best.{IsBestOf}
use Rattle.tlog_mirror.proofs.ServedNotes.{first_served, none_served}
use Rattle.tlog_mirror.proofs.mirror.Mirror.found_note.Goals as goal

pub best_of-requires : goal.best_of-requires
best_of-requires g c = all_known g.H.TreeHash.digest _ _ _ c.self.inside.known c.self.invariant

pub returns-in_default-clause-none : goal.returns-in_default-clause-none
returns-in_default-clause-none g c =
    none_served g.H.TreeHash.digest
    (string_bytes c.self.inside.origin) c.self.inside.kept.items c.self.inside.strings c.self.inside.known.remembered
    c.self.invariant.0 c.args.self.now c.self.view_is
    (subst (λ kept. IsBestOf g.H.TreeHash.digest c.self.inside.strings kept None)
    c.as_slice.ensures.value c.in_default.ensures)

pub returns-clause-some : goal.returns-clause-some
returns-clause-some g c =
    first_served g.H.TreeHash.digest
    (string_bytes c.self.inside.origin) c.self.inside.kept.items c.self.inside.strings c.self.inside.known.remembered
    c.self.invariant.0 c.args.self.now c.self.view_is
    c.in-Some.best c.first_with.result
    (subst (λ kept. IsBestOf g.H.TreeHash.digest c.self.inside.strings kept
    (Some c.in-Some.best)) c.as_slice.ensures.value c.in-Some.ensures)
    (rw c.as_slice-2.ensures.value at c.first_with.ensures.some)
