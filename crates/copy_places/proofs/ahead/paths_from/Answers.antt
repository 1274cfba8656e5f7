use Rattle.std.proofs.Common.{All, refl, subst, sym}
use Rattle.std.proofs.lemmas.List.Elements.{All-push}
use Rattle.tlog_tiles.specs.declared.paths.Path.TheVariants.{Entries}
use Rattle.copy_places.specs.Hints.{IsHinted}
use Rattle.copy_places.proofs.ahead.paths_from.Goals as goal

-- src/ahead.rt:39:5
pub loop-index-preserved : goal.loop-index-preserved
loop-index-preserved c =
    c.in_ok-push_tiles.ensures
    (subst (All IsHinted) (sym c.in_ok-push.ensures.items) (All-push IsHinted c.loop-index.paths.items (Entries c.loop-index.index 256) c.loop-index.invariant refl))
