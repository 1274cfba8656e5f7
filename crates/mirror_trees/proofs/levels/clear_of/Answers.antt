use Rattle.std.proofs.Common.{sym, subst}
use Rattle.mirror_trees.specs.Levels.{AreClear}
use Rattle.mirror_trees.proofs.LevelSteps.{empty_clear}
use Rattle.mirror_trees.proofs.levels.clear_of.Goals as goal
use Rattle.mirror_trees.proofs.levels.clear_of.Goals.{then-size-gt0+in_ok-note_clear, else-size-gt0}

pub note_clear-requires-clause-clear : goal.note_clear-requires-clause-clear
note_clear-requires-clause-clear g c =
    empty_clear c.args.level g.H.TreeHash.digest c.args.store.now c.new-clear.result c.new-clear.ensures

pub returns : goal.returns
returns g c =
    elim c.if-size-gt0.branch [
      | then-size-gt0+in_ok-note_clear w ↦
          subst (AreClear g.H.TreeHash.digest c.args.store.now c.args.level) (sym w.clear-is)
          w.in_ok-note_clear.ensures.clear
      | else-size-gt0 w ↦
          subst (AreClear g.H.TreeHash.digest c.args.store.now c.args.level) (sym w.clear-is)
          (empty_clear c.args.level g.H.TreeHash.digest c.args.store.now c.new-clear.result c.new-clear.ensures)
    ]
