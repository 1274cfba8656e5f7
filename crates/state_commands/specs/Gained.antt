-- The number of notes and strings in a mirror, to find out whether it gained any.
use Rattle.std.specs.Prelude.{◌≡◌}
use Rattle.std.specs.FinSet as set
use Rattle.mirror_model.specs.View.{View}
use Rattle.state_commands.specs.declared.gained.HeldCounts.{HeldCounts}

-- the view holds this number of notes and of strings
pub record IsHolding (v : View) (holding : HeldCounts) : Type 0 where
  pub notes : holding.notes ≡ set.len v.notes
  pub strings : holding.strings ≡ set.len v.strings
