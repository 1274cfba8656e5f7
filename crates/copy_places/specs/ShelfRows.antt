-- The edge rows on a shelf.
use Rattle.std.specs.Prelude.{ℕ, List, Option}
use Rattle.mirror_folders.specs.Partial.{IsReadPartial}
use Rattle.mirror_folders.specs.Shelf.{Put}
use Rattle.copy_places.specs.FoundRows.{AreFoundRows}
use Rattle.copy_places.specs.Mixes.{HaveNoMix}
use Rattle.copy_places.specs.declared.mix.GivenRows.{GivenRows}

-- the rows of the edge of n entries that are on the shelf do not lead to the root
pub record LacksEdge (digest : List ℕ → List ℕ) (n : ℕ) (root : List ℕ) (puts : Option (List Put)) : Type 0 where
  pub rows : GivenRows
  pub rows_are : AreFoundRows (IsReadPartial puts) n rows
  pub none : HaveNoMix digest n root rows rows
