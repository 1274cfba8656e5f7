-- A store to which strings of a list were added, some or all.
use Rattle.std.specs.Prelude.{◌⊎◌, ℕ, List}
use Rattle.std.specs.List.{Contains}
use Rattle.node_store.specs.Strings.{Strings, Has}

-- the store has all its earlier strings, and the others are strings of the list
pub record HasGained (old : Strings) (list : List (List ℕ)) (new : Strings) : Type 0 where
  pub at_least : (s : List ℕ) → Has old s → Has new s
  pub at_most : (s : List ℕ) → Has new s → Has old s ⊎ Contains list s
