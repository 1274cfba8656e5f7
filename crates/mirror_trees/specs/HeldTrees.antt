-- Trees of a store that are known beforehand.
use Rattle.std.specs.Prelude.{ℕ, List, IsTrue}
use Rattle.std.specs.FinSet.{contains}
use Rattle.node_store.specs.Strings.{Strings}
use Rattle.mirror_model.specs.Complete.{IsBuilt}
use Rattle.mirror_model.specs.Forks.{Point}
use Rattle.mirror_model.specs.Marks.{Points, State, IsSound}
use Rattle.mirror_trees.specs.declared.known.HeldTrees.{HeldTrees}

-- the set has that size and hash
abbrev pub HasMark : Points → Point → Type 0
HasMark points point = IsTrue (contains points point)

-- each size and root of the set is that of a held tree
pub record AreBuilt (digest : List ℕ → List ℕ) (held : Strings) (points : Points) : Type 0 where
  pub built : (size : ℕ) (root : List ℕ) →
      HasMark points (record { size = size; root = root }) → IsBuilt digest held size root

-- all trees that are known beforehand are held
pub record AreKnown (digest : List ℕ → List ℕ) (held : Strings) (known : HeldTrees) : Type 0 where
  pub remembered : AreBuilt digest held known.remembered
  pub built : AreBuilt digest held known.built

-- the trees that a sound mirror remembers are held
abbrev pub RememberedIsHeld : Type 0
RememberedIsHeld =
    (digest : List ℕ → List ℕ) (state : State) → IsSound digest state →
    AreBuilt digest state.view.strings state.remembered
