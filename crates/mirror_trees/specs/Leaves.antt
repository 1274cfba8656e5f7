-- Leaf hashes and their held entries. Only the contracts of private functions cite these words.
use Rattle.std.specs.Prelude.{ℕ, List, [], ◌∷◌, ⊤}
use Rattle.node_store.specs.Strings.{Strings, IsHeldAt}

module _ (digest : List ℕ → List ℕ) (held : Strings) where
  -- the entries are those of the row's leaf hashes: for each hash the entry at the same place is held, and both lists
  -- have one length
  abbrev pub AreLeaves : List (List ℕ) → List (List ℕ) → Type 0
  AreLeaves [] [] = ⊤
  AreLeaves [] (entry ∷ entries) = ⊥
  AreLeaves (hash ∷ row) [] = ⊥
  AreLeaves (hash ∷ row) (entry ∷ entries) =
      IsHeldAt digest held hash (0 ∷ entry) × AreLeaves row entries
