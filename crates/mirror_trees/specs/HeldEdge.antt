-- The right edge of a tree (C2SP tlog-tiles, "Merkle Tree"): rows of hashes that lead to its root, and all their joins
-- are held. Only the contracts of private functions cite these words.
use Rattle.std.specs.Prelude.{◌≡◌, ◌⊎◌, ℕ, zero, suc, ◌+◌, ◌-◌, ◌<◌, List, [], ◌∷◌, ◌++◌, length}
use Rattle.std.specs.List.{AllByRecursion}
use Rattle.tlog_hash.specs.Tree.{fold_of, joins}
use Rattle.node_store.specs.Strings.{Strings, HasAll}
use Rattle.mirror_model.specs.Edge.{root_from, strings_from, edge_root, edge_strings}
use Rattle.tlog_shape.specs.Edge.{width_of}

-- the rows have the widths of a tree's partial tiles, for that number of levels from one level up, lowest first. The
-- tree has n entries; a level of width 0 has no row
abbrev pub AreEdgeRows : ℕ → ℕ → ℕ → List (List (List ℕ)) → Type 0
AreEdgeRows n zero level rows = rows ≡ []
AreEdgeRows n (suc levels) level rows =
    ((width_of n level ≡ 0) × AreEdgeRows n levels (level + 1) rows)
    ⊎ ((row : List (List ℕ)) × (rest : List (List (List ℕ))) × (rows ≡ row ∷ rest) × (0 < width_of n level)
    × (length row ≡ width_of n level) × AllByRecursion (λ (h : List ℕ). length h ≡ 32) row
    × AreEdgeRows n levels (level + 1) rest)

module _ (digest : List ℕ → List ℕ) (held : Strings) where
  -- a row of that number of hashes, with this last one, folds to that hash, and its joins are held
  pub record HasRow (count : ℕ) (hash last : List ℕ) : Type 0 where
    pub front : List (List ℕ)
    pub count_is : length front + 1 ≡ count
    pub hashes : AllByRecursion (λ (h : List ℕ). length h ≡ 32) (front ++ last ∷ [])
    pub fold_is : fold_of digest (front ++ last ∷ []) ≡ hash
    pub are_held : HasAll held (joins digest (front ++ last ∷ []))

  -- rows of the right edge of that size, from a level up, lead from the value to the root, and the strings that are
  -- hashed are held
  pub record LeadsUp (size level : ℕ) (root value : List ℕ) : Type 0 where
    pub rows : List (List (List ℕ))
    pub fit : AreEdgeRows size (8 - level) level rows
    pub value_len : length value ≡ 32
    pub root_is : root_from digest value rows ≡ root
    pub are_held : HasAll held (strings_from digest value rows)

  -- rows of the right edge of that size, from a level up, lead to the root by themselves
  pub record HoldsEdgeFrom (size level : ℕ) (root : List ℕ) : Type 0 where
    pub rows : List (List (List ℕ))
    pub fit : AreEdgeRows size (8 - level) level rows
    pub root_is : edge_root digest rows ≡ root
    pub are_held : HasAll held (edge_strings digest rows)
