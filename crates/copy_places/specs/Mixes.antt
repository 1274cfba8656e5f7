-- The edge rows that places give, and mixes of those of two places (C2SP tlog-tiles, "Merkle Tree").
use Rattle.std.specs.Prelude.{◌≡◌, ◌≢◌, ◌⊎◌, ℕ, ◌<◌, ◌≤◌, List, [], ◌∷◌, length, get_or, Option, Some, None, IfSome, option_map}
use Rattle.tlog_shape.specs.Edge.{width_of}
use Rattle.log_reader.specs.EdgeRows.{Edge, HasWidths, hash_of_edge, row_at}
use Rattle.log_reader.specs.Nodes.{hash_on_top}
use Rattle.copy_places.specs.declared.mix.GivenRows.{GivenRows}
use Rattle.copy_places.specs.declared.mix.TwoRows.{TwoRows}

-- the row that a place gave for a level. None: it gave none
abbrev pub given_at : GivenRows → ℕ → Option (List (List ℕ))
given_at given level = option_map (λ row. row.items) (get_or given.rows.items level None)

-- each row that was given has the width of its level in a tree of n entries
abbrev pub HaveWidths : ℕ → GivenRows → Type 0
HaveWidths n given = (level : ℕ) → level ≤ 7 → IfSome (given_at given level) (λ row. length row ≡ width_of n level)

-- the row of a level is that of the one place or of the other
abbrev pub IsOfEither : GivenRows → GivenRows → ℕ → List (List ℕ) → Type 0
IsOfEither first second level row = (given_at first level ≡ Some row) ⊎ (given_at second level ≡ Some row)

-- each row of the edge is
abbrev pub IsMixOf : GivenRows → GivenRows → Edge → Type 0
IsMixOf first second edge = (level : ℕ) → level ≤ 7 → IsOfEither first second level (row_at edge level)

-- no mix of the rows of two places leads to the root
pub record HaveNoMix (digest : List ℕ → List ℕ) (n : ℕ) (root : List ℕ) (first second : GivenRows) : Type 0 where
  pub none : (edge : Edge) → edge.size ≡ n → HasWidths edge → IsMixOf first second edge → hash_of_edge digest edge ≢ root

-- the edge is a mix of the rows of two of the places, which may be one place
pub record IsMixAmong (given : List GivenRows) (edge : Edge) : Type 0 where
  pub i : ℕ
  pub j : ℕ
  pub i_listed : i < length given
  pub j_listed : j < length given
  pub mix : (d : GivenRows) → IsMixOf (get_or given i d) (get_or given j d) edge

-- ---- only contracts of private functions cite what follows

-- the two rows are those that the two places gave for a level. If one of them gave none, both are that of the other
pub record AreTwoAt (first second : GivenRows) (level : ℕ) (two : TwoRows) : Type 0 where
  pub first_is : IsOfEither first second level two.first.items
  pub second_is : IsOfEither first second level two.second.items
  pub all : (row : List (List ℕ)) → IsOfEither first second level row → (row ≡ two.first.items) ⊎ (row ≡ two.second.items)

-- each row is that of the one place or of the other
abbrev pub IsMix : List TwoRows → List (List (List ℕ)) → Type 0
IsMix [] [] = Unit {0}
IsMix [] (row ∷ rows) = ⊥
IsMix (level ∷ levels) [] = ⊥
IsMix (level ∷ levels) (row ∷ rows) =
    ((row ≡ level.first.items) ⊎ (row ≡ level.second.items)) × IsMix levels rows

module _ (digest : List ℕ → List ℕ) where
  -- the hash that some rows lead to from the hash below them, the lowest level first. None if there are no hashes
  abbrev pub climb : Option (List ℕ) → List (List (List ℕ)) → Option (List ℕ)
  climb below [] = below
  climb below (row ∷ rows) = climb (hash_on_top digest below row) rows

  -- the tree hash: without rows, the digest of the empty string
  abbrev pub value_of : Option (List ℕ) → List ℕ
  value_of None = digest []
  value_of (Some value) = value

  -- the mix of the rows leads to the root
  pub record IsMixTo (levels : List TwoRows) (below : Option (List ℕ)) (root : List ℕ) (rows : List (List (List ℕ))) : Type 0 where
    pub mix : IsMix levels rows
    pub leads : value_of (climb below rows) ≡ root
