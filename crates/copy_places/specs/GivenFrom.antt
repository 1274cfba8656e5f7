-- The rows that a place gave for an edge: where they come from, and whether they are true. Only the contracts of private functions
-- cite it.
use Rattle.std.specs.Prelude.{◌≡◌, ℕ, ◌*◌, ◌≤◌, List, [], ◌∷◌, ◌++◌, length, Option, Some, IfSome}
use Rattle.tlog_shape.specs.Edge.{edge_index_of, width_of}
use Rattle.tlog_hash.specs.Rows.{level_row}
use Rattle.tlog_tiles.specs.declared.paths.Path.{Path}
use Rattle.copy_places.specs.Giving.{IsRowFrom}
use Rattle.copy_places.specs.Mixes.{given_at}
use Rattle.copy_places.specs.TrueAnswers.{OfTruePlace}
use Rattle.copy_places.specs.declared.mix.GivenRows.{GivenRows}
use Rattle.copy_places.specs.declared.places.Places.{Places}

-- each row comes from bytes that may be taken
abbrev pub AreRowsFrom : (Path → List ℕ → Type 0) → ℕ → GivenRows → Type 0
AreRowsFrom take n given = (level : ℕ) → level ≤ 7 → IfSome (given_at given level) (IsRowFrom take n level)

-- such rows were added to those of the places before
pub record AddsRows (take : Path → List ℕ → Type 0) (n : ℕ) (old new : List GivenRows) : Type 0 where
  pub given : GivenRows
  pub from : AreRowsFrom take n given
  pub new_is : new ≡ old ++ given ∷ []

-- a place that gives only true files gave the true row of each level
abbrev pub FindsTrueRows : {S : Type 0} → (S → Path → Option (List ℕ) → Type 0) → Places S → Places S → ℕ → ℕ → GivenRows → Type 0
FindsTrueRows may old new index n given = OfTruePlace may old new index (λ digest entries. n ≤ length entries →
    (level : ℕ) → level ≤ 7 →
    given_at given level ≡ Some (level_row digest entries level (256 * edge_index_of n level) (width_of n level)))
