-- Rounds of fetching: a round takes the true bytes of all paths of the front (C2SP tlog-tiles).
use Rattle.std.specs.Prelude.{ℕ, ◌*◌, ◌≤◌, List, [], ◌∷◌, ⊤}
use Rattle.tlog_hash.specs.Tree.{strings, joins}
use Rattle.tlog_hash.specs.Rows.{part, level_row}
use Rattle.tlog_tiles.specs.declared.paths.Path.{Path}
use Rattle.tlog_tiles.specs.declared.paths.Path.TheVariants.{Checkpoint, Tile, Entries}
use Rattle.node_store.specs.Strings.{Strings, Has, HasAll}
use Rattle.mirror_model.specs.Edge.{edge_rows, edge_strings}
use Rattle.mirror_model.specs.Front.{IsFront}

-- the last of the sets, or held if there are none
abbrev pub last_held : Strings → List Strings → Strings
last_held held [] = held
last_held held (after ∷ afters) = last_held after afters

module _ (digest : List ℕ → List ℕ) (entries : List (List ℕ)) where
  -- the strings of the true bytes of a path: the joins of a tile's row, or the strings that the
  -- tree hash of a bundle's entries hashes
  abbrev pub true_strings : Path → List (List ℕ)
  true_strings Checkpoint = []
  true_strings (Tile level index width) =
      joins digest (level_row digest entries level (256 * index) width)
  true_strings (Entries index width) = strings digest (part (256 * index) width entries)

  -- a round. The strings of the right edge are held before it. No string is lost. The strings of
  -- the true bytes of all paths of the front are held after it
  pub record IsRound (held after : Strings) : Type 0 where
    pub edge : HasAll held (edge_strings digest (edge_rows digest entries))
    pub grows : (string : List ℕ) → Has held string → Has after string
    pub taken : (path : Path) → IsFront digest held entries path → HasAll after (true_strings path)

  -- rounds in order
  abbrev pub AreRounds : Strings → List Strings → Type 0
  AreRounds held [] = ⊤
  AreRounds held (after ∷ afters) = IsRound held after × AreRounds after afters

  -- the front has no tile above that level
  abbrev pub AsksUpTo : Strings → ℕ → Type 0
  AsksUpTo held top =
      (level index width : ℕ) → IsFront digest held entries (Tile level index width) → level ≤ top

  -- the front has no tile
  abbrev pub AsksBundlesAlone : Strings → Type 0
  AsksBundlesAlone held =
      (level index width : ℕ) → ¬ IsFront digest held entries (Tile level index width)
