-- Items: their validity, and the strings and notes that they add to a view (C2SP tlog-tiles,
-- "Merkle Tree", "Log Entries" and "Checkpoints"). An item has its bytes as they were received.
use Rattle.std.specs.Prelude.{◌≡◌, ℕ, zero, suc, ◌*◌, ◌/◌, ◌≤◌, List, [], ◌∷◌, length, take, drop}
use Rattle.std.specs.Prelude.{map}
use Rattle.std.specs.Int.{w16, from_be_bytes}
use Rattle.std.specs.FinSet as set
use Rattle.tlog_hash.specs.Tree.{joins, strings}
use Rattle.tlog_hash.specs.Rows.{ranges}
use Rattle.tlog_tiles.specs.Bundle.{IsBundle}
use Rattle.signed_note.specs.Keys.{Key}
use Rattle.mirror_model.specs.declared.items.Item.{Item}
use Rattle.mirror_model.specs.declared.items.Item.TheVariants.{Head, Tile, Bundle}
use Rattle.mirror_model.specs.View.{View}
use Rattle.mirror_model.specs.Edge.{edge_widths, edge_root, edge_strings}
use Rattle.mirror_model.specs.Heads.{IsOpenHead}

-- the hashes of a row's bytes, 32 bytes each
abbrev pub row_of : List ℕ → List (List ℕ)
row_of bytes = ranges 32 0 (length bytes / 32) bytes

-- the entries of the bytes of a bundle of that width; each entry follows its length of two bytes,
-- big-endian
abbrev pub entries_of : ℕ → List ℕ → List (List ℕ)
entries_of zero bytes = []
entries_of (suc width) [] = []
entries_of (suc width) (high ∷ []) = []
entries_of (suc width) (high ∷ low ∷ rest) =
    let len =
    from_be_bytes w16 (high ∷ low ∷ []) in take len rest ∷ entries_of width (drop len rest)

-- the width is possible for a tile or bundle: 1 to 256
pub record IsWidth (width : ℕ) : Type 0 where
  pub some : 1 ≤ width
  pub most : width ≤ 256

-- the tile is valid: its width is the number of its hashes
pub record IsGoodTile (width : ℕ) (bytes : List ℕ) : Type 0 where
  pub is_width : IsWidth width
  pub length_is : length bytes ≡ 32 * width

-- the bundle is valid: its bytes are width entries
pub record IsGoodBundle (width : ℕ) (bytes : List ℕ) : Type 0 where
  pub is_width : IsWidth width
  pub entries : List (List ℕ)
  pub is_bundle : IsBundle width bytes entries

-- the notes that an item adds
abbrev pub notes_of : Item → List (List ℕ)
notes_of (Head note edge) = note ∷ []
notes_of (Tile width bytes) = []
notes_of (Bundle width bytes) = []

module _ (digest : List ℕ → List ℕ) where
  -- the rows have the number and the widths of the right edge of that size, and lead to the root
  pub record HasEdgeRows (size : ℕ) (root : List ℕ) (rows : List (List ℕ)) : Type 0 where
    pub widths : map length rows ≡ map (λ width. 32 * width) (edge_widths size)
    pub root_is : edge_root digest (map row_of rows) ≡ root

  -- the tree head is valid: its note opens, and the edge rows lead to its root
  pub record IsGoodHead (origin : List ℕ) (keys : List Key) (note : List ℕ)
      (rows : List (List ℕ)) : Type 0 where
    pub size : ℕ
    pub root : List ℕ
    pub is_head : IsOpenHead note origin keys size root
    pub has_edge : HasEdgeRows size root rows

  -- the item is valid: a mirror of that origin with these keys may take it, whatever the mirror
  -- holds
  abbrev pub IsGood : List ℕ → List Key → Item → Type 0
  IsGood origin keys (Head note edge) = IsGoodHead origin keys note edge
  IsGood origin keys (Tile width bytes) = IsGoodTile width bytes
  IsGood origin keys (Bundle width bytes) = IsGoodBundle width bytes

  -- the strings of an item: those that are hashed for it
  abbrev pub strings_of : Item → List (List ℕ)
  strings_of (Head note edge) = edge_strings digest (map row_of edge)
  strings_of (Tile width bytes) = joins digest (row_of bytes)
  strings_of (Bundle width bytes) = strings digest (entries_of width bytes)

  -- the view with the note and the strings of the item
  abbrev pub plus : View → Item → View
  plus v item =
      record {
        origin = v.origin;
        notes = set.union v.notes (set.from_list (notes_of item));
        strings = set.union v.strings (set.from_list (strings_of item));
      }
