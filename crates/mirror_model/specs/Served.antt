-- The checkpoint that a mirror serves, and the tiles and bundles of its entries (C2SP tlog-tiles).
use Rattle.std.specs.Prelude.{◌≡◌, ℕ, ◌+◌, ◌≤◌, List, length, IsTrue}
use Rattle.std.specs.Ordering.{nat_cmp, is_le}
use Rattle.std.specs.Cmp.Lexicographic.{slice_cmp}
use Rattle.tlog_hash.specs.Tree.{mth}
use Rattle.tlog_hash.specs.Rows.{part}
use Rattle.tlog_tiles.specs.declared.paths.Path.{Path}
use Rattle.tlog_tiles.specs.declared.paths.Path.TheVariants.{Checkpoint, Tile, Entries}
use Rattle.tlog_tiles.specs.Tiles.{tile_bytes, bundle_bytes, IsTileWithin}
use Rattle.mirror_model.specs.View.{View}
use Rattle.mirror_model.specs.Heads.{HoldsHead}
use Rattle.mirror_model.specs.Complete.{IsTreeOf, IsBuilt}

-- first equals second, or comes before it in byte order
abbrev pub IsAtMost : List ℕ → List ℕ → Type 0
IsAtMost first second = IsTrue (is_le (slice_cmp nat_cmp first second))

module _ (digest : List ℕ → List ℕ) where
  -- the note is held, and its tree head is complete
  pub record IsCompleteNote (v : View) (note : List ℕ) (size : ℕ) (root : List ℕ) : Type 0 where
    pub holds : HoldsHead v note size root
    pub built : IsBuilt digest v.strings size root

  -- the note that a view serves, with its entries: among the notes with complete tree heads, the
  -- greatest size comes first, then the least root, then the least note by bytes
  pub record Served (v : View) (note : List ℕ) (size : ℕ) (root : List ℕ)
      (entries : List (List ℕ)) : Type 0 where
    pub holds : HoldsHead v note size root
    pub tree : IsTreeOf digest v.strings size root entries
    pub greatest_size :
        (other : List ℕ) (n : ℕ) (r : List ℕ) → IsCompleteNote v other n r → n ≤ size
    pub least_root : (other : List ℕ) (r : List ℕ) → IsCompleteNote v other size r → IsAtMost root r
    pub least_note : (other : List ℕ) → IsCompleteNote v other size root → IsAtMost note other

  -- the entries are those of the served note
  pub record IsServedList (v : View) (entries : List (List ℕ)) : Type 0 where
    pub note : List ℕ
    pub size : ℕ
    pub root : List ℕ
    pub served : Served v note size root entries

  -- the tree hash of len served entries from the entry start on: MTH(E[start .. start + len])
  pub record IsRangeHash (v : View) (start len : ℕ) (hash : List ℕ) : Type 0 where
    pub entries : List (List ℕ)
    pub served : IsServedList v entries
    pub within : start + len ≤ length entries
    pub hash_is : hash ≡ mth digest (part start len entries)

  -- the note is the served checkpoint
  pub record IsServedNote (v : View) (note : List ℕ) : Type 0 where
    pub size : ℕ
    pub root : List ℕ
    pub entries : List (List ℕ)
    pub served : Served v note size root entries

  -- the bytes of a tile of the served entries, if the tile is within them
  pub record IsServedTile (v : View) (level index width : ℕ) (bytes : List ℕ) : Type 0 where
    pub entries : List (List ℕ)
    pub served : IsServedList v entries
    pub within : IsTileWithin (length entries) level index width
    pub bytes_are : bytes ≡ tile_bytes digest entries level index width

  -- the bytes of a bundle of the served entries, if the bundle is within them. For 300 entries,
  -- `tile/entries/001.p/44` has the last 44, and all narrower bundles with that index are served
  -- too
  pub record IsServedBundle (v : View) (index width : ℕ) (bytes : List ℕ) : Type 0 where
    pub entries : List (List ℕ)
    pub served : IsServedList v entries
    pub within : IsTileWithin (length entries) 0 index width
    pub bytes_are : bytes ≡ bundle_bytes entries index width

  -- the reply to a path: the served note, or the file of the path within the served entries;
  -- without such bytes there is no reply
  abbrev pub Replies : View → Path → List ℕ → Type 0
  Replies v Checkpoint bytes = IsServedNote v bytes
  Replies v (Tile level index width) bytes = IsServedTile v level index width bytes
  Replies v (Entries index width) bytes = IsServedBundle v index width bytes
