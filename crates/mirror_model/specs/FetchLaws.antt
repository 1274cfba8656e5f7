-- Laws for fetching a log from its files (C2SP tlog-tiles).
use Rattle.std.specs.Prelude.{◌≡◌, ◌⊎◌, ℕ, ◌+◌, ◌*◌, ◌^◌, ◌<◌, ◌≤◌, List, length, take}
use Rattle.std.specs.List.{Contains}
use Rattle.std.specs.FinSet as set
use Rattle.tlog_hash.specs.Tree.{mth, strings}
use Rattle.tlog_tiles.specs.declared.paths.Path.{Path}
use Rattle.tlog_tiles.specs.declared.paths.Path.TheVariants.{Entries}
use Rattle.tlog_tiles.specs.Tiles.{tile_bytes, IsWithin}
use Rattle.node_store.specs.Strings.{Strings, Has, HasAll, NoClash}
use Rattle.mirror_model.specs.View.{View}
use Rattle.mirror_model.specs.Edge.{edge_rows, edge_strings}
use Rattle.mirror_model.specs.Front.{IsFront}
use Rattle.mirror_model.specs.Rounds.{true_strings}
use Rattle.mirror_model.specs.Heads.{HasHead}
use Rattle.mirror_model.specs.Complete.{IsLawful}
use Rattle.mirror_model.specs.Walk.{IsMissing}
use Rattle.mirror_model.specs.declared.items.Item.{Item}
use Rattle.mirror_model.specs.Item.{notes_of, strings_of, plus}
use Rattle.mirror_model.specs.TrueLaws.{IsWidest}
use Rattle.mirror_model.specs.Listed.{ListsMissing, ListsFront}
use Rattle.mirror_model.specs.Strings.{IsDigest}

-- the first hashes of a full tile are the partial tile with the same level and index
abbrev pub FullTileBeginsWithPartial : Type 0
FullTileBeginsWithPartial =
    (digest : List ℕ → List ℕ) →
    IsDigest digest →
    (entries : List (List ℕ)) (level index width : ℕ) →
    width ≤ 256 →
    take (32 * width) (tile_bytes digest entries level index 256)
    ≡ tile_bytes digest entries level index width

-- the strings of the last, partial bundle of the first entries are strings of the full bundle of
-- all entries, or of the right edge of the first entries
abbrev pub FullBundleServesPartial : Type 0
FullBundleServesPartial =
    (digest : List ℕ → List ℕ) (entries : List (List ℕ)) (size index width : ℕ) →
    size ≤ length entries →
    256 * index + width ≡ size →
    1 ≤ width →
    width < 256 →
    256 * index + 256 ≤ length entries →
    (y : List ℕ) →
    Contains (true_strings digest (take size entries) (Entries index width)) y →
    Contains (true_strings digest entries (Entries index 256)) y
    ⊎ Contains (edge_strings digest (edge_rows digest (take size entries))) y

-- if the strings of the right edge are held, a path is in no front when all strings of its true
-- bytes are held; so it is not requested again
abbrev pub AnsweredIsNotAgain : Type 0
AnsweredIsNotAgain =
    (digest : List ℕ → List ℕ) (held : Strings) (entries : List (List ℕ)) →
    length entries ≤ 256 ^ 8 →
    HasAll held (edge_strings digest (edge_rows digest entries)) →
    (path : Path) →
    HasAll held (true_strings digest entries path) →
    IsFront digest held entries path →
    ⊥

-- the list of missing paths is the list of the front, if nothing collides
abbrev pub MissingIsFrontList : Type 0
MissingIsFrontList =
    (digest : List ℕ → List ℕ) →
    IsDigest digest →
    (v : View) (entries : List (List ℕ)) →
    NoClash digest (set.union v.strings (set.from_list (strings digest entries))) →
    (paths : List Path) →
    ListsMissing digest v (length entries) (mth digest entries) paths →
    ListsFront digest v entries paths

-- each missing path of a tree head of a lawful view is within the size, and is the widest with its
-- level and index
abbrev pub MissingIsWithin : Type 0
MissingIsWithin =
    (digest : List ℕ → List ℕ) →
    IsDigest digest →
    (v : View) →
    IsLawful digest v →
    (size : ℕ) (root : List ℕ) →
    HasHead v size root →
    (path : Path) →
    IsMissing digest v.strings size root path →
    IsWithin size path × IsWidest size path

-- a view with an item holds the strings and notes of the view and of the item
pub record IsPlus (digest : List ℕ → List ℕ) (v : View) (item : Item) (y : List ℕ) : Type 0 where
  pub string :
      Has (plus digest v item).strings y → Has v.strings y ⊎ Contains (strings_of digest item) y
  pub string_held :
      Has v.strings y ⊎ Contains (strings_of digest item) y → Has (plus digest v item).strings y
  pub note : Has (plus digest v item).notes y → Has v.notes y ⊎ Contains (notes_of item) y
  pub note_held : Has v.notes y ⊎ Contains (notes_of item) y → Has (plus digest v item).notes y

-- a view with an item holds exactly the strings and notes of the view and of the item
abbrev pub PlusHoldsJustBoth : Type 0
PlusHoldsJustBoth =
    (digest : List ℕ → List ℕ) (v : View) (item : Item) (y : List ℕ) → IsPlus digest v item y
