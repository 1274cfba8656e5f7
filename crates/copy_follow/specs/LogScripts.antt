-- The script of a log has all its files. A place with this script is honest, whatever the scripts of the other places have.
use Rattle.std.specs.Prelude.{◌≡◌, ◌⊎◌, ℕ, ◌+◌, ◌*◌, ◌^◌, ◌<◌, ◌≤◌, Contains, List, [], ◌∷◌, ◌==◌, get_or, if◌then◌else◌, length, map, nat_le, take, Option, Some, None}
use Rattle.std.specs.List.{flat_map, range_with_len}
use Rattle.tlog_tiles.specs.declared.paths.Path.{Path}
use Rattle.tlog_tiles.specs.declared.paths.Path.TheVariants.{Checkpoint, Tile, Entries}
use Rattle.tlog_tiles.specs.Tiles.{IsWithin}
use Rattle.mirror_model.specs.TrueLaws.{AreShort}
use Rattle.mirror_sources.specs.Honest.{true_bytes}
use Rattle.mirror_sources.specs.Source.{File}
use Rattle.mirror_folders.specs.Shelf.{HasPut, Put}
use Rattle.copy_places.specs.declared.place.Place.{Place}
use Rattle.copy_places.specs.declared.places.Places.{Places}
use Rattle.copy_follow.specs.Scripted.{AreFilesClear, IsHonestAndClear, all_files}

-- the answers of a place with that script: each file that it has at the path, or that there is none, if it has none there
abbrev pub MayByScript : List File → Path → Option (List ℕ) → Type 0
MayByScript script path None = ¬ HasPut script path
MayByScript script path (Some bytes) = Contains script (path, bytes)

-- the tile of that level, index and width and, for level 0, the bundle, if n entries determine them
abbrev pub paths_at : ℕ → ℕ → ℕ → ℕ → List Path
paths_at n level index width =
    if nat_le ((256 * index + width) * 256 ^ level) n then
    Tile level index width ∷ (if level == 0 then Entries index width ∷ [] else [])
    else []

-- the paths of all tiles and bundles that n entries determine
unfoldable pub paths_within : ℕ → List Path
paths_within n =
    flat_map
    (λ level. flat_map (λ index. flat_map (λ width. paths_at n level index width) (range_with_len 1 256)) (range_with_len 0 n))
    (range_with_len 0 8)

-- the checkpoint's note, and each of these files with its true bytes
unfoldable pub script_of_log : (List ℕ → List ℕ) → List (List ℕ) → List ℕ → List File
script_of_log digest entries note =
    (Checkpoint, note) ∷ map (λ path. (path, true_bytes digest entries path)) (paths_within (length entries))

-- the bytes are the note, or those of a file that the entries determine
abbrev pub IsFileOfLog : (List ℕ → List ℕ) → List (List ℕ) → List ℕ → Path → List ℕ → Type 0
IsFileOfLog digest entries note path bytes =
    ((path ≡ Checkpoint) × (bytes ≡ note)) ⊎ (IsWithin (length entries) path × (bytes ≡ true_bytes digest entries path))

-- the script of a log has each such file, so what an honest source of a list of entries may give is in it
abbrev pub LogScriptsAreWhole : Type 0
LogScriptsAreWhole =
    (digest : List ℕ → List ℕ) (entries : List (List ℕ)) (note : List ℕ) (path : Path) (bytes : List ℕ) →
    IsFileOfLog digest entries note path bytes → Contains (script_of_log digest entries note) (path, bytes)

-- one of the places has the script of a log of the entries. It did not fail, and was not given up
pub record HasLogScript (digest : List ℕ → List ℕ) (entries : List (List ℕ)) (old new : Places (List File)) : Type 0 where
  pub note : List ℕ
  pub none : Place (List File)
  pub index : ℕ
  pub listed : index < length old.list.items
  pub script : (get_or old.list.items index none).source ≡ script_of_log digest entries note
  pub asked : (get_or old.list.items index none).failures < 8
  pub answers : (get_or new.list.items index none).failures ≡ (get_or old.list.items index none).failures

-- each place answers by a script. One has the script of a log of the entries, and the others have any scripts, so they may lie. If no two
-- different strings of the tree of the first entries, and of what the files on the shelf and in the scripts lead to, share a digest, the
-- place is honest, and nothing that may be taken clashes
abbrev pub LogScriptsSuffice : Type 0
LogScriptsSuffice =
    (digest : List ℕ → List ℕ) (entries : List (List ℕ)) → AreShort entries → (size : ℕ) → size ≤ length entries →
    (old new : Places (List File)) → HasLogScript digest entries old new → (held : List Put) →
    AreFilesClear digest (take size entries) (all_files held (map (λ place. place.source) old.list.items)) →
    IsHonestAndClear digest MayByScript held old new entries size
