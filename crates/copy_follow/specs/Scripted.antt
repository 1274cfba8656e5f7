-- Places that answer from scripts. One of them is honest, and the others may lie.
use Rattle.std.specs.Prelude.{◌≡◌, ◌⊎◌, ℕ, ◌<◌, ◌≤◌, Contains, List, [], ◌++◌, length, get_or, take, Option, Some}
use Rattle.std.specs.FinSet as set
use Rattle.std.specs.List.{flat_map}
use Rattle.tlog_hash.specs.Tree.{mth, strings}
use Rattle.tlog_tiles.specs.declared.paths.Path.{Path}
use Rattle.node_store.specs.Strings.{NoClash}
use Rattle.mirror_model.specs.Strings.{HasClash}
use Rattle.mirror_model.specs.TrueLaws.{AreShort}
use Rattle.mirror_sources.specs.Source.{File}
use Rattle.mirror_folders.specs.Shelf.{Put}
use Rattle.copy_places.specs.TruePlaces.{HasTruePlace}
use Rattle.copy_places.specs.declared.place.Place.{Place}
use Rattle.copy_places.specs.declared.places.Places.{Places}
use Rattle.copy_follow.specs.FileStrings.{strings_of_files}
use Rattle.copy_follow.specs.OneHonest.{IsHonestFor}
use Rattle.copy_follow.specs.Repaired.{IsClearLog}
use Rattle.copy_follow.specs.Taken.{MayTake}

-- a script is a list of files, with any bytes, and with several files for one path. Each place has a script, and each file that it may
-- give is in it. At any time it may also say that it has no file
pub record AnswerFromScripts {S : Type 0} (may : S → Path → Option (List ℕ) → Type 0) (places : Places S)
    (scripts : List (List File)) : Type 0 where
  pub count : length scripts ≡ length places.list.items
  pub each :
      (k : ℕ) → k < length places.list.items → (d : Place S) (path : Path) (bytes : List ℕ) →
      may (get_or places.list.items k d).source path (Some bytes) → Contains (get_or scripts k []) (path, bytes)

-- the files on the shelf, and those of the scripts
abbrev pub all_files : List Put → List (List File) → List File
all_files held scripts = held ++ flat_map (λ script. script) scripts

-- no two different strings of the tree of the log, and of the finitely many that the files lead to, share a digest
abbrev pub AreFilesClear : (List ℕ → List ℕ) → List (List ℕ) → List File → Type 0
AreFilesClear digest log files = NoClash digest (set.from_list (strings digest log ++ strings_of_files digest (length log) files))

module _ (digest : List ℕ → List ℕ) {S : Type 0} (may : S → Path → Option (List ℕ) → Type 0) (held : List Put) (old new : Places S) where
  -- one of the places is honest for the log, and no file or edge that may be taken clashes with its tree, as `follow` and a repair want it
  pub record IsHonestAndClear (entries : List (List ℕ)) (size : ℕ) : Type 0 where
    pub honest : IsHonestFor digest may (Some held) old new entries size (mth digest (take size entries))
    pub clear : IsClearLog digest (take size entries) (MayTake may old (Some held))

-- one place gives only true files of a log of the entries. The others give what their scripts have, so they may lie. If no two
-- different strings of the tree of the first entries, and of what the files on the shelf and in the scripts lead to, share a digest, the
-- place is honest, and nothing that may be taken clashes
abbrev pub ScriptsAreClear : {S : Type 0} → (S → Path → Option (List ℕ) → Type 0) → Type 0
ScriptsAreClear {S} may =
    (digest : List ℕ → List ℕ) (entries : List (List ℕ)) → AreShort entries → (size : ℕ) → size ≤ length entries →
    (old new : Places S) → HasTruePlace digest entries may old new → (scripts : List (List File)) → AnswerFromScripts may old scripts →
    (held : List Put) → AreFilesClear digest (take size entries) (all_files held scripts) →
    IsHonestAndClear digest may held old new entries size

-- either that holds of the files, or two different strings of these, which are finitely many, share a digest
abbrev pub FilesAreClearOrClash : Type 0
FilesAreClearOrClash =
    (digest : List ℕ → List ℕ) (log : List (List ℕ)) (files : List File) →
    AreFilesClear digest log files
    ⊎ HasClash digest (set.from_list (strings digest log ++ strings_of_files digest (length log) files))
