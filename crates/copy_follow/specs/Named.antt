-- The damaged files that a repair names.
use Rattle.std.specs.Prelude.{◌≡◌, ◌⊎◌, ℕ, All, List, [], ◌∷◌, ◌++◌, Option, IsTrue}
use Rattle.tlog_tiles.specs.declared.paths.Path.{Path}
use Rattle.mirror_sources.specs.Honest.{true_bytes}
use Rattle.mirror_folders.specs.Shelf.{Put, RecordsNone}
use Rattle.mirror_folders.specs.declared.damaged.DamagedFile.{DamagedFile}
use Rattle.copy_follow.specs.Lacked.{IsRecorded}

module _ (digest : List ℕ → List ℕ) (log : List (List ℕ)) (before : Option (List Put)) where
  -- the shelf did not have the true file at the beginning. If the file is named as missing, it had none
  pub record IsDamagedFile (file : DamagedFile) : Type 0 where
    pub damaged : ¬ IsRecorded before file.path (true_bytes digest log file.path)
    pub missing : IsTrue file.is_missing → RecordsNone before file.path

  -- each file that was added to the list is such a file
  pub record NamesDamaged (old new : List DamagedFile) : Type 0 where
    pub more : List DamagedFile
    pub new_is : new ≡ old ++ more
    pub are_damaged : All IsDamagedFile more

-- ---- only contracts of private functions cite what follows

-- the file was added to the list, or the list was full
abbrev pub AddsNamed : List DamagedFile → List DamagedFile → DamagedFile → Type 0
AddsNamed old new file = (new ≡ old) ⊎ (new ≡ old ++ file ∷ [])

-- the shelf has no such file at the path
pub record IsDamagedAt (puts : Option (List Put)) (path : Path) (bytes : List ℕ) (file : DamagedFile) : Type 0 where
  pub path_is : file.path ≡ path
  pub damaged : ¬ IsRecorded puts path bytes
  pub missing : IsTrue file.is_missing → RecordsNone puts path

-- nothing was added to the list, or such a file
abbrev pub NamesAt : Option (List Put) → Path → List ℕ → List DamagedFile → List DamagedFile → Type 0
NamesAt puts path bytes old new =
    (new ≡ old) ⊎ ((file : DamagedFile) × IsDamagedAt puts path bytes file × (new ≡ old ++ file ∷ []))

-- nothing was added to the list, or a file at the path, which is named as missing only if the shelf has none
abbrev pub NamesLack : Option (List Put) → Path → List DamagedFile → List DamagedFile → Type 0
NamesLack puts path old new =
    (new ≡ old)
    ⊎ ((file : DamagedFile) × (file.path ≡ path) × (IsTrue file.is_missing → RecordsNone puts path)
    × (new ≡ old ++ file ∷ []))
