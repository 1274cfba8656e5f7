-- The files of a log in memory, and a source of them.
use Rattle.std.specs.Prelude.{◌≡◌, ◌⊎◌, ℕ, List, Contains, Option, Some, None}
use Rattle.tlog_tiles.specs.declared.paths.Path.{Path}
use Rattle.mirror_sources.specs.Source.{File}

-- the file of the path was read, and this was found
abbrev pub IsRead : List File → Path → Option (List ℕ) → Type 0
IsRead files path None = ⊥
IsRead files path (Some bytes) = Contains files (path, bytes)

-- one of the files has the path
pub record IsThere (files : List File) (path : Path) : Type 0 where
  pub bytes : List ℕ
  pub listed : Contains files (path, bytes)

-- a source of the files: the paths that were requested, oldest first, and the number of gets that failed
pub record Reading : Type 0 where
  pub files : List File
  pub asked : List Path
  pub failures : ℕ

-- a path was requested that none of the files has
pub record IsUnread (reading : Reading) : Type 0 where
  pub path : Path
  pub asked : Contains reading.asked path
  pub none : ¬ IsThere reading.files path

-- a get fails only so
abbrev pub FailsUnread : Reading → Type 0
FailsUnread reading = (reading.failures ≡ 0) ⊎ IsUnread reading
