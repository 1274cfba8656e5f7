-- The files of a log in a folder: the path of each, its greatest length, and when it is missing.
use Rattle.std.specs.Prelude.{◌≡◌, ◌≢◌, ◌⊎◌, ℕ, List, [], ◌∷◌, ◌++◌}
use Rattle.std.specs.IoError.{error_kind}
use Rattle.std.specs.declared.io.Error.{Error}
use Rattle.std.specs.declared.io.ErrorKind.TheVariants.{NotFound, NotADirectory}
use Rattle.tlog_tiles.specs.declared.paths.Path.{Path}
use Rattle.tlog_tiles.specs.Path.{path_text}

-- the path of a log's file in the folder: the folder's name, a slash, and the text of the path in the log. A folder
-- whose name is empty has no files: the text would name a file of the root folder
pub record LiesAt (folder : List ℕ) (path : Path) (place : List ℕ) : Type 0 where
  pub named : folder ≢ []
  pub place_is : place ≡ folder ++ 47 ∷ path_text path

-- the number of bytes of the longest file of a log, a full bundle of entries of 65,535 bytes: 256 times 65,537
abbrev pub longest_file : ℕ
longest_file = 16_777_472

-- the error of the system says that there is no file at a path, or that a plain file blocks the way to it
abbrev pub SaysMissing : Error → Type 0
SaysMissing e = (error_kind e ≡ NotFound) ⊎ (error_kind e ≡ NotADirectory)

-- a folder as a source: the bytes of its path, and the number of gets that failed
pub record FolderSource : Type 0 where
  pub folder : List ℕ
  pub failures : ℕ
