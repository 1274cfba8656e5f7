-- The keys of a key file, as it is now.
use Rattle.std.specs.Prelude.{ℕ, List, Option, ⊤}
use Rattle.signed_note.specs.KeyFiles.{IsBadLine, IsKeyFile}
use Rattle.signed_note.specs.Verifiers.{JoinsPins}
use Rattle.signed_note.specs.declared.key_line.KeyLine.{KeyLine}
use Rattle.program_io.specs.Named.{HasContents, NamedFile, RecordsNoShort}
use Rattle.program_copies.specs.declared.keys.KeysFault.{KeysFault}
use Rattle.program_copies.specs.declared.keys.KeysFault.TheVariants.{FileFault, BadKeyLine, OutOfMemory}

-- the file of that name has these keys, one for all pins of a name and an id
pub record AreFileKeys (printed : Option (List NamedFile)) (name : List ℕ) (keys : List KeyLine) : Type 0 where
  pub bytes : List ℕ
  pub has : HasContents printed name bytes
  pub lines : List KeyLine
  pub are_lines : IsKeyFile bytes lines
  pub joins : JoinsPins lines keys

-- why the keys of the file of that name could not be read
abbrev pub FailsFileKeys : Option (List NamedFile) → List ℕ → KeysFault → Type 0
FailsFileKeys printed name FileFault = RecordsNoShort printed name
FailsFileKeys printed name (BadKeyLine number) = (bytes : List ℕ) × HasContents printed name bytes × IsBadLine bytes number
FailsFileKeys printed name OutOfMemory = ⊤
