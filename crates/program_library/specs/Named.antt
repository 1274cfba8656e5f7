-- The name of the key file.
use Rattle.std.specs.Prelude.{ℕ, List, Option, Result, Ok, Err, ⊤}
use Rattle.program_library.specs.Runs.{no_name}
use Rattle.program_words.specs.LineReadings.{ReadsKeyFile}
use Rattle.program_library.specs.declared.fault.RunFault.{RunFault}
use Rattle.program_library.specs.declared.fault.RunFault.TheVariants.{Command, OutOfMemory}

-- the meaning of each answer of the finder of the key file's name for the words
abbrev pub NamesKeyFile : List (List ℕ) → Result (Option (List ℕ)) RunFault → Type 0
NamesKeyFile words (Ok name) = ReadsKeyFile words (Ok name)
NamesKeyFile words (Err (Command fault)) = ReadsKeyFile words (no_name fault)
NamesKeyFile words (Err OutOfMemory) = ⊤
NamesKeyFile words (Err other) = ⊥
