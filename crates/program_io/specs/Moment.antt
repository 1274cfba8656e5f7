-- The parts of a command's environment that contracts see, at one moment.
use Rattle.std.specs.Prelude.{ℕ, List, Option, None}
use Rattle.mirror_folders.specs.Shelf.{Put}
use Rattle.program_io.specs.Named.{NamedFile}

-- the puts of named files, what each folder held, the puts into the open folder, the remaining input, and the written
-- output; each is None if it is not recorded
pub record Moment : Type 0 where
  pub files : Option (List NamedFile)
  pub held : List ℕ → Option (List Put)
  pub puts : Option (List Put)
  pub input : Option (List ℕ)
  pub output : Option (List ℕ)

-- a moment over the files and folders of the system, which record nothing
abbrev pub on_system : Option (List ℕ) → Option (List ℕ) → Moment
on_system input output =
    record { files = None; held = λ name. None; puts = None; input = input; output = output }

-- a moment of separate files, folders and streams
abbrev pub seen_of : {F D : Type 0} → (F → Option (List NamedFile)) → (D → List ℕ → Option (List Put)) →
    (D → Option (List Put)) → F → D → Option (List ℕ) → Option (List ℕ) → Moment
seen_of files held puts f d input output =
    record { files = files f; held = held d; puts = puts d; input = input; output = output }
