-- The environment of a command, which borrows it. Only contracts of private functions cite `IsSameEnv`.
use Rattle.std.specs.Prelude.{◌≡◌, ℕ, List, Option}
use Rattle.mirror_folders.specs.Shelf.{Put}
use Rattle.program_io.specs.Named.{NamedFile}
use Rattle.tlog_tiles.specs.declared.paths.Path.{Path}
use Rattle.program_io.specs.Moment.{Moment}
use Rattle.program_io.specs.Places.{World, world_of}
use Rattle.program_io.specs.PlaceWords.{PlaceWords}
use Rattle.program_io.specs.declared.env.Env.{Env}

-- it still borrows the same streams, and opens the same places
abbrev pub IsSameEnv : {R F D P I O E : Type 0} → Env R F D P I O E → Env R F D P I O E → Type 0
IsSameEnv old new =
    (new.input.ghost_name ≡ old.input.ghost_name)
    × (new.output.ghost_name ≡ old.output.ghost_name)
    × (new.errors.ghost_name ≡ old.errors.ghost_name)
    × (new.places ≡ old.places)

-- the moment of an environment, from the models of its parts
abbrev pub moment : {R F D P I O E : Type 0} → (F → Option (List NamedFile)) →
    (D → List ℕ → Option (List Put)) → (D → Option (List Put)) → (I → Option (List ℕ)) →
    (O → Option (List ℕ)) → Env R F D P I O E → Moment
moment files held puts remaining contents env = record {
  files = files env.files;
  held = held env.folders;
  puts = puts env.folders;
  input = remaining env.input.now;
  output = contents env.output.now;
}

-- the places that an environment opens, from the models of its parts
abbrev pub world : {R F D P I O E S : Type 0} → (P → PlaceWords → S → Type 0) →
    (S → Path → Option (List ℕ) → Type 0) → (S → Option (List Path)) → (S → ℕ) →
    Env R F D P I O E → World
world at may asked failed env = world_of (at env.places) may asked failed
