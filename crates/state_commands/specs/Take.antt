-- The command `take`: the meaning of each answer for the named files.
use Rattle.std.specs.Prelude.{◌≡◌, ℕ, List, ◌∷◌, map, Option, Result, Ok, Err}
use Rattle.std.specs.Io.KnownBytes.{Keeps}
use Rattle.std.specs.Prelude.{option_map}
use Rattle.signed_note.specs.Keys.{Key}
use Rattle.program_io.specs.Named.{NamedFile}
use Rattle.program_words.specs.declared.commands.take.Kind.{Kind}
use Rattle.program_words.specs.declared.commands.take.Kind.TheVariants as kind
use Rattle.program_words.specs.declared.commands.take.Take.{Take}
use Rattle.state_commands.specs.Takes.{LeavesTaken}
use Rattle.state_commands.specs.declared.item.ItemFiles.{ItemFiles}
use Rattle.state_commands.specs.declared.item.ItemFiles.TheVariants.{Head, Tile, Bundle}
use Rattle.state_commands.specs.declared.work_fault.TakeFilesFault.{TakeFilesFault}
use Rattle.program_io.specs.Performing.{done, failed}
use Rattle.program_io.specs.Moment.{Moment}
use Rattle.state_commands.specs.declared.fault.StateRunFault.{StateRunFault}
use Rattle.state_commands.specs.declared.fault.StateRunFault.TheVariants.{Take as TakeFault}

-- the file names of this kind give this item; a tile or a bundle has only the first name
abbrev pub AsksItem : Kind → ℕ → List (List ℕ) → ItemFiles → Type 0
AsksItem kind.Head width names (Head note rows) = names ≡ note.now ∷ map (λ row. row.now) rows.now
AsksItem kind.Tile width names (Tile size file) =
    (size ≡ width) × ((rest : List (List ℕ)) × (names ≡ file.now ∷ rest))
AsksItem kind.Bundle width names (Bundle size file) =
    (size ≡ width) × ((rest : List (List ℕ)) × (names ≡ file.now ∷ rest))
AsksItem other width names item = ⊥

-- the item from the named files was taken, and the state was written to the named file
abbrev pub TakesWords : {T : Type 0} → (List ℕ → List ℕ) → List Key → Take →
    Option (List NamedFile) → Option (List NamedFile) → Result T TakeFilesFault → Type 0
TakesWords digest keys take old new answer =
    (item : ItemFiles)
    × AsksItem take.kind take.width (map (λ name. name.now) take.files.items) item
    × LeavesTaken digest take.mirror.log.origin.now keys old
    (option_map (λ name. name.now) take.state) item take.mirror.out.now new answer

module _ (digest : List ℕ → List ℕ) (keys : List Key) (old new : Moment) where
  abbrev pub DoesTake : Take → Result ℕ StateRunFault → Type 0
  DoesTake c (Ok status) =
      TakesWords digest keys c old.files new.files done × Keeps old.output new.output × (status ≡ 0)
  DoesTake c (Err (TakeFault fault)) =
      TakesWords digest keys c old.files new.files (failed fault) × Keeps old.output new.output
  DoesTake c (Err other) = ⊥
