-- The list of the commands: what each does, and what it leaves.
use Rattle.std.specs.Prelude.{ℕ, List, Result}
use Rattle.signed_note.specs.Keys.{Key}
use Rattle.program_words.specs.declared.commands.PlaceCommand.{PlaceCommand}
use Rattle.program_words.specs.declared.commands.PlaceCommand.TheVariants as command
use Rattle.program_io.specs.Moment.{Moment}
use Rattle.program_io.specs.Performing.{MayLeave, Performs, Stays}
use Rattle.program_io.specs.Places.{World}
use Rattle.copy_commands.specs.Audit.{DoesAudit}
use Rattle.copy_commands.specs.Follow.{DoesFollow}
use Rattle.copy_commands.specs.PlaceFaults.{IsLate}
use Rattle.copy_commands.specs.declared.place_fault.PlaceRunFault.{PlaceRunFault}

module _ (world : World) (digest : List ℕ → List ℕ) (keys : List Key) (old new : Moment) where
  abbrev pub ExecutesPlace : PlaceCommand → Result ℕ PlaceRunFault → Type 0
  ExecutesPlace (command.Follow c) = Performs (DoesFollow world) IsLate MayLeave digest keys old new c
  ExecutesPlace (command.Audit c) = Performs (DoesAudit world) IsLate Stays digest keys old new c
