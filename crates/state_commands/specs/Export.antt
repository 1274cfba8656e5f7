-- The commands `export` and `export --update`: the meaning of each answer for the state file and the folder.
use Rattle.std.specs.Prelude.{◌≡◌, ℕ, List, Result, Ok, Err}
use Rattle.std.specs.Io.KnownBytes.{Keeps}
use Rattle.signed_note.specs.Keys.{Key}
use Rattle.program_io.specs.Performing.{done, failed}
use Rattle.state_commands.specs.Exported.{ExportsFile}
use Rattle.state_commands.specs.Updated.{UpdatesFile}
use Rattle.state_commands.specs.declared.work_fault.FolderFault.{FolderFault}
use Rattle.program_words.specs.declared.commands.export.Export.{Export as FolderWords}
use Rattle.program_io.specs.Moment.{Moment}
use Rattle.state_commands.specs.declared.fault.StateRunFault.{StateRunFault}
use Rattle.state_commands.specs.declared.fault.StateRunFault.TheVariants.{Export}

module _ (digest : List ℕ → List ℕ) (keys : List Key) (old new : Moment) where
  -- the meaning of an answer of `export` for the state file and the named folder
  abbrev pub ExportsOne : FolderWords → Result (Unit {0}) FolderFault → Type 0
  ExportsOne c answer =
      ExportsFile digest c.mirror.log.origin.now keys old.files c.mirror.state.now
      (old.held c.folder.now) old.puts new.puts answer

  abbrev pub DoesExport : FolderWords → Result ℕ StateRunFault → Type 0
  DoesExport c (Ok status) = ExportsOne c done × Keeps old.output new.output × (status ≡ 0)
  DoesExport c (Err (Export fault)) = ExportsOne c (failed fault) × Keeps old.output new.output
  DoesExport c (Err other) = ⊥

  -- the same for `export --update`
  abbrev pub UpdatesOne : FolderWords → Result (Unit {0}) FolderFault → Type 0
  UpdatesOne c answer =
      UpdatesFile digest c.mirror.log.origin.now keys old.files c.mirror.state.now
      (old.held c.folder.now) old.puts new.puts answer

  abbrev pub DoesUpdate : FolderWords → Result ℕ StateRunFault → Type 0
  DoesUpdate c (Ok status) = UpdatesOne c done × Keeps old.output new.output × (status ≡ 0)
  DoesUpdate c (Err (Export fault)) = UpdatesOne c (failed fault) × Keeps old.output new.output
  DoesUpdate c (Err other) = ⊥
