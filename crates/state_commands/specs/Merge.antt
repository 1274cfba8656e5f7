-- The command `merge`: the meaning of each answer for the named files.
use Rattle.std.specs.Prelude.{◌≡◌, ℕ, List, Result, Ok, Err}
use Rattle.std.specs.Io.KnownBytes.{Keeps}
use Rattle.signed_note.specs.Keys.{Key}
use Rattle.program_io.specs.Performing.{done, failed}
use Rattle.state_commands.specs.Merges.{LeavesMerged}
use Rattle.state_commands.specs.declared.work_fault.MergeFilesFault.{MergeFilesFault}
use Rattle.program_words.specs.declared.commands.merge.Merge.{Merge as MergeWords}
use Rattle.program_io.specs.Moment.{Moment}
use Rattle.state_commands.specs.declared.fault.StateRunFault.{StateRunFault}
use Rattle.state_commands.specs.declared.fault.StateRunFault.TheVariants.{Merge}

module _ (digest : List ℕ → List ℕ) (keys : List Key) (old new : Moment) where
  -- the meaning of an answer of `merge` for the named files
  abbrev pub MergesTwo : MergeWords → Result (Unit {0}) MergeFilesFault → Type 0
  MergesTwo c answer =
      LeavesMerged digest c.mirror.log.origin.now keys old.files c.first.now c.second.now
      c.mirror.out.now new.files answer

  abbrev pub DoesMerge : MergeWords → Result ℕ StateRunFault → Type 0
  DoesMerge c (Ok status) = MergesTwo c done × Keeps old.output new.output × (status ≡ 0)
  DoesMerge c (Err (Merge fault)) = MergesTwo c (failed fault) × Keeps old.output new.output
  DoesMerge c (Err other) = ⊥
