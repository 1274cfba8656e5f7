-- The command `entries`: the meaning of each answer for the state file and the output.
use Rattle.std.specs.Prelude.{◌≡◌, ℕ, List, Result, Ok, Err}
use Rattle.std.specs.Io.KnownBytes.{Keeps}
use Rattle.signed_note.specs.Keys.{Key}
use Rattle.mirror_model.specs.View.{View}
use Rattle.program_copies.specs.Served.{AnswersServed}
use Rattle.program_copies.specs.declared.entries_fault.StateEntriesFault.{StateEntriesFault}
use Rattle.program_io.specs.States.{OpensFile}
use Rattle.program_words.specs.declared.commands.entries.Entries.{Entries as EntriesWords}
use Rattle.program_io.specs.Moment.{Moment}
use Rattle.program_io.specs.Performing.{done, failed}
use Rattle.copy_commands.specs.declared.fault.ReportRunFault.{ReportRunFault}
use Rattle.copy_commands.specs.declared.fault.ReportRunFault.TheVariants.{State, StateEntries}

module _ (digest : List ℕ → List ℕ) (keys : List Key) (old new : Moment) where
  -- the state file gave a mirror, and the answer and the output belong to its entries
  abbrev pub WritesEntries : EntriesWords → Result (Unit {0}) StateEntriesFault → Type 0
  WritesEntries c answer =
      (v : View) × OpensFile digest c.mirror.log.origin.now keys old.files c.mirror.state.now (Ok v) ×
      AnswersServed digest v c.range.from c.range.to c.range.base64 old.output new.output answer

  abbrev pub DoesEntries : EntriesWords → Result ℕ ReportRunFault → Type 0
  DoesEntries c (Ok status) = WritesEntries c done × (status ≡ 0)
  DoesEntries c (Err (State fault)) =
      OpensFile digest c.mirror.log.origin.now keys old.files c.mirror.state.now (Err fault)
      × Keeps old.output new.output
  DoesEntries c (Err (StateEntries fault)) = WritesEntries c (failed fault)
  DoesEntries c (Err other) = ⊥
