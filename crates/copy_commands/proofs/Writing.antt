-- How `entries` ends, given the answer of its call.
use Rattle.std.proofs.Common.{◌≡◌, ℕ, List, Result, Ok, Err}
use Rattle.std.proofs.Common.{inl, refl}
use Rattle.std.specs.Io.KnownBytes.{Keeps}
use Rattle.std.specs.Result.{result_map_both}
use Rattle.signed_note.specs.Keys.{Key}
use Rattle.mirror_model.specs.View.{View}
use Rattle.program_io.specs.States.{OpensFile}
use Rattle.program_copies.specs.Served.{AnswersServed}
use Rattle.program_copies.specs.declared.entries_fault.StateEntriesFault.{StateEntriesFault}
use Rattle.program_copies.specs.declared.entries_fault.StateEntriesFault.TheVariants as entries
use Rattle.program_words.specs.declared.commands.entries.Entries.{Entries as EntriesWords}
use Rattle.copy_commands.specs.declared.fault.ReportRunFault.{ReportRunFault}
use Rattle.copy_commands.specs.declared.fault.ReportRunFault.TheVariants.{StateEntries}
use Rattle.copy_commands.specs.Faults.{IsLate}
use Rattle.program_io.specs.Moment.{Moment}
use Rattle.program_io.specs.Performing.{Performs, Stays}
use Rattle.copy_commands.specs.StateEntries.{DoesEntries}
use Rattle.program_io.proofs.Performing.{performs, performs_done}

module _ (digest : List ℕ → List ℕ) (keys : List Key) (old new : Moment) (c : EntriesWords)
    (files : new.files ≡ old.files) (folders : new.puts ≡ old.puts) (v : View)
    (opened : OpensFile digest c.mirror.log.origin.now keys old.files c.mirror.state.now (Ok v)) where
  -- the bytes that were written for this answer belong to entries of the mirror
  abbrev Answers : Result (Unit {0}) StateEntriesFault → Type 0
  Answers answer = AnswersServed digest v c.range.from c.range.to c.range.base64 old.output new.output answer

  quiet : (fault : StateEntriesFault) → Answers (Err fault) → (¬ IsLate (StateEntries fault)) →
      Keeps old.output new.output
  quiet entries.NothingComplete h other = h.1
  quiet entries.NoSuchSize h other = h.1
  quiet entries.Backwards h other = h.1
  quiet entries.WriteFault h other = absurd (other tt)
  quiet entries.OutOfMemory h other = absurd (other tt)

  -- entries of a mirror were written
  pub writes_entries : (answer : Result (Unit {0}) StateEntriesFault) → Answers answer → (is : Result ℕ ReportRunFault) →
      is ≡ result_map_both (λ _. 0) (λ fault. StateEntries fault) answer →
      Performs DoesEntries IsLate Stays digest keys old new c is
  writes_entries (Ok x) h is same =
      rw same (performs_done DoesEntries IsLate Stays digest keys old new c (files, folders) 0 (inl refl)
      ((v, opened, h), refl))
  writes_entries (Err fault) h is same =
      rw same (performs DoesEntries IsLate Stays digest keys old new c (files, folders) (Err (StateEntries fault)) tt
      (quiet fault h) (v, opened, h))
