-- The command `compare`: the meaning of each answer for the state file, the named files and the output. Only contracts of private
-- functions cite `ComparesView`.
use Rattle.std.specs.Prelude.{◌≡◌, ◌≢◌, ℕ, List, [], Option, Some, None, Result, Ok, Err, map}
use Rattle.signed_note.specs.Keys.{Key}
use Rattle.mirror_model.specs.View.{View}
use Rattle.program_io.specs.Named.{NamedFile}
use Rattle.program_reports.specs.Comparisons.{AnswersCompared}
use Rattle.program_reports.specs.declared.fault.AskFault.{AskFault}
use Rattle.program_io.specs.HeadFiles.{ReadsHeads}
use Rattle.program_io.specs.declared.state_fault.HeadFilesFault.{HeadFilesFault}
use Rattle.program_io.specs.States.{OpensFile}
use Rattle.program_words.specs.declared.commands.compare.Compare.{Compare as CompareWords}
use Rattle.program_io.specs.Moment.{Moment}
use Rattle.copy_commands.specs.declared.fault.ReportRunFault.{ReportRunFault}
use Rattle.copy_commands.specs.declared.fault.ReportRunFault.TheVariants.{Ask, Heads, State}

-- the heads to compare: those of the named files, or None if no file is named
abbrev pub FindsHeads : List Key → Option (List NamedFile) → List ℕ → List (List ℕ) →
    Result (Option (List (ℕ × List ℕ))) HeadFilesFault → Type 0
FindsHeads keys recorded origin files (Ok None) = files ≡ []
FindsHeads keys recorded origin files (Ok (Some heads)) =
    (files ≢ []) × ReadsHeads origin keys recorded files (Ok heads)
FindsHeads keys recorded origin files (Err fault) = ReadsHeads origin keys recorded files (Err fault)

module _
    (digest : List ℕ → List ℕ) (keys : List Key) (recorded : Option (List NamedFile)) (name : List ℕ)
    (origin : List ℕ) (files : List (List ℕ)) (old new : Option (List ℕ)) where
  -- the state file gave a mirror, and the answer and the output are its comparison with the given heads
  pub record OpensAndCompares (answer : Result ℕ AskFault) : Type 0 where
    pub view : View
    pub heads : Option (List (ℕ × List ℕ))
    pub opened : OpensFile digest origin keys recorded name (Ok view)
    pub given : FindsHeads keys recorded view.origin files (Ok heads)
    pub answers : AnswersCompared digest view heads old new answer

  -- the meaning of each answer of `compare` for the files and the output
  abbrev pub ComparesState : Result ℕ ReportRunFault → Type 0
  ComparesState (Ok status) = OpensAndCompares (Ok status)
  ComparesState (Err (State fault)) = OpensFile digest origin keys recorded name (Err fault)
  ComparesState (Err (Heads fault)) =
      (v : View) × OpensFile digest origin keys recorded name (Ok v) ×
      FindsHeads keys recorded v.origin files (Err fault)
  ComparesState (Err (Ask fault)) = OpensAndCompares (Err fault)
  ComparesState (Err other) = ⊥

module _
    (digest : List ℕ → List ℕ) (keys : List Key) (recorded : Option (List NamedFile))
    (files : List (List ℕ)) (old new : Option (List ℕ)) where
  -- heads are given, and the answer and the output are the comparison of this view with them
  pub record ComparesGiven (v : View) (answer : Result ℕ AskFault) : Type 0 where
    pub heads : Option (List (ℕ × List ℕ))
    pub given : FindsHeads keys recorded v.origin files (Ok heads)
    pub answers : AnswersCompared digest v heads old new answer

  -- the meaning of each answer of `compare` for a mirror with this view
  abbrev pub ComparesView : View → Result ℕ ReportRunFault → Type 0
  ComparesView v (Ok status) = ComparesGiven v (Ok status)
  ComparesView v (Err (Heads fault)) = FindsHeads keys recorded v.origin files (Err fault)
  ComparesView v (Err (Ask fault)) = ComparesGiven v (Err fault)
  ComparesView v (Err other) = ⊥

module _ (digest : List ℕ → List ℕ) (keys : List Key) (old new : Moment) where
  abbrev pub DoesCompare : CompareWords → Result ℕ ReportRunFault → Type 0
  DoesCompare c answer =
      ComparesState digest keys old.files c.mirror.state.now c.mirror.log.origin.now
      (map (λ name. name.now) c.files.items) old.output new.output answer
