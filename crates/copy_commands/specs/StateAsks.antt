-- The commands `status`, `missing`, `forks` and `prove`: the meaning of each answer for the state file and the output.
use Rattle.std.specs.Prelude.{ℕ, List, Option, Result, Ok, Err}
use Rattle.signed_note.specs.Keys.{Key}
use Rattle.mirror_model.specs.View.{View}
use Rattle.program_io.specs.Named.{NamedFile}
use Rattle.program_reports.specs.Questions.{AnswersQuestion}
use Rattle.program_reports.specs.declared.question.Question.{Question}
use Rattle.program_reports.specs.declared.question.Question.TheVariants as question
use Rattle.program_io.specs.States.{OpensFile}
use Rattle.program_words.specs.declared.commands.missing.Missing.{Missing as MissingWords}
use Rattle.program_words.specs.declared.commands.prove.Prove.{Prove as ProveWords}
use Rattle.program_words.specs.declared.parts.StateArgs.{StateArgs}
use Rattle.program_io.specs.Moment.{Moment}
use Rattle.copy_commands.specs.declared.fault.ReportRunFault.{ReportRunFault}
use Rattle.copy_commands.specs.declared.fault.ReportRunFault.TheVariants.{Ask, State}

module _
    (digest : List ℕ → List ℕ) (keys : List Key) (recorded : Option (List NamedFile)) (name : List ℕ)
    (origin : List ℕ) (question : Question) (old new : Option (List ℕ)) where
  -- the state file gave a mirror, and the answer and the output belong to it
  abbrev pub AsksState : Result ℕ ReportRunFault → Type 0
  AsksState (Ok status) =
      (v : View) × OpensFile digest origin keys recorded name (Ok v) ×
      AnswersQuestion digest question v old new (Ok status)
  AsksState (Err (State fault)) = OpensFile digest origin keys recorded name (Err fault)
  AsksState (Err (Ask fault)) =
      (v : View) × OpensFile digest origin keys recorded name (Ok v) ×
      AnswersQuestion digest question v old new (Err fault)
  AsksState (Err other) = ⊥

module _ (digest : List ℕ → List ℕ) (keys : List Key) (old new : Moment) where
  abbrev pub DoesAsk : StateArgs → Question → Result ℕ ReportRunFault → Type 0
  DoesAsk c question answer =
      AsksState digest keys old.files c.state.now c.log.origin.now question old.output new.output
      answer

  abbrev pub DoesStatus : StateArgs → Result ℕ ReportRunFault → Type 0
  DoesStatus c = DoesAsk c question.Status

  abbrev pub DoesMissing : MissingWords → Result ℕ ReportRunFault → Type 0
  DoesMissing c = DoesAsk c.mirror (question.Missing c.size c.root)

  abbrev pub DoesForks : StateArgs → Result ℕ ReportRunFault → Type 0
  DoesForks c = DoesAsk c question.Forks

  abbrev pub DoesProve : ProveWords → Result ℕ ReportRunFault → Type 0
  DoesProve c = DoesAsk c.mirror (question.Proof c.ask)
