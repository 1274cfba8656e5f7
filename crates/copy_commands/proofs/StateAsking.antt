-- A command that asks an open mirror something.
use Rattle.std.proofs.Common.{◌≡◌, ℕ, List, Option, Result, Ok, Err, IfErr, IfOk}
use Rattle.std.specs.Prelude.{◌≢◌}
use Rattle.std.specs.Result.{result_map_both}
use Rattle.std.specs.Io.KnownBytes.{Keeps}
use Rattle.signed_note.specs.Keys.{Key}
use Rattle.mirror_model.specs.View.{View}
use Rattle.program_io.specs.Named.{NamedFile}
use Rattle.program_reports.specs.Comparisons.{AnswersCompared}
use Rattle.program_reports.specs.Questions.{AnswersQuestion}
use Rattle.program_reports.specs.declared.question.Question.{Question}
use Rattle.program_reports.specs.declared.fault.AskFault.{AskFault}
use Rattle.program_reports.specs.declared.fault.AskFault.TheVariants as ask
use Rattle.program_io.specs.States.{OpensFile}
use Rattle.copy_commands.specs.declared.fault.ReportRunFault.{ReportRunFault}
use Rattle.copy_commands.specs.declared.fault.ReportRunFault.TheVariants.{Ask, Heads}
use Rattle.copy_commands.specs.Faults.{IsLate}
use Rattle.program_io.specs.Performing.{IsStatus}
use Rattle.copy_commands.specs.StateAsks.{AsksState}
use Rattle.copy_commands.specs.Compare.{ComparesState, ComparesView, FindsHeads}

-- the answer of a command from the answer of a reporter
abbrev pub asked : Result ℕ AskFault → Result ℕ ReportRunFault
asked was = result_map_both (λ status. status) (λ fault. Ask fault) was

pub asked_status : (was : Result ℕ AskFault) (is : Result ℕ ReportRunFault) → is ≡ asked was → IfOk was IsStatus →
    IfOk is IsStatus
asked_status (Ok status) is same h = rw same h
asked_status (Err fault) is same h = rw same tt

quiet_ask : (was : Result ℕ AskFault) (old new : Option (List ℕ)) →
    IfErr was (λ fault. fault ≢ ask.WriteFault → Keeps old new) →
    IfErr (asked was) (λ fault. (¬ IsLate fault) → Keeps old new)
quiet_ask (Ok status) old new h = tt
quiet_ask (Err ask.WriteFault) old new h = λ other. absurd (other tt)
quiet_ask (Err (ask.Report fault)) old new h = λ other. h (λ e. cc)

pub asked_quietly : (was : Result ℕ AskFault) (is : Result ℕ ReportRunFault) (old new : Option (List ℕ)) → is ≡ asked was →
    IfErr was (λ fault. fault ≢ ask.WriteFault → Keeps old new) →
    IfErr is (λ fault. (¬ IsLate fault) → Keeps old new)
asked_quietly was is old new same h = rw same (quiet_ask was old new h)

module _ (digest : List ℕ → List ℕ) (keys : List Key) (recorded : Option (List NamedFile)) (name origin : List ℕ)
    (old new : Option (List ℕ)) (v : View) (opened : OpensFile digest origin keys recorded name (Ok v)) where
  asks : (question : Question) (was : Result ℕ AskFault) → AnswersQuestion digest question v old new was →
      AsksState digest keys recorded name origin question old new (asked was)
  asks question (Ok status) h = (v, opened, h)
  asks question (Err fault) h = (v, opened, h)

  pub asks_state : (question : Question) (was : Result ℕ AskFault) (is : Result ℕ ReportRunFault) → is ≡ asked was →
      AnswersQuestion digest question v old new was → AsksState digest keys recorded name origin question old new is
  asks_state question was is same h = rw same (asks question was h)

  pub compares_state : (files : List (List ℕ)) (answer : Result ℕ ReportRunFault) →
      ComparesView digest keys recorded files old new v answer →
      ComparesState digest keys recorded name origin files old new answer
  compares_state files (Ok status) h =
      record { view = v; heads = h.heads; opened = opened; given = h.given; answers = h.answers }
  compares_state files (Err (Heads fault)) h = (v, opened, h)
  compares_state files (Err (Ask fault)) h =
      record { view = v; heads = h.heads; opened = opened; given = h.given; answers = h.answers }
  compares_state files (Err other) h = absurd h

module _ (digest : List ℕ → List ℕ) (keys : List Key) (recorded : Option (List NamedFile)) (files : List (List ℕ))
    (old new : Option (List ℕ)) (v : View) (heads : Option (List (ℕ × List ℕ)))
    (given : FindsHeads keys recorded v.origin files (Ok heads)) where
  compares : (was : Result ℕ AskFault) → AnswersCompared digest v heads old new was →
      ComparesView digest keys recorded files old new v (asked was)
  compares (Ok status) h = record { heads = heads; given = given; answers = h }
  compares (Err fault) h = record { heads = heads; given = given; answers = h }

  pub compares_view : (was : Result ℕ AskFault) (is : Result ℕ ReportRunFault) → is ≡ asked was →
      AnswersCompared digest v heads old new was → ComparesView digest keys recorded files old new v is
  compares_view was is same h = rw same (compares was h)
