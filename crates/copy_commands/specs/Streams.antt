-- The commands `root` and `check`: the meaning of each answer for the input and the output.
use Rattle.std.specs.Prelude.{◌≡◌, ℕ, List, Result, Ok, Err, Bool, IfSome}
use Rattle.signed_note.specs.Keys.{Key}
use Rattle.program_words.specs.declared.commands.root.Root.{Root as RootWords}
use Rattle.program_io.specs.Root.{AnswersRoot}
use Rattle.program_io.specs.Check.{AnswersCheck}
use Rattle.program_io.specs.Moment.{Moment}
use Rattle.program_io.specs.Performing.{done, failed, verdict_status}
use Rattle.copy_commands.specs.declared.fault.ReportRunFault.{ReportRunFault}
use Rattle.copy_commands.specs.declared.fault.ReportRunFault.TheVariants.{Check, Root}

module _ (digest : List ℕ → List ℕ) (keys : List Key) (old new : Moment) where
  abbrev pub DoesRoot : RootWords → Result ℕ ReportRunFault → Type 0
  DoesRoot c (Ok status) =
      IfSome old.input (λ bytes. AnswersRoot digest c.width bytes old.output new.output done)
      × (status ≡ 0)
  DoesRoot c (Err (Root fault)) =
      IfSome old.input (λ bytes. AnswersRoot digest c.width bytes old.output new.output (failed fault))
  DoesRoot c (Err other) = ⊥

  abbrev pub DoesCheck : Unit {0} → Result ℕ ReportRunFault → Type 0
  DoesCheck c (Ok status) =
      (verdict : Bool)
      × IfSome old.input (λ bytes. AnswersCheck digest bytes old.output new.output (Ok verdict))
      × (status ≡ verdict_status verdict)
  DoesCheck c (Err (Check fault)) =
      IfSome old.input (λ bytes. AnswersCheck digest bytes old.output new.output (Err fault))
  DoesCheck c (Err other) = ⊥
