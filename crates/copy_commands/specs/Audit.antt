-- The command `audit`: the meaning of each answer for the place and the output.
use Rattle.std.specs.Prelude.{ℕ, List, Option, Result, Ok, Err}
use Rattle.std.specs.Io.KnownBytes.{Keeps}
use Rattle.signed_note.specs.Keys.{Key}
use Rattle.tlog_tiles.specs.declared.paths.Path.{Path}
use Rattle.program_words.specs.declared.commands.audit.Audit.{Audit as AuditWords}
use Rattle.program_copies.specs.Audits.{BlamesRun, RunsAudit}
use Rattle.program_copies.specs.declared.entries_fault.AuditRunFault.{AuditRunFault}
use Rattle.program_io.specs.Moment.{Moment}
use Rattle.program_io.specs.Origins.{RefusesOrigin}
use Rattle.program_io.specs.Performing.{DoesNothing}
use Rattle.program_io.specs.Places.{World}
use Rattle.program_io.specs.PlaceWords.{words_of}
use Rattle.copy_commands.specs.declared.place_fault.PlaceRunFault.{PlaceRunFault}
use Rattle.copy_commands.specs.declared.place_fault.PlaceRunFault.TheVariants.{Audit, OutOfMemory, Origin}

module _ (digest : List ℕ → List ℕ) {S : Type 0} (may : S → Path → Option (List ℕ) → Type 0)
    (asked : S → Option (List Path)) (failed : S → ℕ) (keys : List Key) (old new : Moment) (place : S) where
  -- this place was audited with this answer. Blame is as in the audit
  pub record AuditsPlace (c : AuditWords) (answer : Result ℕ AuditRunFault) : Type 0 where
    pub left : S
    pub audits :
        RunsAudit digest c.log.origin.now keys (may place) (may left) (asked place) (asked left) old.output new.output answer
    pub blamed : BlamesRun (failed place) (failed left) answer

  -- the meaning of each answer for this place, if the origin is right
  abbrev pub AnswersPlace : AuditWords → Result ℕ PlaceRunFault → Type 0
  AnswersPlace c (Ok status) = AuditsPlace c (Ok status)
  AnswersPlace c (Err (Audit fault)) = AuditsPlace c (Err fault)
  AnswersPlace c (Err other) = ⊥

module _ (world : World) (digest : List ℕ → List ℕ) (keys : List Key) (old new : Moment) where
  -- the place that the words name was audited with this answer
  pub record AuditsOne (c : AuditWords) (answer : Result ℕ PlaceRunFault) : Type 0 where
    pub place : world.Place
    pub is_at : world.at (words_of c.place) place
    pub answers : AnswersPlace digest world.may world.asked world.failed keys old new place c answer

  abbrev pub DoesAudit : AuditWords → Result ℕ PlaceRunFault → Type 0
  DoesAudit c (Ok status) = AuditsOne c (Ok status)
  DoesAudit c (Err (Audit fault)) = AuditsOne c (Err (Audit fault))
  DoesAudit c (Err (Origin fault)) = RefusesOrigin c.log.origin.now fault × DoesNothing old new
  DoesAudit c (Err OutOfMemory) = Keeps old.output new.output
  DoesAudit c (Err other) = ⊥
