-- The facts that the command `audit` states about a source, and its output.
use Rattle.std.specs.Prelude.{◌≡◌, ℕ, List, Option, Result, Ok, Err}
use Rattle.std.specs.Io.KnownBytes.{Appends, Keeps}
use Rattle.byte_streams.specs.Streams.{AppendsPrefix}
use Rattle.signed_note.specs.Keys.{Key}
use Rattle.tlog_tiles.specs.declared.paths.Path.{Path}
use Rattle.copy_reader.specs.Audits.{IsAudited}
use Rattle.copy_reader.specs.AuditFaults.{IsForAbsence, BlamesPlace}
use Rattle.copy_reader.specs.Found.{IsReadInOrder, NamesWrong}
use Rattle.program_copies.specs.Texts.{audited_line}
use Rattle.program_copies.specs.declared.entries_fault.AuditRunFault.{AuditRunFault}
use Rattle.program_copies.specs.declared.entries_fault.AuditRunFault.TheVariants.{Audit, WriteFault}

module _ (digest : List ℕ → List ℕ) (origin : List ℕ) (keys : List Key)
    (may later : Path → Option (List ℕ) → Type 0) (asked now : Option (List Path))
    (old new : Option (List ℕ)) where
  -- a whole log was read at the source, and its line was written
  pub record PrintsAudited : Type 0 where
    pub size : ℕ
    pub root : List ℕ
    pub audited : IsAudited digest origin keys size root may later asked now
    pub ordered : IsReadInOrder size may later asked now
    pub written : Appends old new (audited_line size root)

  -- a whole log was read at the source, and a prefix of its line was written
  pub record BeginsAudited : Type 0 where
    pub size : ℕ
    pub root : List ℕ
    pub audited : IsAudited digest origin keys size root may later asked now
    pub ordered : IsReadInOrder size may later asked now
    pub written : AppendsPrefix old new (audited_line size root)

  -- the facts at each answer of the command. At a fault of the audit, which names a wrong file, nothing is written
  abbrev pub RunsAudit : Result ℕ AuditRunFault → Type 0
  RunsAudit (Ok status) = (status ≡ 0) × PrintsAudited
  RunsAudit (Err WriteFault) = BeginsAudited
  RunsAudit (Err (Audit fault)) =
      IsForAbsence may fault × NamesWrong digest origin keys may later asked now fault × Keeps old new

-- the command ends by Source as the audit does
abbrev pub BlamesRun : ℕ → ℕ → Result ℕ AuditRunFault → Type 0
BlamesRun old new (Ok status) = new ≡ old
BlamesRun old new (Err WriteFault) = new ≡ old
BlamesRun old new (Err (Audit fault)) = BlamesPlace {T = ℕ} old new (Err fault)
