-- The reports of `prove` on a copy.
use Rattle.std.specs.Prelude.{◌≡◌, ℕ, ◌<◌, ◌≤◌, List, length, Option, Result, Ok, Err}
use Rattle.signed_note.specs.Keys.{Key}
use Rattle.tlog_shape.specs.declared.TheConstants.{MAX_SIZE}
use Rattle.tlog_proof.specs.declared.make.ProofFault.{ProofFault}
use Rattle.tlog_proof.specs.declared.make.ProofFault.TheVariants as proving
use Rattle.tlog_proof.specs.declared.proof.Ask.{Ask}
use Rattle.tlog_proof.specs.declared.proof.Ask.TheVariants.{Inclusion as AskInclusion}
use Rattle.tlog_proof.specs.declared.proof.Ask.TheVariants.{Consistency as AskConsistency}
use Rattle.mirror_folders.specs.Shelf.{Put}
use Rattle.program_reports.specs.Reports.{printed}
use Rattle.program_reports.specs.declared.reports.Report.{Report as Printout}
use Rattle.program_reports.specs.declared.fault.AskFault.TheVariants.{Report, WriteFault}
use Rattle.program_reports.specs.declared.fault.ReportFault.TheVariants.{NothingComplete, NoSuchHead}
use Rattle.program_reports.specs.declared.fault.ReportFault.TheVariants.{Proof as Refused, OutOfMemory}
use Rattle.copy_reader.specs.Copies.{HasCheckpoint, IsEmptyCopy}
use Rattle.copy_reader.specs.Faults.{IsReadFault}
use Rattle.copy_reader.specs.Proofs.{IsProofOf, IsTrueText}
use Rattle.copy_reader.specs.WholeCopies.{HoldsWhole, IsShelfFailure}
use Rattle.copy_reader.specs.declared.fault.CopyFault.{CopyFault}
use Rattle.log_reader.specs.Ways.{Reader}
use Rattle.program_copies.specs.Comparisons.{IsLogRead}
use Rattle.program_copies.specs.Damages.{IsDamagedProof, IsRefusedFor}
use Rattle.program_copies.specs.declared.fault.CopyAskFault.{CopyAskFault}
use Rattle.program_copies.specs.declared.fault.CopyAskFault.TheVariants as asking

-- for a log of that size the request is refused, with the first fault that applies, as `asked_proof` of tlog_proof refuses it for a list
abbrev pub IsRefusedOf : Ask → ℕ → ProofFault → Type 0
IsRefusedOf (AskInclusion n i) size proving.NoSuchSize = size < n
IsRefusedOf (AskInclusion n i) size proving.NoSuchIndex = (n ≤ size) × (n ≤ i)
IsRefusedOf (AskInclusion n i) size proving.FirstIsZero = ⊥
IsRefusedOf (AskInclusion n i) size proving.Backwards = ⊥
IsRefusedOf (AskInclusion n i) size proving.OutOfMemory = ⊥
IsRefusedOf (AskConsistency m n) size proving.NoSuchSize = size < n
IsRefusedOf (AskConsistency m n) size proving.NoSuchIndex = ⊥
IsRefusedOf (AskConsistency m n) size proving.FirstIsZero = (n ≤ size) × (m ≡ 0)
IsRefusedOf (AskConsistency m n) size proving.Backwards = (n ≤ size) × (0 < m) × (n < m)
IsRefusedOf (AskConsistency m n) size proving.OutOfMemory = ⊥

-- the reader reads the log of these entries, whose proofs can be written, and the shelf has its files
pub record IsProvable (digest : List ℕ → List ℕ) (reader : Reader) (held : Option (List Put))
    (entries : List (List ℕ)) : Type 0 where
  pub is_read : IsLogRead digest reader held entries
  pub small : length entries ≤ MAX_SIZE

module _ (digest : List ℕ → List ℕ) (size : ℕ) (root : List ℕ) (IsLog : List (List ℕ) → Type 0) where
  -- the report is the text of a requested and accepted proof. If the shelf has such a log, it is the proof of the definitions
  pub record PrintsProof (ask : Ask) (report : Printout) : Type 0 where
    pub is : IsProofOf digest size root ask (printed report)
    pub whole : (entries : List (List ℕ)) → IsLog entries → IsTrueText digest ask entries (printed report)
    pub status : report.status ≡ 0

  -- the fault is one of reading files. If the shelf has such a log, the shelf failed, or memory was refused
  pub record IsReadOf (fault : CopyFault) : Type 0 where
    pub is : IsReadFault fault
    pub whole : (entries : List (List ℕ)) → IsLog entries → IsShelfFailure fault

  -- the facts at each answer of a reporter on a log of that size and root
  abbrev pub ReportsAsk : Ask → Result Printout CopyAskFault → Type 0
  ReportsAsk ask (Ok report) = PrintsProof ask report
  ReportsAsk ask (Err (asking.Copy fault)) = IsReadOf fault
  ReportsAsk ask (Err (asking.Heads fault)) = ⊥
  ReportsAsk ask (Err (asking.Ask (Report NothingComplete))) = ⊥
  ReportsAsk ask (Err (asking.Ask (Report (Refused fault)))) = IsRefusedOf ask size fault
  ReportsAsk ask (Err (asking.Ask (Report NoSuchHead))) = ⊥
  ReportsAsk ask (Err (asking.Ask (Report OutOfMemory))) = ⊥
  ReportsAsk ask (Err (asking.Ask WriteFault)) = ⊥

module _ (digest : List ℕ → List ℕ) (origin : List ℕ) (keys : List Key) (held : Option (List Put)) (ask : Ask)
  where
    -- the report is the requested proof. It is accepted against the copy's checkpoint, or against the root of its first entries of the
    -- requested size. If the copy is whole, it is the proof of the definitions
    pub record IsProofPrint (report : Printout) : Type 0 where
      pub size : ℕ
      pub root : List ℕ
      pub checkpoint : HasCheckpoint origin keys held size root
      pub is : PrintsProof digest size root (HoldsWhole digest origin held) ask report

    -- the copy has a checkpoint, and the request is refused for its size
    pub record RefusesAsk (fault : ProofFault) : Type 0 where
      pub size : ℕ
      pub root : List ℕ
      pub checkpoint : HasCheckpoint origin keys held size root
      pub refused : IsRefusedOf ask size fault

    -- the facts at each answer of the reporter
    abbrev pub ReportsProof : Result Printout CopyAskFault → Type 0
    ReportsProof (Ok report) = IsProofPrint report
    ReportsProof (Err (asking.Copy fault)) = IsRefusedFor digest origin keys held (IsDamagedProof digest held ask) fault
    ReportsProof (Err (asking.Heads fault)) = ⊥
    ReportsProof (Err (asking.Ask (Report NothingComplete))) = IsEmptyCopy origin keys held
    ReportsProof (Err (asking.Ask (Report (Refused fault)))) = RefusesAsk fault
    ReportsProof (Err (asking.Ask (Report NoSuchHead))) = ⊥
    ReportsProof (Err (asking.Ask (Report OutOfMemory))) = ⊥
    ReportsProof (Err (asking.Ask WriteFault)) = ⊥
