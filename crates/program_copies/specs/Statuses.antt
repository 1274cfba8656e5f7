-- The reports of `status` on a copy: the text of a mirror with only the checkpoint's tree head, which is complete.
use Rattle.std.specs.Prelude.{◌≡◌, ℕ, List, Option, Some, None, IfSome, Result, Ok, Err}
use Rattle.signed_note.specs.Keys.{Key}
use Rattle.mirror_folders.specs.Shelf.{Put}
use Rattle.mirror_model.specs.Forks.{Point}
use Rattle.log_reader.specs.Ways.{Reader}
use Rattle.program_reports.specs.Reports.{printed}
use Rattle.program_reports.specs.declared.reports.Report.{Report as Printout}
use Rattle.copy_reader.specs.Copies.{HasCheckpoint, IsEmptyCopy}
use Rattle.copy_reader.specs.Ends.{IsReadAtEnd}
use Rattle.copy_reader.specs.Statuses.{copy_status}
use Rattle.program_copies.specs.Damages.{IsDamagedFile, IsRefusedFor}
use Rattle.program_copies.specs.declared.fault.CopyAskFault.{CopyAskFault}
use Rattle.program_copies.specs.declared.fault.CopyAskFault.TheVariants.{Copy, Heads, Ask}

-- the size and root of the log of a reader
abbrev pub reader_point : Reader → Point
reader_point reader = record { size = reader.edge.size; root = reader.root }

-- the exit status: 0 if something is served, else 3
abbrev pub status_of : Option Point → ℕ
status_of None = 3
status_of (Some point) = 0

-- the report is that of a mirror with that tree head, or of one without any
pub record IsStatusOf (origin : List ℕ) (point : Option Point) (report : Printout) : Type 0 where
  pub text : printed report ≡ copy_status origin point
  pub status : report.status ≡ status_of point

module _ (origin : List ℕ) (keys : List Key) (held : Option (List Put)) where
  -- the copy's checkpoint is of that size and root, or there is none
  abbrev pub HasPoint : Option Point → Type 0
  HasPoint None = IsEmptyCopy origin keys held
  HasPoint (Some point) = HasCheckpoint origin keys held point.size point.root

module _ (digest : List ℕ → List ℕ) (origin : List ℕ) (keys : List Key) (held : Option (List Put)) where
  -- the report on the copy. Complete is a log whose edge and whose bundle at the end were read from the shelf, and lead to the root
  pub record IsStatusPrint (report : Printout) : Type 0 where
    pub point : Option Point
    pub has : HasPoint origin keys held point
    pub whole : IfSome point (λ p. IsReadAtEnd digest held p.size p.root)
    pub is : IsStatusOf origin point report

  -- the facts at each answer of the reporter
  abbrev pub ReportsStatus : Result Printout CopyAskFault → Type 0
  ReportsStatus (Ok report) = IsStatusPrint report
  ReportsStatus (Err (Copy fault)) = IsRefusedFor digest origin keys held (IsDamagedFile digest held) fault
  ReportsStatus (Err (Heads fault)) = ⊥
  ReportsStatus (Err (Ask fault)) = ⊥
