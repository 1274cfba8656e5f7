-- The reports of `compare` on a copy.
use Rattle.std.specs.Prelude.{◌≡◌, ◌≢◌, ℕ, ◌<◌, ◌≤◌, List, [], ◌∷◌, All, map, Option, Some, None, Result, Ok, Err, ⊤}
use Rattle.signed_note.specs.Keys.{Key}
use Rattle.mirror_folders.specs.Shelf.{Put}
use Rattle.mirror_trees.specs.Marked.{point_of}
use Rattle.tlog_mirror.specs.Compared.{IsCompared, compared_point, compared_text}
use Rattle.tlog_mirror.specs.declared.compared.Compared.{Compared}
use Rattle.tlog_mirror.specs.declared.compared.Compared.TheVariants.{Same, Fork, Larger}
use Rattle.mirror_model.specs.Origin.{IsOrigin}
use Rattle.program_io.specs.Named.{NamedFile}
use Rattle.program_io.specs.HeadFiles.{ReadsHeads}
use Rattle.program_reports.specs.Comparisons.{compare_status}
use Rattle.program_reports.specs.Reports.{printed}
use Rattle.program_reports.specs.declared.reports.Report.{Report as Printout}
use Rattle.program_reports.specs.declared.fault.AskFault.TheVariants.{Report, WriteFault}
use Rattle.program_reports.specs.declared.fault.ReportFault.TheVariants.{NothingComplete, NoSuchHead}
use Rattle.program_reports.specs.declared.fault.ReportFault.TheVariants.{Proof as Refused, OutOfMemory}
use Rattle.copy_reader.specs.Copies.{HasCheckpoint, IsEmptyCopy}
use Rattle.copy_reader.specs.Shown.{IsRootOf}
use Rattle.copy_reader.specs.WholeCopies.{HasFilesOf, HoldsWhole}
use Rattle.log_reader.specs.Holding.{IsReaderOf}
use Rattle.log_reader.specs.Ways.{Reader}
use Rattle.copy_reader.specs.declared.fault.CopyFault.{CopyFault}
use Rattle.copy_reader.specs.declared.fault.CopyFault.TheVariants.{BadOrigin, Head, CopyDamaged, ShelfFault}
use Rattle.copy_reader.specs.declared.fault.CopyFault.TheVariants.{OutOfMemory as NoMemory}
use Rattle.program_copies.specs.Damages.{IsDamagedFile, IsRefusedFor}
use Rattle.program_copies.specs.declared.fault.CopyAskFault.{CopyAskFault}
use Rattle.program_copies.specs.declared.fault.CopyAskFault.TheVariants as asking

module _ (digest : List ℕ → List ℕ) (size : ℕ) (root : List ℕ) where
  -- a line about a tree head is right for the log of that size and root. Same: the log has this root at that size. Fork: it has
  -- another root, which the line reports. Otherwise the log is smaller
  abbrev pub IsComparedTo : Compared → Type 0
  IsComparedTo (Same n r) = (n ≤ size) × IsRootOf digest size root n r
  IsComparedTo (Fork n r own) = (n ≤ size) × IsRootOf digest size root n own × (own ≢ r)
  IsComparedTo (Larger n r) = size < n

  -- the tree heads are compared, one line for each
  pub record AreCompared (heads : List (ℕ × List ℕ)) (compared : List Compared) : Type 0 where
    pub heads_are : map compared_point compared ≡ map point_of heads
    pub each : All IsComparedTo compared

-- the tree heads to compare: the given ones, or else the copy's own
abbrev pub heads_of : Option (List (ℕ × List ℕ)) → ℕ → List ℕ → List (ℕ × List ℕ)
heads_of None size root = (size, root) ∷ []
heads_of (Some heads) size root = heads

module _ (digest : List ℕ → List ℕ) (size : ℕ) (root : List ℕ) (given : Option (List (ℕ × List ℕ)))
    (IsLog : List (List ℕ) → Type 0) where
  -- the report on the given tree heads. If the shelf has such a log, they are compared as a mirror compares them
  pub record IsComparisonOf (report : Printout) : Type 0 where
    pub compared : List Compared
    pub are : AreCompared digest size root (heads_of given size root) compared
    pub whole : (entries : List (List ℕ)) → IsLog entries → All (IsCompared digest entries) compared
    pub text : printed report ≡ compared_text compared
    pub status : report.status ≡ compare_status compared

-- the reader reads the log of these entries, and the shelf has its files
abbrev pub IsLogRead : (List ℕ → List ℕ) → Reader → Option (List Put) → List (List ℕ) → Type 0
IsLogRead digest reader held entries = IsReaderOf digest entries reader × HasFilesOf digest entries held

-- the reason why there can be no mirror of the origin, to which the files' checkpoints would belong
abbrev pub IsNoMirror : List ℕ → CopyFault → Type 0
IsNoMirror origin BadOrigin = ¬ IsOrigin origin
IsNoMirror origin (Head fault) = ⊥
IsNoMirror origin (CopyDamaged path) = ⊥
IsNoMirror origin ShelfFault = ⊥
IsNoMirror origin NoMemory = ⊤

module _ (origin : List ℕ) (keys : List Key) (files : Option (List NamedFile)) (names : List (List ℕ)) where
  -- the given tree heads: those of the files, or None if no file is named
  abbrev pub GivesHeads : Result (Option (List (ℕ × List ℕ))) CopyAskFault → Type 0
  GivesHeads (Ok None) = names ≡ []
  GivesHeads (Ok (Some heads)) = (names ≢ []) × ReadsHeads origin keys files names (Ok heads)
  GivesHeads (Err (asking.Copy fault)) = IsNoMirror origin fault
  GivesHeads (Err (asking.Heads fault)) = ReadsHeads origin keys files names (Err fault)
  GivesHeads (Err (asking.Ask fault)) = ⊥

  module _ (digest : List ℕ → List ℕ) (held : Option (List Put)) where
    -- the report on the given tree heads, compared with the log of the copy's checkpoint
    pub record IsComparedPrint (report : Printout) : Type 0 where
      pub size : ℕ
      pub root : List ℕ
      pub checkpoint : HasCheckpoint origin keys held size root
      pub given : Option (List (ℕ × List ℕ))
      pub gives : GivesHeads (Ok given)
      pub is : IsComparisonOf digest size root given (HoldsWhole digest origin held) report

    -- the facts at each answer of the reporter
    abbrev pub ReportsCompared : Result Printout CopyAskFault → Type 0
    ReportsCompared (Ok report) = IsComparedPrint report
    ReportsCompared (Err (asking.Copy fault)) = IsRefusedFor digest origin keys held (IsDamagedFile digest held) fault
    ReportsCompared (Err (asking.Heads fault)) = ReadsHeads origin keys files names (Err fault)
    ReportsCompared (Err (asking.Ask (Report NothingComplete))) = IsEmptyCopy origin keys held
    ReportsCompared (Err (asking.Ask (Report (Refused fault)))) = ⊥
    ReportsCompared (Err (asking.Ask (Report NoSuchHead))) = ⊥
    ReportsCompared (Err (asking.Ask (Report OutOfMemory))) = ⊥
    ReportsCompared (Err (asking.Ask WriteFault)) = ⊥
