-- The causes of the faults of a run.
use Rattle.std.specs.Prelude.{◌≡◌, ℕ, Result, Ok, Err}
use Rattle.mirror_sources.specs.Recorded.{one_more}
use Rattle.mirror_folders.specs.declared.shelf.ShelfError.{ShelfError}
use Rattle.mirror_folders.specs.declared.shelf.ShelfError.TheVariants as shelf
use Rattle.copy_reader.specs.declared.fault.CopyFault.{CopyFault}
use Rattle.copy_reader.specs.declared.fault.CopyFault.TheVariants as reading
use Rattle.copy_places.specs.declared.candidate_fault.CandidateFault.{CandidateFault}
use Rattle.copy_places.specs.declared.candidate_fault.CandidateFault.TheVariants as candidate
use Rattle.copy_follow.specs.declared.follow_fault.FollowFault.{FollowFault}
use Rattle.copy_follow.specs.declared.follow_fault.FollowFault.TheVariants.{NoCheckpoint, Head, CopyDamaged, CopyInUse, ShelfFault, Contradiction, Collision, NoFile, Source, OutOfMemory}

-- the fault of a run for a fault of the shelf
abbrev pub by_shelf : ShelfError → FollowFault
by_shelf shelf.Failed = ShelfFault
by_shelf shelf.OutOfMemory = OutOfMemory

-- the fault of a run for a fault of reading a copy
abbrev pub by_copy : CopyFault → FollowFault
by_copy reading.BadOrigin = CopyDamaged
by_copy (reading.Head fault) = CopyDamaged
by_copy (reading.CopyDamaged path) = CopyDamaged
by_copy reading.ShelfFault = ShelfFault
by_copy reading.OutOfMemory = OutOfMemory

-- the fault of a run without candidates
abbrev pub of_candidates : CandidateFault → FollowFault
of_candidates candidate.NoCheckpoint = NoCheckpoint
of_candidates (candidate.Head fault) = Head fault
of_candidates candidate.Source = Source
of_candidates candidate.OutOfMemory = OutOfMemory

-- how a shelf's number of failures changes at a fault: only a ShelfFault raises it
abbrev pub CountsFollowFault : ℕ → ℕ → FollowFault → Type 0
CountsFollowFault old new NoCheckpoint = new ≡ old
CountsFollowFault old new (Head fault) = new ≡ old
CountsFollowFault old new CopyDamaged = new ≡ old
CountsFollowFault old new CopyInUse = new ≡ old
CountsFollowFault old new ShelfFault = new ≡ one_more old
CountsFollowFault old new Contradiction = new ≡ old
CountsFollowFault old new Collision = new ≡ old
CountsFollowFault old new NoFile = new ≡ old
CountsFollowFault old new Source = new ≡ old
CountsFollowFault old new OutOfMemory = new ≡ old

-- the same for an answer
abbrev pub CountsFollow : {T : Type 0} → ℕ → ℕ → Result T FollowFault → Type 0
CountsFollow old new (Ok x) = new ≡ old
CountsFollow old new (Err e) = CountsFollowFault old new e
