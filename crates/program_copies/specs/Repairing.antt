-- A run of `follow` that repairs the copy first: the repair, its line, and what follows.
use Rattle.std.specs.Prelude.{◌≡◌, ◌++◌, ◌∷◌, [], ℕ, List, Option, Some, None, OnOk, Result, Ok, Err, codes, length, true, false, Bool, ⊤}
use Rattle.std.specs.Fmt.{decimal}
use Rattle.std.specs.Io.KnownBytes.{Appends, Keeps}
use Rattle.tlog_hash.specs.Tree.{mth}
use Rattle.tlog_tiles.specs.declared.paths.Path.{Path}
use Rattle.tlog_tiles.specs.declared.paths.Path.TheVariants.{Checkpoint}
use Rattle.tlog_checkpoint.specs.declared.Checkpoint.{Checkpoint as Opened}
use Rattle.byte_streams.specs.Streams.{AppendsPrefix}
use Rattle.signed_note.specs.Keys.{Key}
use Rattle.mirror_model.specs.Heads.{IsHead}
use Rattle.mirror_model.specs.Refusals.{IsOpenCheckpoint, ReadsHead}
use Rattle.mirror_model.specs.TrueLaws.{AreShort}
use Rattle.mirror_sources.specs.Recorded.{KeepsRecord}
use Rattle.mirror_folders.specs.Shelf.{Put, RecordsRead}
use Rattle.copy_places.specs.declared.places.Places.{Places}
use Rattle.copy_follow.specs.Faults.{CountsFault}
use Rattle.copy_follow.specs.Lacked.{AtOkOrLack, GoesOverAll}
use Rattle.copy_follow.specs.Named.{NamesDamaged}
use Rattle.copy_follow.specs.Repaired.{AsksToRepair, CountsPuts, IsClearLog, IsRepaired, PutsTrue}
use Rattle.copy_follow.specs.Taken.{MayTake}
use Rattle.copy_follow.specs.declared.bring_fault.BringFault.TheVariants as bring
use Rattle.copy_follow.specs.declared.repaired.Repaired.{Repaired}
use Rattle.program_io.specs.Named.{NamedFile}
use Rattle.program_copies.specs.Following.{EndsBefore, ReadsNote, RunsFollow}
use Rattle.program_copies.specs.declared.follow_fault.FollowRunFault.{FollowRunFault}
use Rattle.program_copies.specs.declared.follow_fault.FollowRunFault.TheVariants as run
use Rattle.program_copies.specs.declared.repair_fault.RepairFault.{RepairFault}
use Rattle.program_copies.specs.declared.repair_fault.RepairFault.TheVariants.{Note, Copy}
use Rattle.program_copies.specs.declared.repair_fault.RepairRunFault.{RepairRunFault}
use Rattle.program_copies.specs.declared.repair_fault.RepairRunFault.TheVariants.{Early, OutOfMemory, Repair, RepairAndOutput, Followed, Unprinted}

-- the claim holds at Ok, and where nobody had a file
abbrev pub AtRepairedOrLack : {T : Type 0} → Result T RepairFault → Type 0 → Type 0
AtRepairedOrLack (Ok x) claim = claim
AtRepairedOrLack (Err (Note fault)) claim = ⊤
AtRepairedOrLack (Err (Copy fault)) claim = AtOkOrLack {T = Unit {0}} (Err fault) claim

-- `repaired N`
abbrev pub repaired_line : ℕ → List ℕ
repaired_line put = codes "repaired " ++ (decimal put ++ 10 ∷ [])

-- ---- the repair of the open folder

-- the folder's number of failures rises by one at its fault, and at no other
abbrev pub CountsRepairFault : ℕ → ℕ → RepairFault → Type 0
CountsRepairFault old new (Note fault) = new ≡ old
CountsRepairFault old new (Copy fault) = CountsFault old new fault

abbrev pub CountsRepair : {T : Type 0} → ℕ → ℕ → Result T RepairFault → Type 0
CountsRepair old new (Ok x) = new ≡ old
CountsRepair old new (Err e) = CountsRepairFault old new e

module _ (origin : List ℕ) (keys : List Key) where
  -- the note opens under the keys, and its text is a checkpoint of the origin
  abbrev pub Opens : List ℕ → Type 0
  Opens note = (checkpoint : Opened) × IsOpenCheckpoint note origin keys checkpoint

  -- the folder's checkpoint does not open, and this is the reason. Or it was not read, or memory was refused
  abbrev pub IsRefused : Option (List Put) → RepairFault → Type 0
  IsRefused held (Note fault) =
      (note : List ℕ) × (RecordsRead held Checkpoint (Some note) × ReadsHead note origin keys (Err fault))
  IsRefused held (Copy bring.ShelfFault) = ⊤
  IsRefused held (Copy bring.OutOfMemory) = ⊤
  IsRefused held (Copy other) = ⊥

  -- the folder has no checkpoint, or one that opens under the keys. Or the fault says why not
  abbrev pub OpensOwn : Option (List Put) → Result (Option (List ℕ)) RepairFault → Type 0
  OpensOwn held (Ok None) = RecordsRead held Checkpoint None
  OpensOwn held (Ok (Some note)) = RecordsRead held Checkpoint (Some note) × Opens note
  OpensOwn held (Err fault) = IsRefused held fault

module _ (digest : List ℕ → List ℕ) {S : Type 0} (may : S → Path → Option (List ℕ) → Type 0) (failed : S → ℕ)
    (asked : S → Option (List Path)) (origin : List ℕ) (keys : List Key) (places left : Places S)
    (held put : Option (List Put)) (failures more : ℕ) (from to : Repaired) where
  -- nothing was put or counted, and no place was asked
  pub record LeavesCopy : Type 0 where
    pub puts : KeepsRecord held put
    pub places_are : left ≡ places
    pub count : to ≡ from

  -- the copy under the note was repaired with this answer, as `repair_copy` says. "opened" is the folder after its checkpoint was read
  pub record RepairsUnder (note : List ℕ) (answer : Result (Unit {0}) RepairFault) : Type 0 where
    pub opened : Option (List Put)
    pub same : KeepsRecord held opened
    pub asks : AsksToRepair may failed asked origin note places left
    pub counts : CountsPuts from.put to.put opened put
    pub keeps :
        (log : List (List ℕ)) → IsHead note origin (length log) (mth digest log) →
        IsClearLog digest log (MayTake may places opened) → PutsTrue digest log opened put
    pub goes_on : AtRepairedOrLack answer ((log : List (List ℕ)) → AreShort log →
        IsHead note origin (length log) (mth digest log) → IsClearLog digest log (MayTake may places opened) →
        GoesOverAll digest log may places left opened put)
    pub names : AtRepairedOrLack answer ((log : List (List ℕ)) → AreShort log →
        IsHead note origin (length log) (mth digest log) → IsClearLog digest log (MayTake may places opened) →
        NamesDamaged digest log opened from.damaged.items to.damaged.items)
    pub whole : OnOk answer (IsRepaired digest origin note opened put)

  -- what was repaired: the copy under the folder's checkpoint, if it opens under the keys. Nothing, if it has none or is refused
  pub data Repairs (answer : Result (Unit {0}) RepairFault) : Type 0 where
    HasNone : RecordsRead held Checkpoint None → LeavesCopy → answer ≡ Ok tt → Repairs answer
    IsNotOpened : (fault : RepairFault) → IsRefused origin keys held fault → LeavesCopy → answer ≡ Err fault → Repairs answer
    HasNote :
        (note : List ℕ) → RecordsRead held Checkpoint (Some note) → Opens origin keys note → RepairsUnder note answer →
        Repairs answer

  -- the same, with the count of the folder's failures
  pub record RepairsCopy (answer : Result (Unit {0}) RepairFault) : Type 0 where
    pub repairs : Repairs answer
    pub counted : CountsRepair failures more answer

-- ---- the line

-- the line was written after a repair: true, or false where only a prefix was. At a fault of the repair the same, and that is the fault
abbrev pub PrintsRepair : ℕ → Option (List ℕ) → Option (List ℕ) → Result (Unit {0}) RepairFault → Result Bool RepairRunFault → Type 0
PrintsRepair put old new answer (Ok true) = (answer ≡ Ok tt) × Appends old new (repaired_line put)
PrintsRepair put old new answer (Ok false) = (answer ≡ Ok tt) × AppendsPrefix old new (repaired_line put)
PrintsRepair put old new answer (Err OutOfMemory) = Keeps old new
PrintsRepair put old new answer (Err (Repair fault)) = (answer ≡ Err fault) × Appends old new (repaired_line put)
PrintsRepair put old new answer (Err (RepairAndOutput fault)) = (answer ≡ Err fault) × AppendsPrefix old new (repaired_line put)
PrintsRepair put old new answer (Err (Early fault)) = ⊥
PrintsRepair put old new answer (Err (Followed fault)) = ⊥
PrintsRepair put old new answer (Err (Unprinted fault)) = ⊥

-- the fault of a run whose line was not written: its own, or else that of the output
abbrev pub unprinted : Result ℕ FollowRunFault → FollowRunFault
unprinted (Ok status) = run.WriteFault
unprinted (Err fault) = fault

-- ---- the run

module _ (digest : List ℕ → List ℕ) {S : Type 0} (may : S → Path → Option (List ℕ) → Type 0) (failed : S → ℕ)
    (asked : S → Option (List Path)) (origin : List ℕ) (keys : List Key) (places left_places : Places S)
    (name forks : Option (List ℕ)) (held put : Option (List Put)) (failures more_failures : ℕ)
    (recorded left : Option (List NamedFile)) where
  -- the copy was followed with an output that goes nowhere
  pub record FollowsLost (fault : FollowRunFault) : Type 0 where
    pub lost : List ℕ
    pub answer : Result ℕ FollowRunFault
    pub follows :
        RunsFollow digest may failed asked origin keys places left_places name forks held held put failures more_failures
        recorded left (Some []) (Some lost) answer
    pub fault_is : fault ≡ unprinted answer

module _ (digest : List ℕ → List ℕ) {S : Type 0} (may : S → Path → Option (List ℕ) → Type 0) (failed : S → ℕ)
    (asked : S → Option (List Path)) (origin : List ℕ) (keys : List Key) (places left_places : Places S)
    (name forks : Option (List ℕ)) (held put : Option (List Put)) (failures more_failures : ℕ)
    (recorded left : Option (List NamedFile)) (old new : Option (List ℕ)) (from to : Repaired) where
  -- the copy was repaired to the end. Then "so" holds of the places, the folder and its count of failures
  pub record RepairsAndThen (so : Places S → Option (List Put) → ℕ → Type 0) : Type 0 where
    pub mid_places : Places S
    pub mid : Option (List Put)
    pub mid_failures : ℕ
    pub repairs : RepairsCopy digest may failed asked origin keys places mid_places held mid failures mid_failures from to (Ok tt)
    pub follows : so mid_places mid mid_failures

  -- the line was written, and then the copy was followed from there
  pub record FollowsPrinted (answer : Result ℕ FollowRunFault) : Type 0 where
    pub text : Option (List ℕ)
    pub line : Appends old text (repaired_line to.put)
    pub does : RepairsAndThen (λ mid_places mid mid_failures.
        RunsFollow digest may failed asked origin keys mid_places left_places name forks mid mid put mid_failures
        more_failures recorded left text new answer)

  -- only a prefix of the line was written. The rest of the output went nowhere
  pub record FollowsUnprinted (fault : FollowRunFault) : Type 0 where
    pub line : AppendsPrefix old new (repaired_line to.put)
    pub does : RepairsAndThen (λ mid_places mid mid_failures.
        FollowsLost digest may failed asked origin keys mid_places left_places name forks mid put mid_failures more_failures
        recorded left fault)

  -- the run ended with the repair, whose answer this is. No evidence was put
  pub record EndsRepaired (printed : Type 0) (answer : Result (Unit {0}) RepairFault) : Type 0 where
    pub given : Option (List ℕ)
    pub reads : ReadsNote recorded name (Ok given)
    pub repairs :
        RepairsCopy digest may failed asked origin keys places left_places held put failures more_failures from to answer
    pub files : left ≡ recorded
    pub line : printed

  -- each answer of a run in the open folder
  abbrev pub RunsOpen : Result ℕ RepairRunFault → Type 0
  RunsOpen (Ok status) = FollowsPrinted (Ok status)
  RunsOpen (Err (Early fault)) = ⊥
  RunsOpen (Err OutOfMemory) = (answer : Result (Unit {0}) RepairFault) × EndsRepaired (Keeps old new) answer
  RunsOpen (Err (Repair fault)) = EndsRepaired (Appends old new (repaired_line to.put)) (Err fault)
  RunsOpen (Err (RepairAndOutput fault)) = EndsRepaired (AppendsPrefix old new (repaired_line to.put)) (Err fault)
  RunsOpen (Err (Followed fault)) = FollowsPrinted (Err fault)
  RunsOpen (Err (Unprinted fault)) = FollowsUnprinted fault

module _ (digest : List ℕ → List ℕ) {S : Type 0} (may : S → Path → Option (List ℕ) → Type 0) (failed : S → ℕ)
    (asked : S → Option (List Path)) (origin : List ℕ) (keys : List Key) (places left_places : Places S)
    (name forks : Option (List ℕ)) (held before put : Option (List Put)) (failures more_failures : ℕ)
    (recorded left : Option (List NamedFile)) (old new : Option (List ℕ)) (from to : Repaired) where
  -- the run ended before the repair. Nothing was put, written or asked for
  pub record EndsEarly (fault : FollowRunFault) : Type 0 where
    pub ends : EndsBefore recorded name before put fault
    pub text : Keeps old new
    pub files : left ≡ recorded
    pub places_are : left_places ≡ places
    pub count : to ≡ from
    pub counted : more_failures ≡ failures

  -- each answer: first the named note is read, and the folder is held and opened. Then the copy is repaired, and the line is written. Last
  -- the run goes on as one without a repair
  abbrev pub RunsRepair : Result ℕ RepairRunFault → Type 0
  RunsRepair (Err (Early fault)) = EndsEarly fault
  RunsRepair (Ok status) =
      RunsOpen digest may failed asked origin keys places left_places name forks held put failures more_failures recorded left
      old new from to (Ok status)
  RunsRepair (Err OutOfMemory) =
      RunsOpen digest may failed asked origin keys places left_places name forks held put failures more_failures recorded left
      old new from to (Err OutOfMemory)
  RunsRepair (Err (Repair fault)) =
      RunsOpen digest may failed asked origin keys places left_places name forks held put failures more_failures recorded left
      old new from to (Err (Repair fault))
  RunsRepair (Err (RepairAndOutput fault)) =
      RunsOpen digest may failed asked origin keys places left_places name forks held put failures more_failures recorded left
      old new from to (Err (RepairAndOutput fault))
  RunsRepair (Err (Followed fault)) =
      RunsOpen digest may failed asked origin keys places left_places name forks held put failures more_failures recorded left
      old new from to (Err (Followed fault))
  RunsRepair (Err (Unprinted fault)) =
      RunsOpen digest may failed asked origin keys places left_places name forks held put failures more_failures recorded left
      old new from to (Err (Unprinted fault))
