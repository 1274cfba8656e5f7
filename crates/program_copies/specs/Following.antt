-- The files that a run of `follow` reads, its puts into the folder, its output, and the evidence.
use Rattle.std.specs.Prelude.{◌≡◌, ◌⊎◌, ℕ, All, IfErr, IfOk, List, Option, Some, None, Result, Ok, Err, ⊤}
use Rattle.std.specs.Io.KnownBytes.{Appends, Keeps}
use Rattle.tlog_tiles.specs.declared.paths.Path.{Path}
use Rattle.tlog_tiles.specs.declared.paths.Path.TheVariants.{Checkpoint}
use Rattle.byte_streams.specs.Streams.{AppendsPrefix}
use Rattle.signed_note.specs.Keys.{Key}
use Rattle.mirror_folders.specs.Shelf.{Put, RecordsRead}
use Rattle.copy_places.specs.declared.places.Places.{Places}
use Rattle.copy_places.specs.AskedOnce.{AsksEachOnce}
use Rattle.copy_places.specs.Requests.{MayGiveNote}
use Rattle.copy_places.specs.GatheredFrom.{AreCandidates, AreFirstCandidates}
use Rattle.copy_places.specs.Shown.{ShowsLine}
use Rattle.copy_places.specs.declared.candidate.Candidate.{Candidate}
use Rattle.copy_follow.specs.Blame.{CountsFollowFault}
use Rattle.copy_follow.specs.Ending.{EndsFor, EndsOnce}
use Rattle.copy_follow.specs.Looks.{EndsLooking}
use Rattle.copy_follow.specs.OneHonestRun.{IsHonestAmong, IsHonestRun, IsOfShelfOrMemory, ReachesLog, ReachesSize}
use Rattle.copy_follow.specs.Runs.{FollowsCandidates}
use Rattle.copy_follow.specs.Says.{Says}
use Rattle.copy_follow.specs.RunStanding.{IsFollowed}
use Rattle.copy_follow.specs.Told.{TellsLarger}
use Rattle.copy_follow.specs.declared.follow_fault.FollowFault.{FollowFault}
use Rattle.copy_follow.specs.declared.follow_fault.FollowFault.TheVariants as following
use Rattle.copy_follow.specs.declared.report.Followed.{Followed}
use Rattle.program_io.specs.Named.{HasContents, NamedFile, ReadsShort}
use Rattle.program_io.specs.declared.file_fault.NamedFault.{NamedFault}
use Rattle.program_copies.specs.Evidence.{PutsFiles, evidence_of}
use Rattle.program_copies.specs.Text.{followed_lines, followed_status_of}
use Rattle.program_copies.specs.declared.follow_fault.FollowRunFault.{FollowRunFault}
use Rattle.program_copies.specs.declared.follow_fault.FollowRunFault.TheVariants.{File, CopyInUse, OutOfMemory, Follow, WriteFault, Evidence, EvidenceAndOutput}

-- ---- the given note

-- the bytes of the named file, if one is named
abbrev pub ReadsNote : Option (List NamedFile) → Option (List ℕ) → Result (Option (List ℕ)) NamedFault → Type 0
ReadsNote recorded None (Ok note) = note ≡ None
ReadsNote recorded None (Err fault) = ⊥
ReadsNote recorded (Some name) (Ok None) = ⊥
ReadsNote recorded (Some name) (Ok (Some bytes)) = HasContents recorded name bytes
ReadsNote recorded (Some name) (Err fault) = ReadsShort recorded name (Err fault)

-- the named file was read, or its fault is the answer
abbrev pub ReadsGiven : {T : Type 0} → Option (List NamedFile) → Option (List ℕ) → Result T FollowRunFault → Type 0
ReadsGiven recorded name (Err (File fault)) = ReadsNote recorded name (Err fault)
ReadsGiven recorded name (Err CopyInUse) = (note : Option (List ℕ)) × ReadsNote recorded name (Ok note)
ReadsGiven recorded name (Err OutOfMemory) = (note : Option (List ℕ)) × ReadsNote recorded name (Ok note)
ReadsGiven recorded name (Err (Follow fault)) = (note : Option (List ℕ)) × ReadsNote recorded name (Ok note)
ReadsGiven recorded name (Err WriteFault) = (note : Option (List ℕ)) × ReadsNote recorded name (Ok note)
ReadsGiven recorded name (Err (Evidence fault)) = (note : Option (List ℕ)) × ReadsNote recorded name (Ok note)
ReadsGiven recorded name (Err (EvidenceAndOutput fault)) = (note : Option (List ℕ)) × ReadsNote recorded name (Ok note)
ReadsGiven recorded name (Ok x) = (note : Option (List ℕ)) × ReadsNote recorded name (Ok note)

-- the faults before the folder is open
abbrev pub IsEarly : FollowRunFault → Type 0
IsEarly (File fault) = ⊤
IsEarly CopyInUse = ⊤
IsEarly OutOfMemory = ⊤
IsEarly other = ⊥

-- the run ended before the folder was open, and put nothing into it
pub record EndsBefore (recorded : Option (List NamedFile)) (name : Option (List ℕ)) (before put : Option (List Put))
    (fault : FollowRunFault) : Type 0 where
  pub is_early : IsEarly fault
  pub given : ReadsGiven {T = ℕ} recorded name (Err fault)
  pub copy : put ≡ before

-- the note is that of the named file. If none is named, it is one that a place may give for its checkpoint
abbrev pub IsNoteOf : {S : Type 0} → (S → Path → Option (List ℕ) → Type 0) → Option (List NamedFile) →
    Option (List ℕ) → Places S → List ℕ → Type 0
IsNoteOf may recorded None places note = MayGiveNote may places note
IsNoteOf may recorded (Some name) places note = HasContents recorded name note

-- ---- the candidates

-- the candidates are the note of the named file. If none is named, they are exactly the notes that open, of those that the places gave
-- first, when each was asked for its checkpoint once at most, and for no other file. A later failure of a place changes nothing of them
pub record AreRunCandidates {S : Type 0} (may : S → Path → Option (List ℕ) → Type 0) (failed : S → ℕ)
    (asked : S → Option (List Path)) (origin : List ℕ) (keys : List Key) (old new : Places S)
    (recorded : Option (List NamedFile)) (name : Option (List ℕ)) (candidates : List Candidate) : Type 0 where
  pub given : Option (List ℕ)
  pub reads : ReadsNote recorded name (Ok given)
  pub are : AreFirstCandidates may failed asked origin keys old new given candidates

-- a look at the folder's checkpoint, at some moment of the run, shows that a fault of the copy is right
pub record EndsByRunLook {D : Type 0} (puts : D → Option (List Put)) (so : List ℕ → Type 0) (held : Option (List Put))
    (fault : FollowFault) : Type 0 where
  pub look : D
  pub ends : EndsLooking so held (puts look) fault

-- the same for each fault of `follow`, where a checkpoint that was found later is that of a candidate of the run
abbrev pub LooksRun : {D S : Type 0} → (D → Option (List Put)) → (S → Path → Option (List ℕ) → Type 0) →
    Option (List NamedFile) → Option (List ℕ) → Places S → Option (List Put) → Result ℕ FollowRunFault → Type 0
LooksRun puts may recorded name places held answer =
    IfErr answer (λ e. (fault : FollowFault) → e ≡ Follow fault →
    EndsByRunLook puts (IsNoteOf may recorded name places) held fault)

-- a fault of `follow` has its reason, with the note of the named file, if one is named
pub record EndsFollowing (digest : List ℕ → List ℕ) {S : Type 0} (may : S → Path → Option (List ℕ) → Type 0)
    (asked : S → Option (List Path)) (origin : List ℕ) (keys : List Key) (held : Option (List Put)) (old new : Places S)
    (recorded : Option (List NamedFile)) (name : Option (List ℕ)) (fault : FollowFault) : Type 0 where
  pub given : Option (List ℕ)
  pub reads : ReadsNote recorded name (Ok given)
  pub ends : EndsFor digest may origin keys held old new given fault
  pub passed : EndsOnce (AsksEachOnce asked (λ k path. path ≡ Checkpoint) old new) (RecordsRead held Checkpoint None) fault

-- ---- the copy

module _ (digest : List ℕ → List ℕ) (origin : List ℕ) (keys : List Key) (so : List ℕ → Type 0)
    (held : Option (List Put)) where
  -- at each moment the folder had a whole copy, under notes for which "so" holds. At the end the copy has the size and the root of the
  -- answer. Each fork line shows that no log has both of its checkpoints
  pub record CopyFollowed (put : Option (List Put)) (done : Followed) : Type 0 where
    pub whole : FollowsCandidates digest origin keys so held put
    pub brought : IsFollowed digest origin held put done
    pub forks : All (ShowsLine digest) done.forks.items

-- the folder's number of failures rises by one at its fault, and at no other
abbrev pub CountsRun : {T : Type 0} → ℕ → ℕ → Result T FollowRunFault → Type 0
CountsRun old new (Ok x) = new ≡ old
CountsRun old new (Err (File fault)) = new ≡ old
CountsRun old new (Err CopyInUse) = new ≡ old
CountsRun old new (Err OutOfMemory) = new ≡ old
CountsRun old new (Err (Follow fault)) = CountsFollowFault old new fault
CountsRun old new (Err WriteFault) = new ≡ old
CountsRun old new (Err (Evidence fault)) = new ≡ old
CountsRun old new (Err (EvidenceAndOutput fault)) = new ≡ old

-- ---- the output and the evidence

-- the answer of a call that put all files
abbrev pub files_put : Result (Unit {0}) NamedFault
files_put = Ok tt

-- the answer of a call that ended early
abbrev pub files_failed : NamedFault → Result (Unit {0}) NamedFault
files_failed fault = Err fault

module _ (origin : List ℕ) (keys : List Key) (forks : Option (List ℕ)) (done : Followed)
    (recorded left : Option (List NamedFile)) (old new : Option (List ℕ)) where
  -- the evidence was put according to the answer, and the text was written whole
  pub record PrintsAllText (answer : Result (Unit {0}) NamedFault) : Type 0 where
    pub evidence : PutsFiles origin keys (evidence_of forks done.forks.items) recorded left answer
    pub text : Appends old new (followed_lines done)

  -- all of the evidence was put, the text was written whole, and the status is that of the result
  pub record PrintsAll (status : ℕ) : Type 0 where
    pub whole : PrintsAllText files_put
    pub status_is : status ≡ followed_status_of done

  -- the evidence was put according to the answer, and a prefix of the text was written
  pub record PrintsFront (answer : Result (Unit {0}) NamedFault) : Type 0 where
    pub evidence : PutsFiles origin keys (evidence_of forks done.forks.items) recorded left answer
    pub text : AppendsPrefix old new (followed_lines done)

  -- memory for the text was refused, and nothing was written
  pub record PrintsNothing (fault : FollowFault) : Type 0 where
    pub fault_is : fault ≡ following.OutOfMemory
    pub text : Keeps old new
    pub files : left ≡ recorded

  -- the output at each answer: first the evidence of the forks is put, then the text is written, whether or not the evidence was put
  abbrev pub PrintsDone : Result ℕ FollowRunFault → Type 0
  PrintsDone (Ok status) = PrintsAll status
  PrintsDone (Err (File fault)) = ⊥
  PrintsDone (Err CopyInUse) = ⊥
  PrintsDone (Err OutOfMemory) = ⊥
  PrintsDone (Err (Follow fault)) = PrintsNothing fault
  PrintsDone (Err WriteFault) = PrintsFront files_put
  PrintsDone (Err (Evidence fault)) = PrintsAllText (files_failed fault)
  PrintsDone (Err (EvidenceAndOutput fault)) = PrintsFront (files_failed fault)

-- ---- what is said

module _ (digest : List ℕ → List ℕ) {S : Type 0} (may : S → Path → Option (List ℕ) → Type 0) (failed : S → ℕ)
    (asked : S → Option (List Path)) (origin : List ℕ) (keys : List Key) (places left_places : Places S)
    (so : List Candidate → Type 0) (held put : Option (List Put)) (forks : Option (List ℕ))
    (recorded left : Option (List NamedFile)) (old new : Option (List ℕ)) where
  -- the output and the evidence are of a result that states for each candidate how it was settled. So each note of the evidence is that of
  -- a candidate, or the copy's. Each larger candidate in the output agrees with the copy, or a proof could not be had
  pub record PrintsSettled (answer : Result ℕ FollowRunFault) : Type 0 where
    pub done : Followed
    pub says : Says digest origin so held put done
    pub larger : TellsLarger digest may failed asked places left_places done
    pub tells : PrintsDone origin keys forks done recorded left old new answer

  -- this holds once the copy was followed
  abbrev pub SettlesRun : Result ℕ FollowRunFault → Type 0
  SettlesRun (Ok status) = PrintsSettled (Ok status)
  SettlesRun (Err (File fault)) = ⊤
  SettlesRun (Err CopyInUse) = ⊤
  SettlesRun (Err OutOfMemory) = ⊤
  SettlesRun (Err (Follow fault)) = ⊤
  SettlesRun (Err WriteFault) = PrintsSettled (Err WriteFault)
  SettlesRun (Err (Evidence fault)) = PrintsSettled (Err (Evidence fault))
  SettlesRun (Err (EvidenceAndOutput fault)) = PrintsSettled (Err (EvidenceAndOutput fault))

-- ---- one honest place

module _ (digest : List ℕ → List ℕ) (origin : List ℕ) (held put : Option (List Put)) (old new : Option (List ℕ))
    (so : Followed → Type 0) where
  -- the copy was followed, "so" holds for its answer, and this text was written for it
  pub record CopyReaches (text : Followed → Type 0) : Type 0 where
    pub done : Followed
    pub brought : IsFollowed digest origin held put done
    pub is_so : so done
    pub written : text done

  -- the copy was followed, and "so" holds for its answer, for all results of the output and the evidence. Or `follow` ended since the
  -- folder failed or is in use, or memory was refused
  abbrev pub ReachesRun : Result ℕ FollowRunFault → Type 0
  ReachesRun (Ok status) = CopyReaches (λ done. Appends old new (followed_lines done))
  ReachesRun (Err (File fault)) = ⊤
  ReachesRun (Err CopyInUse) = ⊤
  ReachesRun (Err OutOfMemory) = ⊤
  ReachesRun (Err (Follow fault)) = IsOfShelfOrMemory fault
  ReachesRun (Err WriteFault) = CopyReaches (λ done. AppendsPrefix old new (followed_lines done))
  ReachesRun (Err (Evidence fault)) = CopyReaches (λ done. Appends old new (followed_lines done))
  ReachesRun (Err (EvidenceAndOutput fault)) = CopyReaches (λ done. AppendsPrefix old new (followed_lines done))

module _ (digest : List ℕ → List ℕ) {S : Type 0} (may : S → Path → Option (List ℕ) → Type 0) (origin : List ℕ)
    (keys : List Key) (held put : Option (List Put)) (places left : Places S) (recorded : Option (List NamedFile))
    (name : Option (List ℕ)) (old new : Option (List ℕ)) where
  -- if one place is honest, and the greatest candidate is of its log, the copy is brought to it. If another candidate is, the copy has at
  -- least its size. The candidates are the note of the named file or, if none is named, those of the places
  pub record HonestSuffices (answer : Result ℕ FollowRunFault) : Type 0 where
    pub given : Option (List ℕ)
    pub reads : ReadsNote recorded name (Ok given)
    pub suffices :
        (h : IsHonestRun digest may held places left origin (AreCandidates may origin keys places left given)) →
        ReachesRun digest origin held put old new (λ done. ReachesLog digest h.entries h.size (Ok done)) answer
    pub reaches :
        (h : IsHonestAmong digest may put places left origin held (AreCandidates may origin keys places left given)) →
        ReachesRun digest origin held put old new (λ done. ReachesSize h.size (Ok done)) answer

  -- this holds if the named file was read
  abbrev pub SufficesForRun : Result ℕ FollowRunFault → Type 0
  SufficesForRun (Ok status) = HonestSuffices (Ok status)
  SufficesForRun (Err (File fault)) = ⊤
  SufficesForRun (Err CopyInUse) = HonestSuffices (Err CopyInUse)
  SufficesForRun (Err OutOfMemory) = HonestSuffices (Err OutOfMemory)
  SufficesForRun (Err (Follow fault)) = HonestSuffices (Err (Follow fault))
  SufficesForRun (Err WriteFault) = HonestSuffices (Err WriteFault)
  SufficesForRun (Err (Evidence fault)) = HonestSuffices (Err (Evidence fault))
  SufficesForRun (Err (EvidenceAndOutput fault)) = HonestSuffices (Err (EvidenceAndOutput fault))

-- ---- the command

module _ (digest : List ℕ → List ℕ) (origin : List ℕ) (keys : List Key) (so : List ℕ → Type 0) (forks : Option (List ℕ))
    (held before put : Option (List Put)) (recorded : Option (List NamedFile)) (left : Option (List NamedFile))
    (old new : Option (List ℕ)) where
  -- the copy was followed, and the result was written according to the answer
  pub record FollowsAndTells (answer : Result ℕ FollowRunFault) : Type 0 where
    pub done : Followed
    pub copy : CopyFollowed digest origin keys so held put done
    pub tells : PrintsDone origin keys forks done recorded left old new answer

  -- nothing was put into the folder, and nothing was written
  pub record LeavesAll : Type 0 where
    pub copy : put ≡ before
    pub text : Keeps old new
    pub files : left ≡ recorded

  -- the copy was followed until the fault, and nothing was written
  pub record FollowsOnly : Type 0 where
    pub copy : FollowsCandidates digest origin keys so held put
    pub text : Keeps old new
    pub files : left ≡ recorded

  -- the effects at each answer of the command. First the file of the note is read. Then the folder is held and opened, and the copy is
  -- followed. Then the evidence is put, and last the text is written
  abbrev pub Follows : Result ℕ FollowRunFault → Type 0
  Follows (Ok status) = FollowsAndTells (Ok status)
  Follows (Err (File fault)) = LeavesAll
  Follows (Err CopyInUse) = LeavesAll
  Follows (Err OutOfMemory) = LeavesAll
  Follows (Err (Follow fault)) = FollowsOnly
  Follows (Err WriteFault) = FollowsAndTells (Err WriteFault)
  Follows (Err (Evidence fault)) = FollowsAndTells (Err (Evidence fault))
  Follows (Err (EvidenceAndOutput fault)) = FollowsAndTells (Err (EvidenceAndOutput fault))

-- ---- all that is said of a run

module _ (digest : List ℕ → List ℕ) {S : Type 0} (may : S → Path → Option (List ℕ) → Type 0) (failed : S → ℕ)
    (asked : S → Option (List Path)) (origin : List ℕ) (keys : List Key) (places left_places : Places S)
    (name forks : Option (List ℕ)) (held before put : Option (List Put)) (failures more_failures : ℕ)
    (recorded left : Option (List NamedFile)) (old new : Option (List ℕ)) where
  -- the candidates of the run
  abbrev pub OfRun : List Candidate → Type 0
  OfRun candidates = AreRunCandidates may failed asked origin keys places left_places recorded name candidates

  -- what is said of each answer
  pub record RunsFollow (answer : Result ℕ FollowRunFault) : Type 0 where
    pub follows :
        Follows digest origin keys (IsNoteOf may recorded name places) forks held before put recorded left old new answer
    pub says :
        SettlesRun digest may failed asked origin keys places left_places OfRun held put forks recorded left old new answer
    pub ends : IfErr answer (λ e. (fault : FollowFault) → e ≡ Follow fault →
        EndsFollowing digest may asked origin keys held places left_places recorded name fault)
    pub given : ReadsGiven recorded name answer
    pub counted : CountsRun failures more_failures answer
    pub status : IfOk answer (λ status. (status ≡ 0) ⊎ (status ≡ 3))
    pub suffices : SufficesForRun digest may origin keys held put places left_places recorded name old new answer
