-- The command `pull`: what it reads from a state file, writes to its state file, and prints.
use Rattle.std.specs.Prelude.{◌≡◌, ◌≢◌, ◌⊎◌, ℕ, List, Option, None, Result, Ok, Err, Bool, IsTrue, option_map}
use Rattle.std.proofs.Common.{inl, inr}
use Rattle.std.specs.Io.KnownBytes.{Appends, Keeps}
use Rattle.byte_streams.specs.Streams.{AppendsPrefix}
use Rattle.signed_note.specs.Keys.{Key}
use Rattle.tlog_tiles.specs.declared.paths.Path.{Path}
use Rattle.mirror_model.specs.Complete.{IsLawful}
use Rattle.mirror_model.specs.View.{View}
use Rattle.mirror_sources.specs.Source.{IsShortAnswer}
use Rattle.mirror_pull.specs.Replying.{FollowsReplies}
use Rattle.mirror_pull.specs.Taking.{PullsTo}
use Rattle.mirror_pull.specs.declared.fault.PullFault.{PullFault}
use Rattle.mirror_pull.specs.declared.fault.PullFault.TheVariants.{Source}
use Rattle.mirror_pull.specs.declared.fault.PullFault.TheVariants as pull
use Rattle.mirror_pull.specs.declared.pulling.Pulled.{Pulled}
use Rattle.program_words.specs.declared.place.Place.{Place}
use Rattle.program_reports.specs.Pulling.{IsPulledStatus, pulled_lines}
use Rattle.program_io.specs.Named.{NamedFile}
use Rattle.program_io.specs.Named.{FailsToPut}
use Rattle.program_io.specs.declared.file_fault.NamedFault.{NamedFault}
use Rattle.program_io.specs.Saved.{IsSaved}
use Rattle.program_io.specs.States.{BeginsWith, SavesFile, WritesState}
use Rattle.program_words.specs.declared.commands.pull.Pull.{Pull as PullWords}
use Rattle.program_io.specs.Moment.{Moment}
use Rattle.program_io.specs.PlaceWords.{PlaceWords, words_of}
use Rattle.state_commands.specs.declared.fault.StateRunFault.{StateRunFault}
use Rattle.state_commands.specs.declared.fault.StateRunFault.TheVariants.{WriteFault, Out, OutOfMemory, Pull, State}

module _ (state : Option (List ℕ)) (start v : View) (out : List ℕ)
    (recorded : Option (List NamedFile)) where
  -- a pull from the view `start` to this view gained nothing; the file `out` is the one that it began with, so it has the
  -- state already
  pub record IsHeld : Type 0 where
    pub saved : IsSaved state start out recorded
    pub nothing : v ≡ start

  -- the file `out` has the state of the view: it was written now, or it had the state already and nothing was written
  abbrev pub LeavesState : Option (List NamedFile) → Type 0
  LeavesState left = WritesState v out recorded left ⊎ (IsHeld × (left ≡ recorded))

  -- the meaning of each answer of such a save
  abbrev pub SavesPulled : {T : Type 0} → Option (List NamedFile) → Result T NamedFault → Type 0
  SavesPulled left (Ok x) = LeavesState left
  SavesPulled left (Err fault) = FailsToPut recorded left fault

-- the meaning of each answer after the pull from the view `start` to this view: the file `out` has the state and the two lines
-- were printed, or the fault says what failed
module _ (state : Option (List ℕ)) (start v : View) (pulled : Pulled) (out : List ℕ)
    (recorded left : Option (List NamedFile)) where
  abbrev pub PrintsPulled : Option (List ℕ) → Option (List ℕ) → Result ℕ StateRunFault → Type 0
  PrintsPulled old new (Ok status) =
      LeavesState state start v out recorded left × Appends old new (pulled_lines pulled)
      × IsPulledStatus pulled status
  PrintsPulled old new (Err WriteFault) =
      LeavesState state start v out recorded left × AppendsPrefix old new (pulled_lines pulled)
  PrintsPulled old new (Err (Out fault)) = FailsToPut recorded left fault × Keeps old new
  PrintsPulled old new (Err OutOfMemory) = LeavesState state start v out recorded left × Keeps old new
  PrintsPulled old new (Err other) = ⊥

-- the words ask to keep what the pull gained before this fault: they have `--keep`, and the source failed
abbrev pub IsKept : Bool → PullFault → Type 0
IsKept keep fault = IsTrue keep × (fault ≡ Source)

module _ (keep : Bool) (out : List ℕ) (recorded left : Option (List NamedFile)) where
  -- the files after a pull from the view `start` to this view that ended with this fault: if the pull gained something to keep,
  -- its state was written with the answer `written`, which nobody reports; else the files are unchanged
  pub record LeavesEarly {T : Type 0} (start v : View) (fault : PullFault) (written : Result T NamedFault)
      : Type 0 where
    pub gained : IsKept keep fault → v ≢ start → SavesFile v out recorded left written
    pub nothing : IsKept keep fault → v ≡ start → left ≡ recorded
    pub other : (¬ IsKept keep fault) → left ≡ recorded

-- the greatest length of a reply from a place in bytes: for a folder that of the longest entry bundle, for a server 8,192 more
abbrev pub most_replied : PlaceWords → ℕ
most_replied (inl folder) = 16_777_472
most_replied (inr server) = 16_785_664

-- the answer of a pull from the view `start` to this view follows from replies of at most `most` bytes each, unless memory was
-- refused
abbrev pub FollowsShortReplies : (List ℕ → List ℕ) → List Key → ℕ → View → View →
    Result Pulled PullFault → Type 0
FollowsShortReplies digest keys most start v answer =
    answer ≢ Err pull.OutOfMemory →
    FollowsReplies digest keys start v (λ path found. IsShortAnswer most found) None None answer

-- a source was read that is at the place of the words: a folder by its path, a server by its host, its prefix, and the address and port
-- that are connected to. The answer of the pull follows from its replies
pub record ReadsPlace (digest : List ℕ → List ℕ) (keys : List Key) (place : Place) (start v : View)
    (answer : Result Pulled PullFault) : Type 0 where
  pub source : PlaceWords
  pub named : source ≡ words_of place
  pub follows : FollowsShortReplies digest keys (most_replied source) start v answer

-- the same of a source that may give these replies, and records these requests. Only private contracts cite it
pub record ReadsSource (digest : List ℕ → List ℕ) (keys : List Key) (place : Place) (start v : View)
    (source : PlaceWords) (may : Path → Option (List ℕ) → Type 0) (asked now : Option (List Path))
    (answer : Result Pulled PullFault) : Type 0 where
  pub named : source ≡ words_of place
  pub follows : FollowsReplies digest keys start v may asked now answer

module _ (digest : List ℕ → List ℕ) (origin : List ℕ) (keys : List Key)
    (state : Option (List ℕ)) (place : Place) (recorded : Option (List NamedFile)) where
  -- the pull began with the mirror of the named state file, or with an empty one if no file is named; it led to this lawful
  -- view, with this answer
  pub record PullsFromFile (v : View) (answer : Result Pulled PullFault) : Type 0 where
    pub start : View
    pub begun : BeginsWith digest origin keys recorded state (Ok start)
    pub pulls : PullsTo digest keys start v answer
    pub reads : ReadsPlace digest keys place start v answer
    pub lawful : IsLawful digest v

  module _ (keep : Bool) (out : List ℕ) (left : Option (List NamedFile))
      (old new : Option (List ℕ)) where
    -- a pull ended early, and left the files so
    pub record PullsEarly (fault : PullFault) : Type 0 where
      pub view : View
      pub pulls : PullsFromFile view (Err fault)
      pub written : Result (Unit {0}) NamedFault
      pub leaves : LeavesEarly keep out recorded left pulls.start view fault written

    -- there is nothing to report: no mirror was read, and the files are unchanged; or the pull ended early
    abbrev pub PullsNothing : Result ℕ StateRunFault → Type 0
    PullsNothing (Err (State fault)) =
        BeginsWith digest origin keys recorded state (Err fault) × (left ≡ recorded)
    PullsNothing (Err (Pull fault)) = PullsEarly fault
    PullsNothing other = ⊥

    -- a pull was completed, and its report was printed
    pub record PullsAndTells (answer : Result ℕ StateRunFault) : Type 0 where
      pub view : View
      pub pulled : Pulled
      pub pulls : PullsFromFile view (Ok pulled)
      pub tells : PrintsPulled state pulls.start view pulled out recorded left old new answer

    -- the meaning of each answer of `pull`: a pull was completed, its state is in the file, and its two lines were printed; or
    -- there was nothing to report, and nothing was written to standard output
    abbrev pub PrintsPull : Result ℕ StateRunFault → Type 0
    PrintsPull answer = (PullsNothing answer × Keeps old new) ⊎ PullsAndTells answer

module _ (digest : List ℕ → List ℕ) (keys : List Key) (old new : Moment) where
  abbrev pub DoesPull : PullWords → Result ℕ StateRunFault → Type 0
  DoesPull c answer =
      PrintsPull digest c.mirror.log.origin.now keys (option_map (λ name. name.now) c.state) c.place
      old.files c.keep c.mirror.out.now new.files old.output new.output answer
