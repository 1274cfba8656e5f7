-- The output of the command `entries` for the entries that a mirror serves.
use Rattle.std.specs.Prelude.{◌⊎◌, ℕ, ◌-◌, ◌<◌, ◌≤◌, List, length, Bool, Option, None, Result, Ok, Err}
use Rattle.std.specs.Io.KnownBytes.{Appends, Keeps}
use Rattle.byte_streams.specs.Streams.{AppendsPrefix}
use Rattle.tlog_hash.specs.Rows.{part}
use Rattle.mirror_model.specs.View.{View}
use Rattle.mirror_model.specs.Reports.{SaysServed}
use Rattle.mirror_model.specs.Served.{IsServedList}
use Rattle.program_copies.specs.Texts.{entries_text}
use Rattle.program_copies.specs.declared.entries_fault.StateEntriesFault.{StateEntriesFault}
use Rattle.program_copies.specs.declared.entries_fault.StateEntriesFault.TheVariants.{NothingComplete, NoSuchSize, Backwards}
use Rattle.program_copies.specs.declared.entries_fault.StateEntriesFault.TheVariants.{WriteFault, OutOfMemory}

-- the entries of a list from the first number up to the second were written
abbrev pub WritesAll : List (List ℕ) → Bool → ℕ → ℕ → Option (List ℕ) → Option (List ℕ) → Type 0
WritesAll entries base64 from to old new =
    Appends old new (entries_text base64 (part from (to - from) entries))

-- a prefix of the text of the entries up to some number was written. The number is at most TO
pub record WritesFirst (entries : List (List ℕ)) (base64 : Bool) (from to : ℕ)
    (old new : Option (List ℕ)) : Type 0 where
  pub upto : ℕ
  pub within : upto ≤ to
  pub written : AppendsPrefix old new (entries_text base64 (part from (upto - from) entries))

module _ (digest : List ℕ → List ℕ) (v : View) (from to : ℕ) (base64 : Bool)
    (old new : Option (List ℕ)) where
  -- the served entries from FROM up to TO were written
  pub record WritesServed : Type 0 where
    pub entries : List (List ℕ)
    pub served : IsServedList digest v entries
    pub rises : from ≤ to
    pub within : to ≤ length entries
    pub written : WritesAll entries base64 from to old new

  -- the mirror serves TO entries, and the writing of them ended early
  pub record WritesSomeServed : Type 0 where
    pub entries : List (List ℕ)
    pub served : IsServedList digest v entries
    pub rises : from ≤ to
    pub within : to ≤ length entries
    pub written : WritesFirst entries base64 from to old new

  -- the mirror serves fewer than TO entries
  pub record HasFewer : Type 0 where
    pub entries : List (List ℕ)
    pub served : IsServedList digest v entries
    pub fewer : length entries < to

  -- the mirror serves TO entries, and FROM is larger
  pub record HasBackwards : Type 0 where
    pub entries : List (List ℕ)
    pub served : IsServedList digest v entries
    pub within : to ≤ length entries
    pub falls : to < from

  -- the facts about the served entries and the output at each answer of the command
  abbrev pub AnswersServed : {T : Type 0} → Result T StateEntriesFault → Type 0
  AnswersServed (Ok x) = WritesServed
  AnswersServed (Err NothingComplete) = SaysServed digest v None × Keeps old new
  AnswersServed (Err NoSuchSize) = HasFewer × Keeps old new
  AnswersServed (Err Backwards) = HasBackwards × Keeps old new
  AnswersServed (Err WriteFault) = WritesSomeServed
  AnswersServed (Err OutOfMemory) = Keeps old new ⊎ WritesSomeServed
