-- The times at which a line is written.
use Rattle.std.specs.Prelude.{◌≡◌, ℕ, ◌+◌, ◌≤◌, List, Option, Some, None, ⊤}
use Rattle.byte_streams.specs.Streams.{AppendsPrefix}
use Rattle.program_io.specs.declared.counts.Counts.{Counts}
use Rattle.program_io.specs.declared.task.Task.{Task}
use Rattle.program_io.specs.ProgressText.{progress_text, line_of}

-- the model of a `Progress`: the writer, the command, the number of all files if it is known, and
-- the counts of the work done. Then the time from which the next line may be written,
-- in nanoseconds of the clock; None if nothing is reported. And the length of the file that was
-- read last
pub record ProgressView (W : Type 0) : Type 0 where
  pub writer : W
  pub task : Task
  pub all : Option ℕ
  pub counts : Counts
  pub due : Option ℕ
  pub last_len : ℕ

-- a line may be written at that time
abbrev pub IsDue : Option ℕ → ℕ → Type 0
IsDue None now = ⊥
IsDue (Some due) now = due ≤ now

-- the next line may be written a second after that time, or never if the clock ends before
abbrev pub IsSecondAfter : ℕ → Option ℕ → Type 0
IsSecondAfter now None = ⊤
IsSecondAfter now (Some due) = due ≡ now + 1_000_000_000

-- the line that reports the progress
abbrev pub printed_line : {W : Type 0} → ProgressView W → List ℕ
printed_line t = line_of (progress_text t.task t.all t.counts)

-- the reported work stays the same
pub record SameWork {W : Type 0} (old new : ProgressView W) : Type 0 where
  pub task : new.task ≡ old.task
  pub all : new.all ≡ old.all
  pub counts : new.counts ≡ old.counts

-- the report at that time. If a line may be written, it is written until the writer fails, and the
-- next line may follow a second later. Otherwise nothing is written
pub record ReportsAt {W : Type 0} (contents : W → Option (List ℕ)) (now : ℕ) (old new : ProgressView W) :
    Type 0 where
  pub same : SameWork old new
  pub late : IsDue old.due now → IsSecondAfter now new.due
  pub line : IsDue old.due now →
      AppendsPrefix (contents old.writer) (contents new.writer) (printed_line old)
  pub early : (¬ IsDue old.due now) → new ≡ old

-- one line or nothing is written, until the writer fails; if nothing is reported, nothing is
-- written
pub record ReportsOnce {W : Type 0} (contents : W → Option (List ℕ)) (old new : ProgressView W) :
    Type 0 where
  pub line : AppendsPrefix (contents old.writer) (contents new.writer) (printed_line new)
  pub silent : old.due ≡ None → (new.due ≡ None) × (new.writer ≡ old.writer)
