-- All that is known of a command that ran: its answer, what it left, and its end.
use Rattle.std.specs.Prelude.{◌≡◌, ◌⊎◌, ℕ, List, Option, Result, Ok, Err, IfErr, IfOk, Bool, true, false, ⊤}
use Rattle.std.specs.Io.KnownBytes.{Keeps}
use Rattle.signed_note.specs.Keys.{Key}
use Rattle.program_io.specs.Moment.{Moment}

-- the exit status of a command that was done: 0, or 3 for no
abbrev pub IsStatus : ℕ → Type 0
IsStatus status = (status ≡ 0) ⊎ (status ≡ 3)

-- the exit status of a verdict: 3 for no
abbrev pub verdict_status : Bool → ℕ
verdict_status true = 0
verdict_status false = 3

-- the answer of a call that returns nothing: success
abbrev pub done : {F : Type 0} → Result (Unit {0}) F
done = Ok tt

-- the fault of such a call
abbrev pub failed : {F : Type 0} → F → Result (Unit {0}) F
failed fault = Err fault

-- files may be changed, and put into a folder: what the command does says which
abbrev pub MayLeave : Moment → Moment → Type 0
MayLeave old new = ⊤

-- no file was changed
abbrev pub KeepsFiles : Moment → Moment → Type 0
KeepsFiles old new = new.files ≡ old.files

-- nothing was put into a folder
abbrev pub KeepsFolders : Moment → Moment → Type 0
KeepsFolders old new = new.puts ≡ old.puts

-- no file was changed, and nothing was put into a folder
abbrev pub Stays : Moment → Moment → Type 0
Stays old new = (new.files ≡ old.files) × (new.puts ≡ old.puts)

-- nothing was put or written
abbrev pub DoesNothing : Moment → Moment → Type 0
DoesNothing old new = (new.puts ≡ old.puts) × (new.files ≡ old.files) × Keeps old.output new.output

-- the status is 0 or 3; after a fault that is not late nothing was written
pub record Ends {F : Type 0} (IsLate : F → Type 0) (old new : Option (List ℕ)) (answer : Result ℕ F) : Type 0 where
  pub status : IfOk answer IsStatus
  pub quiet : IfErr answer (λ fault. (¬ IsLate fault) → Keeps old new)

-- the command did what `Does` says of its answer, and left what it must leave; after some faults, the late ones, text may have
-- been written
pub record Performs {C F : Type 0}
    (Does : (List ℕ → List ℕ) → List Key → Moment → Moment → C → Result ℕ F → Type 0) (IsLate : F → Type 0)
    (Leaves : Moment → Moment → Type 0) (digest : List ℕ → List ℕ) (keys : List Key) (old new : Moment)
    (command : C) (answer : Result ℕ F) : Type 0 where
  pub done : Does digest keys old new command answer
  pub leaves : Leaves old new
  pub ends : Ends IsLate old.output new.output answer
