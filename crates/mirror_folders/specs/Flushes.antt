-- The record that a shelf keeps of the files that it flushes to the device.
use Rattle.std.specs.Prelude.{◌≡◌, ℕ, List, [], ◌∷◌, ◌++◌, length, Contains, Option, Some, None, Result, Ok, Err, ⊤}
use Rattle.tlog_tiles.specs.declared.paths.Path.{Path}
use Rattle.tlog_tiles.specs.declared.paths.Path.TheVariants.{Checkpoint}
use Rattle.mirror_folders.specs.Shelf.{HasPut, Put}

-- the files that were put, and those on which a caller relies, the oldest first. That number of them, from the first on, was
-- flushed to the device
pub record Flushes : Type 0 where
  pub files : List Path
  pub flushed : ℕ

-- more files were recorded, and each of these is among them
pub record Gains (so : Path → Type 0) (old new : Flushes) : Type 0 where
  pub more : List Path
  pub files_are : new.files ≡ old.files ++ more
  pub has : (path : Path) → so path → Contains more path

-- the checkpoint was recorded last, and it and all files before it were flushed
pub record FlushesBefore (old new : Flushes) : Type 0 where
  pub files_are : new.files ≡ old.files ++ Checkpoint ∷ []
  pub flushed_is : new.flushed ≡ length new.files

-- each of these files was recorded since, if the shelf keeps a record. No record is lost
abbrev pub Secures : (Path → Type 0) → Option Flushes → Option Flushes → Type 0
Secures so None new = ⊤
Secures so (Some old) None = ⊥
Secures so (Some old) (Some new) = Gains so old new

-- no record is lost
abbrev pub LosesNone : Option Flushes → Option Flushes → Type 0
LosesNone old new = Secures (λ _. ⊥) old new

-- a call that answers Ok records these files. No record is lost, whatever it answers
abbrev pub SecuresAtOk : {T E : Type 0} → (Path → Type 0) → Option Flushes → Option Flushes → Result T E → Type 0
SecuresAtOk so old new (Ok x) = Secures so old new
SecuresAtOk so old new (Err e) = LosesNone old new

-- the checkpoint was put after all files before it were flushed, if the shelf keeps a record
abbrev pub FlushesAll : Option Flushes → Option Flushes → Type 0
FlushesAll None new = ⊤
FlushesAll (Some old) None = ⊥
FlushesAll (Some old) (Some new) = FlushesBefore old new

-- the same of a call that puts the checkpoint, for each answer
abbrev pub FlushesAtOk : {T E : Type 0} → Option Flushes → Option Flushes → Result T E → Type 0
FlushesAtOk old new (Ok x) = FlushesAll old new
FlushesAtOk old new (Err e) = LosesNone old new

-- a call put the checkpoint last. Each of these files was put, or found and relied on, in that call, and it was flushed before the
-- checkpoint was put
pub record IsFlushedFirst (so : Path → Type 0) (old new : Option Flushes) : Type 0 where
  pub before : Option Flushes
  pub secured : Secures so old before
  pub last : FlushesAll before new

-- each file that was put since is recorded too
pub record AreSecured (held puts : List Put) (old new : Option Flushes) : Type 0 where
  pub added : List Put
  pub puts_are : puts ≡ held ++ added
  pub secured : Secures (λ path. HasPut added path) old new

-- a call that puts files: each of them is recorded, if the shelf records its puts
abbrev pub SecuresPuts : Option (List Put) → Option (List Put) → Option Flushes → Option Flushes → Type 0
SecuresPuts None puts old new = ⊤
SecuresPuts (Some held) None old new = ⊥
SecuresPuts (Some held) (Some puts) old new = AreSecured held puts old new

-- some files and last a checkpoint were put since. Each of the files was flushed before the checkpoint was put
pub record AreFlushed (held puts : List Put) (old new : Option Flushes) : Type 0 where
  pub added : List Put
  pub note : List ℕ
  pub puts_are : puts ≡ held ++ added ++ (Checkpoint, note) ∷ []
  pub flushed : IsFlushedFirst (λ path. HasPut added path) old new

-- a call that puts files and last a checkpoint, if the shelf records its puts
abbrev pub FlushesPuts : Option (List Put) → Option (List Put) → Option Flushes → Option Flushes → Type 0
FlushesPuts None puts old new = ⊤
FlushesPuts (Some held) None old new = ⊥
FlushesPuts (Some held) (Some puts) old new = AreFlushed held puts old new

-- a shelf in memory: its puts, and its record of flushes
pub record InMemory : Type 0 where
  pub puts : List Put
  pub flushes : Flushes
