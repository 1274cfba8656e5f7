-- The requests of a pull. Only contracts of private functions cite `AddsTo`, `AreFresh`,
-- `AsksPaths`, `IsFresh` and `PathList`.
use Rattle.std.specs.Prelude.{◌≡◌, ◌≢◌, ℕ, List, ◌++◌, Option, Result, Ok, Err}
use Rattle.std.specs.Prelude.{AllPairs, Contains}
use Rattle.tlog_tiles.specs.declared.paths.Path.{Path}
use Rattle.mirror_sources.specs.Files.{full_of}
use Rattle.mirror_sources.specs.Recorded.{AddsToRecord, Rose}
use Rattle.mirror_pull.specs.declared.fault.PullFault.{PullFault}
use Rattle.mirror_pull.specs.declared.fault.PullFault.TheVariants.{NoCheckpoint, NoEdge, Head}
use Rattle.mirror_pull.specs.declared.fault.PullFault.TheVariants.{Source, Collision, OutOfMemory}

-- the paths that a pull has requested, in order
pub record PathList : Type 0 where
  pub items : List Path

-- no path is in the list twice
abbrev pub IsOnce : List Path → Type 0
IsOnce paths = AllPairs (λ a b. a ≢ b) paths

-- these paths were requested from the source; none was requested before or twice
pub record Adds (before : List Path) (old new : Option (List Path)) (more : List Path)
    : Type 0 where
  pub recorded : AddsToRecord old new more
  pub once : IsOnce before → IsOnce (before ++ more)

-- a successful part of a pull requested some paths, and its list grew by them
pub record AddsTo (before after : List Path) (old new : Option (List Path)) : Type 0 where
  pub more : List Path
  pub list : after ≡ before ++ more
  pub adds : Adds before old new more

-- a part of a pull requested some paths, none of them twice
pub record AddsSome (before : List Path) (old new : Option (List Path)) : Type 0 where
  pub more : List Path
  pub adds : Adds before old new more

-- the requests of a part of a pull, by its answer
abbrev pub AsksPaths : {T : Type 0} → List Path → List Path → Option (List Path) →
    Option (List Path) → Result T PullFault → Type 0
AsksPaths before after old new (Ok x) = AddsTo before after old new
AsksPaths before after old new (Err e) = AddsSome before old new

-- a pull blames its source only if the source's count of failures rose, or is the last value of a
-- u64
abbrev pub BlamesSource : {T : Type 0} → ℕ → ℕ → Result T PullFault → Type 0
BlamesSource old new (Ok x) = new ≡ old
BlamesSource old new (Err NoCheckpoint) = new ≡ old
BlamesSource old new (Err NoEdge) = new ≡ old
BlamesSource old new (Err (Head f)) = new ≡ old
BlamesSource old new (Err Source) = Rose old new
BlamesSource old new (Err Collision) = new ≡ old
BlamesSource old new (Err OutOfMemory) = new ≡ old

-- no file with the level and index of the path was requested, partial or full
abbrev pub IsFresh : List Path → Path → Type 0
IsFresh asked path = (before : Path) → Contains asked before → full_of before ≢ full_of path

-- no file with the level and index of one of these paths was requested, and these paths differ in
-- level or index
pub record AreFresh (asked paths : List Path) : Type 0 where
  pub fresh : (path : Path) → Contains paths path → IsFresh asked path
  pub apart : AllPairs (λ a b. full_of a ≢ full_of b) paths
