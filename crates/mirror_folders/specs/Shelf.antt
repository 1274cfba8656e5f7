-- The record that a shelf keeps of its puts.
use Rattle.std.specs.Prelude.{◌≡◌, ◌↔◌, ℕ, List, [], ◌∷◌, ◌++◌, map, Option, Some, None, Result, Ok}
use Rattle.std.specs.Prelude.{Err, Bool, IsTrue, Contains, ⊤}
use Rattle.tlog_tiles.specs.declared.paths.Path.{Path}
use Rattle.mirror_sources.specs.Recorded.{KeepsRecord, AddsToRecord, one_more}
use Rattle.mirror_folders.specs.declared.shelf.ShelfError.{ShelfError}
use Rattle.mirror_folders.specs.declared.shelf.ShelfError.TheVariants.{Failed, OutOfMemory}

-- one put onto a shelf: a path, and the bytes that were put there
abbrev pub Put : Type 0
Put = Path × List ℕ

-- something was put at the path
abbrev pub HasPut : List Put → Path → Type 0
HasPut puts path = Contains (map (λ put. put.0) puts) path

-- the bytes are on the shelf at the path: they were put there, and nothing was put there after them
pub record Stands (puts : List Put) (path : Path) (bytes : List ℕ) : Type 0 where
  pub before : List Put
  pub after : List Put
  pub puts_are : puts ≡ before ++ (path, bytes) ∷ after
  pub kept : (other : List ℕ) → Contains after (path, other) → other ≡ bytes

-- a put that answers Ok is recorded last, and one that answers an error changes nothing
abbrev pub RecordsPut : {T : Type 0} → Option (List Put) → Option (List Put) → Put →
    Result T ShelfError → Type 0
RecordsPut old new put (Ok x) = AddsToRecord old new (put ∷ [])
RecordsPut old new put (Err e) = KeepsRecord old new

-- the answer says whether something was put at the path
abbrev pub RecordsHas : Option (List Put) → Path → Bool → Type 0
RecordsHas None path answer = ⊤
RecordsHas (Some puts) path answer = IsTrue answer ↔ HasPut puts path

-- the answer is the bytes of the last put at the path, or None if nothing was put there
abbrev pub RecordsRead : Option (List Put) → Path → Option (List ℕ) → Type 0
RecordsRead None path answer = ⊤
RecordsRead (Some puts) path None = ¬ HasPut puts path
RecordsRead (Some puts) path (Some bytes) = Stands puts path bytes

-- nothing was put at the path, if the shelf records its puts
abbrev pub RecordsNone : Option (List Put) → Path → Type 0
RecordsNone None path = ⊤
RecordsNone (Some puts) path = ¬ HasPut puts path

-- something was put at the path, if the shelf records its puts
abbrev pub RecordsSome : Option (List Put) → Path → Type 0
RecordsSome None path = ⊤
RecordsSome (Some puts) path = HasPut puts path

-- the shelf's count of failures rises by one at each failure; OutOfMemory is no failure
abbrev pub CountsError : ℕ → ℕ → ShelfError → Type 0
CountsError old new Failed = new ≡ one_more old
CountsError old new OutOfMemory = new ≡ old

-- a call that answers an error counts it as above, and one that answers Ok leaves the count
abbrev pub CountsFailures : {T : Type 0} → ℕ → ℕ → Result T ShelfError → Type 0
CountsFailures old new (Ok x) = new ≡ old
CountsFailures old new (Err e) = CountsError old new e
