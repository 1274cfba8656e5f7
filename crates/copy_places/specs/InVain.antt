-- Places that were asked for a file, and gave none that verifies.
use Rattle.std.specs.Prelude.{◌≡◌, ◌⊎◌, ℕ, ◌<◌, ◌≤◌, List, length, get_or, Option, Some, None, IfSome}
use Rattle.tlog_tiles.specs.Cut.{IsFileCut}
use Rattle.tlog_tiles.specs.declared.paths.Path.{Path}
use Rattle.mirror_sources.specs.Files.{full_of}
use Rattle.copy_places.specs.Asked.{IsAskedInVain}
use Rattle.mirror_folders.specs.Partial.{IsFullCut}
use Rattle.copy_places.specs.declared.place.Place.{Place}
use Rattle.copy_places.specs.declared.places.Places.{Places}

-- this holds for what the place of index k may answer, and for its numbers of failures before and after the call
abbrev pub AtPlace : {S : Type 0} → (S → Path → Option (List ℕ) → Type 0) → Places S → Places S → ℕ →
    ((Path → Option (List ℕ) → Type 0) → ℕ → ℕ → Type 0) → Type 0
AtPlace {S} may old new k so =
    (d : Place S) → so (may (get_or old.list.items k d).source) (get_or old.list.items k d).failures (get_or new.list.items k d).failures

-- the place failed, or was given up. old and new are its numbers of failures
abbrev pub GaveNoAnswer : ℕ → ℕ → Type 0
GaveNoAnswer old new = (old < new) ⊎ (8 ≤ old)

module _ (path : Path) where
  module _ (good : List ℕ → Type 0) (may : Path → Option (List ℕ) → Type 0) where
    -- what the place answered for the partial file is not good. If it has none, that is so of what its full file begins with
    abbrev pub IsNoGoodPart : Option (List ℕ) → Type 0
    IsNoGoodPart (Some bytes) = ¬ good bytes
    IsNoGoodPart None =
        (full : Option (List ℕ)) × may (full_of path) full
        × IfSome full (λ whole. (part : List ℕ) → IsFileCut path 256 whole part → ¬ good part)

    -- a place was asked for the partial file, but gave no good one: it failed, or was given up, or its possible answers are not good
    abbrev pub IsPartAskedInVain : ℕ → ℕ → Type 0
    IsPartAskedInVain old new =
        GaveNoAnswer old new ⊎ ((answer : Option (List ℕ)) × may path answer × IsNoGoodPart answer)

  module _ {S : Type 0} (may : S → Path → Option (List ℕ) → Type 0) (old new : Places S) (good : List ℕ → Type 0) where
    -- each place was asked for the file, and gave no good one
    abbrev pub AreAskedInVain : Type 0
    AreAskedInVain =
        (k : ℕ) → k < length old.list.items →
        AtPlace may old new k (λ answers before after. IsAskedInVain answers before after path good)

    -- the same for a partial file, which may also be cut from the place's full file
    abbrev pub ArePartsAskedInVain : Type 0
    ArePartsAskedInVain =
        (k : ℕ) → k < length old.list.items →
        AtPlace may old new k (IsPartAskedInVain good)

  -- ---- only contracts of private functions cite what follows

  -- the bytes that are found for a partial file, by an answer for the full one
  abbrev pub IsCutOf : Option (List ℕ) → Option (List ℕ) → Type 0
  IsCutOf None found = found ≡ None
  IsCutOf (Some full) found = IsFullCut path full found

  module _ (found : Option (List ℕ)) (may : Path → Option (List ℕ) → Type 0) where
    -- the bytes were cut from a possible answer for the full file
    abbrev pub IsCutOfFull : Type 0
    IsCutOfFull = (full : Option (List ℕ)) × may (full_of path) full × IsCutOf full found

    -- the same, unless the place gave no answer
    abbrev pub GivesCut : ℕ → ℕ → Type 0
    GivesCut old new = GaveNoAnswer old new ⊎ IsCutOfFull

    -- the bytes are those of the answer for the partial file. If there is none, they were cut
    abbrev pub IsOfAnswer : Option (List ℕ) → Type 0
    IsOfAnswer None = IsCutOfFull
    IsOfAnswer (Some bytes) = found ≡ Some bytes

    -- the same by a possible answer, unless the place gave none
    abbrev pub GivesPart : ℕ → ℕ → Type 0
    GivesPart old new = GaveNoAnswer old new ⊎ ((answer : Option (List ℕ)) × may path answer × IsOfAnswer answer)
