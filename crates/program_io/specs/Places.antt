-- The places of a log that an environment opens, as contracts see them.
use Rattle.std.specs.Prelude.{◌≡◌, ◌++◌, ℕ, List, Bool, Option, None, false, true, ⊤}
use Rattle.std.proofs.Common.{inl, inr}
use Rattle.tlog_tiles.specs.declared.paths.Path.{Path}
use Rattle.program_io.specs.PlaceWords.{PlaceWords}

-- the places that an environment opens: the place of these words before its first get, what a place may answer, the paths that it was asked
-- for, if these are recorded, and the number of its gets that failed
pub record World : Type 1 where
  pub Place : Type 0
  pub at : PlaceWords → Place → Type 0
  pub may : Place → Path → Option (List ℕ) → Type 0
  pub asked : Place → Option (List Path)
  pub failed : Place → ℕ

-- the same, from the models of its parts
abbrev pub world_of : {S : Type 0} → (PlaceWords → S → Type 0) → (S → Path → Option (List ℕ) → Type 0) →
    (S → Option (List Path)) → (S → ℕ) → World
world_of {S} at may asked failed = record { Place = S; at = at; may = may; asked = asked; failed = failed }

-- ---- the places of the system

-- the name of a place: that of a folder; of a server its host with its port, and then the prefix
pub record PlaceName : Type 0 where
  pub is_server : Bool
  pub text : List ℕ

-- a place of the system: its name, and how many of its gets failed
pub record SeenPlace : Type 0 where
  pub name : PlaceName
  pub failures : ℕ

abbrev pub name_of : PlaceWords → PlaceName
name_of (inl folder) = record { is_server = false; text = folder }
name_of (inr server) = record { is_server = true; text = server.host ++ server.prefix }

-- the place that the words name, before its first get
abbrev pub place_of : PlaceWords → SeenPlace
place_of words = record { name = name_of words; failures = 0 }

-- they may answer anything, and record nothing but their failures
abbrev pub system_world : World
system_world = world_of {S = SeenPlace} (λ words place. place ≡ place_of words) (λ place path bytes. ⊤) (λ place. None) (λ place. place.failures)
