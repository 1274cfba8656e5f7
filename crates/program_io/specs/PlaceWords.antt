-- The words that name a place of a log.
use Rattle.std.specs.Prelude.{◌⊎◌, ℕ, List}
use Rattle.std.proofs.Common.{inl, inr}
use Rattle.program_words.specs.declared.place.Place.{Place}
use Rattle.program_words.specs.declared.place.Place.TheVariants.{Folder, Server}

-- a server: its host as the Host field names it, the prefix of the paths, and the host and port that are connected to
pub record ServerWords : Type 0 where
  pub host : List ℕ
  pub prefix : List ℕ
  pub address : List ℕ
  pub port : ℕ

-- the path of a folder, or a server
abbrev pub PlaceWords : Type 0
PlaceWords = List ℕ ⊎ ServerWords

abbrev pub words_of : Place → PlaceWords
words_of (Folder folder) = inl folder.now
words_of (Server host prefix address port) =
    inr (record { host = host.now; prefix = prefix.now; address = address.now; port = port })
