-- The answers of a reader of state texts, about all that the bytes alone decide.
use Rattle.std.specs.Prelude.{◌≡◌, ◌≢◌, ℕ, ◌⊎◌, List, [], ◌∷◌, ◌++◌, length, take, codes, Result}
use Rattle.std.specs.Prelude.{Ok, Err, ⊤}
use Rattle.sha2.specs.Sha256.{sha256}
use Rattle.mirror_files.specs.StateText.{Parts, body_text, AreParts, IsText}
use Rattle.mirror_files.specs.declared.parts.PartsFault.{PartsFault}
use Rattle.mirror_files.specs.declared.parts.PartsFault.TheVariants.{StateMagic, StateShort}
use Rattle.mirror_files.specs.declared.parts.PartsFault.TheVariants.{StateLong, StateDigest}
use Rattle.mirror_files.specs.declared.parts.PartsFault.TheVariants.{OutOfMemory}

-- the bytes begin with the body of a state text, and the rest follows it
pub record HasBody (bytes : List ℕ) (parts : Parts) (rest : List ℕ) : Type 0 where
  pub are_parts : AreParts parts
  pub text : bytes ≡ body_text parts ++ rest

-- the bytes begin with the body of a state text and 32 bytes in the place of its digest, and the rest follows these
pub record HasText (bytes : List ℕ) (parts : Parts) (digest rest : List ℕ) : Type 0 where
  pub has_body : HasBody bytes parts (digest ++ rest)
  pub digest_len : length digest ≡ 32

-- the bytes begin like a state text
abbrev pub HasMagic : List ℕ → Type 0
HasMagic bytes = (take 8 bytes ≡ codes "TLMIRR02") ⊎ (take 8 bytes ≡ codes "TLMIRR01")

-- the bytes are the body of a state text, and 32 bytes that are not its digest
pub record IsSpoiled (bytes : List ℕ) : Type 0 where
  pub parts : Parts
  pub digest : List ℕ
  pub has : HasText bytes parts digest []
  pub differs : digest ≢ sha256 (body_text parts)

-- each answer of a reader of state texts is right about the bytes
abbrev pub ReadsParts : List ℕ → Result Parts PartsFault → Type 0
ReadsParts bytes (Ok parts) = IsText bytes parts
ReadsParts bytes (Err StateMagic) = ¬ HasMagic bytes
ReadsParts bytes (Err StateShort) =
    HasMagic bytes × ((parts : Parts) (digest rest : List ℕ) → ¬ HasText bytes parts digest rest)
ReadsParts bytes (Err StateLong) =
    (parts : Parts) × (digest : List ℕ) × (next : ℕ) × (rest : List ℕ)
    × HasText bytes parts digest (next ∷ rest)
ReadsParts bytes (Err StateDigest) = IsSpoiled bytes
ReadsParts bytes (Err OutOfMemory) = ⊤
