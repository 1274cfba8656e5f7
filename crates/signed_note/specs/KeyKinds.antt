-- The kinds of keys of this crate, for contracts (C2SP signed-note, "Signatures").
use Rattle.std.specs.Prelude.{◌≡◌, ℕ, ◌≤◌, nat_le, List, length, Result, Ok, Err, ⊤}
use Rattle.std.specs.List.{AllPass, list_any}
use Rattle.std.specs.List.Sorted.{IsPermutation}
use Rattle.std.specs.Str.{bytes_eq, chars}
use Rattle.sha2.specs.Sha256.{sha256}
use Rattle.signed_note.specs.Keys.{Key}
use Rattle.signed_note.specs.Names.{space, IsKeyName}
use Rattle.signed_note.specs.Hmac.{hmac}
use Rattle.signed_note.specs.declared.key_limits.TheConstants.{MAX_NAME_LEN, MAX_SECRET_LEN}
use Rattle.signed_note.specs.declared.key_fault.KeyFault.{KeyFault}
use Rattle.signed_note.specs.declared.key_fault.KeyFault.TheVariants as key

-- the name of a key of this crate: it may occur in a note, so it has no character below U+0020, and
-- it has at most 255 bytes
pub record IsOwnName (name : List ℕ) : Type 0 where
  pub key_name : IsKeyName name
  pub printed : AllPass (nat_le space) (chars name)
  pub short : length name ≤ MAX_NAME_LEN

-- a shared secret has 1 to 64 bytes
pub record IsSecret (secret : List ℕ) : Type 0 where
  pub some : 1 ≤ length secret
  pub short : length secret ≤ MAX_SECRET_LEN

-- a key with a shared secret: its name, its key id, and the secret
pub record Secret : Type 0 where
  pub name : List ℕ
  pub id : ℕ
  pub secret : List ℕ

-- the key with a shared secret accepts exactly its MAC of the text
abbrev pub secret_key : Secret → Key
secret_key k =
    record {
      name = k.name;
      id = k.id;
      accepts = λ text signature. bytes_eq (hmac k.secret text) signature;
    }

-- a key of pinned texts: its name, its key id, and the SHA-256 digests of texts that were verified
-- elsewhere
pub record Pins : Type 0 where
  pub name : List ℕ
  pub id : ℕ
  pub digests : List (List ℕ)

-- the key of pinned texts accepts exactly the texts with a listed digest, under any signature
abbrev pub pinned_key : Pins → Key
pinned_key k =
    record {
      name = k.name;
      id = k.id;
      accepts = λ text signature. list_any (λ d. bytes_eq d (sha256 text)) k.digests;
    }

-- pinned texts with that name, id and list of digests, in any order
pub record ArePins (name : List ℕ) (id : ℕ) (digests : List (List ℕ)) (k : Pins) : Type 0 where
  pub name_is : k.name ≡ name
  pub id_is : k.id ≡ id
  pub digests_are : IsPermutation digests k.digests

-- when the constructor of a shared key may return each answer
abbrev pub MakesSecret : List ℕ → ℕ → List ℕ → Result Secret KeyFault → Type 0
MakesSecret name id secret (Ok k) =
    IsOwnName name × IsSecret secret × (k ≡ record { name = name; id = id; secret = secret })
MakesSecret name id secret (Err key.BadName) = ¬ IsOwnName name
MakesSecret name id secret (Err key.BadSecret) = IsOwnName name × (¬ IsSecret secret)
MakesSecret name id secret (Err key.OutOfMemory) = ⊤

-- when the constructor of pinned texts may return each answer
abbrev pub MakesPins : List ℕ → ℕ → List (List ℕ) → Result Pins KeyFault → Type 0
MakesPins name id digests (Ok k) = IsOwnName name × ArePins name id digests k
MakesPins name id digests (Err key.BadName) = ¬ IsOwnName name
MakesPins name id digests (Err key.BadSecret) = ⊥
MakesPins name id digests (Err key.OutOfMemory) = ⊤
