-- Key files: each line is a key, `hmac NAME ID SECRET` or `pin NAME ID DIGEST`.
use Rattle.std.specs.Prelude.{◌≡◌, ◌≢◌, ℕ, ◌+◌, ◌<◌, ◌^◌, codes, List, [], ◌∷◌, ◌++◌, length}
use Rattle.std.specs.Prelude.{Result, Ok, Err, ⊤}
use Rattle.hex.specs.Hex.{decode_of}
use Rattle.byteorder.specs.Endian.{big_bytes}
use Rattle.signed_note.specs.Names.{newline, space}
use Rattle.signed_note.specs.KeyKinds.{IsOwnName, IsSecret}
use Rattle.signed_note.specs.declared.key_line.KeyLine.{KeyLine}
use Rattle.signed_note.specs.declared.key_line.KeyLine.TheVariants.{Hmac, Pin}
use Rattle.signed_note.specs.declared.key_fault.KeyFileFault.{KeyFileFault}
use Rattle.signed_note.specs.declared.key_fault.KeyFileFault.TheVariants.{BadKeyLine, OutOfMemory}

-- the text is the hexadecimal of the bytes: two digits for each byte, in upper or lower case
abbrev pub IsHexOf : List ℕ → List ℕ → Type 0
IsHexOf text bytes = decode_of text ≡ Ok bytes

-- the text is three words with single spaces between them: a name, the 8 digits of an id, and more
-- digits
pub record AreWords (text name : List ℕ) (id : ℕ) (digits : List ℕ) : Type 0 where
  pub id_digits : List ℕ
  pub whole : text ≡ name ++ space ∷ (id_digits ++ space ∷ digits)
  pub small : id < 2 ^ 32
  pub id_is : IsHexOf id_digits (big_bytes 4 id)

-- the text is NAME ID DIGITS, with a name that a key of this crate may have, and the digits of
-- those bytes
pub record HasWords (text name : List ℕ) (id : ℕ) (bytes : List ℕ) : Type 0 where
  pub digits : List ℕ
  pub words : AreWords text name id digits
  pub own_name : IsOwnName name
  pub bytes_are : IsHexOf digits bytes

-- the text is NAME ID SECRET of a shared key, with a secret of 1 to 64 bytes
abbrev pub IsSecretText : List ℕ → KeyLine → Type 0
IsSecretText text (Hmac k) = HasWords text k.name k.id k.secret × IsSecret k.secret
IsSecretText text (Pin p) = ⊥

-- the text is NAME ID DIGEST of pinned texts, with one digest of 32 bytes
abbrev pub IsPinText : List ℕ → KeyLine → Type 0
IsPinText text (Hmac k) = ⊥
IsPinText text (Pin p) =
    (digest : List ℕ) × HasWords text p.name p.id digest × (length digest ≡ 32)
    × (p.digests ≡ digest ∷ [])

-- the line, without its newline, gives the key
abbrev pub IsKeyLine : List ℕ → KeyLine → Type 0
IsKeyLine line (Hmac k) =
    (text : List ℕ) × (line ≡ codes "hmac" ++ space ∷ text) × IsSecretText text (Hmac k)
IsKeyLine line (Pin p) =
    (text : List ℕ) × (line ≡ codes "pin" ++ space ∷ text) × IsPinText text (Pin p)

-- the bytes are the lines of those keys, each with a newline; an empty file has no keys
abbrev pub IsKeyFile : List ℕ → List KeyLine → Type 0
IsKeyFile bytes [] = bytes ≡ []
IsKeyFile bytes (key ∷ keys) =
    (line : List ℕ) × (rest : List ℕ) × (bytes ≡ line ++ newline ∷ rest) × IsKeyLine line key
    × IsKeyFile rest keys

-- the bytes do not begin with a line that gives a key
abbrev pub BeginsWithNoKey : List ℕ → Type 0
BeginsWithNoKey bytes =
    (line rest : List ℕ) (key : KeyLine) → bytes ≡ line ++ newline ∷ rest → ¬ IsKeyLine line key

-- the line with that number, counted from 1, is the first that gives no key
pub record IsBadLine (bytes : List ℕ) (number : ℕ) : Type 0 where
  pub front : List ℕ
  pub rest : List ℕ
  pub good : List KeyLine
  pub whole : bytes ≡ front ++ rest
  pub keys : IsKeyFile front good
  pub place : number ≡ length good + 1
  pub some : rest ≢ []
  pub bad : BeginsWithNoKey rest

-- when a reader of key files may return each answer
abbrev pub ReadsKeys : List ℕ → Result (List KeyLine) KeyFileFault → Type 0
ReadsKeys bytes (Ok keys) = IsKeyFile bytes keys
ReadsKeys bytes (Err (BadKeyLine number)) = IsBadLine bytes number
ReadsKeys bytes (Err OutOfMemory) = ⊤

-- when a reader of the line with that number may return each answer, if Is relates the line to a
-- value
abbrev pub ReadsAs : {X : Type 0} → (X → Type 0) → ℕ → Result X KeyFileFault → Type 0
ReadsAs Is number (Ok x) = Is x
ReadsAs {X = X} Is number (Err (BadKeyLine n)) = (n ≡ number) × ((x : X) → ¬ Is x)
ReadsAs Is number (Err OutOfMemory) = ⊤
