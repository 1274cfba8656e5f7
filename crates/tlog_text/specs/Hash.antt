-- The text of a hash (RFC 4648, section 4; C2SP tlog-checkpoint, "Note text").
use Rattle.std.specs.Prelude.{◌≡◌, ℕ, List, length}
use Rattle.base64.specs.Engines.{standard}
use Rattle.base64.specs.GeneralPurpose.{IsBytes, encode_of}

-- the standard base64 of the bytes, with padding
unfoldable pub base64_of : List ℕ → List ℕ
base64_of bytes = encode_of standard bytes

-- the hash is 32 bytes
pub record Is32Bytes (hash : List ℕ) : Type 0 where
  pub are_bytes : IsBytes hash
  pub are_32 : length hash ≡ 32

-- the text is the base64 of this hash of 32 bytes
pub record IsHashText (text hash : List ℕ) : Type 0 where
  pub is_hash : Is32Bytes hash
  pub is_base64 : text ≡ base64_of hash
