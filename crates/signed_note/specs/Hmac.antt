-- HMAC with SHA-256 (RFC 2104, section 2), for keys of at most one block.
use Rattle.std.specs.Prelude.{ℕ, ◌-◌, List, ◌++◌, length, map, replicate, bit_xor}
use Rattle.sha2.specs.Sha256.{sha256}

-- the key with zeros after it, up to a block of 64 bytes
abbrev pub block : List ℕ → List ℕ
block key = key ++ replicate (64 - length key) 0

-- each byte of the block xor the mask
abbrev pub masked : ℕ → List ℕ → List ℕ
masked mask key = map (λ b. bit_xor b mask) (block key)

-- H(K xor opad, H(K xor ipad, text)); the byte of ipad is 36 and that of opad is 5c, in hexadecimal
unfoldable pub hmac : List ℕ → List ℕ → List ℕ
hmac key message = sha256 (masked 0x5c key ++ sha256 (masked 0x36 key ++ message))
