-- A digest is bytes, and how many.
use Rattle.std.proofs.Common.{◌≡◌, ℕ, zero, suc, List, length}
use Rattle.std.specs.Prelude.{slice_index}
use Rattle.std.specs.Int.{w32, to_be_bytes}
use Rattle.base64.specs.GeneralPurpose.{IsBytes}
use Rattle.sha2.specs.Sha256.{sha256, digest_bytes}
use Rattle.sha2.proofs.Facts256.{length-sha256}
use Rattle.signed_note.proofs.Payloads.{IsBytes-nil, IsBytes-append, four_bytes}
use Rattle.signed_note.specs.Hmac.{hmac}

digest_fits : (h : List ℕ) (n : ℕ) → IsBytes (digest_bytes h n)
unfolding digest_bytes
digest_fits h zero = IsBytes-nil
digest_fits h (suc n) =
    IsBytes-append (digest_bytes h n) (to_be_bytes w32 (slice_index h n)) (digest_fits h n)
    (four_bytes (slice_index h n))

sha256_fits : (m : List ℕ) → IsBytes (sha256 m)
unfolding sha256
sha256_fits m = digest_fits _ 8

pub hmac_fits : (key message : List ℕ) → IsBytes (hmac key message)
unfolding hmac
hmac_fits key message = sha256_fits _

pub length-hmac : (key message : List ℕ) → length (hmac key message) ≡ 32
unfolding hmac
length-hmac key message = length-sha256 _
