-- The base64 of hashes.
use Rattle.std.proofs.Common.{◌≡◌, ℕ, ◌+◌, ◌<◌, List, length, replicate, refl, sym, subst, ap, ◌∙◌, arith}
use Rattle.std.proofs.Common.{length-append}
use Rattle.std.specs.Prelude.{Result, Ok, Err, slice_index, take, drop}
use Rattle.std.proofs.lemmas.List.{length-replicate, take_at}
use Rattle.base64.specs.Rfc4648.{padding_len, unpadded_len}
use Rattle.base64.specs.Engines.{standard}
use Rattle.base64.specs.GeneralPurpose.{engine_symbols, encode_of, decode_of, decode_slice_of, decoded_bytes_of}
use Rattle.base64.specs.GeneralPurpose.{IsBytes}
use Rattle.base64.proofs.EngineFacts.{decode_of-encode_of, decode_of_iff, decode_of_strict}
use Rattle.base64.proofs.RoundTrip.{length-encode_symbols}
use Rattle.base64.specs.Decode.{IsWrittenOver, decode_outcome}
use Rattle.base64.specs.declared.decode.DecodeSliceError.{DecodeSliceError}
use Rattle.base64.specs.declared.decode.DecodeSliceError.TheVariants.{OutputSliceTooSmall, DecodeError as DecodeFailed}
use Rattle.base64.proofs.Decoding.{conservative_err, conservative_small, or_error_ok, slice_result_room}
use Rattle.tlog_text.specs.Laws.{HashesAreSpelled}
use Rattle.tlog_text.specs.Hash.{base64_of, Is32Bytes, IsHashText}

abbrev symbols : List ℕ
symbols = engine_symbols standard

pub length-base64_of : (bytes : List ℕ) →
    length (base64_of bytes) ≡ unpadded_len (length bytes) + padding_len (length bytes)
unfolding base64_of
length-base64_of bytes =
    length-append _ (replicate (padding_len (length bytes)) 61) ∙
    rw (length-encode_symbols symbols bytes, length-replicate {A = ℕ} (padding_len (length bytes)) 61) refl

-- two lists of bytes with the same base64 are equal
pub base64_of-same : (a b : List ℕ) → IsBytes a → IsBytes b → base64_of a ≡ base64_of b → a ≡ b
unfolding base64_of
base64_of-same a b pa pb e =
    let one = decode_of-encode_of standard a refl pa in
    let two = decode_of-encode_of standard b refl pb in
    let same : decode_of standard (encode_of standard a) ≡ decode_of standard (encode_of standard b) =
    ap (decode_of standard) e in
    let oks = sym one ∙ (same ∙ two) in
    cc oks

-- the base64 of a hash has 44 symbols
pub length-hash : (hash : List ℕ) → Is32Bytes hash → length (base64_of hash) ≡ 44
length-hash hash h = length-base64_of hash ∙ ap (λ n. unpadded_len n + padding_len n) h.are_32

pub one_hash : (text a b : List ℕ) → IsHashText text a → IsHashText text b → a ≡ b
one_hash text a b p q = base64_of-same a b p.is_hash.are_bytes q.is_hash.are_bytes (sym p.is_base64 ∙ q.is_base64)

pub hashes_are_spelled : HashesAreSpelled
hashes_are_spelled = record {
  one_hash = one_hash;
  one_text = λ s t hash p q. p.is_base64 ∙ sym q.is_base64;
  symbols = λ text hash h. ap length h.is_base64 ∙ length-hash hash h.is_hash;
}

-- ---- the result of decoding a text of 44 symbols

module _ (text : List ℕ) (bytes : (i : ℕ) → slice_index text i < 256) (symbols_44 : length text ≡ 44) where
  -- a text that decodes to 32 bytes spells that hash
  pub is_text : (hash : List ℕ) → IsBytes hash → length hash ≡ 32 → decode_of standard text ≡ Ok hash →
      IsHashText text hash
  unfolding base64_of
  is_text hash are len ok =
      record {
        is_hash =
            record { are_bytes = are; are_32 = len };
        is_base64 = decode_of_strict standard text hash (refl, refl) bytes ok;
      }

  -- the text of a hash decodes to that hash
  pub is_decoded : (hash : List ℕ) → IsHashText text hash → decode_of standard text ≡ Ok hash
  unfolding base64_of
  is_decoded hash h = (decode_of_iff standard text hash (refl, refl) bytes h.is_hash.are_bytes).1 h.is_base64

  -- the number of bytes that were decoded
  decoded_len : (r : Result ℕ DecodeSliceError) (n : ℕ) → r ≡ decode_slice_of standard text 33 → r ≡ Ok n →
      (decode_of standard text ≡ Ok (decoded_bytes_of standard text)) × (length (decoded_bytes_of standard text) ≡ n)
  decoded_len r n value ok =
      let room =
      slice_result_room standard.decode_table text standard.padding.value standard.config.decode_allow_trailing_bits
      standard.config.decode_padding_mode 33 (omega (arith, symbols_44)) in
      let parts = or_error_ok _ _ n (sym room ∙ sym value ∙ ok) in
      (ap (λ e. decode_outcome e (decoded_bytes_of standard text)) parts.0, parts.1)

  -- if 32 bytes were decoded, they are the hash that the text spells
  pub found : (old new : List ℕ) (r : Result ℕ DecodeSliceError) (n : ℕ) → r ≡ decode_slice_of standard text 33 →
      r ≡ Ok n → n ≡ 32 →
      IsWrittenOver (decoded_bytes_of standard text) old new → IsBytes (decoded_bytes_of standard text) →
      IsHashText text (take 32 new)
  found old new r n value ok is_32 written are =
      let d = decoded_bytes_of standard text in
      let is = decoded_len r n value ok in
      let len : length d ≡ 32 = is.1 ∙ is_32 in
      let front : take 32 new ≡ d = rw written (take_at d (drop (length d) old) 32 len) in
      subst (IsHashText text) (sym front) (is_text d are len is.0)

  -- if another number of bytes was decoded, the text spells no hash
  pub other_len : (r : Result ℕ DecodeSliceError) (n : ℕ) → r ≡ decode_slice_of standard text 33 → r ≡ Ok n →
      (n ≡ 32 → ⊥) → (hash : List ℕ) → IsHashText text hash → ⊥
  other_len r n value ok not_32 hash h =
      let is = decoded_len r n value ok in
      let twice = sym is.0 ∙ is_decoded hash h in
      let same : decoded_bytes_of standard text ≡ hash = cc twice in
      not_32 (sym is.1 ∙ (ap length same ∙ h.is_hash.are_32))

  -- if the decoder refuses the text, the text spells no hash
  pub refused : (r : Result ℕ DecodeSliceError) → r ≡ decode_slice_of standard text 33 → ((n : ℕ) → r ≡ Ok n → ⊥) →
      (hash : List ℕ) → IsHashText text hash → ⊥
  refused (Ok n) value none hash h = none n refl
  refused (Err OutputSliceTooSmall) value none hash h =
      conservative_small standard.decode_table text standard.padding.value standard.config.decode_allow_trailing_bits
      standard.config.decode_padding_mode 33 (Err OutputSliceTooSmall) OutputSliceTooSmall
      (omega (arith, symbols_44)) value refl refl
  refused (Err (DecodeFailed e)) value none hash h =
      let failed : decode_of standard text ≡ Err e =
      conservative_err standard.decode_table text standard.padding.value standard.config.decode_allow_trailing_bits
      standard.config.decode_padding_mode 33 (Err (DecodeFailed e)) (DecodeFailed e) e
      (omega (arith, symbols_44)) value refl refl in
      let same = sym failed ∙ is_decoded hash h in
      cc same
