-- Each text either spells a number or spells none, and the same holds for hashes.
use Rattle.std.proofs.Common.{◌≡◌, ℕ, zero, suc, ◌==◌, ◌&&◌, ◌⊎◌, Bool, true, List, [], ◌∷◌, length, get_or, nat_lt}
use Rattle.std.proofs.Common.{Result, Ok, Err, refl, sym, ◌∙◌, ap, subst, arith, inl, inr, lit<}
use Rattle.std.specs.List.{list_all}
use Rattle.std.specs.Str.{bytes_eq}
use Rattle.std.specs.Str.Parse.{digits_value}
use Rattle.std.specs.Char.{is_ascii_digit}
use Rattle.std.proofs.lemmas.Bool.{cases_Bool, cases_lt, cases_eq, and_parts, and_from, ltb-true, lt-ltb, eqb-true}
use Rattle.std.proofs.lemmas.Bool.{eq-eqb}
use Rattle.std.proofs.lemmas.Slice.Eq.{bytes_eq-Decides}
use Rattle.base64.specs.declared.decode.DecodeError.{DecodeError}
use Rattle.base64.specs.GeneralPurpose.{decode_of, IsBytes}
use Rattle.base64.specs.Engines.{standard}
use Rattle.base64.proofs.EngineFacts.{decode_of-encode_of}
use Rattle.tlog_text.specs.Number.{IsDecimal}
use Rattle.tlog_text.specs.Hash.{base64_of, IsHashText}
use Rattle.tlog_text.proofs.Decimals.{decimal_here, no_digits}

-- a text either spells a number or spells none
pub number_decided : (text : List ℕ) → IsDecimal text (digits_value 10 text) ⊎ ((n : ℕ) → IsDecimal text n → ⊥)
number_decided text = elim (cases_lt 0 (length text)) [
  | inr none ↦ inr (λ n is. omega (arith, is.numeral.0))
  | inl some ↦ elim (cases_Bool (list_all is_ascii_digit text)) [
    | inr other ↦ inr (λ n. no_digits text n other)
    | inl digits ↦ elim (cases_lt 1 (length text)) [
      | inr one ↦ inl (decimal_here text some digits (λ more. absurd (omega arith)))
      | inl more ↦ elim (cases_eq (get_or text 0 0) 48) [
        | inl first ↦ inr (λ n is. is.no_leading_zero more first)
        | inr other ↦ inl (decimal_here text some digits (λ _. other))
      ]
    ]
  ]
]

-- a list that passes the test has only numbers below 256
bytes_from_test : (b : List ℕ) → list_all (λ x. nat_lt x 256) b ≡ true → IsBytes b
bytes_from_test [] h i = lit< tt
bytes_from_test (x ∷ xs) h zero = ltb-true x 256 (and_parts (nat_lt x 256) (list_all (λ y. nat_lt y 256) xs) h).0
bytes_from_test (x ∷ xs) h (suc i) =
    bytes_from_test xs (and_parts (nat_lt x 256) (list_all (λ y. nat_lt y 256) xs) h).1 i

test_from_bytes : (b : List ℕ) → IsBytes b → list_all (λ x. nat_lt x 256) b ≡ true
test_from_bytes [] h = refl
test_from_bytes (x ∷ xs) h =
    and_from (nat_lt x 256) (list_all (λ y. nat_lt y 256) xs) (lt-ltb x 256 (h 0)) (test_from_bytes xs (λ i. h (suc i)))

-- the test whether b is a hash with this text as its base64
is_hash_of : List ℕ → List ℕ → Bool
is_hash_of text b = bytes_eq text (base64_of b) && (list_all (λ x. nat_lt x 256) b && (length b == 32))

hash_from_test : (text b : List ℕ) → is_hash_of text b ≡ true → IsHashText text b
unfolding is_hash_of
hash_from_test text b h =
    let one = and_parts (bytes_eq text (base64_of b)) (list_all (λ x. nat_lt x 256) b && (length b == 32)) h in
    let two = and_parts (list_all (λ x. nat_lt x 256) b) (length b == 32) one.1 in
    record {
      is_base64 =
          (bytes_eq-Decides text (base64_of b)).0 one.0;
      is_hash =
          record { are_bytes = bytes_from_test b two.0; are_32 = eqb-true (length b) 32 two.1 };
    }

test_from_hash : (text b : List ℕ) → IsHashText text b → is_hash_of text b ≡ true
unfolding is_hash_of
test_from_hash text b h =
    and_from (bytes_eq text (base64_of b)) (list_all (λ x. nat_lt x 256) b && (length b == 32))
    ((bytes_eq-Decides text (base64_of b)).1 h.is_base64)
    (and_from (list_all (λ x. nat_lt x 256) b) (length b == 32) (test_from_bytes b h.is_hash.are_bytes)
    (eq-eqb (length b) 32 h.is_hash.are_32))

decoded_hash : (text hash : List ℕ) → IsHashText text hash → decode_of standard text ≡ Ok hash
unfolding base64_of
decoded_hash text hash h =
    ap (decode_of standard) h.is_base64 ∙ decode_of-encode_of standard hash refl h.is_hash.are_bytes

-- a text either spells a hash or spells none, shown from the result of decoding it
hash_by_decoding : (text : List ℕ) (d : Result (List ℕ) DecodeError) → decode_of standard text ≡ d →
    ((hash : List ℕ) × IsHashText text hash) ⊎ ((hash : List ℕ) → IsHashText text hash → ⊥)
hash_by_decoding text (Err e) is =
    inr (λ hash h. let bad : Err e ≡ Ok hash = sym is ∙ decoded_hash text hash h in cc bad)
hash_by_decoding text (Ok b) is = elim (cases_Bool (is_hash_of text b)) [
  | inl hash ↦ inl (b, hash_from_test text b hash)
  | inr other ↦ inr (λ hash h.
      let ok : Ok b ≡ Ok hash = sym is ∙ decoded_hash text hash h in
      let same : hash ≡ b = cc ok in
      let hash_is : is_hash_of text b ≡ true =
      subst (λ (x : List ℕ). is_hash_of text x ≡ true) same (test_from_hash text hash h) in
      cc (other, hash_is))
]

pub hash_decided : (text : List ℕ) →
    ((hash : List ℕ) × IsHashText text hash) ⊎ ((hash : List ℕ) → IsHashText text hash → ⊥)
hash_decided text = hash_by_decoding text (decode_of standard text) refl
