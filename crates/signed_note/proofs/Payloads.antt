-- The bytes of a signature line's base64: the id and the signature.
use Rattle.std.proofs.Common.{◌≡◌, ◌≢◌, ℕ, zero, suc, ◌+◌, ◌*◌, ◌/◌, ◌%◌, ◌<◌, ◌^◌, Bool, true, List, [], ◌∷◌, ◌++◌}
use Rattle.std.proofs.Common.{length, replicate, refl, ◌∙◌, arith, lit<}
use Rattle.std.specs.Prelude.{slice_index}
use Rattle.std.specs.Int.{w32, from_be_bytes, to_be_bytes}
use Rattle.std.proofs.lemmas.Nat.{from_be_bytes-to_be_bytes_4}
use Rattle.std.specs.Str.{IsAscii}
use Rattle.std.proofs.lemmas.List.Sums.{AllPass-from_list_all}
use Rattle.base64.specs.Rfc4648.{encode_symbols, padding_len, encode_group}
use Rattle.base64.specs.Engines.{standard}
use Rattle.base64.specs.GeneralPurpose.{engine_symbols, IsBytes}
use Rattle.base64.proofs.EngineFacts.{IsAscii-encode_of}
use Rattle.byteorder.specs.Endian.{big_bytes, big_number}
use Rattle.signed_note.specs.Names.{newline, is_note_char}
use Rattle.tlog_text.specs.Hash.{base64_of}
use Rattle.signed_note.proofs.Lacking.{Lacks, Lacks-append, Lacks-from_test, Lacks-replicate, reads_other}

-- the 64 symbols
abbrev symbols : List ℕ
symbols = engine_symbols standard

symbols_lack : (c : ℕ) (t m : List ℕ) → ((i : ℕ) → slice_index t i ≢ c) → Lacks c (encode_symbols t m)
unfolding encode_symbols
symbols_lack c t [] h = tt
symbols_lack c t (x ∷ []) h = (h (x / 4), (h (x % 4 * 16), tt))
symbols_lack c t (x ∷ y ∷ []) h = (h (x / 4), (h (x % 4 * 16 + y / 16), (h (y % 16 * 4), tt)))
symbols_lack c t (x ∷ y ∷ z ∷ rest) h =
    Lacks-append c (encode_group t x y z) (encode_symbols t rest)
    (h (x / 4), (h (x % 4 * 16 + y / 16), (h (y % 16 * 4 + z / 64), (h (z % 64), tt))))
    (symbols_lack c t rest h)

pub base64_lacks_newline : (bytes : List ℕ) → Lacks newline (base64_of bytes)
unfolding base64_of
base64_lacks_newline bytes =
    Lacks-append newline (encode_symbols symbols bytes) (replicate (padding_len (length bytes)) 61)
    (symbols_lack newline symbols bytes (reads_other newline symbols (Lacks-from_test newline symbols refl) (λ e. cc)))
    (Lacks-replicate newline 61 (padding_len (length bytes)) (λ e. cc))

-- each item passes the test
abbrev pub Passing : (ℕ → Bool) → List ℕ → Type 0
Passing p [] = Unit {0}
Passing p (x ∷ xs) = (p x ≡ true) × Passing p xs

Passing-append : (p : ℕ → Bool) (xs ys : List ℕ) → Passing p xs → Passing p ys → Passing p (xs ++ ys)
Passing-append p [] ys h k = k
Passing-append p (x ∷ xs) ys h k = (h.0, Passing-append p xs ys h.1 k)

Passing-replicate : (p : ℕ → Bool) (n b : ℕ) → p b ≡ true → Passing p (replicate n b)
Passing-replicate p zero b h = tt
Passing-replicate p (suc n) b h = (h, Passing-replicate p n b h)

symbols_pass : (p : ℕ → Bool) (t m : List ℕ) → ((i : ℕ) → i < 64 → p (slice_index t i) ≡ true) → IsBytes m →
    Passing p (encode_symbols t m)
unfolding encode_symbols
symbols_pass p t [] h small = tt
symbols_pass p t (x ∷ []) h small =
    let a : x < 256 = small 0 in
    (h (x / 4) (omega arith), (h (x % 4 * 16) (omega arith), tt))
symbols_pass p t (x ∷ y ∷ []) h small =
    let a : x < 256 = small 0 in
    let b : y < 256 = small 1 in
    (h (x / 4) (omega arith), (h (x % 4 * 16 + y / 16) (omega arith), (h (y % 16 * 4) (omega arith), tt)))
symbols_pass p t (x ∷ y ∷ z ∷ rest) h small =
    let a : x < 256 = small 0 in
    let b : y < 256 = small 1 in
    let c : z < 256 = small 2 in
    Passing-append p (encode_group t x y z) (encode_symbols t rest) (
      h (x / 4) (omega arith),
      (
        h (x % 4 * 16 + y / 16) (omega arith),
        (h (y % 16 * 4 + z / 64) (omega arith), (h (z % 64) (omega arith), tt)),
      ),
    )
    (symbols_pass p t rest h (λ i. small (suc (suc (suc i)))))

table_passes : (i : ℕ) → i < 64 → is_note_char (slice_index symbols i) ≡ true
table_passes i lt = AllPass-from_list_all is_note_char symbols refl i 0 lt

-- base64 may occur in a note
pub base64_passes : (bytes : List ℕ) → IsBytes bytes → Passing is_note_char (base64_of bytes)
unfolding base64_of
base64_passes bytes small =
    Passing-append is_note_char (encode_symbols symbols bytes) (replicate (padding_len (length bytes)) 61)
    (symbols_pass is_note_char symbols bytes table_passes small)
    (Passing-replicate is_note_char (padding_len (length bytes)) 61 refl)

pub base64_is_ascii : (bytes : List ℕ) → IsAscii (base64_of bytes)
unfolding base64_of
base64_is_ascii bytes = IsAscii-encode_of standard bytes

-- the id is the number of its four bytes
pub number_is : (bytes : List ℕ) → big_number 4 bytes ≡ from_be_bytes w32 bytes
number_is bytes = omega arith

pub bytes_id : (id : ℕ) → id < 2 ^ 32 → big_number 4 (big_bytes 4 id) ≡ id
bytes_id id small = number_is (big_bytes 4 id) ∙ from_be_bytes-to_be_bytes_4 id small

pub IsBytes-nil : IsBytes []
IsBytes-nil i = lit< tt

pub IsBytes-cons : (x : ℕ) (xs : List ℕ) → x < 256 → IsBytes xs → IsBytes (x ∷ xs)
IsBytes-cons x xs h p zero = h
IsBytes-cons x xs h p (suc i) = p i

pub IsBytes-append : (xs ys : List ℕ) → IsBytes xs → IsBytes ys → IsBytes (xs ++ ys)
IsBytes-append [] ys p q = q
IsBytes-append (x ∷ xs) ys p q = IsBytes-cons x (xs ++ ys) (p zero) (IsBytes-append xs ys (λ i. p (suc i)) q)

byte : (n : ℕ) → n % 256 < 256
byte n = omega arith

-- the four bytes of a number of 32 bits are bytes
pub four_bytes : (n : ℕ) → IsBytes (to_be_bytes w32 n)
four_bytes n =
    let d : List ℕ = n % 256 ∷ [] in
    let c : List ℕ = n / 256 % 256 ∷ d in
    let b : List ℕ = n / 65536 % 256 ∷ c in
    IsBytes-cons (n / 16777216 % 256) b (byte (n / 16777216))
    (IsBytes-cons (n / 65536 % 256) c (byte (n / 65536))
    (IsBytes-cons (n / 256 % 256) d (byte (n / 256)) (IsBytes-cons (n % 256) [] (byte n) IsBytes-nil)))
