-- Digits and base64 contain no newline.
use Rattle.std.proofs.Common.{◌≡◌, ◌≢◌, ℕ, zero, suc, ◌+◌, ◌*◌, ◌/◌, ◌%◌, ◌==◌, Bool, true, not, List, [], ◌∷◌, length}
use Rattle.std.proofs.Common.{replicate, slice_index, refl, ◌∙◌, arith}
use Rattle.std.specs.Prelude.{IsTrue}
use Rattle.std.specs.List.{list_all}
use Rattle.std.specs.Str.Parse.{AllDigits}
use Rattle.std.proofs.lemmas.Str.Parse.{digit_from_value}
use Rattle.std.proofs.lemmas.List.Folds.{list_all-append}
use Rattle.std.proofs.lemmas.Bool.{and_from, and_parts, ne_eqb}
use Rattle.base64.specs.Rfc4648.{encode_symbols, padding_len}
use Rattle.base64.specs.Engines.{standard}
use Rattle.tlog_text.specs.Hash.{base64_of}

abbrev pub not_newline : ℕ → Bool
not_newline b = not (b == 10)

abbrev pub LacksNewline : List ℕ → Type 0
LacksNewline bytes = IsTrue (list_all not_newline bytes)

-- a byte other than 10 is not a newline
no_newline : (b : ℕ) → b ≢ 10 → not (b == 10) ≡ true
no_newline b h = rw (ne_eqb b 10 h) refl

-- digits contain no newline
pub digits_lack_newline : (ds : List ℕ) → AllDigits 10 ds → LacksNewline ds
digits_lack_newline [] h = refl
digits_lack_newline (d ∷ ds) h =
    let range = digit_from_value d h.0 in
    and_from _ _ (no_newline d (λ is. omega arith)) (digits_lack_newline ds h.1)

-- if every item of a list passes the test, so does the item at each index, where an index out of range gives 0
at_each : (xs : List ℕ) → list_all not_newline xs ≡ true → (k : ℕ) → not_newline (slice_index xs k) ≡ true
at_each [] h k = refl
at_each (x ∷ xs) h zero = (and_parts (not_newline x) (list_all not_newline xs) h).0
at_each (x ∷ xs) h (suc k) = at_each xs (and_parts (not_newline x) (list_all not_newline xs) h).1 k

-- base64 contains no newline, if its table of symbols contains none
symbols_lack : (t m : List ℕ) → ((k : ℕ) → not_newline (slice_index t k) ≡ true) →
    list_all not_newline (encode_symbols t m) ≡ true
unfolding encode_symbols
symbols_lack t [] h = refl
symbols_lack t (a ∷ []) h = rw (h (a / 4), h (a % 4 * 16)) refl
symbols_lack t (a ∷ b ∷ []) h = rw (h (a / 4), h (a % 4 * 16 + b / 16), h (b % 16 * 4)) refl
symbols_lack t (a ∷ b ∷ c ∷ rest) h =
    rw (h (a / 4), h (a % 4 * 16 + b / 16), h (b % 16 * 4 + c / 64), h (c % 64)) (symbols_lack t rest h)

padding_lacks : (n : ℕ) → list_all not_newline (replicate n 61) ≡ true
padding_lacks zero = refl
padding_lacks (suc n) = padding_lacks n

-- the table of standard base64 contains no newline
no_newline_in_table : list_all not_newline standard.encode_table ≡ true
no_newline_in_table = refl

pub base64_lacks_newline : (m : List ℕ) → LacksNewline (base64_of m)
unfolding base64_of
base64_lacks_newline m =
    list_all-append not_newline (encode_symbols standard.encode_table m) (replicate (padding_len (length m)) 61)
    ∙ and_from _ _ (symbols_lack standard.encode_table m (at_each standard.encode_table no_newline_in_table))
    (padding_lacks (padding_len (length m)))
