-- The decimal digits of a number.
use Rattle.std.proofs.Common.{◌≡◌, ◌≢◌, ℕ, ◌+◌, ◌<◌, ◌≤◌, ◌^◌, Bool, true, false, List, length, get_or, refl, sym}
use Rattle.std.proofs.Common.{subst, ◌∙◌, ap, arith, rules, Err, inl, inr, map, lit<, lit≤, MatchBool}
use Rattle.std.specs.List.{list_all}
use Rattle.std.specs.Char.{is_ascii_digit}
use Rattle.std.specs.Fmt.{decimal}
use Rattle.std.specs.Str.Parse.{digits_value}
use Rattle.std.proofs.lemmas.Bool.{cases_lt}
use Rattle.std.proofs.lemmas.Str.Parse.{IsNumeralModel, numerals_by_value}
use Rattle.std.specs.Int.Digits.{digits_of}
use Rattle.std.proofs.lemmas.List.{length-map, get_or-map}
use Rattle.std.proofs.lemmas.Int.Digits.{first_digits_of}
use Rattle.std.proofs.lemmas.Fmt.{decimal-digits_value, decimal_is_IsNumeral, decimal-digits_of, length-decimal-le}
use Rattle.tlog_text.specs.Laws.{NumbersAreSpelled}
use Rattle.tlog_text.specs.declared.number.NumberFault.{NumberFault}
use Rattle.tlog_text.specs.declared.number.NumberFault.TheVariants.{NotANumber, TooLarge}
use Rattle.tlog_text.specs.Number.{IsDecimal, ReadsNumber}

own : IsNumeralModel (λ ds. list_all is_ascii_digit ds ≡ true) (digits_value 10)
own = numerals_by_value _ (search rules)

-- digits without a leading zero spell their number
pub decimal_here : (ds : List ℕ) → 0 < length ds → list_all is_ascii_digit ds ≡ true →
    (1 < length ds → get_or ds 0 0 ≢ 48) → IsDecimal ds (digits_value 10 ds)
decimal_here ds some digits zero = record { numeral = (some, own.to ds digits); no_leading_zero = zero; value = refl }

-- a text with a byte other than a digit spells no number
pub no_digits : (ds : List ℕ) (n : ℕ) → list_all is_ascii_digit ds ≡ false → IsDecimal ds n → ⊥
no_digits ds n other is =
    let digits : list_all is_ascii_digit ds ≡ true = own.from ds is.numeral.1 in
    cc

-- for a text without a leading zero: if all bytes are digits it spells a number, and otherwise it spells none
pub decimal_test : (ds : List ℕ) (r : Bool) → 0 < length ds → (1 < length ds → get_or ds 0 0 ≢ 48) →
    r ≡ list_all is_ascii_digit ds → MatchBool r (IsDecimal ds (digits_value 10 ds)) ((n : ℕ) → IsDecimal ds n → ⊥)
decimal_test ds true some zero is = decimal_here ds some (sym is) zero
decimal_test ds false some zero is = λ n. no_digits ds n (sym is)

-- a text spells at most one number
pub one_number : (ds : List ℕ) (m n : ℕ) → IsDecimal ds m → IsDecimal ds n → m ≡ n
one_number ds m n p q = sym p.value ∙ q.value

-- a number with a leading zero has only that one digit
short : (ds : List ℕ) → (1 < length ds → get_or ds 0 0 ≢ 48) → 0 < length ds → get_or ds 0 0 ≡ 48 → length ds ≡ 1
short ds zero some first = elim (cases_lt 1 (length ds)) [
  | inl lt ↦ absurd (zero lt first)
  | inr ge ↦ omega arith
]

-- a number has at most one decimal text
pub decimal_is : (ds : List ℕ) (n : ℕ) → n < 2 ^ 64 → IsDecimal ds n → ds ≡ decimal n
decimal_is ds n lt is =
    let low : digits_value 10 ds < 2 ^ 64 = omega (arith, is.value) in
    sym (decimal-digits_value own ds (own.from ds is.numeral.1) is.numeral.0
    (short ds is.no_leading_zero is.numeral.0) low) ∙ ap decimal is.value

-- a decimal with two digits or more does not begin with a zero
first_digit : (n : ℕ) → n < 2 ^ 64 → 1 < length (decimal n) → get_or (decimal n) 0 0 ≢ 48
first_digit n lt more first = elim (cases_lt 0 n) [
  | inl some ↦
      let low : n < 2 ^ 64 = omega arith in
      let is : decimal n ≡ map (λ d. 48 + d) (digits_of 10 n) = decimal-digits_of n some low in
      let len : length (decimal n) ≡ length (digits_of 10 n) =
      ap length is ∙ length-map (digits_of 10 n) (λ d. 48 + d) in
      let at : get_or (map (λ d. 48 + d) (digits_of 10 n)) 0 0 ≡ 48 + get_or (digits_of 10 n) 0 0 =
      get_or-map (λ d. 48 + d) (digits_of 10 n) 0 0 0 (omega arith) in
      let same : get_or (decimal n) 0 0 ≡ get_or (map (λ d. 48 + d) (digits_of 10 n)) 0 0 =
      ap (λ (x : List ℕ). get_or x 0 0) is in
      let above : 0 < get_or (digits_of 10 n) 0 0 = first_digits_of 10 n (lit≤ tt) some in
      omega arith
  | inr none ↦
      let one : length (decimal n) ≤ 1 = length-decimal-le 1 n (lit< tt) (omega arith) (omega arith) in
      omega arith
]

-- the decimal text of a number spells that number
pub decimal_written : (n : ℕ) → n < 2 ^ 64 → IsDecimal (decimal n) n
decimal_written n lt =
    let is = decimal_is_IsNumeral n (omega arith) in
    record { numeral = is.0; no_leading_zero = λ more. first_digit n lt more; value = is.1 }

pub numbers_are_spelled : NumbersAreSpelled
numbers_are_spelled = record {
  one_number = one_number;
  one_text = λ text n lt. (decimal_is text n lt, λ e. subst (λ t. IsDecimal t n) (sym e) (decimal_written n lt));
}

-- a refused text spells no number up to the greatest
pub refused_number : (greatest : ℕ) (text : List ℕ) (e : NumberFault) → ReadsNumber greatest text (Err e) → (n : ℕ) →
    IsDecimal text n → n ≤ greatest → ⊥
refused_number greatest text NotANumber refused n is small = refused n is
refused_number greatest text TooLarge refused n is small =
    omega (arith, one_number text refused.0 n refused.1 is, refused.2)
