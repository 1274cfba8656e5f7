-- The text of a number (C2SP tlog-checkpoint, "Note text"; C2SP tlog-tiles, "Merkle Tree").
use Rattle.std.specs.Prelude.{◌≡◌, ◌≢◌, ℕ, ◌<◌, ◌≤◌, List, length, slice_index, Result, Ok, Err}
use Rattle.std.specs.Str.Parse.{IsNumeral, digits_value}
use Rattle.tlog_text.specs.declared.number.NumberFault.{NumberFault}
use Rattle.tlog_text.specs.declared.number.NumberFault.TheVariants.{NotANumber, TooLarge}

-- the digits are the decimal text of n: at least one ASCII digit, without leading zeros; the text
-- of 0 is one digit
pub record IsDecimal (digits : List ℕ) (n : ℕ) : Type 0 where
  pub numeral : IsNumeral 10 digits
  pub no_leading_zero : 1 < length digits → slice_index digits 0 ≢ 48
  pub value : digits_value 10 digits ≡ n

-- when a reader of numbers up to the greatest may return each answer
abbrev pub ReadsNumber : ℕ → List ℕ → Result ℕ NumberFault → Type 0
ReadsNumber greatest text (Ok n) = IsDecimal text n × (n ≤ greatest)
ReadsNumber greatest text (Err NotANumber) = (n : ℕ) → ¬ IsDecimal text n
ReadsNumber greatest text (Err TooLarge) = (n : ℕ) × IsDecimal text n × (greatest < n)
