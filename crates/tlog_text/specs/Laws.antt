-- Laws of the texts of numbers and hashes.
use Rattle.std.specs.Prelude.{◌≡◌, ◌↔◌, ℕ, ◌<◌, ◌^◌, List, length}
use Rattle.std.specs.Fmt.{decimal}
use Rattle.tlog_text.specs.Answers.{AlwaysHasOneAnswer}
use Rattle.tlog_text.specs.Number.{IsDecimal, ReadsNumber}
use Rattle.tlog_text.specs.Hash.{IsHashText}

-- a text spells at most one number; a number below 2^64 has one text, the one that Rust prints
pub record NumbersAreSpelled : Type 0 where
  pub one_number : (text : List ℕ) (m n : ℕ) → IsDecimal text m → IsDecimal text n → m ≡ n
  pub one_text : (text : List ℕ) (n : ℕ) → n < 2 ^ 64 → IsDecimal text n ↔ (text ≡ decimal n)

-- reading a text as a number has one answer
abbrev pub OneNumberAnswer : Type 0
OneNumberAnswer = (greatest : ℕ) → AlwaysHasOneAnswer (ReadsNumber greatest)

-- a text spells at most one hash; a hash has one text, which has 44 symbols
pub record HashesAreSpelled : Type 0 where
  pub one_hash : (text a b : List ℕ) → IsHashText text a → IsHashText text b → a ≡ b
  pub one_text : (s t hash : List ℕ) → IsHashText s hash → IsHashText t hash → s ≡ t
  pub symbols : (text hash : List ℕ) → IsHashText text hash → length text ≡ 44
