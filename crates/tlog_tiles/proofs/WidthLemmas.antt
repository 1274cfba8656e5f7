-- Widths as decimal digits.
use Rattle.std.proofs.Common.{◌≡◌, ℕ, ◌^◌, ◌<◌, ◌≤◌, List, sym, subst, arith}
use Rattle.std.specs.Prelude.{Err}
use Rattle.std.specs.Str.{IsUtf8}
use Rattle.std.proofs.lemmas.Fmt.{IsAscii-decimal_wide}
use Rattle.std.proofs.lemmas.Str.{IsUtf8-from_ascii}
use Rattle.std.specs.Fmt.{decimal}
use Rattle.tlog_text.specs.Number.{IsDecimal, ReadsNumber}
use Rattle.tlog_text.specs.declared.number.NumberFault.{NumberFault}
use Rattle.tlog_text.specs.declared.number.NumberFault.TheVariants.{NotANumber, TooLarge}
use Rattle.tlog_text.proofs.Decimals.{decimal_is, decimal_written, one_number}
use Rattle.tlog_tiles.specs.Path.{IsPartialWidth}

width_decimal : (text : List ℕ) (width : ℕ) → IsPartialWidth text width → IsDecimal text width
width_decimal text width h =
    let fits : width < 2 ^ 64 = omega (arith, h.partial) in
    subst (λ (t : List ℕ). IsDecimal t width) (sym h.text_is) (decimal_written width fits)

-- a text that is not UTF-8 is not a width
pub no_text : (text : List ℕ) → (IsUtf8 text → ⊥) → (width : ℕ) → IsPartialWidth text width → ⊥
no_text text bad width h =
    let fits : width < 10 ^ 64 = omega (arith, h.partial) in
    bad (subst IsUtf8 (sym h.text_is) (IsUtf8-from_ascii (decimal width) (IsAscii-decimal_wide width fits)))

-- the number that a text spells is its width
pub number_width : (text : List ℕ) (n width : ℕ) → IsDecimal text n → IsPartialWidth text width → n ≡ width
number_width text n width is h = one_number text n width is (width_decimal text width h)

-- a text that is refused as a number up to 255 is not a width
pub no_number : (text : List ℕ) (fault : NumberFault) → ReadsNumber 255 text (Err fault) → (width : ℕ) →
    IsPartialWidth text width → ⊥
no_number text NotANumber h width w = h width (width_decimal text width w)
no_number text TooLarge h width w =
    let over : 255 < h.0 = h.2 in
    omega (arith, number_width text h.0 width h.1 w, w.partial)

pub partial_width_is : (text : List ℕ) (n : ℕ) → IsDecimal text n → n ≤ 255 → 1 ≤ n → IsPartialWidth text n
partial_width_is text n is most some =
    record { some = some; partial = most; text_is = decimal_is text n (omega arith) is }
