use Rattle.std.proofs.Common.{◌≡◌, ◌≢◌, ℕ, ◌<◌, List, length, get_or, arith, ap, sym, ◌∙◌}
use Rattle.std.proofs.lemmas.Bool.{eqb-false}
use Rattle.tlog_text.proofs.Decimals.{decimal_test}
use Rattle.tlog_text.proofs.number.is_decimal.Goals as goal
use Rattle.tlog_text.proofs.number.is_decimal.Goals.{else-digits-gt1-via-then-digits-gt1+else-digits-eq48}
use Rattle.tlog_text.proofs.number.is_decimal.Goals.{else-digits-gt1-via-else-digits-gt1}

pub returns : goal.returns
returns c =
    let same : c.as_bytes-digits.result.now ≡ c.args.text.now = c.as_bytes-digits.ensures.value in
    let some : 0 < length c.args.text.now =
    omega (
      arith,
      eqb-false (length c.as_bytes-digits.result.now) 0 (sym c.is_empty.ensures ∙ c.if-is_empty.false),
    ) in
    let first : get_or c.as_bytes-digits.result.now 0 0 ≡ get_or c.args.text.now 0 0 =
    ap (λ (x : List ℕ). get_or x 0 0) same in
    let zero : 1 < length c.args.text.now → get_or c.args.text.now 0 0 ≢ 48 = elim c.else-digits-gt1.branch [
      | else-digits-gt1-via-then-digits-gt1+else-digits-eq48 w ↦ λ lt. λ is. w.if-digits-eq48.false (first ∙ is)
      | else-digits-gt1-via-else-digits-gt1 w ↦ λ lt. absurd (omega arith)
    ] in
    decimal_test c.args.text.now c.are_digits.result some zero c.are_digits.ensures
