use Rattle.std.proofs.Common.{◌≤◌, arith}
use Rattle.tlog_tiles.proofs.WidthLemmas.{no_number, no_text, number_width, partial_width_is}
use Rattle.tlog_tiles.proofs.paths.reading.partial_width.Goals as goal

pub returns-in_default-clause-none : goal.returns-in_default-clause-none
returns-in_default-clause-none c = no_text c.args.digits.now c.in_default.ensures.cases.0

pub returns-in_default-read_number-clause-none : goal.returns-in_default-read_number-clause-none
returns-in_default-read_number-clause-none c =
    rw (← c.in-Ok.ensures.cases.0)
    (no_number c.in-Ok.text.now c.in_default-read_number.field-0 c.in_default-read_number.ensures)

pub returns-then-width-eq0-clause-none : goal.returns-then-width-eq0-clause-none
returns-then-width-eq0-clause-none c =
    rw (← c.in-Ok.ensures.cases.0) (λ width h.
    omega (
      arith,
      number_width c.in-Ok.text.now c.in-Ok-read_number.width width c.in-Ok-read_number.ensures.0 h,
      c.if-width-eq0.true,
      h.some,
    ))

pub returns-else-width-eq0-clause-found : goal.returns-else-width-eq0-clause-found
returns-else-width-eq0-clause-found c =
    let apart = c.if-width-eq0.false in
    let some : 1 ≤ c.in-Ok-read_number.width = omega arith in
    rw (← c.in-Ok.ensures.cases.0)
    (partial_width_is c.in-Ok.text.now c.in-Ok-read_number.width c.in-Ok-read_number.ensures.0
    c.in-Ok-read_number.ensures.1 some)
