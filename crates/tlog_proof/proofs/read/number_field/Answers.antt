use Rattle.std.proofs.Common.{subst, sym, ap, ◌∙◌, arith}
use Rattle.std.specs.Fmt.{decimal}
use Rattle.tlog_text.specs.Number.{IsDecimal}
use Rattle.tlog_text.proofs.Decimals.{decimal_is, decimal_written, one_number, refused_number}
use Rattle.tlog_shape.specs.declared.TheConstants.{MAX_SIZE}
use Rattle.tlog_proof.specs.Text.{line}
use Rattle.tlog_proof.proofs.Lines.{decimal_lacks_newline}
use Rattle.tlog_proof.proofs.read.number_field.Goals as goal

pub returns-in-Ok-clause-sound : goal.returns-in-Ok-clause-sound
returns-in-Ok-clause-sound c =
    let read = c.in-Ok.ensures in
    let spelled = decimal_is c.in_ok-digits.digits.now c.in-Ok.n (omega (arith, read.1)) read.0 in (
      read.1,
      c.in_ok-digits.ensures.sound.1 ∙
          ap (λ digits. line c.args.name.now digits c.in_ok-digits.rest.now) spelled,
    )

pub returns-in_err-digits-clause-complete : goal.returns-in_err-digits-clause-complete
returns-in_err-digits-clause-complete c = λ n rest small e.
    absurd (c.in_err-digits.ensures.complete (decimal n) rest (decimal_lacks_newline n small) e)

pub returns-in-Err-clause-complete : goal.returns-in-Err-clause-complete
returns-in-Err-clause-complete c = λ n rest small e.
    let found = c.in_ok-digits.ensures.complete (decimal n) rest (decimal_lacks_newline n small) e in
    let is = subst (λ digits. IsDecimal digits n) (sym found.0) (decimal_written n (omega (arith, small))) in
    absurd (refused_number MAX_SIZE c.in_ok-digits.digits.now c.in-Err.field-0 c.in-Err.ensures n is small)

pub returns-in-Ok-clause-complete : goal.returns-in-Ok-clause-complete
returns-in-Ok-clause-complete c = λ n rest small e.
    let found = c.in_ok-digits.ensures.complete (decimal n) rest (decimal_lacks_newline n small) e in
    let is = subst (λ digits. IsDecimal digits n) (sym found.0) (decimal_written n (omega (arith, small))) in
    (one_number c.in_ok-digits.digits.now c.in-Ok.n n c.in-Ok.ensures.0 is, found.1)
