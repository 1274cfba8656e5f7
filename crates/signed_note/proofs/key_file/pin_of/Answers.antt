use Rattle.std.proofs.Common.{refl, ap, rules}
use Rattle.std.specs.Prelude.{is_ok}
use Rattle.signed_note.specs.Names.{space}
use Rattle.signed_note.proofs.Lacking.{Lacks-from_reads}
use Rattle.signed_note.proofs.KeyWords.{not_sized}
use Rattle.signed_note.proofs.OnePin.{one_pin}
use Rattle.signed_note.proofs.KeyLines.{no_pin_words, no_pin_digits, no_pin_name}
use Rattle.signed_note.proofs.key_file.pin_of.Goals as goal

pub returns-in_default : goal.returns-in_default
returns-in_default c = (refl, no_pin_words c.args.text.now c.in_default.ensures.none)

pub returns-in_default-from_hex : goal.returns-in_default-from_hex
returns-in_default-from_hex c = (
  refl,
  no_pin_digits c.args.text.now c.in-Some.name.now c.in-Some.digits.now c.in-Some.id c.in-Some.ensures.found
      (Lacks-from_reads space c.in-Some.name.now c.in-Some.ensures.first)
      (λ bytes len h. not_sized c.in-Some.digits.now bytes 32 c.from_hex.result c.from_hex.ensures
      (ap is_ok c.in_default-from_hex.is) len h),
)

pub returns-in-Err-BadName : goal.returns-in-Err-BadName
returns-in-Err-BadName c = (
  refl,
  no_pin_name c.args.text.now c.in-Some.name.now c.in-Some.digits.now c.in-Some.id c.in-Some.ensures.found
      (Lacks-from_reads space c.in-Some.name.now c.in-Some.ensures.first)
      (rw c.in-Err-BadName.field-0-is at c.in-Err-BadName.ensures),
)

pub returns-in-Ok-new : goal.returns-in-Ok-new
returns-in-Ok-new c =
    one_pin c.args.text.now c.in-Some.name.now c.in-Some.digits.now c.in-Some.id c.in-Ok.digest c.in-Ok-new.pins
    c.in-Some.ensures.found c.in-Ok-new.ensures.0 (search rules) (search rules) (search rules)
