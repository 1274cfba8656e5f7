use Rattle.std.proofs.Common.{refl, sym, subst}
use Rattle.std.proofs.lemmas.Result.{err_from_is_err_and}
use Rattle.signed_note.specs.Names.{space}
use Rattle.signed_note.specs.KeyKinds.{IsSecret}
use Rattle.signed_note.proofs.Lacking.{Lacks-from_reads}
use Rattle.signed_note.proofs.KeyLines.{no_secret_words, secret_refused, no_secret_name, no_secret_bytes}
use Rattle.signed_note.proofs.key_file.secret_of.Goals as goal

pub returns-in_default : goal.returns-in_default
returns-in_default c = (refl, no_secret_words c.args.text.now c.in_default.ensures.none)

pub returns-in_err-secret : goal.returns-in_err-secret
returns-in_err-secret c =
    let p = err_from_is_err_and c.from_residual.result c.from_residual.ensures.1 in
    rw (p.1, p.2)
    (secret_refused c.args.text.now c.in-Some.name.now c.in-Some.digits.now
    c.in-Some.id c.args.number c.in_err-secret.field-0.0 c.in-Some.ensures.found
    (Lacks-from_reads space c.in-Some.name.now c.in-Some.ensures.first) c.in_err-secret.ensures)

pub returns-in-Err-BadName : goal.returns-in-Err-BadName
returns-in-Err-BadName c = (
  refl,
  no_secret_name c.args.text.now c.in-Some.name.now c.in-Some.digits.now c.in-Some.id c.in-Some.ensures.found
      (Lacks-from_reads space c.in-Some.name.now c.in-Some.ensures.first)
      (rw c.in-Err-BadName.field-0-is at c.in-Err-BadName.ensures),
)

pub returns : goal.returns
returns c =
    let bad = rw c.in-Err-BadSecret.field-0-is at c.in-Err-BadSecret.ensures in (
      refl,
      no_secret_bytes c.args.text.now c.in-Some.name.now c.in-Some.digits.now c.in_ok-secret.secret.items
          c.in-Some.id c.in-Some.ensures.found (Lacks-from_reads space c.in-Some.name.now c.in-Some.ensures.first)
          c.in_ok-secret.ensures
          (λ h. bad.1 (subst IsSecret (sym c.deref.ensures.value) h)),
    )
