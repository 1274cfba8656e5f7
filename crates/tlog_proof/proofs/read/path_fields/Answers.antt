use Rattle.std.proofs.Common.{false, ℕ, List, ◌≡◌, ◌<◌, ◌∷◌, [], length, sym, subst, ap, ◌∙◌, arith}
use Rattle.std.specs.Prelude.{codes, ◌==◌}
use Rattle.std.specs.List.{AllByRecursion}
use Rattle.std.proofs.lemmas.List.{nil_from_length}
use Rattle.std.proofs.lemmas.Bool.{eqb-true}
use Rattle.std.proofs.lemmas.Result.{err_from_is_err_and}
use Rattle.std.proofs.lemmas.Result.{IfOk-from_err}
use Rattle.tlog_text.specs.Hash.{base64_of, Is32Bytes}
use Rattle.tlog_proof.specs.Text.{path_lines}
use Rattle.tlog_proof.proofs.Lines.{after_line, rest_of_path, all_read, next_hash, path_lines-push, hashes-push}
use Rattle.tlog_proof.proofs.Lines.{fault_same}
use Rattle.tlog_proof.proofs.read.path_fields.Goals as goal

-- some bytes are left
ne_zero : (xs : List ℕ) → false ≡ (length xs == 0) → 0 < length xs
ne_zero [] e = absurd (cc e)
ne_zero (x ∷ xs) e = omega arith

pub returns-then-len-eq-MAX_PATH-clause-complete : goal.returns-then-len-eq-MAX_PATH-clause-complete
returns-then-len-eq-MAX_PATH-clause-complete c = λ path hashes few e.
    let r = rest_of_path c.loop-rest.path.items path c.loop-rest.rest.now c.loop-rest.invariant.hashes hashes
    (sym c.loop-rest.invariant.read ∙ e) in
    let next =
    next_hash c.loop-rest.path.items path c.loop-rest.rest.now r
    (ne_zero c.loop-rest.rest.now c.loop-rest-test.ensures) in
    omega (arith, next.longer)

pub returns-in_err-hash-clause-complete : goal.returns-in_err-hash-clause-complete
returns-in_err-hash-clause-complete c = λ path hashes few e.
    let r = rest_of_path c.loop-rest.path.items path c.loop-rest.rest.now c.loop-rest.invariant.hashes hashes
    (sym c.loop-rest.invariant.read ∙ e) in
    let next =
    next_hash c.loop-rest.path.items path c.loop-rest.rest.now r
    (ne_zero c.loop-rest.rest.now c.loop-rest-test.ensures) in
    let p = err_from_is_err_and c.from_residual.result c.from_residual.ensures.1 in
    rw (p.1, p.2)
    (fault_same c.in_err-hash.field-0.0 _ _
    (c.in_err-hash.ensures.complete next.hash next.after next.is_hash next.line_is))

pub loop-rest-preserved : goal.loop-rest-preserved
loop-rest-preserved c =
    let line = c.in_ok-hash.ensures.sound in
    record {
      text = after_line c.loop-rest.rest.now (codes "path ")
          (base64_of c.in_ok-hash.hash) c.in_ok-hash.after.now c.loop-rest.invariant.text line.1;
      read = c.loop-rest.invariant.read ∙ ap (path_lines c.loop-rest.path.items) line.1 ∙
          sym (ap (λ p. path_lines p c.in_ok-hash.after.now) c.in_ok-push.ensures.items ∙
          path_lines-push c.loop-rest.path.items c.in_ok-hash.hash c.in_ok-hash.after.now);
      few = omega (arith, c.in_ok-push.ensures.len);
      hashes = subst (AllByRecursion Is32Bytes) (sym c.in_ok-push.ensures.items)
          (hashes-push c.loop-rest.path.items c.in_ok-hash.hash c.loop-rest.invariant.hashes line.0);
    }

pub returns-clause-complete : goal.returns-clause-complete
returns-clause-complete c = λ path hashes few e.
    let r = rest_of_path c.loop-rest.path.items path c.loop-rest.rest.now c.loop-rest.invariant.hashes hashes
    (sym c.loop-rest.invariant.read ∙ e) in
    c.new.ensures ∙
    all_read c.loop-rest.path.items path c.loop-rest.rest.now r
    (nil_from_length c.loop-rest.rest.now (eqb-true (length c.loop-rest.rest.now) 0 (sym c.loop-rest-test.ensures)))

pub returns-in_err-hash-clause-sound : goal.returns-in_err-hash-clause-sound
returns-in_err-hash-clause-sound c = IfOk-from_err c.from_residual.result _ c.from_residual.ensures.0

pub returns-in_err-push-clause-sound : goal.returns-in_err-push-clause-sound
returns-in_err-push-clause-sound c = let exit = c.from_residual-in_err-push in IfOk-from_err exit.result _ exit.ensures.0

pub returns-in_err-push-clause-complete : goal.returns-in_err-push-clause-complete
returns-in_err-push-clause-complete c =
    let exit = c.from_residual-in_err-push in
    let p = err_from_is_err_and exit.result exit.ensures.1 in
    rw (p.1, p.2) (λ path hashes short same. tt)
