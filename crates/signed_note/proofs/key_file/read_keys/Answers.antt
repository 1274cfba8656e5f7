use Rattle.std.proofs.Common.{◌≡◌, ◌++◌, ◌∷◌, [], List, ℕ, sym, ap, ◌∙◌, append_assoc, arith}
use Rattle.std.proofs.lemmas.Result.{err_from_is_err_and}
use Rattle.signed_note.specs.Names.{newline}
use Rattle.signed_note.proofs.Lacking.{Lacks-from_reads}
use Rattle.signed_note.proofs.KeyLines.{key_refused, file_more}
use Rattle.signed_note.proofs.key_file.read_keys.Goals as goal

pub returns-in_err-key_of : goal.returns-in_err-key_of
returns-in_err-key_of c =
    let p = err_from_is_err_and c.from_residual.result c.from_residual.ensures.1 in
    rw (p.1, p.2)
    (key_refused c.args.bytes.now c.loop-rest.invariant.0 c.loop-rest.rest.now c.in-Some.line.now c.in-Some.after.now
    c.loop-rest.keys.items _ c.in_err-key_of.field-0.0
    c.loop-rest.invariant.1 c.loop-rest.invariant.2 c.in-Some.ensures.found
    (Lacks-from_reads newline c.in-Some.line.now c.in-Some.ensures.first)
    (omega (arith, c.len-number.ensures, c.loop-rest.keys.ok)) c.in_err-key_of.ensures)

pub loop-rest-preserved : goal.loop-rest-preserved
loop-rest-preserved c =
    let front = c.loop-rest.invariant.0 in
    let line = c.in-Some.line.now in
    let after = c.in-Some.after.now in
    let whole : c.args.bytes.now ≡ (front ++ (line ++ newline ∷ [])) ++ after =
    c.loop-rest.invariant.1 ∙
    (ap (λ (x : List ℕ). front ++ x) (c.in-Some.ensures.found ∙ sym (append_assoc line (newline ∷ []) after)) ∙
    sym (append_assoc front (line ++ newline ∷ []) after)) in (
      front ++ (line ++ newline ∷ []),
      whole,
      rw c.in_ok-push.ensures.items
          (file_more front line c.loop-rest.keys.items c.in_ok-key_of.field-0 c.loop-rest.invariant.2
          c.in_ok-key_of.ensures),
    )

pub returns-in_err-push : goal.returns-in_err-push
returns-in_err-push c =
    let exit = c.from_residual-in_err-push in
    let p = err_from_is_err_and exit.result exit.ensures.1 in
    rw (p.1, p.2) tt
