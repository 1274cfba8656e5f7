use Rattle.std.proofs.Common.{◌<◌, length, arith, lit<, rules}
use Rattle.std.specs.Prelude.{Some, None}
use Rattle.std.proofs.lemmas.Bool.Decides.{nat_tests}
use Rattle.std.proofs.lemmas.Result.{err_from_is_err_and}
use Rattle.std.proofs.lemmas.Str.Pattern.{split_parts}
use Rattle.std.proofs.lemmas.List.Elements.{All-push}
use Rattle.signed_note.specs.Names.{newline}
use Rattle.signed_note.specs.Notes.{IsSignatureLine}
use Rattle.signed_note.proofs.Lacking.{Lacks-from_reads}
use Rattle.signed_note.proofs.LineLists.{next_line, no_line, one_more, line_refused}
use Rattle.signed_note.proofs.parts.read_lines.Goals as goal

pub returns-in_default : goal.returns-in_default
returns-in_default c = λ lines are.
    let some : 0 < length c.loop-rest.rest.now = grind (arith, nat_tests) in
    let more = c.loop-rest.invariant.goes_on lines are in
    no_line c.loop-rest.rest.now more.0
    (Lacks-from_reads newline c.loop-rest.rest.now
    (split_parts newline c.loop-rest.rest.now None c.in_default.ensures.cases (lit< tt))) some more.1

pub returns-in_err-read_line : goal.returns-in_err-read_line
returns-in_err-read_line c =
    let parts =
    split_parts newline c.loop-rest.rest.now (Some (c.in-Some.line, c.in-Some.after)) c.in-Some.ensures.cases
    (lit< tt) in
    let p = err_from_is_err_and c.from_residual.result c.from_residual.ensures.1 in
    rw (p.1, p.2)
    (line_refused c.args.signed.now c.loop-rest.rest.now c.in-Some.line.now
    c.in-Some.after.now c.in_err-read_line.field-0.0 parts.0 (Lacks-from_reads newline c.in-Some.line.now parts.1)
    c.loop-rest.invariant.goes_on c.in_err-read_line.ensures)

pub loop-rest-preserved : goal.loop-rest-preserved
loop-rest-preserved c =
    let parts =
    split_parts newline c.loop-rest.rest.now (Some (c.in-Some.line, c.in-Some.after)) c.in-Some.ensures.cases
    (lit< tt) in
    record {
      text = search rules;
      so_far = rw c.in_ok-push.ensures.items
          (one_more c.args.signed.now c.in-Some.line.now c.in-Some.after.now c.loop-rest.lines.items
          c.in_ok-read_line.field-0 (rw parts.0 at c.loop-rest.invariant.so_far) c.in_ok-read_line.ensures.1);
      well_formed =
          rw c.in_ok-push.ensures.items
          (All-push IsSignatureLine c.loop-rest.lines.items c.in_ok-read_line.field-0 c.loop-rest.invariant.well_formed
          c.in_ok-read_line.ensures.0);
      goes_on = λ all are.
          let more = c.loop-rest.invariant.goes_on all are in
          let next =
          next_line c.loop-rest.rest.now c.in-Some.line.now c.in-Some.after.now more.0 parts.0
          (Lacks-from_reads newline c.in-Some.line.now parts.1) more.1 in
          (next.1, next.4);
    }

pub returns-in_err-push : goal.returns-in_err-push
returns-in_err-push c =
    let exit = c.from_residual-in_err-push in
    let p = err_from_is_err_and exit.result exit.ensures.1 in
    rw (p.1, p.2) tt
