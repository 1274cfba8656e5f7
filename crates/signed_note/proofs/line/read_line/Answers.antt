use Rattle.std.proofs.Common.{arith}
use Rattle.std.proofs.lemmas.Result.{err_from_is_err_and}
use Rattle.signed_note.specs.Names.{space}
use Rattle.signed_note.proofs.Lacking.{Lacks-from_reads}
use Rattle.signed_note.proofs.LineTexts.{not_named, refused, too_short}
use Rattle.signed_note.proofs.line.read_line.Goals as goal

pub returns-then-not-is_key_name : goal.returns-then-not-is_key_name
returns-then-not-is_key_name c =
    not_named c.args.line.now c.in-Some.name.now c.in-Some.encoded.now c.in-Some.ensures.found
    (Lacks-from_reads space c.in-Some.name.now c.in-Some.ensures.first)
    (λ named. let yes = c.is_key_name.ensures.1 named in absurd cc)

pub returns-in_err-payload : goal.returns-in_err-payload
returns-in_err-payload c =
    let p = err_from_is_err_and c.from_residual.result c.from_residual.ensures.1 in
    rw (p.1, p.2)
    (refused c.args.line.now c.in-Some.name.now c.in-Some.encoded.now c.in_err-payload.field-0.0 c.in-Some.ensures.found
    (Lacks-from_reads space c.in-Some.name.now c.in-Some.ensures.first) c.in_err-payload.ensures)

pub returns-then-len-lt5 : goal.returns-then-len-lt5
returns-then-len-lt5 c =
    too_short c.args.line.now c.in-Some.name.now c.in-Some.encoded.now c.in_ok-payload.payload.items
    c.in-Some.ensures.found (Lacks-from_reads space c.in-Some.name.now c.in-Some.ensures.first)
    c.in_ok-payload.ensures.1 c.in_ok-payload.ensures.0 (omega arith)

pub returns-in_err-from_str : goal.returns-in_err-from_str
returns-in_err-from_str c =
    let exit = c.from_residual-in_err-from_str in
    let p = err_from_is_err_and exit.result exit.ensures.1 in
    rw (p.1, p.2) tt

pub returns-in_err-from_slice : goal.returns-in_err-from_slice
returns-in_err-from_slice c =
    let exit = c.from_residual-in_err-from_slice in
    let p = err_from_is_err_and exit.result exit.ensures.1 in
    rw (p.1, p.2) tt
