use Rattle.std.proofs.Common.{◌∙◌, Bor, List, None, Some, [], ap, codes, map, sym, unwrap_or, ℕ}
use Rattle.clap.specs.Words.{found_of, rows_of}
use Rattle.program_words.specs.Commands.{AreFiles}
use Rattle.program_words.proofs.Judging.{kept}
use Rattle.program_words.proofs.Refusing.{listed}
use Rattle.program_words.proofs.parts.files_of.Goals as goal

pub returns-in_default : goal.returns-in_default
returns-in_default c =
    let texts = λ (xs : List (Bor (List ℕ))). map (λ v. v.now) xs in
    kept (AreFiles (rows_of (found_of c.args.found.now))) c.args.refusals.now (texts c.new.result.items)
    (ap (λ o. unwrap_or o []) (listed (found_of c.args.found.now) (codes "file") None c.in_default.ensures)
    ∙ ap texts (sym c.new.ensures.items))

pub returns-in-Ok : goal.returns-in-Ok
returns-in-Ok c =
    let texts = λ (xs : List (Bor (List ℕ))). map (λ v. v.now) xs in
    kept (AreFiles (rows_of (found_of c.args.found.now))) c.args.refusals.now (texts c.in-Ok.files.items)
    (ap (λ o. unwrap_or o []) (listed (found_of c.args.found.now) (codes "file") (Some (texts c.in-Some.files.now)) c.in-Some.ensures)
    ∙ ap texts (sym c.in-Ok.ensures.items))
