use Rattle.std.proofs.Common.{◌∙◌, None, Some, [], ap, codes, length, map, sym, unwrap_or}
use Rattle.std.proofs.lemmas.List.{length-map}
use Rattle.clap.specs.Words.{found_of}
use Rattle.program_words.proofs.Refusing.{listed}
use Rattle.program_words.proofs.commands.take.count_of.Goals as goal

pub returns-in-Some : goal.returns-in-Some
returns-in-Some c = λ files are.
    let texts = map (λ v. v.now) c.in-Some.files.now in
    let all = ap (λ o. unwrap_or o []) (listed (found_of c.args.found.now) (codes "file") (Some texts) c.in-Some.ensures) in
    sym (length-map c.in-Some.files.now (λ v. v.now)) ∙ ap length (sym all ∙ are)

pub returns-in-None : goal.returns-in-None
returns-in-None c = λ files are.
    let all = ap (λ o. unwrap_or o []) (listed (found_of c.args.found.now) (codes "file") None c.in-None.ensures) in
    ap length (sym all ∙ are)
