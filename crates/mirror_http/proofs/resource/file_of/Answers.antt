use Rattle.std.proofs.Common.{◌≡◌, ◌++◌, ℕ, List, codes, Ok, Err, subst, sym, ap, ◌∙◌}
use Rattle.tlog_tiles.specs.Path.{IsPath}
use Rattle.tlog_tiles.proofs.PathLemmas.{path_answer_one}
use Rattle.mirror_http.proofs.resource.file_of.Goals as goal

pub returns-in-Err-clause-none : goal.returns-in-Err-clause-none
returns-in-Err-clause-none c = λ path is.
    let cases = c.in-Some.ensures.cases in
    let name = c.in-Some.name.now in
    let after : c.args.target.now ≡ codes "/" ++ name = cases.1.1 ∙ ap (λ (x : List ℕ). codes "/" ++ x) (sym cases.2) in
    let same : is.name ≡ name = cc (after, is.target_is) in
    let other = path_answer_one name (Err c.in-Err.field-0) (Ok path) c.in-Err.ensures
    (subst (λ (t : List ℕ). IsPath t path) same is.name_is) in
    absurd (cc other)
