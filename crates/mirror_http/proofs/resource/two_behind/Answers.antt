use Rattle.std.proofs.Common.{◌≡◌, ◌++◌, ◌∷◌, lit<, sym, ap, ◌∙◌}
use Rattle.std.proofs.lemmas.List.{append_cancel_left}
use Rattle.std.proofs.lemmas.Str.Pattern.{split_after}
use Rattle.mirror_http.proofs.resource.two_behind.Goals as goal

pub returns-clause-complete : goal.returns-clause-complete
returns-clause-complete c = λ first second lacks e.
    let cases = c.in_ok-strip_prefix.ensures.cases in
    let rest = c.in_ok-strip_prefix.field-0.now in
    let after : c.args.target.now ≡ c.args.front.now ++ rest =
    cases.1.1 ∙ ap (λ xs. c.args.front.now ++ xs) (sym cases.2) in
    let tail : rest ≡ first ++ 47 ∷ second =
    append_cancel_left c.args.front.now rest (first ++ 47 ∷ second) (sym after ∙ e) in
    split_after 47 rest first second c.split_once.result c.split_once.ensures.cases (lit< tt) tail
    (λ i lt. lacks i 0 lt)
