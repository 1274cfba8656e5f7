use Rattle.std.proofs.Common.{◌≡◌, ◌++◌, ◌∷◌, lit<, sym, ap, ◌∙◌}
use Rattle.std.proofs.lemmas.List.{append_cancel_left}
use Rattle.std.proofs.lemmas.Str.Pattern.{split_parts, split_after}
use Rattle.tlog_proof.proofs.Lines.{option_weaker}
use Rattle.tlog_proof.proofs.read.field.Goals as goal

pub returns-clause-sound : goal.returns-clause-sound
returns-clause-sound c =
    let cases = c.in_ok-strip_prefix.ensures.cases in
    let after : c.args.text.now ≡ c.args.name.now ++ c.in_ok-strip_prefix.field-0.now =
    cases.1.1 ∙ ap (λ xs. c.args.name.now ++ xs) (sym cases.2) in
    option_weaker c.split_once.result
    (split_parts 10 c.in_ok-strip_prefix.field-0.now c.split_once.result c.split_once.ensures.cases (lit< tt))
    (λ h. tt) (λ x h. (h.1, after ∙ ap (λ xs. c.args.name.now ++ xs) h.0))

pub returns-clause-complete : goal.returns-clause-complete
returns-clause-complete c = λ value rest lacks e.
    let cases = c.in_ok-strip_prefix.ensures.cases in
    let after : c.args.text.now ≡ c.args.name.now ++ c.in_ok-strip_prefix.field-0.now =
    cases.1.1 ∙ ap (λ xs. c.args.name.now ++ xs) (sym cases.2) in
    let tail : c.in_ok-strip_prefix.field-0.now ≡ value ++ 10 ∷ rest =
    append_cancel_left c.args.name.now c.in_ok-strip_prefix.field-0.now (value ++ 10 ∷ rest) (sym after ∙ e) in
    split_after 10 c.in_ok-strip_prefix.field-0.now value rest c.split_once.result c.split_once.ensures.cases
    (lit< tt) tail lacks
