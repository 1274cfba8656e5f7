use Rattle.std.proofs.Common.{◌≡◌, ◌++◌, ◌∷◌, lit<, sym, ◌∙◌, ap}
use Rattle.std.proofs.lemmas.Str.Pattern.{split_parts}
use Rattle.signed_note.specs.Names.{space}
use Rattle.signed_note.specs.Notes.{em_dash}
use Rattle.signed_note.proofs.LineTexts.{option_weaker, no_words}
use Rattle.signed_note.proofs.line.words_of.Goals as goal

pub returns-clause-first : goal.returns-clause-first
returns-clause-first c =
    option_weaker c.split_once.result
    (split_parts space c.in_ok-strip_prefix.field-0.now c.split_once.result c.split_once.ensures.cases (lit< tt))
    (λ h. tt) (λ x h. h.1)

pub returns-clause-none : goal.returns-clause-none
returns-clause-none c =
    let after : c.args.line.now ≡ em_dash ++ space ∷ c.in_ok-strip_prefix.field-0.now =
    let cases = c.in_ok-strip_prefix.ensures.cases in cases.1.1 ∙ ap (λ xs. em_dash ++ space ∷ xs) (sym cases.2) in
    option_weaker c.split_once.result
    (split_parts space c.in_ok-strip_prefix.field-0.now c.split_once.result c.split_once.ensures.cases (lit< tt))
    (λ h. no_words c.args.line.now c.in_ok-strip_prefix.field-0.now after h) (λ x h. tt)
