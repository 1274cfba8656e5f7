use Rattle.std.proofs.Common.{None, Some, inr, lit<, option_map, refl, subst, sym}
use Rattle.std.proofs.lemmas.Str.Pattern.{strip_prefix_char}
use Rattle.program_words.specs.Spelling.{FindsPart, IsLiteral, left_bracket}
use Rattle.program_words.proofs.Places.{bracketed}
use Rattle.program_words.proofs.place.address_of.Goals as goal

pub returns-in-Some : goal.returns-in-Some
returns-in-Some c =
    let opened = strip_prefix_char left_bracket c.args.name.now (Some c.in-Some.behind) c.in-Some.ensures.cases (lit< tt) in
    let found = option_map (λ text. text.now) c.literal_of.result in
    bracketed c.args.name.now found (c.in-Some.behind.now, opened)
    (subst (λ n. FindsPart (IsLiteral n) found) (sym opened) c.literal_of.ensures)

pub returns-in-None : goal.returns-in-None
returns-in-None c =
    let none = strip_prefix_char left_bracket c.args.name.now None c.in-None.ensures.cases (lit< tt) in
    inr (λ begins. none begins.0 begins.1, refl)
