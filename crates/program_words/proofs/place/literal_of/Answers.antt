use Rattle.std.proofs.Common.{None, Some, ap, lit<, ◌∷◌}
use Rattle.std.proofs.lemmas.Str.Pattern.{strip_suffix_char}
use Rattle.program_words.specs.Spelling.{left_bracket, right_bracket}
use Rattle.program_words.proofs.Places.{no_literal, unclosed}
use Rattle.program_words.proofs.place.literal_of.Goals as goal

pub returns-in_default : goal.returns-in_default
returns-in_default c = λ text is.
    unclosed c.args.behind.now text
    (strip_suffix_char right_bracket c.args.behind.now None c.in_default.ensures.cases (lit< tt)) is.whole

pub returns-in-Ok : goal.returns-in-Ok
returns-in-Ok c =
    let closed = strip_suffix_char right_bracket c.args.behind.now (Some c.in-Some.text) c.in-Some.ensures.cases (lit< tt) in
    record {
      whole = ap (λ l. left_bracket ∷ l) closed;
      address = _;
      writes = c.in-Ok.ensures.value;
    }

pub returns-in-Err : goal.returns-in-Err
returns-in-Err c = λ text is.
    let closed = strip_suffix_char right_bracket c.args.behind.now (Some c.in-Some.text) c.in-Some.ensures.cases (lit< tt) in
    no_literal (left_bracket ∷ c.args.behind.now) c.in-Some.text.now text (ap (λ l. left_bracket ∷ l) closed)
    c.in-Err.ensures.value is
