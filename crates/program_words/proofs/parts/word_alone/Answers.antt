use Rattle.std.proofs.Common.{◌≡◌, None, Option, Some, option_map}
use Rattle.clap.specs.Words.{Text, first_value, found_of, rows_of}
use Rattle.clap.specs.declared.parser.matches.Found.{Found}
use Rattle.program_words.specs.Commands.{NotGiven}
use Rattle.program_words.specs.Spelling.{FindsPart}
use Rattle.program_words.specs.Readings.{IsWordAlone}
use Rattle.program_words.proofs.Refusing.{given_and_not, given_none, given_or_none, given_some}
use Rattle.program_words.proofs.parts.word_alone.Goals as goal

alone_as : (f : Found) (name other : Text) (o : Option Text) → o ≡ first_value f name → NotGiven (rows_of f) other →
    FindsPart (IsWordAlone (rows_of f) name other) o
alone_as f name other (Some text) e not = (given_some f name text e, not)
alone_as f name other None e not = λ text is. given_none f name text e is.0

pub returns-in-Some : goal.returns-in-Some
returns-in-Some c = λ text is.
    let found = found_of c.args.found.now in
    given_and_not (rows_of found) c.args.other.now c.in-Some.field-0.now
    (given_some found c.args.other.now c.in-Some.field-0.now c.in-Some.ensures) is.1

pub returns-in-None : goal.returns-in-None
returns-in-None c =
    let found = found_of c.args.found.now in
    alone_as found c.args.name.now c.args.other.now (option_map (λ s. s.now) c.get_str-in-None.result) c.get_str-in-None.ensures
    (given_or_none found c.args.other.now None c.in-None.ensures)
