-- The values that `clap` finds for an option.
use Rattle.std.proofs.Common.{◌≡◌, ◌∙◌, sym, ap, subst, true≢false, is_some, unwrap_or, option_map, List, Option}
use Rattle.std.proofs.Common.{Some, None, Bool, IsTrue, ◌↔◌, codes}
use Rattle.std.specs.Str.{bytes_eq}
use Rattle.std.proofs.lemmas.Slice.Eq.{bytes_eq-Decides}
use Rattle.clap.specs.Words.{Row, Text, all_of, first_of, first_value, matched_of, raw_values, rows_of}
use Rattle.clap.specs.declared.parser.matches.Found.{Found}
use Rattle.clap.proofs.WalkLemmas.{first_value-rows, raw_values-rows}
use Rattle.program_words.specs.Commands.{Given, HasFlag, NotGiven}
use Rattle.program_words.specs.Spelling.{FindsPart}

-- the result of `get_str` is the option's value
pub given_some : (f : Found) (name text : Text) → Some text ≡ first_value f name → Given (rows_of f) name text
given_some f name text e = sym (first_value-rows f name) ∙ sym e

-- if `get_str` gives None, the option has no value
pub given_none : (f : Found) (name text : Text) → None ≡ first_value f name → Given (rows_of f) name text → ⊥
given_none f name text e h =
    let bad : None ≡ Some text = e ∙ (first_value-rows f name ∙ h) in
    true≢false (ap is_some (sym bad))

-- the result of `get_str` is the option's value, or None if it has none
pub given_as : (f : Found) (name : Text) (o : Option Text) → o ≡ first_value f name →
    FindsPart (Given (rows_of f) name) o
given_as f name (Some text) e = given_some f name text e
given_as f name None e = λ text h. given_none f name text e h

-- an option that may be missing
pub given_or_none : (f : Found) (name : Text) (o : Option Text) → o ≡ first_value f name → first_of name (rows_of f) ≡ o
given_or_none f name o e = sym (first_value-rows f name) ∙ sym e

-- an option without a value, from its text
pub flag_some : (options : List Row) (name word : Text) (b : Bool) → b ≡ bytes_eq word (codes "true") →
    Given options name word → IsTrue b ↔ HasFlag options name
flag_some options name word b e given = (
  λ t. subst (λ w. Given options name w) ((bytes_eq-Decides word (codes "true")).0 (sym e ∙ t)) given,
  λ h. e ∙ (bytes_eq-Decides word (codes "true")).1 (ap (λ o. unwrap_or o word) (sym given ∙ h)),
)

-- the values of a list
pub listed : (f : Found) (name : Text) (texts : Option (List Text)) →
    texts ≡ option_map raw_values (matched_of f name) → all_of name (rows_of f) ≡ texts
listed f name texts e = sym (raw_values-rows f name) ∙ sym e

-- an option is not both given and missing
pub given_and_not : (options : List Row) (name text : Text) → Given options name text → NotGiven options name → ⊥
given_and_not options name text given not = true≢false (ap is_some (sym given ∙ not))
