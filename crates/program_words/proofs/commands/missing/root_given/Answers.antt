use Rattle.std.proofs.Common.{◌∙◌, List, ℕ, None, Option, Some, ap, codes, subst, sym, unwrap_or}
use Rattle.std.specs.Prelude.{IfNone, IfSome}
use Rattle.clap.specs.Words.{Row, Text, found_of, rows_of}
use Rattle.tlog_text.specs.Hash.{IsHashText}
use Rattle.program_words.specs.Commands.{Given, IsRootGiven}
use Rattle.program_words.specs.Spelling.{FindsPart}
use Rattle.program_words.proofs.Refusing.{given_none, given_some}
use Rattle.program_words.proofs.commands.missing.root_given.Goals as goal

root_found : (options : List Row) (word : Text) (o : Option (List ℕ)) → Given options (codes "root") word
    → IfSome o (λ hash. IsHashText word hash) → IfNone o ((hash : List ℕ) → ¬ IsHashText word hash)
    → FindsPart (IsRootGiven options) o
root_found options word (Some hash) given some none = record { value = word; given = given; is_such = some }
root_found options word None given some none = λ hash is.
    let same = ap (λ o. unwrap_or o word) (sym is.given ∙ given) in
    none hash (subst (λ w. IsHashText w hash) same is.is_such)

pub returns-in-Some : goal.returns-in-Some
returns-in-Some c =
    root_found (rows_of (found_of c.args.found.now)) c.in-Some.word.now c.read_hash.result
    (given_some (found_of c.args.found.now) (codes "root") c.in-Some.word.now c.in-Some.ensures) c.read_hash.ensures.some
    c.read_hash.ensures.none

pub returns-in-None : goal.returns-in-None
returns-in-None c = λ root is. given_none (found_of c.args.found.now) (codes "root") is.value c.in-None.ensures is.given
