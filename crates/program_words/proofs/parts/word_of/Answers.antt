use Rattle.std.proofs.Common.{◌∙◌, List, ap, codes, sym, unwrap_or, ℕ}
use Rattle.clap.specs.Words.{found_of, rows_of}
use Rattle.program_words.specs.Commands.{Given}
use Rattle.program_words.proofs.Judging.{kept, noted}
use Rattle.program_words.proofs.Refusing.{given_none, given_some}
use Rattle.program_words.proofs.parts.word_of.Goals as goal

pub returns-in-Some : goal.returns-in-Some
returns-in-Some c =
    let found = found_of c.args.found.now in
    let given = given_some found c.args.name.now c.in-Some.word.now c.in-Some.ensures in record {
      part = kept (Given (rows_of found) c.args.name.now) c.args.refusals.now c.in-Some.word.now given;
      one = λ word also. ap (λ o. unwrap_or o word) (sym given ∙ also);
    }

pub returns-in-None : goal.returns-in-None
returns-in-None c =
    let found = found_of c.args.found.now in
    let none = λ (word : List ℕ). given_none found c.args.name.now word c.in-None.ensures in record {
      part = noted (Given (rows_of found) c.args.name.now) c.args.refusals.now _ (codes "") none c.note.ensures;
      one = λ word given. absurd (none word given);
    }
