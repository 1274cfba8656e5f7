use Rattle.std.proofs.Common.{None, refl, subst, sym}
use Rattle.clap.specs.Words.{found_of}
use Rattle.program_words.specs.Commands.{IsNumberOr}
use Rattle.program_words.specs.Spelling.{FindsPart}
use Rattle.program_words.proofs.Refusing.{given_or_none, given_some}
use Rattle.program_words.proofs.parts.number_or.Goals as goal

pub returns-in-Some : goal.returns-in-Some
returns-in-Some c =
    subst (λ o. FindsPart (IsNumberOr 0 c.args.most c.args.other o) c.number_in.result)
    (sym (given_some (found_of c.args.found.now) c.args.name.now c.in-Some.word.now c.in-Some.ensures)) c.number_in.ensures

pub returns-in-None : goal.returns-in-None
returns-in-None c =
    subst (λ o. IsNumberOr 0 c.args.most c.args.other o c.args.other)
    (sym (given_or_none (found_of c.args.found.now) c.args.name.now None c.in-None.ensures)) refl
