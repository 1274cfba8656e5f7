use Rattle.std.proofs.Common.{codes}
use Rattle.std.proofs.lemmas.Bool.{false≢true}
use Rattle.clap.specs.Words.{found_of, rows_of}
use Rattle.program_words.proofs.Refusing.{flag_some, given_none, given_some}
use Rattle.program_words.proofs.parts.has_flag.Goals as goal

pub returns-in-Some : goal.returns-in-Some
returns-in-Some c =
    flag_some (rows_of (found_of c.args.found.now)) c.args.name.now c.in-Some.word.now c.is_same.result c.is_same.ensures
    (given_some (found_of c.args.found.now) c.args.name.now c.in-Some.word.now c.in-Some.ensures)

pub returns-in-None : goal.returns-in-None
returns-in-None c = (
  λ e. absurd (false≢true e),
  λ h. absurd (given_none (found_of c.args.found.now) c.args.name.now (codes "true") c.in-None.ensures h),
)
