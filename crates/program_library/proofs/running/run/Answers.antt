use Rattle.std.proofs.Common.{◌∙◌, map}
use Rattle.std.specs.Prelude.{string_bytes}
use Rattle.program_library.specs.declared.fault.RunFault.TheVariants.{Command}
use Rattle.program_library.proofs.Keyed.{keys_lack, line_doable}
use Rattle.program_io.proofs.Written.{keeps_itself}
use Rattle.program_library.proofs.running.run.Goals as goal

pub run_line-answer-requires : goal.run_line-answer-requires
run_line-answer-requires g c = line_doable (map string_bytes c.args.words.now) c.in-Ok.line c.in-Ok.ensures.line

pub returns-in-Ok-clause-same : goal.returns-in-Ok-clause-same
returns-in-Ok-clause-same g c =
    let first = c.run_line-answer.ensures.same in
    let last = c.printed.ensures.same in (last.0 ∙ first.0, last.1 ∙ first.1, last.2 ∙ first.2)

pub returns-in-Ok-clause-answer : goal.returns-in-Ok-clause-answer
returns-in-Ok-clause-answer g c =
    rw c.printed.ensures.answer (rw c.printed.ensures.moment
    (c.run_line-answer.ensures.runs (map string_bytes c.args.words.now) c.in-Ok.ensures.line))

pub returns-in-Ok-clause-status : goal.returns-in-Ok-clause-status
returns-in-Ok-clause-status g c = rw c.printed.ensures.answer c.run_line-answer.ensures.ends.status

pub returns-in-Ok-clause-quiet : goal.returns-in-Ok-clause-quiet
returns-in-Ok-clause-quiet g c =
    rw c.printed.ensures.answer (rw c.printed.ensures.moment c.run_line-answer.ensures.ends.quiet)

pub returns-in-Err-clause-answer : goal.returns-in-Err-clause-answer
returns-in-Err-clause-answer g c =
    keys_lack _ _ _ (map string_bytes c.args.words.now) (Command c.in-Err.fault) c.in-Err.ensures.refused

pub returns-in-Err-clause-quiet : goal.returns-in-Err-clause-quiet
returns-in-Err-clause-quiet g c = λ other. keeps_itself _
