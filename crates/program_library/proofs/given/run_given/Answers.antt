use Rattle.std.proofs.Common.{◌∙◌, inl, map, refl}
use Rattle.std.specs.Prelude.{string_bytes}
use Rattle.program_library.proofs.Keyed.{line_doable}
use Rattle.program_io.proofs.Written.{keeps_itself}
use Rattle.program_library.proofs.given.run_given.Goals as goal

pub obey-answer-requires : goal.obey-answer-requires
obey-answer-requires g c = line_doable (map string_bytes c.args.words.now) c.in-Ok.line c.in-Ok.ensures.line

pub returns-in-Ok-clause-same : goal.returns-in-Ok-clause-same
returns-in-Ok-clause-same g c =
    let first = c.obey-answer.ensures.same in
    let last = c.printed.ensures.same in (last.0 ∙ first.0, last.1 ∙ first.1, last.2 ∙ first.2)

pub returns-in-Ok-clause-answer : goal.returns-in-Ok-clause-answer
returns-in-Ok-clause-answer g c =
    rw c.printed.ensures.answer (rw c.printed.ensures.moment
    (c.obey-answer.ensures.runs (map string_bytes c.args.words.now) c.in-Ok.ensures.line))

pub returns-in-Ok-clause-status : goal.returns-in-Ok-clause-status
returns-in-Ok-clause-status g c = rw c.printed.ensures.answer c.obey-answer.ensures.ends.status

pub returns-in-Ok-clause-quiet : goal.returns-in-Ok-clause-quiet
returns-in-Ok-clause-quiet g c =
    rw c.printed.ensures.answer (rw c.printed.ensures.moment c.obey-answer.ensures.ends.quiet)

pub returns-in-Err-clause-answer : goal.returns-in-Err-clause-answer
returns-in-Err-clause-answer g c = inl record {
  fault = c.in-Err.fault;
  answer_is = refl;
  reads = c.in-Err.ensures.none;
  quiet = keeps_itself _;
  files = refl;
  folders = refl;
}

pub returns-in-Err-clause-quiet : goal.returns-in-Err-clause-quiet
returns-in-Err-clause-quiet g c = λ other. keeps_itself _
