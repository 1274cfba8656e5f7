use Rattle.std.proofs.Common.{◌≡◌, None, Some, Err, map, subst, ◌∙◌, rules}
use Rattle.tlog_tiles.specs.declared.paths.Path.TheVariants.{Checkpoint}
use Rattle.mirror_model.specs.Refusals.{ReadsHead}
use Rattle.copy_reader.proofs.Given.{given_one, may_none, may_some}
use Rattle.copy_reader.proofs.OpenNotes.{given_not_refused, given_same_head, refused_head}
use Rattle.copy_reader.proofs.log.read_checkpoint.Goals as goal

pub returns-in-None-clause-honest : goal.returns-in-None-clause-honest
returns-in-None-clause-honest g c = λ digest entries note log.
    let a = g.S.Source.may_answer c.args.source.now in
    let none = log.checkpoint None (may_none a _ c.in_ok-note.field-0 c.in-None.is c.in_ok-note.ensures.answer) in
    absurd (cc none)

pub returns-in_err-head-clause-honest : goal.returns-in_err-head-clause-honest
returns-in_err-head-clause-honest g c = λ digest entries note log.
    let a = g.S.Source.may_answer c.args.source.now in
    let given = log.checkpoint (Some c.in-Some.note.items)
    (may_some a _ c.in_ok-note.field-0 c.in-Some.note c.in-Some.is c.in_ok-note.ensures.answer) in
    let is : c.in-Some.note.items ≡ note = cc given in
    let fault = given_not_refused _ note _ _ _ _ (c.deref.ensures.value ∙ is) log.is_head c.in_err-head.field-0.0
    c.in_err-head.ensures in
    search (rules, fault)

pub returns-clause-honest : goal.returns-clause-honest
returns-clause-honest g c = λ digest entries note log.
    let a = g.S.Source.may_answer c.args.source.now in
    let given = log.checkpoint (Some c.in-Some.note.items)
    (may_some a _ c.in_ok-note.field-0 c.in-Some.note c.in-Some.is c.in_ok-note.ensures.answer) in
    let is : c.in-Some.note.items ≡ note = cc given in
    let read = c.in_ok-head.ensures in
    let same = given_same_head _ note _ _ _ _ (c.deref.ensures.value ∙ is) log.is_head read.0 read.1 in (
      same.0 ∙ read.2,
      same.1 ∙ read.3,
    )

pub returns-in-None-clause-first : goal.returns-in-None-clause-first
returns-in-None-clause-first g c =
    let a = g.S.Source.may_answer c.args.source.now in
    given_one a (g.S.Source.may_answer c.get.new.self) (g.S.Source.asked c.args.source.now) (g.S.Source.asked c.get.new.self)
    Checkpoint None c.in_ok-note.ensures.later (may_none a _ c.in_ok-note.field-0 c.in-None.is c.in_ok-note.ensures.answer)
    c.in_ok-note.ensures.recorded

pub returns-in_err-head-clause-first : goal.returns-in_err-head-clause-first
returns-in_err-head-clause-first g c =
    let a = g.S.Source.may_answer c.args.source.now in
    let b = g.S.Source.may_answer c.get.new.self in
    let x = g.S.Source.asked c.args.source.now in
    let y = g.S.Source.asked c.get.new.self in
    let bytes = c.in-Some.note.items in
    let given = given_one a b x y Checkpoint (Some bytes) c.in_ok-note.ensures.later
    (may_some a _ c.in_ok-note.field-0 c.in-Some.note c.in-Some.is c.in_ok-note.ensures.answer) c.in_ok-note.ensures.recorded in
    let keys = map (λ v. (goal.Verifier-dyn g (v.vtable, v.value)).key v.value) c.args.keys.now in
    let fault = c.in_err-head.field-0.0 in
    let stop = refused_head bytes c.args.origin.now keys a b x y given fault
    (subst (λ t. ReadsHead t c.args.origin.now keys (Err fault)) c.deref.ensures.value c.in_err-head.ensures) in
    search (rules, stop)
