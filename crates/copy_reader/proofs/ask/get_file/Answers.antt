use Rattle.std.proofs.Common.{None, Some, refl, sym, subst, arith}
use Rattle.copy_reader.proofs.Given.{given_one, may_none, may_some}
use Rattle.copy_reader.proofs.ask.get_file.Goals as goal

pub returns-in-None-clause-absent : goal.returns-in-None-clause-absent
returns-in-None-clause-absent g c =
    let a = g.S.Source.may_answer c.args.source.now in
    let none = may_none a c.args.path c.in_ok-bytes.field-0 c.in-None.is c.in_ok-bytes.ensures.answer in
    record { none = none; full = subst (λ k. a k None) (sym c.requires) none }

pub returns-in-Some-clause-honest : goal.returns-in-Some-clause-honest
returns-in-Some-clause-honest g c = λ digest entries s file wide.
    s.files c.args.path file (Some c.in-Some.bytes.items)
    (may_some (g.S.Source.may_answer c.args.source.now) c.args.path c.in_ok-bytes.field-0 c.in-Some.bytes c.in-Some.is
    c.in_ok-bytes.ensures.answer)

pub returns-in-None-clause-honest : goal.returns-in-None-clause-honest
returns-in-None-clause-honest g c = λ digest entries s file wide.
    let way = s.files c.args.path file None
    (may_none (g.S.Source.may_answer c.args.source.now) c.args.path c.in_ok-bytes.field-0 c.in-None.is
    c.in_ok-bytes.ensures.answer) in
    absurd (omega (arith, way.partial, wide))

pub returns-in-None-clause-missing : goal.returns-in-None-clause-missing
returns-in-None-clause-missing g c =
    let a = g.S.Source.may_answer c.args.source.now in
    let b = g.S.Source.may_answer c.get.new.self in
    let x = g.S.Source.asked c.args.source.now in
    let y = g.S.Source.asked c.get.new.self in (
      refl,
      given_one a b x y c.args.path None c.in_ok-bytes.ensures.later
          (may_none a c.args.path c.in_ok-bytes.field-0 c.in-None.is c.in_ok-bytes.ensures.answer)
          c.in_ok-bytes.ensures.recorded,
    )
