use Rattle.std.proofs.Common.{refl, subst}
use Rattle.copy_follow.specs.Looking.{AddsForks}
use Rattle.copy_follow.proofs.Looking.{looks_on}
use Rattle.copy_follow.specs.Told.{AreToldFirst}
use Rattle.copy_follow.proofs.Telling.{told_again}
use Rattle.copy_follow.proofs.again.look_again.Goals as goal

pub returns-clause-run : goal.returns-clause-run
returns-clause-run g c =
    let run = c.args.run in
    looks_on g.H.TreeHash.digest run
    (record {
      copy = run.copy;
      had = run.had;
      forks = c.look_all.new.forks;
      not_had = run.not_had;
      again = run.again;
      first_fault = run.first_fault;
    })
    refl refl refl refl
    (subst (λ l. AddsForks g.H.TreeHash.digest run.copy l run.forks.items c.look_all.new.forks.items) c.deref.ensures.value
    c.in-Ok.ensures.adds)

pub returns-clause-tells : goal.returns-clause-tells
returns-clause-tells g c = λ start done asks told.
    let run = c.args.run in
    let lines = c.look_all.new.forks.items in
    told_again g.H.TreeHash.digest g.S.Source.may_answer g.S.Source.failed g.S.Source.asked start c.args.places.now
    c.look_all.new.places asks c.look_all.ensures.asks run.copy run.forks.items lines run.not_had.items run.again
    c.in-Ok.ensures.adds.kept
    (subst (λ l. AreToldFirst g.H.TreeHash.digest g.S.Source.may_answer g.S.Source.failed g.S.Source.asked c.args.places.now
    c.look_all.new.places run.copy lines l run.again) c.deref.ensures.value c.in-Ok.ensures.tells)
    done told
