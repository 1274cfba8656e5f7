use Rattle.std.proofs.Common.{◌<◌, arith, length, refl}
use Rattle.copy_places.proofs.Asking.{asks_well}
use Rattle.copy_places.proofs.places.Places.expect.Goals as goal

pub returns : goal.returns
returns g c =
    let within : c.first-index.result < length c.args.self.now.list.items =
    let long = c.len.ensures in let less = c.if-index-len.false in omega (arith, long, less) in
    asks_well g.S.Source.may_answer g.S.Source.failed g.S.Source.asked (λ p. ⊥) c.args.self.now _ c.first-index.result
    c.index_mut.result.now c.expect.new.self within refl refl refl c.index_mut.ensures.value c.expect.ensures.asks
    c.expect.ensures.failures
