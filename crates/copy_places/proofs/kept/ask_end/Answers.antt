use Rattle.std.proofs.Common.{◌≡◌}
use Rattle.copy_places.proofs.AskingEnds.{ends_of}
use Rattle.copy_places.proofs.kept.ask_end.Goals as goal

pub returns-clause-goes : goal.returns-clause-goes
returns-clause-goes g c =
    ends_of g.S.Source.may_answer g.S.Source.failed g.S.Source.asked (λ p. p ≡ c.args.path.now) c.args.places.now c.end_tile.new.self
    c.end_tile.ensures.asks c.end_tile.ensures.more c.end_tile.ensures.stay
