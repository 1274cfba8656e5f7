use Rattle.std.proofs.Common.{◌≡◌, refl}
use Rattle.tlog_tiles.specs.declared.paths.Path.TheVariants.{Checkpoint}
use Rattle.copy_places.proofs.AskingOnce.{once_begun}
use Rattle.copy_places.proofs.Requests.{any_same}
use Rattle.copy_places.proofs.candidates.candidates_of.Goals as goal

pub returns-in-Some-clause-asks : goal.returns-in-Some-clause-asks
returns-in-Some-clause-asks g c = any_same g.S.Source.may_answer g.S.Source.failed g.S.Source.asked c.args.places.now

pub returns-in-Some-clause-once : goal.returns-in-Some-clause-once
returns-in-Some-clause-once g c =
    once_begun g.S.Source.asked (λ k path. path ≡ Checkpoint) c.args.places.now c.args.places.now refl
