use Rattle.std.proofs.Common.{Some}
use Rattle.copy_follow.proofs.Runs.{each_none}
use Rattle.copy_follow.specs.RunStanding.{HasStanding, LacksLog}
use Rattle.copy_follow.proofs.CopyReads.{none_lacks}
use Rattle.copy_follow.proofs.Ending.{ends_if}
use Rattle.copy_follow.proofs.Standing.{after_same}
use Rattle.copy_follow.proofs.compare.compare.Goals as goal

pub returns-clause-keeps : goal.returns-clause-keeps
returns-clause-keeps g c = λ notes listed.
    each_none g.H.TreeHash.digest c.args.origin.now notes (g.D.Shelf.puts c.args.shelf.now)
    (g.D.Shelf.puts c.take_smaller.new.shelf) c.take_smaller.ensures.same

pub returns-clause-after : goal.returns-clause-after
returns-clause-after g c =
    after_same g.H.TreeHash.digest c.args.origin.now c.args.candidate.now (g.D.Shelf.puts c.args.shelf.now)
    (g.D.Shelf.puts c.take_smaller.new.shelf) c.take_smaller.result c.take_smaller.ensures.same c.take_smaller.ensures.after

pub returns-clause-ends : goal.returns-clause-ends
returns-clause-ends g c =
    let digest = g.H.TreeHash.digest in
    let origin = c.args.origin.now in
    let copy = c.args.copy.now in
    let x = g.D.Shelf.puts c.args.shelf.now in
    let Lost = HasStanding digest origin (Some copy) x → ⊥ in
    ends_if c.take_smaller.result (LacksLog digest copy x) ⊥ Lost Lost (none_lacks digest origin copy x) (λ no. absurd no)
    c.take_smaller.ensures.ends
