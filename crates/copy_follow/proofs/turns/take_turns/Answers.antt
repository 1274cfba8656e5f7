use Rattle.std.proofs.Common.{[]}
use Rattle.std.specs.List.Sorted.{IsSorted}
use Rattle.copy_places.specs.Candidates.{turn_cmp}
use Rattle.copy_places.proofs.Requests.{any_then}
use Rattle.copy_follow.proofs.Looked.{counts_later, ends_later}
use Rattle.copy_follow.proofs.Looking.{first_on, passes_on, run_on, source_on, taken_on}
use Rattle.copy_follow.proofs.Looks.{turns_later}
use Rattle.copy_follow.proofs.OneHonestRun.{put_later}
use Rattle.copy_follow.proofs.Runs.{each_none, each_then}
use Rattle.copy_follow.proofs.Telling.{told_on}
use Rattle.copy_follow.proofs.turns.take_turns.Goals as goal

pub returns-in-Ok-clause-keeps : goal.returns-in-Ok-clause-keeps
returns-in-Ok-clause-keeps g c =
    let x = g.D.Shelf.puts c.args.shelf.now in
    let y = g.D.Shelf.puts c.take_each.new.shelf in
    let z = g.D.Shelf.puts c.look_again.new.shelf in
    each_then g.H.TreeHash.digest c.args.origin.now _ x z y c.take_each.ensures.keeps
    (each_none g.H.TreeHash.digest c.args.origin.now _ y z c.look_again.ensures.same)

pub returns-in-Ok-clause-counted : goal.returns-in-Ok-clause-counted
returns-in-Ok-clause-counted g c =
    counts_later (g.D.Shelf.failed c.args.shelf.now) (g.D.Shelf.failed c.take_each.new.shelf)
    (g.D.Shelf.failed c.look_again.new.shelf) c.look_again.result c.in-Ok.ensures.counted c.look_again.ensures.counted

pub returns-in-Ok-clause-ends : goal.returns-in-Ok-clause-ends
returns-in-Ok-clause-ends g c = ends_later _ c.look_again.result c.look_again.ensures.ends

pub returns-in-Ok-clause-asks : goal.returns-in-Ok-clause-asks
returns-in-Ok-clause-asks g c =
    any_then g.S.Source.may_answer g.S.Source.failed g.S.Source.asked c.args.places.now c.take_each.new.places
    c.look_again.new.places c.take_each.ensures.asks c.look_again.ensures.asks

pub returns-in-Ok-clause-run : goal.returns-in-Ok-clause-run
returns-in-Ok-clause-run g c =
    run_on g.S.Source.may_answer g.S.Source.failed g.S.Source.asked g.H.TreeHash.digest c.in-Ok.run' c.look_again.result
    c.look_again.ensures.run c.look_again.ensures.ends c.args.origin.now (g.D.Shelf.puts c.args.shelf.now)
    (g.D.Shelf.puts c.take_each.new.shelf) (g.D.Shelf.puts c.look_again.new.shelf) c.args.copy c.look_again.ensures.same
    c.in-Ok.ensures.run

pub returns-in-Ok-clause-source : goal.returns-in-Ok-clause-source
returns-in-Ok-clause-source g c =
    source_on g.S.Source.may_answer g.S.Source.failed g.S.Source.asked g.H.TreeHash.digest c.in-Ok.run' c.look_again.result
    c.look_again.ensures.run c.look_again.ensures.ends c.args.places.now c.take_each.new.places c.look_again.new.places
    c.look_again.ensures.asks c.in-Ok.ensures.source

pub returns-in-Ok-clause-taken : goal.returns-in-Ok-clause-taken
returns-in-Ok-clause-taken g c =
    taken_on g.S.Source.may_answer g.S.Source.failed g.S.Source.asked g.H.TreeHash.digest c.in-Ok.run' c.look_again.result
    c.look_again.ensures.run c.look_again.ensures.ends (IsSorted turn_cmp c.args.candidates.now) c.args.copy
    c.args.candidates.now c.in-Ok.ensures.taken

pub returns-in-Ok-clause-suffices : goal.returns-in-Ok-clause-suffices
returns-in-Ok-clause-suffices g c = λ rises h.
    first_on g.S.Source.may_answer g.S.Source.failed g.S.Source.asked g.H.TreeHash.digest c.in-Ok.run' c.look_again.result
    c.look_again.ensures.run c.look_again.ensures.ends (g.D.Shelf.puts c.args.shelf.now) c.args.places.now
    c.take_each.new.places c.look_again.new.places c.args.origin.now c.args.copy c.args.candidates.now
    c.take_each.ensures.asks c.look_again.ensures.asks (c.in-Ok.ensures.suffices rises) h

pub returns-in-Ok-clause-passes : goal.returns-in-Ok-clause-passes
returns-in-Ok-clause-passes g c =
    let digest = g.H.TreeHash.digest in
    let x = g.D.Shelf.puts c.args.shelf.now in
    let y = g.D.Shelf.puts c.take_each.new.shelf in
    let z = g.D.Shelf.puts c.look_again.new.shelf in
    passes_on g.S.Source.may_answer g.S.Source.failed g.S.Source.asked digest c.in-Ok.run' c.look_again.result
    c.look_again.ensures.run c.look_again.ensures.ends (IsSorted turn_cmp c.args.candidates.now) y z x c.args.places.now
    c.take_each.new.places c.look_again.new.places c.args.origin.now c.args.copy c.args.candidates.now c.take_each.ensures.asks
    c.look_again.ensures.asks
    (λ h. put_later digest c.args.origin.now h.entries [] c.in-Ok.run'.copy x y z h.holds (c.in-Ok.ensures.run.known x h.known)
    (each_none digest c.args.origin.now [] y z c.look_again.ensures.same))
    c.in-Ok.ensures.passes

pub returns-in-Ok-clause-tells : goal.returns-in-Ok-clause-tells
returns-in-Ok-clause-tells g c =
    told_on g.H.TreeHash.digest g.S.Source.may_answer g.S.Source.failed g.S.Source.asked c.args.places.now
    c.take_each.new.places c.look_again.new.places c.look_again.result (IsSorted turn_cmp c.args.candidates.now)
    c.args.candidates.now c.in-Ok.run' c.take_each.ensures.asks c.in-Ok.ensures.tells c.look_again.ensures.tells

pub returns-in-Ok-clause-looks : goal.returns-in-Ok-clause-looks
returns-in-Ok-clause-looks g c =
    turns_later c.args.copy c.args.candidates.now _ g.D.Shelf.puts c.args.shelf.now c.look_again.result c.look_again.ensures.ends
