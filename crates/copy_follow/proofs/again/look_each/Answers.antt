use Rattle.std.proofs.Common.{Some, arith, refl, sym, ◌∙◌}
use Rattle.log_reader.proofs.Kept.{kept_once, kept_twice}
use Rattle.copy_places.proofs.Requests.{any_same, any_then}
use Rattle.copy_follow.proofs.Looking.{adds_none, adds_then}
use Rattle.copy_follow.proofs.Telling.{told_step}
use Rattle.copy_follow.proofs.again.look_each.Goals as goal

pub loop-i-init : goal.loop-i-init
loop-i-init g c = record {
  same = kept_once (g.D.Shelf.puts c.args.shelf.now);
  failed = refl;
  asks = any_same g.S.Source.may_answer g.S.Source.failed g.S.Source.asked c.args.places.now;
  adds = adds_none g.H.TreeHash.digest (Some c.args.copy.now) c.args.lacked.now c.args.forks.now.items;
  tells = λ k d lt less. absurd (omega (arith, lt));
}

pub returns-in-Err-clause-asks : goal.returns-in-Err-clause-asks
returns-in-Err-clause-asks g c =
    any_then g.S.Source.may_answer g.S.Source.failed g.S.Source.asked c.args.places.now c.loop-i.places c.look_at.new.places
    c.loop-i.invariant.asks c.look_at.ensures.asks

pub returns-in-Err-clause-same : goal.returns-in-Err-clause-same
returns-in-Err-clause-same g c =
    kept_twice (g.D.Shelf.puts c.args.shelf.now) (g.D.Shelf.puts c.loop-i.shelf) (g.D.Shelf.puts c.look_at.new.shelf)
    c.loop-i.invariant.same c.look_at.ensures.same

pub loop-i-preserved : goal.loop-i-preserved
loop-i-preserved g c = record {
  same = kept_twice (g.D.Shelf.puts c.args.shelf.now) (g.D.Shelf.puts c.loop-i.shelf) (g.D.Shelf.puts c.look_at.new.shelf)
      c.loop-i.invariant.same c.look_at.ensures.same;
  failed = c.in-Ok.ensures.counted ∙ c.loop-i.invariant.failed;
  asks = any_then g.S.Source.may_answer g.S.Source.failed g.S.Source.asked c.args.places.now c.loop-i.places
      c.look_at.new.places c.loop-i.invariant.asks c.look_at.ensures.asks;
  adds = adds_then g.H.TreeHash.digest c.args.copy.now c.args.lacked.now c.index-lacked-i.result c.args.forks.now.items
      c.loop-i.forks.items c.look_at.new.forks.items (c.loop-i.i, omega (arith, c.loop-i-test.true), sym c.index-lacked-i.is)
      c.loop-i.invariant.adds c.in-Ok.ensures.adds;
  tells = told_step g.H.TreeHash.digest g.S.Source.may_answer g.S.Source.failed g.S.Source.asked c.args.places.now
      c.loop-i.places c.look_at.new.places (Some c.args.copy.now) c.loop-i.forks.items c.look_at.new.forks.items c.args.lacked.now
      c.loop-i.i c.index-lacked-i.result c.loop-i.invariant.asks c.look_at.ensures.asks c.in-Ok.ensures.adds.kept
      (omega (arith, c.loop-i-test.true)) c.index-lacked-i.is c.loop-i.invariant.tells c.in-Ok.ensures.tells;
}

pub returns-then-i-again-clause-tells : goal.returns-then-i-again-clause-tells
returns-then-i-again-clause-tells g c = λ k d lt less.
    c.loop-i.invariant.tells k d (omega (arith, lt, c.if-i-again.true)) less

pub returns-clause-tells : goal.returns-clause-tells
returns-clause-tells g c = λ k d lt less.
    c.loop-i.invariant.tells k d (omega (arith, less, c.loop-i-test.false)) less
