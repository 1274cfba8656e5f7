use Rattle.std.proofs.Common.{ℕ, List, length, arith}
use Rattle.log_reader.specs.Verified.{Verifies}
use Rattle.copy_places.proofs.AskingEnds.{ends_same, ends_then, vain_all, vain_turn}
use Rattle.copy_places.proofs.kept.kept_file.Goals as goal

pub loop-turn-init : goal.loop-turn-init
loop-turn-init g c =
    record {
      goes = ends_same g.S.Source.may_answer g.S.Source.failed g.S.Source.asked c.args.places.now;
      none = λ turn k lt. absurd (omega (arith, lt));
    }

pub returns-in_err-found-clause-goes : goal.returns-in_err-found-clause-goes
returns-in_err-found-clause-goes g c =
    ends_then g.S.Source.may_answer g.S.Source.failed g.S.Source.asked c.args.places.now c.loop-turn.places c.kept_file_at_place.new.places c.loop-turn.invariant.goes c.kept_file_at_place.ensures.goes

pub returns-in-Some-clause-goes : goal.returns-in-Some-clause-goes
returns-in-Some-clause-goes g c =
    ends_then g.S.Source.may_answer g.S.Source.failed g.S.Source.asked c.args.places.now c.loop-turn.places c.kept_file_at_place.new.places c.loop-turn.invariant.goes c.kept_file_at_place.ensures.goes

pub loop-turn-preserved : goal.loop-turn-preserved
loop-turn-preserved g c =
    record {
      goes = ends_then g.S.Source.may_answer g.S.Source.failed g.S.Source.asked c.args.places.now c.loop-turn.places c.kept_file_at_place.new.places c.loop-turn.invariant.goes c.kept_file_at_place.ensures.goes;
      none = vain_turn c.loop-turn.places.ends.tiles.items c.kept_file_at_place.new.places.ends.tiles.items c.kept_file_at_place.ensures.goes.stay c.first-first.result
          c.loop-turn.turn c.in_turn-index.result c.in_turn-index.ensures.turn c.args.path.now
          (λ bytes. (row : List (List ℕ)) × Verifies g.H.TreeHash.digest c.args.kind c.args.hash.now bytes row)
          c.loop-turn.invariant.none (rw c.in-None.is at c.in_ok-found.ensures.none);
    }

pub returns-clause-none : goal.returns-clause-none
returns-clause-none g c =
    let long = c.len-turn-end.ensures in
    let past = c.loop-turn-test.false in
    vain_all c.loop-turn.places.ends.tiles.items (length c.args.places.now.list.items) c.first-first.result c.loop-turn.turn
    c.args.path.now (λ bytes. (row : List (List ℕ)) × Verifies g.H.TreeHash.digest c.args.kind c.args.hash.now bytes row)
    c.first-first.ensures (omega (arith, long, past)) c.loop-turn.invariant.none
