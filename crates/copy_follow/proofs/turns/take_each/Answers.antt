use Rattle.std.proofs.Common.{arith, map, refl, List, Option, ◌∙◌, ◌<◌, length}
use Rattle.std.proofs.lemmas.Result.{err_from_is_err_and}
use Rattle.mirror_folders.specs.Shelf.{Put}
use Rattle.log_reader.proofs.Kept.{kept_once}
use Rattle.copy_places.proofs.Requests.{any_same, any_then}
use Rattle.copy_places.specs.Candidates.{note_of}
use Rattle.copy_follow.proofs.Ending.{ends_so, fails_now, keeps_all, none_first}
use Rattle.copy_follow.specs.RunStanding.{HasStanding, HoldsNoCopy, IsCopyOfRun}
use Rattle.copy_follow.proofs.Runs.{each_none, each_then}
use Rattle.copy_follow.proofs.Taken.{taken_all, taken_begin}
use Rattle.copy_follow.proofs.Turning.{run_first, run_then}
use Rattle.copy_follow.proofs.OneHonestRun.{pass_all, reach_all, reach_begin, reach_fails, reach_turn}
use Rattle.copy_follow.proofs.Looks.{ends_turns}
use Rattle.copy_follow.proofs.TurnOrder.{element}
use Rattle.copy_follow.proofs.Telling.{told_all, told_begin}
use Rattle.copy_follow.proofs.turns.take_each.Goals as goal

pub loop-i-init : goal.loop-i-init
loop-i-init g c =
    let x = g.D.Shelf.puts c.args.shelf.now in record {
      keeps = each_none g.H.TreeHash.digest c.args.origin.now (map note_of c.args.candidates.now) x x (kept_once x);
      counted = refl;
      run = run_first g.H.TreeHash.digest c.args.origin.now x c.args.copy c.new-run.result c.new-run.ensures.copy
          c.requires.copy c.new-run.ensures.had c.new-run.ensures.forks;
      fault = λ none. c.new-run.ensures.fault;
      asks = any_same g.S.Source.may_answer g.S.Source.failed g.S.Source.asked c.args.places.now;
      source = λ e. absurd (cc (c.new-run.ensures.fault, e));
      reaching = reach_begin g.H.TreeHash.digest g.S.Source.may_answer g.S.Source.failed g.S.Source.asked c.args.origin.now x
          c.args.places.now c.args.copy c.args.candidates.now c.new-run.result.copy c.new-run.ensures.copy;
      taken = λ rises. taken_begin g.H.TreeHash.digest c.args.copy c.new-run.result c.new-run.ensures.copy
          c.new-run.ensures.forks c.new-run.ensures.not_had;
      tells = λ rises. told_begin g.H.TreeHash.digest g.S.Source.may_answer g.S.Source.failed g.S.Source.asked
          c.args.places.now c.new-run.result c.new-run.ensures.not_had;
    }

pub returns-in_err-take_turn_at-clause-keeps : goal.returns-in_err-take_turn_at-clause-keeps
returns-in_err-take_turn_at-clause-keeps g c =
    each_then g.H.TreeHash.digest c.args.origin.now (map note_of c.args.candidates.now)
    (g.D.Shelf.puts c.args.shelf.now) (g.D.Shelf.puts c.take_turn_at.new.shelf) (g.D.Shelf.puts c.loop-i.shelf)
    c.loop-i.invariant.keeps c.take_turn_at.ensures.keeps

pub loop-i-preserved : goal.loop-i-preserved
loop-i-preserved g c = record {
  keeps = each_then g.H.TreeHash.digest c.args.origin.now (map note_of c.args.candidates.now)
      (g.D.Shelf.puts c.args.shelf.now) (g.D.Shelf.puts c.take_turn_at.new.shelf) (g.D.Shelf.puts c.loop-i.shelf)
      c.loop-i.invariant.keeps c.take_turn_at.ensures.keeps;
  counted = c.in_ok-take_turn_at.ensures.counted ∙ c.loop-i.invariant.counted;
  run = run_then g.H.TreeHash.digest c.args.origin.now
      (g.D.Shelf.puts c.args.shelf.now) (g.D.Shelf.puts c.loop-i.shelf) (g.D.Shelf.puts c.take_turn_at.new.shelf)
      c.args.copy c.loop-i.run c.take_turn_at.new.run c.loop-i.invariant.run c.in_ok-take_turn_at.ensures.run;
  taken = λ rises. c.in_ok-take_turn_at.ensures.taken c.args.copy rises (c.loop-i.invariant.taken rises);
  tells = λ rises. c.in_ok-take_turn_at.ensures.tells c.args.places.now rises c.loop-i.invariant.asks
      (c.loop-i.invariant.tells rises);
  fault = c.in_ok-take_turn_at.ensures.fault c.loop-i.invariant.fault;
  asks = any_then g.S.Source.may_answer g.S.Source.failed g.S.Source.asked c.args.places.now c.loop-i.places
      c.take_turn_at.new.places c.loop-i.invariant.asks c.take_turn_at.ensures.asks;
  reaching =
      let lt : c.loop-i.i < length c.args.candidates.now = omega (arith, c.loop-i-test.true) in
      let x = element c.args.candidates.now c.loop-i.i lt in
      reach_turn g.H.TreeHash.digest g.S.Source.may_answer g.S.Source.failed g.S.Source.asked c.args.origin.now
      (g.D.Shelf.puts c.args.shelf.now) c.args.places.now c.args.copy c.args.candidates.now c.loop-i.i
      (g.D.Shelf.puts c.loop-i.shelf) c.loop-i.places c.take_turn_at.new.places c.loop-i.run.copy
      c.loop-i.invariant.reaching c.loop-i.invariant.asks c.take_turn_at.ensures.asks lt x.0 x.1
      (g.D.Shelf.puts c.take_turn_at.new.shelf) c.take_turn_at.new.run.copy c.in_ok-take_turn_at.ensures.suffices
      (c.in_ok-take_turn_at.ensures.steps x.0 x.1) c.loop-i.invariant.run.known c.take_turn_at.ensures.keeps;
  source = fails_now g.S.Source.may_answer g.S.Source.failed g.S.Source.asked c.args.places.now c.loop-i.places
      c.take_turn_at.new.places c.loop-i.run.first_fault c.take_turn_at.new.run.first_fault c.loop-i.invariant.asks
      c.take_turn_at.ensures.asks c.loop-i.invariant.source c.in_ok-take_turn_at.ensures.source;
}

pub returns-in_err-take_turn_at-clause-asks : goal.returns-in_err-take_turn_at-clause-asks
returns-in_err-take_turn_at-clause-asks g c =
    any_then g.S.Source.may_answer g.S.Source.failed g.S.Source.asked c.args.places.now c.loop-i.places
    c.take_turn_at.new.places c.loop-i.invariant.asks c.take_turn_at.ensures.asks

pub returns-clause-taken : goal.returns-clause-taken
returns-clause-taken g c =
    λ rises. taken_all g.H.TreeHash.digest c.args.copy c.args.candidates.now c.loop-i.i c.loop-i.run
    (omega (arith, c.loop-i-test.false)) (c.loop-i.invariant.taken rises)

pub returns-clause-fault : goal.returns-clause-fault
returns-clause-fault g c =
    keeps_all g.H.TreeHash.digest c.args.candidates.now c.loop-i.i c.loop-i.run (omega (arith, c.loop-i-test.false))
    c.loop-i.invariant.fault

pub returns-in_err-take_turn_at-clause-ends : goal.returns-in_err-take_turn_at-clause-ends
returns-in_err-take_turn_at-clause-ends g c =
    let digest = g.H.TreeHash.digest in
    let origin = c.args.origin.now in
    let x = g.D.Shelf.puts c.args.shelf.now in
    let y = g.D.Shelf.puts c.loop-i.shelf in
    let run = c.loop-i.run in
    let p = err_from_is_err_and c.from_residual.result c.from_residual.ensures.1 in
    let Lost = HasStanding digest origin run.copy y → ⊥ in
    let Lacked = (first : Option (List Put)) → IsCopyOfRun digest origin first x c.args.copy →
    HoldsNoCopy digest origin first in
    let so : Lost → Lacked =
    λ none first known. none_first digest origin first y run.copy none (c.loop-i.invariant.run.known first known) in
    rw (p.1, p.2) (ends_so Lost Lost Lacked Lacked c.in_err-take_turn_at.field-0.0 so so
    c.in_err-take_turn_at.ensures.ends)

pub returns-in_err-take_turn_at-clause-suffices : goal.returns-in_err-take_turn_at-clause-suffices
returns-in_err-take_turn_at-clause-suffices g c = λ rises h.
    let p = err_from_is_err_and c.from_residual.result c.from_residual.ensures.1 in
    rw (p.1, p.2) (reach_fails g.H.TreeHash.digest g.S.Source.may_answer g.S.Source.failed g.S.Source.asked c.args.origin.now
    (g.D.Shelf.puts c.args.shelf.now) c.args.places.now c.args.copy c.args.candidates.now c.loop-i.i
    (g.D.Shelf.puts c.loop-i.shelf) c.loop-i.places c.take_turn_at.new.places c.loop-i.run.copy
    c.loop-i.invariant.reaching c.loop-i.invariant.asks c.take_turn_at.ensures.asks c.in_err-take_turn_at.field-0.0
    c.in_err-take_turn_at.ensures.suffices c.in_err-take_turn_at.ensures.ends c.loop-i.invariant.run.known rises h)

pub returns-clause-suffices : goal.returns-clause-suffices
returns-clause-suffices g c = λ rises h.
    reach_all g.H.TreeHash.digest g.S.Source.may_answer g.S.Source.failed g.S.Source.asked c.args.origin.now
    (g.D.Shelf.puts c.args.shelf.now) c.args.places.now c.args.copy c.args.candidates.now c.loop-i.i
    (g.D.Shelf.puts c.loop-i.shelf) c.loop-i.places c.loop-i.run.copy (omega (arith, c.loop-i-test.false))
    c.loop-i.invariant.reaching rises h

pub returns-clause-passes : goal.returns-clause-passes
returns-clause-passes g c = λ rises h.
    pass_all g.H.TreeHash.digest g.S.Source.may_answer g.S.Source.failed g.S.Source.asked c.args.origin.now
    (g.D.Shelf.puts c.args.shelf.now) c.args.places.now c.args.copy c.args.candidates.now c.loop-i.i
    (g.D.Shelf.puts c.loop-i.shelf) c.loop-i.places c.loop-i.run.copy (omega (arith, c.loop-i-test.false))
    c.loop-i.invariant.reaching rises h

pub returns-clause-tells : goal.returns-clause-tells
returns-clause-tells g c = λ rises.
    told_all g.H.TreeHash.digest g.S.Source.may_answer g.S.Source.failed g.S.Source.asked c.args.places.now c.loop-i.places
    c.args.candidates.now c.loop-i.i c.loop-i.run (omega (arith, c.loop-i-test.false)) (c.loop-i.invariant.tells rises)

pub returns-in_err-take_turn_at-clause-looks : goal.returns-in_err-take_turn_at-clause-looks
returns-in_err-take_turn_at-clause-looks g c =
    let p = err_from_is_err_and c.from_residual.result c.from_residual.ensures.1 in
    let look = c.in_err-take_turn_at.ensures.looks in
    rw (p.1, p.2) (λ rises. (
      look.0,
      ends_turns g.H.TreeHash.digest c.args.copy c.args.candidates.now c.loop-i.i c.loop-i.run
          (g.D.Shelf.puts look.0) c.in_err-take_turn_at.field-0.0 (c.loop-i.invariant.taken rises) look.1,
    ))
