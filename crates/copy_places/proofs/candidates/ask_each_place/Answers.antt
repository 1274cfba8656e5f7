use Rattle.std.proofs.Common.{◌≡◌, ◌+◌, ◌<◌, length, ap, arith}
use Rattle.tlog_tiles.specs.declared.paths.Path.TheVariants.{Checkpoint}
use Rattle.copy_places.proofs.AskingOnce.{index_all, index_then, once_same}
use Rattle.copy_places.proofs.Requests.{answer_fails, any_of, any_same, any_then, note_given}
use Rattle.copy_places.proofs.GatheredFrom.{gathered_all, gathered_first, gathered_then}
use Rattle.copy_places.proofs.Gathering.{gathers_new}
use Rattle.copy_places.proofs.candidates.ask_each_place.Goals as goal

pub loop-i-init : goal.loop-i-init
loop-i-init g c = record {
  asks = any_same g.S.Source.may_answer g.S.Source.failed g.S.Source.asked c.args.places.now;
  once = once_same g.S.Source.asked (λ k path. (k < 0) × (path ≡ Checkpoint)) c.args.places.now;
  gathers = gathered_first _ _ g.S.Source.may_answer g.S.Source.failed g.S.Source.asked c.args.places.now c.new-gathered.result
      (gathers_new _ _ c.new-gathered.result.candidates.items c.new-gathered.result.first c.new-gathered.ensures.candidates
      c.new-gathered.ensures.first);
}

pub loop-i-preserved : goal.loop-i-preserved
loop-i-preserved g c =
    let may = g.S.Source.may_answer in
    let failed = g.S.Source.failed in
    let asked = g.S.Source.asked in
    let h = c.loop-i.invariant in
    let here = c.loop-i.places in
    let next = c.get.new.self in
    let answer = c.in_ok-answer.answer in
    let within : c.loop-i.i < length here.list.items = omega (
      arith,
      c.loop-i-test.true,
      c.loop-i.auto.i-end,
      ap length c.list-i-end.ensures,
      h.asks.count,
    ) in
    let asks = any_of may failed asked (λ p. p ≡ Checkpoint) here next c.get.ensures.asks in
    record {
      asks = any_then may failed asked c.args.places.now here next h.asks asks;
      once = index_then asked (λ path. path ≡ Checkpoint) c.loop-i.i c.args.places.now here next h.once c.get.ensures.once;
      gathers = gathered_then _ _ may failed asked c.args.places.now here next c.loop-i.i c.loop-i.gathered c.take.new.self
          answer h.asks asks h.gathers c.in_ok-answer.ensures.answer
          (λ note. note_given may failed asked here next c.loop-i.i answer note within c.in_ok-answer.ensures.answer)
          (answer_fails may failed asked here next c.loop-i.i answer within c.in_ok-answer.ensures.answer)
          c.in_ok-take.ensures;
    }

pub returns-in_err-answer-clause-asks : goal.returns-in_err-answer-clause-asks
returns-in_err-answer-clause-asks g c =
    any_then g.S.Source.may_answer g.S.Source.failed g.S.Source.asked c.args.places.now c.loop-i.places c.get.new.self
    c.loop-i.invariant.asks
    (any_of g.S.Source.may_answer g.S.Source.failed g.S.Source.asked (λ p. p ≡ Checkpoint) c.loop-i.places c.get.new.self
    c.get.ensures.asks)

pub returns-in_err-take-clause-asks : goal.returns-in_err-take-clause-asks
returns-in_err-take-clause-asks g c =
    any_then g.S.Source.may_answer g.S.Source.failed g.S.Source.asked c.args.places.now c.loop-i.places c.get.new.self
    c.loop-i.invariant.asks
    (any_of g.S.Source.may_answer g.S.Source.failed g.S.Source.asked (λ p. p ≡ Checkpoint) c.loop-i.places c.get.new.self
    c.get.ensures.asks)

pub returns-clause-gathers : goal.returns-clause-gathers
returns-clause-gathers g c =
    let n = length c.args.places.now.list.items in
    let e : c.loop-i.i ≡ n = omega (
      arith,
      c.loop-i-test.false,
      c.loop-i.auto.i-end,
      ap length c.list-i-end.ensures,
    ) in
    gathered_all _ _ g.S.Source.may_answer g.S.Source.failed g.S.Source.asked c.args.places.now c.loop-i.places c.loop-i.i n
    c.loop-i.gathered e c.loop-i.invariant.gathers

pub returns-in_err-answer-clause-once : goal.returns-in_err-answer-clause-once
returns-in_err-answer-clause-once g c =
    index_all g.S.Source.asked (λ path. path ≡ Checkpoint) (c.loop-i.i + 1) c.args.places.now c.get.new.self
    (index_then g.S.Source.asked (λ path. path ≡ Checkpoint) c.loop-i.i c.args.places.now c.loop-i.places c.get.new.self
    c.loop-i.invariant.once c.get.ensures.once)

pub returns-in_err-take-clause-once : goal.returns-in_err-take-clause-once
returns-in_err-take-clause-once g c =
    index_all g.S.Source.asked (λ path. path ≡ Checkpoint) (c.loop-i.i + 1) c.args.places.now c.get.new.self
    (index_then g.S.Source.asked (λ path. path ≡ Checkpoint) c.loop-i.i c.args.places.now c.loop-i.places c.get.new.self
    c.loop-i.invariant.once c.get.ensures.once)

pub returns-clause-once : goal.returns-clause-once
returns-clause-once g c =
    index_all g.S.Source.asked (λ path. path ≡ Checkpoint) c.loop-i.i c.args.places.now c.loop-i.places c.loop-i.invariant.once
