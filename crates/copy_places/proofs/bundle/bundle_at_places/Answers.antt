use Rattle.std.proofs.Common.{◌≡◌, ◌<◌, inl, inr, subst, sym, arith, length}
use Rattle.std.proofs.lemmas.Bool.{cases_lt}
use Rattle.copy_places.specs.Asked.{IsAskedInTurn, IsPathOrFull}
use Rattle.copy_places.specs.TruePlaces.{IsTruePlace}
use Rattle.copy_places.specs.Giving.{MayGive}
use Rattle.copy_places.proofs.Asking.{asks_noted, asks_same, asks_then, blamed_all, blamed_turn, turn_of, turn_one}
use Rattle.copy_places.proofs.Giving.{given_before}
use Rattle.copy_places.proofs.InVain.{parts_all, parts_turn}
use Rattle.log_reader.specs.Verified.{HasLeaves}
use Rattle.copy_places.proofs.TruePlaces.{true_between, true_noted}
use Rattle.copy_places.proofs.Giving.{part_weaker}
use Rattle.copy_places.proofs.AskingOnce.{once_noted, once_last, once_turn, once_turns}
use Rattle.copy_places.proofs.bundle.bundle_at_places.Goals as goal

pub returns-in_err-found-clause-asks : goal.returns-in_err-found-clause-asks
returns-in_err-found-clause-asks g c =
    asks_then g.S.Source.may_answer g.S.Source.failed g.S.Source.asked (IsPathOrFull c.args.path.now) c.args.places.now c.loop-turn.places
    c.bundle_at_place.new.places c.loop-turn.invariant.asks c.bundle_at_place.ensures.asks

pub returns-in-Some-clause-asks : goal.returns-in-Some-clause-asks
returns-in-Some-clause-asks g c =
    asks_then g.S.Source.may_answer g.S.Source.failed g.S.Source.asked (IsPathOrFull c.args.path.now) c.args.places.now c.loop-turn.places
    c.bundle_at_place.new.places c.loop-turn.invariant.asks c.bundle_at_place.ensures.asks

pub returns-in-Some-clause-taken : goal.returns-in-Some-clause-taken
returns-in-Some-clause-taken g c =
    let may = g.S.Source.may_answer in
    let x = c.args.places.now in
    let y = c.loop-turn.places in
    part_weaker (MayGive may y) (MayGive may x)
    (λ path bytes given. given_before may g.S.Source.failed g.S.Source.asked (IsPathOrFull c.args.path.now) x y path bytes
    c.loop-turn.invariant.asks given) c.args.path.now c.in-Some.found.items (rw c.in-Some.is at c.in_ok-found.ensures.taken)

pub loop-turn-preserved : goal.loop-turn-preserved
loop-turn-preserved g c =
    let may = g.S.Source.may_answer in
    let failed = g.S.Source.failed in
    let asked = g.S.Source.asked in
    let digest = g.H.TreeHash.digest in
    let so = IsPathOrFull c.args.path.now in
    let x = c.args.places.now in
    let y = c.loop-turn.places in
    let z = c.bundle_at_place.new.places in
    let before = c.loop-turn.invariant.asks in
    let now = c.bundle_at_place.ensures.asks in
    record {
      asks = asks_then may failed asked so x y z before now;
      once = λ differ. once_turn g.S.Source.asked (IsPathOrFull c.args.path.now) c.first-first.result c.loop-turn.turn c.in_turn-index.result c.in_turn-index.ensures.turn
          c.args.places.now c.loop-turn.places c.bundle_at_place.new.places (c.loop-turn.invariant.once differ) (c.bundle_at_place.ensures.once differ);
      honest = λ turn k lt is entries short leaves t. elim (cases_lt turn c.loop-turn.turn) [
        | inl less ↦ c.loop-turn.invariant.honest turn k less is entries short leaves
            (true_between may failed asked digest entries so so so x x y z (asks_same may failed asked so x) before now k t)
        | inr more ↦
            let this : turn ≡ c.loop-turn.turn = omega arith in
            let at : c.in_turn-index.result ≡ k = turn_one c.first-first.result c.loop-turn.turn c.in_turn-index.result k
            c.in_turn-index.ensures.turn (subst (λ t. IsAskedInTurn c.first-first.result t k) this is) in
            let none = rw c.in-None.is at c.in_ok-found.ensures.honest in
            none entries short leaves (subst (λ j. IsTruePlace digest entries may y z j) (sym at)
            (true_between may failed asked digest entries so so so x y z z before now (asks_same may failed asked so z) k t))
      ];
      none = parts_turn may failed asked c.args.path.now
          (λ bytes. HasLeaves digest (length c.args.row.now) bytes c.args.row.now) so so x y z before now c.first-first.result
          c.loop-turn.turn c.in_turn-index.result c.in_turn-index.ensures.turn c.loop-turn.invariant.none
          (rw c.in-None.is at c.in_ok-found.ensures.none);
      blamed = blamed_turn g.S.Source.may_answer g.S.Source.failed g.S.Source.asked (IsPathOrFull c.args.path.now) (IsPathOrFull c.args.path.now)
          c.args.places.now c.loop-turn.places c.bundle_at_place.new.places c.loop-turn.invariant.asks c.bundle_at_place.ensures.asks
          c.first-first.result c.loop-turn.turn c.in_turn-index.result c.in_turn-index.ensures.turn c.loop-turn.invariant.blamed
          (rw c.in-None.is at c.in_ok-found.ensures.blamed);
    }

pub returns-clause-honest : goal.returns-clause-honest
returns-clause-honest g c = λ entries short leaves t.
    let n = length c.args.places.now.list.items in
    let long = c.len-turn-end.ensures in
    let past = c.loop-turn-test.false in
    let lt : t.index < n = t.place.listed in
    let within : c.first-first.result < n = c.first-first.ensures (omega arith) in
    let turn = turn_of c.first-first.result t.index n lt within in
    let before = turn.1 in
    c.loop-turn.invariant.honest turn.0 t.index (omega arith) turn.2 entries short leaves
    (true_noted g.H.TreeHash.digest entries g.S.Source.may_answer c.args.places.now c.loop-turn.places c.note_lacked.new.self
    c.note_lacked.ensures.list t.index t.place)

pub returns-in_err-found-clause-once : goal.returns-in_err-found-clause-once
returns-in_err-found-clause-once g c =
    λ differ. once_last g.S.Source.asked (IsPathOrFull c.args.path.now) c.first-first.result c.loop-turn.turn c.in_turn-index.result c.in_turn-index.ensures.turn
    c.args.places.now c.loop-turn.places c.bundle_at_place.new.places (c.loop-turn.invariant.once differ) (c.bundle_at_place.ensures.once differ)

pub returns-in-Some-clause-once : goal.returns-in-Some-clause-once
returns-in-Some-clause-once g c =
    λ differ. once_last g.S.Source.asked (IsPathOrFull c.args.path.now) c.first-first.result c.loop-turn.turn c.in_turn-index.result c.in_turn-index.ensures.turn
    c.args.places.now c.loop-turn.places c.bundle_at_place.new.places (c.loop-turn.invariant.once differ) (c.bundle_at_place.ensures.once differ)

pub returns-clause-asks : goal.returns-clause-asks
returns-clause-asks g c =
    asks_noted g.S.Source.may_answer g.S.Source.failed g.S.Source.asked (IsPathOrFull c.args.path.now) c.args.places.now
    c.loop-turn.places c.note_lacked.new.self c.loop-turn.invariant.asks c.note_lacked.ensures.asks

pub returns-clause-once : goal.returns-clause-once
returns-clause-once g c = λ differ.
    once_noted g.S.Source.asked g.S.Source.may_answer g.S.Source.failed (λ k. IsPathOrFull c.args.path.now) c.args.places.now
    c.loop-turn.places c.note_lacked.new.self
    (once_turns g.S.Source.asked (IsPathOrFull c.args.path.now) c.first-first.result c.loop-turn.turn c.args.places.now
    c.loop-turn.places (c.loop-turn.invariant.once differ)) c.note_lacked.ensures.asks

pub returns-clause-blamed : goal.returns-clause-blamed
returns-clause-blamed g c =
    let long = c.len-turn-end.ensures in
    let past = c.loop-turn-test.false in
    blamed_all g.S.Source.may_answer g.S.Source.failed g.S.Source.asked (λ p. ⊥) c.args.places.now c.loop-turn.places
    c.note_lacked.new.self c.note_lacked.ensures.asks c.first-first.result c.loop-turn.turn c.first-first.ensures
    (omega (arith, long, past)) c.loop-turn.invariant.blamed

pub returns-clause-none : goal.returns-clause-none
returns-clause-none g c =
    let row = c.args.row.now in
    let long = c.len-turn-end.ensures in
    let past = c.loop-turn-test.false in
    parts_all g.S.Source.may_answer g.S.Source.failed g.S.Source.asked c.args.path.now
    (λ bytes. HasLeaves g.H.TreeHash.digest (length row) bytes row) (IsPathOrFull c.args.path.now) (λ p. ⊥) c.args.places.now
    c.loop-turn.places c.note_lacked.new.self c.loop-turn.invariant.asks c.note_lacked.ensures.asks c.first-first.result
    c.loop-turn.turn c.first-first.ensures (omega (arith, long, past)) c.loop-turn.invariant.none
