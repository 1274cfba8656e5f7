use Rattle.std.proofs.Common.{◌≡◌, ◌<◌, All, inl, inr, subst, sym, arith, length}
use Rattle.std.proofs.lemmas.Bool.{cases_lt}
use Rattle.copy_places.specs.Asked.{IsAskedInTurn, IsEdgeTile}
use Rattle.copy_places.specs.TruePlaces.{IsTruePlace}
use Rattle.std.proofs.lemmas.List.Elements.{All-nil}
use Rattle.copy_places.specs.AskedOnce.{IsBeforeTurn}
use Rattle.copy_places.specs.GivenFrom.{AreRowsFrom}
use Rattle.copy_places.specs.Giving.{MayGive}
use Rattle.copy_places.specs.Mixes.{HaveWidths}
use Rattle.copy_places.proofs.Asking.{asks_noted, asks_same, asks_then, blamed_all, blamed_turn, turn_of, turn_one}
use Rattle.copy_places.proofs.Giving.{given_before}
use Rattle.copy_places.proofs.TruePlaces.{true_between, true_noted}
use Rattle.copy_places.proofs.Giving.{edge_weaker}
use Rattle.copy_places.proofs.RowsGiven.{added_from, adds_weaker, all_widths, among_from}
use Rattle.copy_places.proofs.AskingOnce.{once_noted, once_same, once_last, once_turn, once_turns}
use Rattle.copy_places.proofs.edge.edge_at_places.Goals as goal

pub returns-in_err-edge-clause-asks : goal.returns-in_err-edge-clause-asks
returns-in_err-edge-clause-asks g c =
    asks_then g.S.Source.may_answer g.S.Source.failed g.S.Source.asked (IsEdgeTile c.args.size) c.args.places.now c.loop-turn.places
    c.edge_at_place.new.places c.loop-turn.invariant.asks c.edge_at_place.ensures.asks

pub returns-in-Some-clause-asks : goal.returns-in-Some-clause-asks
returns-in-Some-clause-asks g c =
    asks_then g.S.Source.may_answer g.S.Source.failed g.S.Source.asked (IsEdgeTile c.args.size) c.args.places.now c.loop-turn.places
    c.edge_at_place.new.places c.loop-turn.invariant.asks c.edge_at_place.ensures.asks

pub returns-in-Some-clause-taken : goal.returns-in-Some-clause-taken
returns-in-Some-clause-taken g c =
    let may = g.S.Source.may_answer in
    let x = c.args.places.now in
    let y = c.loop-turn.places in
    edge_weaker (MayGive may y) (MayGive may x)
    (λ path bytes given. given_before may g.S.Source.failed g.S.Source.asked (IsEdgeTile c.args.size) x y path bytes
    c.loop-turn.invariant.asks given) c.args.size c.in-Some.edge (rw c.in-Some.is at c.in_ok-edge.ensures.taken)

pub loop-turn-preserved : goal.loop-turn-preserved
loop-turn-preserved g c =
    let may = g.S.Source.may_answer in
    let failed = g.S.Source.failed in
    let asked = g.S.Source.asked in
    let digest = g.H.TreeHash.digest in
    let so = IsEdgeTile c.args.size in
    let x = c.args.places.now in
    let y = c.loop-turn.places in
    let z = c.edge_at_place.new.places in
    let before = c.loop-turn.invariant.asks in
    let now = c.edge_at_place.ensures.asks in
    record {
      asks = asks_then may failed asked so x y z before now;
      once = once_turn g.S.Source.asked (IsEdgeTile c.args.size) c.first-first.result c.loop-turn.turn c.in_turn-index.result c.in_turn-index.ensures.turn
          c.args.places.now c.loop-turn.places c.edge_at_place.new.places c.loop-turn.invariant.once c.edge_at_place.ensures.once;
      honest = λ turn k lt is entries root t. elim (cases_lt turn c.loop-turn.turn) [
        | inl less ↦ c.loop-turn.invariant.honest turn k less is entries root
            (true_between may failed asked digest entries so so so x x y z (asks_same may failed asked so x) before now k t)
        | inr more ↦
            let this : turn ≡ c.loop-turn.turn = omega arith in
            let at : c.in_turn-index.result ≡ k = turn_one c.first-first.result c.loop-turn.turn c.in_turn-index.result k
            c.in_turn-index.ensures.turn (subst (λ t. IsAskedInTurn c.first-first.result t k) this is) in
            let none = rw c.in-None.is at c.in_ok-edge.ensures.honest in
            none entries root (subst (λ j. IsTruePlace digest entries may y z j) (sym at)
            (true_between may failed asked digest entries so so so x y z z before now (asks_same may failed asked so z) k t))
      ];
      blamed = blamed_turn g.S.Source.may_answer g.S.Source.failed g.S.Source.asked (IsEdgeTile c.args.size) (IsEdgeTile c.args.size)
          c.args.places.now c.loop-turn.places c.edge_at_place.new.places c.loop-turn.invariant.asks c.edge_at_place.ensures.asks
          c.first-first.result c.loop-turn.turn c.in_turn-index.result c.in_turn-index.ensures.turn c.loop-turn.invariant.blamed
          (rw c.in-None.is at c.in_ok-edge.ensures.blamed);
      given = added_from (MayGive may x) c.args.size c.loop-turn.given.items c.edge_at_place.new.given.items c.loop-turn.invariant.given
          (adds_weaker (MayGive may y) (MayGive may x)
          (λ path bytes given. given_before may failed asked so x y path bytes before given) c.args.size c.loop-turn.given.items
          c.edge_at_place.new.given.items (rw c.in-None.is at c.in_ok-edge.ensures.rows));
    }

pub returns-clause-honest : goal.returns-clause-honest
returns-clause-honest g c = λ entries root t.
    let n = length c.args.places.now.list.items in
    let long = c.len-turn-end.ensures in
    let past = c.loop-turn-test.false in
    let lt : t.index < n = t.place.listed in
    let within : c.first-first.result < n = c.first-first.ensures (omega arith) in
    let turn = turn_of c.first-first.result t.index n lt within in
    let before = turn.1 in
    c.loop-turn.invariant.honest turn.0 t.index (omega arith) turn.2 entries root
    (true_noted g.H.TreeHash.digest entries g.S.Source.may_answer c.args.places.now c.loop-turn.places c.note_lacked.new.self
    c.note_lacked.ensures.list t.index t.place)

pub returns-in_err-edge-clause-once : goal.returns-in_err-edge-clause-once
returns-in_err-edge-clause-once g c =
    once_last g.S.Source.asked (IsEdgeTile c.args.size) c.first-first.result c.loop-turn.turn c.in_turn-index.result c.in_turn-index.ensures.turn
    c.args.places.now c.loop-turn.places c.edge_at_place.new.places c.loop-turn.invariant.once c.edge_at_place.ensures.once

pub returns-in-Some-clause-once : goal.returns-in-Some-clause-once
returns-in-Some-clause-once g c =
    once_last g.S.Source.asked (IsEdgeTile c.args.size) c.first-first.result c.loop-turn.turn c.in_turn-index.result c.in_turn-index.ensures.turn
    c.args.places.now c.loop-turn.places c.edge_at_place.new.places c.loop-turn.invariant.once c.edge_at_place.ensures.once

pub returns-clause-asks : goal.returns-clause-asks
returns-clause-asks g c =
    asks_noted g.S.Source.may_answer g.S.Source.failed g.S.Source.asked (IsEdgeTile c.args.size) c.args.places.now
    c.loop-turn.places c.note_lacked.new.self c.loop-turn.invariant.asks c.note_lacked.ensures.asks

pub returns-clause-once : goal.returns-clause-once
returns-clause-once g c =
    once_noted g.S.Source.asked g.S.Source.may_answer g.S.Source.failed (λ k. IsEdgeTile c.args.size) c.args.places.now
    c.loop-turn.places c.note_lacked.new.self
    (once_turns g.S.Source.asked (IsEdgeTile c.args.size) c.first-first.result c.loop-turn.turn c.args.places.now
    c.loop-turn.places c.loop-turn.invariant.once) c.note_lacked.ensures.asks

pub returns-clause-blamed : goal.returns-clause-blamed
returns-clause-blamed g c =
    let long = c.len-turn-end.ensures in
    let past = c.loop-turn-test.false in
    blamed_all g.S.Source.may_answer g.S.Source.failed g.S.Source.asked (λ p. ⊥) c.args.places.now c.loop-turn.places
    c.note_lacked.new.self c.note_lacked.ensures.asks c.first-first.result c.loop-turn.turn c.first-first.ensures
    (omega (arith, long, past)) c.loop-turn.invariant.blamed

pub edge_of_pairs-requires : goal.edge_of_pairs-requires
edge_of_pairs-requires g c = record {
  widths = subst (All (HaveWidths c.args.size)) (sym c.deref.ensures.value)
      (all_widths (MayGive g.S.Source.may_answer c.args.places.now) c.args.size c.loop-turn.given.items c.loop-turn.invariant.given);
}

pub loop-turn-init : goal.loop-turn-init
loop-turn-init g c =
    let x = c.args.places.now in
    let take = MayGive g.S.Source.may_answer x in
    record {
      asks = asks_same g.S.Source.may_answer g.S.Source.failed g.S.Source.asked (IsEdgeTile c.args.size) x;
      once = once_same g.S.Source.asked (IsBeforeTurn c.first-first.result 0 (IsEdgeTile c.args.size)) x;
      honest = λ turn k lt. absurd (omega (arith, lt));
      given = subst (All (AreRowsFrom take c.args.size)) (sym c.new-given.ensures.items) (All-nil (AreRowsFrom take c.args.size));
      blamed = λ turn k lt. absurd (omega (arith, lt));
    }

pub returns-in_err-edge-2-clause-once : goal.returns-in_err-edge-2-clause-once
returns-in_err-edge-2-clause-once g c =
    once_turns g.S.Source.asked (IsEdgeTile c.args.size) c.first-first.result c.loop-turn.turn c.args.places.now
    c.loop-turn.places c.loop-turn.invariant.once

pub returns-in-Some-2-clause-once : goal.returns-in-Some-2-clause-once
returns-in-Some-2-clause-once g c =
    once_turns g.S.Source.asked (IsEdgeTile c.args.size) c.first-first.result c.loop-turn.turn c.args.places.now
    c.loop-turn.places c.loop-turn.invariant.once

pub returns-in-Some-2-clause-taken : goal.returns-in-Some-2-clause-taken
returns-in-Some-2-clause-taken g c =
    let take = MayGive g.S.Source.may_answer c.args.places.now in
    among_from take c.args.size g.H.TreeHash.digest c.args.root.now c.deref.result.now c.in-Some-2.edge
    (subst (All (AreRowsFrom take c.args.size)) (sym c.deref.ensures.value) c.loop-turn.invariant.given)
    (rw c.in-Some-2.is at c.in_ok-edge-2.ensures.leads) (rw c.in-Some-2.is at c.in_ok-edge-2.ensures.mix)
