use Rattle.std.proofs.Common.{◌≡◌, ◌<◌, ℕ, List, inl, inr, get_or, subst, sym, arith, length}
use Rattle.std.proofs.lemmas.Bool.{cases_lt}
use Rattle.log_reader.specs.Verified.{Verifies}
use Rattle.copy_places.specs.Asked.{IsAskedInVain, IsAskedInTurn}
use Rattle.copy_places.proofs.Giving.{given_before}
use Rattle.copy_places.proofs.Asking.{asks_noted, asks_same, asks_then, blamed_all, blamed_turn, noted_asks, turn_of, turn_one, vain_between}
use Rattle.copy_places.proofs.AskingOnce.{noted_once, once_last, once_noted, once_same, once_turn, once_turns}
use Rattle.copy_places.proofs.TruePlaces.{lacks_none}
use Rattle.copy_places.specs.AskedOnce.{IsBeforeTurn}
use Rattle.tlog_tiles.specs.declared.paths.Path.{Path}
use Rattle.copy_places.specs.declared.place.Place.{Place}
use Rattle.copy_places.proofs.file.file_at_places.Goals as goal

pub returns-in_err-found-clause-asks : goal.returns-in_err-found-clause-asks
returns-in_err-found-clause-asks g c =
    asks_then g.S.Source.may_answer g.S.Source.failed g.S.Source.asked (λ p. p ≡ c.args.path.now) c.args.places.now c.loop-turn.places
    c.file_at_place.new.places c.loop-turn.invariant.asks c.file_at_place.ensures.asks

pub returns-in-Some-clause-asks : goal.returns-in-Some-clause-asks
returns-in-Some-clause-asks g c =
    asks_then g.S.Source.may_answer g.S.Source.failed g.S.Source.asked (λ p. p ≡ c.args.path.now) c.args.places.now c.loop-turn.places
    c.file_at_place.new.places c.loop-turn.invariant.asks c.file_at_place.ensures.asks

pub loop-turn-preserved : goal.loop-turn-preserved
loop-turn-preserved g c = record {
  asks = asks_then g.S.Source.may_answer g.S.Source.failed g.S.Source.asked (λ p. p ≡ c.args.path.now) c.args.places.now c.loop-turn.places
      c.file_at_place.new.places c.loop-turn.invariant.asks c.file_at_place.ensures.asks;
  once = once_turn g.S.Source.asked (λ p. p ≡ c.args.path.now) c.first-first.result c.loop-turn.turn c.in_turn-index.result c.in_turn-index.ensures.turn
      c.args.places.now c.loop-turn.places c.file_at_place.new.places c.loop-turn.invariant.once c.file_at_place.ensures.once;
  none = λ turn k d lt is.
      let a = get_or c.args.places.now.list.items k d in
      let b = get_or c.loop-turn.places.list.items k d in
      let e = get_or c.file_at_place.new.places.list.items k d in
      let good = λ (bytes : List ℕ). (row : List (List ℕ)) × Verifies g.H.TreeHash.digest c.args.kind c.args.hash.now bytes row in
      let earlier = c.loop-turn.invariant.asks.each k d in
      let now = c.file_at_place.ensures.asks.each k d in
      elim (cases_lt turn c.loop-turn.turn) [
        | inl less ↦ vain_between (g.S.Source.may_answer a.source) (g.S.Source.may_answer a.source)
            (record { stays = λ path answer h. h }) a.failures a.failures b.failures e.failures (omega arith) earlier.more now.more
            c.args.path.now good (c.loop-turn.invariant.none turn k d less is)
        | inr more ↦
            let this : turn ≡ c.loop-turn.turn = omega arith in
            let at : c.in_turn-index.result ≡ k = turn_one c.first-first.result c.loop-turn.turn c.in_turn-index.result k
            c.in_turn-index.ensures.turn (subst (λ t. IsAskedInTurn c.first-first.result t k) this is) in
            let none = rw c.in-None.is at c.in_ok-found.ensures.none in
            vain_between (g.S.Source.may_answer a.source) (g.S.Source.may_answer b.source) earlier.later a.failures b.failures
            e.failures e.failures earlier.more now.more (omega arith) c.args.path.now good
            (subst (λ (n : ℕ). IsAskedInVain (g.S.Source.may_answer (get_or c.loop-turn.places.list.items n d).source)
            (get_or c.loop-turn.places.list.items n d).failures (get_or c.file_at_place.new.places.list.items n d).failures
            c.args.path.now good) at (none d))
      ];
  blamed = blamed_turn g.S.Source.may_answer g.S.Source.failed g.S.Source.asked (λ p. p ≡ c.args.path.now) (λ p. p ≡ c.args.path.now)
      c.args.places.now c.loop-turn.places c.file_at_place.new.places c.loop-turn.invariant.asks c.file_at_place.ensures.asks
      c.first-first.result c.loop-turn.turn c.in_turn-index.result c.in_turn-index.ensures.turn c.loop-turn.invariant.blamed
      (rw c.in-None.is at c.in_ok-found.ensures.blamed);
}

pub loop-turn-init : goal.loop-turn-init
loop-turn-init g c =
    let may = g.S.Source.may_answer in
    let failed = g.S.Source.failed in
    let asked = g.S.Source.asked in
    let so = λ (p : Path). p ≡ c.args.path.now in
    let x = c.args.places.now in
    let hinted = c.expect_from.new.places in
    record {
      asks = noted_asks may failed asked so x hinted hinted c.expect_from.ensures (asks_same may failed asked so hinted);
      once = noted_once asked may failed (IsBeforeTurn c.first-first.result 0 so) x hinted hinted c.expect_from.ensures
          (once_same asked (IsBeforeTurn c.first-first.result 0 so) hinted);
      none = λ turn k d none. absurd (omega (arith, none));
      blamed = λ turn k none. absurd (omega (arith, none));
    }

pub returns-clause-asks : goal.returns-clause-asks
returns-clause-asks g c =
    asks_noted g.S.Source.may_answer g.S.Source.failed g.S.Source.asked (λ p. p ≡ c.args.path.now) c.args.places.now
    c.loop-turn.places c.note_lacked.new.self c.loop-turn.invariant.asks c.note_lacked.ensures.asks

pub returns-clause-honest : goal.returns-clause-honest
returns-clause-honest g c = λ entries short is t.
    let n = length c.args.places.now.list.items in
    let long = c.len-turn-end.ensures in
    let past = c.loop-turn-test.false in
    let same = c.expect_from.ensures.count in
    lacks_none g.H.TreeHash.digest g.met.H.TreeHash.digest_length entries short c.args.kind c.args.path.now c.args.hash.now is
    g.S.Source.may_answer c.args.places.now c.loop-turn.places c.note_lacked.new.self c.note_lacked.ensures.list t
    (λ k d lt.
    let within : c.first-first.result < n = let first = c.first-first.ensures (omega (arith, same, lt)) in omega (arith, first, same) in
    let at = turn_of c.first-first.result k n lt within in
    let before = at.1 in
    c.loop-turn.invariant.none at.0 k d (omega (arith, before, long, past, same)) at.2)

pub returns-in-Some-clause-given : goal.returns-in-Some-clause-given
returns-in-Some-clause-given g c =
    given_before g.S.Source.may_answer g.S.Source.failed g.S.Source.asked (λ p. p ≡ c.args.path.now) c.args.places.now
    c.loop-turn.places c.args.path.now c.in-Some.found.bytes.items c.loop-turn.invariant.asks
    (rw c.in-Some.is at c.in_ok-found.ensures.given)

pub returns-in_err-found-clause-once : goal.returns-in_err-found-clause-once
returns-in_err-found-clause-once g c =
    once_last g.S.Source.asked (λ p. p ≡ c.args.path.now) c.first-first.result c.loop-turn.turn c.in_turn-index.result c.in_turn-index.ensures.turn
    c.args.places.now c.loop-turn.places c.file_at_place.new.places c.loop-turn.invariant.once c.file_at_place.ensures.once

pub returns-in-Some-clause-once : goal.returns-in-Some-clause-once
returns-in-Some-clause-once g c =
    once_last g.S.Source.asked (λ p. p ≡ c.args.path.now) c.first-first.result c.loop-turn.turn c.in_turn-index.result c.in_turn-index.ensures.turn
    c.args.places.now c.loop-turn.places c.file_at_place.new.places c.loop-turn.invariant.once c.file_at_place.ensures.once

pub returns-clause-once : goal.returns-clause-once
returns-clause-once g c =
    once_noted g.S.Source.asked g.S.Source.may_answer g.S.Source.failed (λ k p. p ≡ c.args.path.now) c.args.places.now
    c.loop-turn.places c.note_lacked.new.self
    (once_turns g.S.Source.asked (λ p. p ≡ c.args.path.now) c.first-first.result c.loop-turn.turn c.args.places.now
    c.loop-turn.places c.loop-turn.invariant.once) c.note_lacked.ensures.asks

pub returns-clause-blamed : goal.returns-clause-blamed
returns-clause-blamed g c =
    let long = c.len-turn-end.ensures in
    let past = c.loop-turn-test.false in
    let same = c.expect_from.ensures.count in
    blamed_all g.S.Source.may_answer g.S.Source.failed g.S.Source.asked (λ p. ⊥) c.args.places.now c.loop-turn.places
    c.note_lacked.new.self c.note_lacked.ensures.asks c.first-first.result c.loop-turn.turn
    (λ some. let first = c.first-first.ensures (omega (arith, same, some)) in omega (arith, first, same))
    (omega (arith, long, past, same)) c.loop-turn.invariant.blamed

pub returns-clause-none : goal.returns-clause-none
returns-clause-none g c = λ k lt d.
    let n = length c.args.places.now.list.items in
    let long = c.len-turn-end.ensures in
    let past = c.loop-turn-test.false in
    let same = c.expect_from.ensures.count in
    let within : c.first-first.result < n = let first = c.first-first.ensures (omega (arith, same, lt)) in omega (arith, first, same) in
    let at = turn_of c.first-first.result k n lt within in
    let before = at.1 in
    subst (λ (l : List (Place g.row.S.Denot)). IsAskedInVain (g.S.Source.may_answer (get_or c.args.places.now.list.items k d).source)
    (get_or c.args.places.now.list.items k d).failures (get_or l k d).failures c.args.path.now
    (λ bytes. (row : List (List ℕ)) × Verifies g.H.TreeHash.digest c.args.kind c.args.hash.now bytes row))
    (sym c.note_lacked.ensures.list)
    (c.loop-turn.invariant.none at.0 k d (omega (arith, before, long, past, same)) at.2)
