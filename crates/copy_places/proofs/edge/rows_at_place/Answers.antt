use Rattle.std.proofs.Common.{◌≡◌, ◌*◌, ℕ, List, [], ◌∷◌, None, Option, Some, Vec, Global, length, length-append, get_or, ap, sym, subst, arith, ◌∙◌}
use Rattle.std.specs.Prelude.{IfSome, option_map}
use Rattle.tlog_shape.specs.Edge.{edge_index_of, width_of}
use Rattle.tlog_hash.specs.Rows.{level_row}
use Rattle.copy_places.specs.Asked.{IsEdgeTile}
use Rattle.copy_places.specs.AskedOnce.{IsAtPlace, IsEdgeTileBelow}
use Rattle.copy_places.specs.Giving.{IsRowFrom, MayGive}
use Rattle.copy_places.specs.Mixes.{given_at}
use Rattle.copy_places.specs.declared.mix.GivenRows.{GivenRows}
use Rattle.copy_places.proofs.Asking.{asks_same, asks_then}
use Rattle.copy_places.proofs.AskingOnce.{once_same}
use Rattle.copy_places.proofs.EdgeLevels.{once_last_level, once_level, once_levels}
use Rattle.copy_places.proofs.RowsGiven.{before_taken, one_failures, still_failures}
use Rattle.copy_places.proofs.Mixing.{items_next}
use Rattle.copy_places.proofs.TruePlaces.{true_between}
use Rattle.copy_places.proofs.edge.rows_at_place.Goals as goal

pub next_row-requires-clause-place : goal.next_row-requires-clause-place
next_row-requires-clause-place g c =
    let lt = c.loop-level.invariant.listed in
    let count = c.loop-level.invariant.asks.count in
    omega (arith, lt, count)

pub loop-level-init : goal.loop-level-init
loop-level-init g c =
    let x = c.args.places.now in
    let listed = c.requires in
    record {
      asks = asks_same g.S.Source.may_answer g.S.Source.failed g.S.Source.asked (IsEdgeTile c.args.size) x;
      once = once_same g.S.Source.asked (IsAtPlace c.args.index (IsEdgeTileBelow c.args.size 0)) x;
      listed = listed;
      before = λ d. one_failures g.S.Source.may_answer g.S.Source.failed g.S.Source.asked x c.args.index c.index-list-index.result listed
          (c.index-list-index.is ∙ ap (λ l. get_or l c.args.index c.index-list-index.result) c.list.ensures) d
          ∙ sym c.failures-failures.ensures;
      count = ap length c.new-rows.ensures.items;
      taken = λ k none. absurd (omega (arith, none));
      honest = λ digest hash entries short t le k none. absurd (omega (arith, none));
    }

pub returns-in_err-row-clause-asks : goal.returns-in_err-row-clause-asks
returns-in_err-row-clause-asks g c =
    asks_then g.S.Source.may_answer g.S.Source.failed g.S.Source.asked (IsEdgeTile c.args.size) c.args.places.now
    c.loop-level.places c.next_row.new.places c.loop-level.invariant.asks c.next_row.ensures.asks

pub returns-in_err-row-clause-once : goal.returns-in_err-row-clause-once
returns-in_err-row-clause-once g c =
    once_last_level g.S.Source.asked c.args.size c.loop-level.level c.args.index c.args.places.now
    c.loop-level.places c.next_row.new.places c.loop-level.invariant.once c.next_row.ensures.once

pub returns-in_err-push-clause-asks : goal.returns-in_err-push-clause-asks
returns-in_err-push-clause-asks g c =
    asks_then g.S.Source.may_answer g.S.Source.failed g.S.Source.asked (IsEdgeTile c.args.size) c.args.places.now
    c.loop-level.places c.next_row.new.places c.loop-level.invariant.asks c.next_row.ensures.asks

pub returns-in_err-push-clause-once : goal.returns-in_err-push-clause-once
returns-in_err-push-clause-once g c =
    once_last_level g.S.Source.asked c.args.size c.loop-level.level c.args.index c.args.places.now
    c.loop-level.places c.next_row.new.places c.loop-level.invariant.once c.next_row.ensures.once

pub loop-level-preserved : goal.loop-level-preserved
loop-level-preserved g c =
    let may = g.S.Source.may_answer in
    let failed = g.S.Source.failed in
    let asked = g.S.Source.asked in
    let so = IsEdgeTile c.args.size in
    let x = c.args.places.now in
    let y = c.loop-level.places in
    let z = c.next_row.new.places in
    let inv = c.loop-level.invariant in
    let before = inv.asks in
    let now = c.next_row.ensures.asks in
    let level = c.loop-level.level in
    let rows = c.loop-level.rows.items in
    let more = c.push.new.self.items in
    let is = c.in_ok-push.ensures.items in
    let row = c.in_ok-row.row in
    record {
      asks = asks_then may failed asked so x y z before now;
      once = once_level asked c.args.size level c.args.index x y z inv.once c.next_row.ensures.once;
      listed = inv.listed;
      before = inv.before;
      count = let count = inv.count in omega (arith, count, ap length is, length-append rows (row ∷ []));
      taken = items_next None
          (λ k (o : Option (Vec (List ℕ) Global)). IfSome (option_map (λ r. r.items) o) (IsRowFrom (MayGive may x) c.args.size k))
          rows more row level is inv.count inv.taken
          (before_taken may failed asked so x y before c.args.size level row c.in_ok-row.ensures.taken);
      honest = λ digest hash entries short t le. items_next None
          (λ k (o : Option (Vec (List ℕ) Global)). option_map (λ r. r.items) o
          ≡ Some (level_row digest entries k (256 * edge_index_of c.args.size k) (width_of c.args.size k)))
          rows more row level is inv.count
          (inv.honest digest hash entries short (true_between may failed asked digest entries so so so x x y z
          (asks_same may failed asked so x) before now c.args.index t) le)
          (c.in_ok-row.ensures.honest
          (still_failures may failed asked digest entries so so x y z before now c.args.index t c.failures-failures.result inv.before)
          digest hash entries short (true_between may failed asked digest entries so so so x y z z before now
          (asks_same may failed asked so z) c.args.index t) le);
    }

pub returns-clause-once : goal.returns-clause-once
returns-clause-once g c =
    once_levels g.S.Source.asked c.args.size c.loop-level.level c.args.index c.args.places.now c.loop-level.places c.loop-level.invariant.once

pub returns-clause-asks : goal.returns-clause-asks
returns-clause-asks g c = c.loop-level.invariant.asks

pub returns-clause-taken : goal.returns-clause-taken
returns-clause-taken g c = λ level low.
    let past = c.loop-level-test.false in
    subst (λ (given : GivenRows). IfSome (given_at given level) (IsRowFrom (MayGive g.S.Source.may_answer c.args.places.now) c.args.size level))
    (sym c.new.ensures) (c.loop-level.invariant.taken level (omega (arith, low, past)))

pub returns-clause-honest : goal.returns-clause-honest
returns-clause-honest g c = λ digest hash entries short t le level low.
    let past = c.loop-level-test.false in
    subst (λ (given : GivenRows). given_at given level
    ≡ Some (level_row digest entries level (256 * edge_index_of c.args.size level) (width_of c.args.size level)))
    (sym c.new.ensures) (c.loop-level.invariant.honest digest hash entries short t le level (omega (arith, low, past)))
