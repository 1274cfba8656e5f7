use Rattle.std.proofs.Common.{◌≡◌, ◌<◌, ℕ, List, [], length, get_or, ap, sym, subst, arith}
use Rattle.log_reader.proofs.RowLists.{count_more, rows_more}
use Rattle.copy_places.specs.Giving.{MayGive}
use Rattle.copy_places.proofs.Asking.{asks_same, asks_then}
use Rattle.copy_places.proofs.Giving.{given_before}
use Rattle.copy_follow.specs.Repaired.{BeginsTile, IsOfEdge}
use Rattle.copy_follow.proofs.Cuts.{tile_weaker}
use Rattle.copy_follow.proofs.wider.rows_in_wider.Goals as goal

pub loop-level-init : goal.loop-level-init
loop-level-init g c = record {
  asks = asks_same g.S.Source.may_answer g.S.Source.failed g.S.Source.asked (IsOfEdge c.args.size) c.args.places.now;
  count = ap length c.new-rows.ensures.items;
  taken = λ k none. absurd (omega (arith, none));
}

pub row_in_wider-requires-clause-place : goal.row_in_wider-requires-clause-place
row_in_wider-requires-clause-place g c =
    let place = c.requires in
    let count = c.loop-level.invariant.asks.count in
    subst (λ n. c.args.place < n) (sym count) place

pub returns-in_err-row-clause-asks : goal.returns-in_err-row-clause-asks
returns-in_err-row-clause-asks g c =
    asks_then g.S.Source.may_answer g.S.Source.failed g.S.Source.asked (IsOfEdge c.args.size) c.args.places.now
    c.loop-level.places c.row_in_wider.new.places c.loop-level.invariant.asks c.row_in_wider.ensures.asks

pub returns-in_err-push-in-Some-clause-asks : goal.returns-in_err-push-in-Some-clause-asks
returns-in_err-push-in-Some-clause-asks g c =
    asks_then g.S.Source.may_answer g.S.Source.failed g.S.Source.asked (IsOfEdge c.args.size) c.args.places.now
    c.loop-level.places c.row_in_wider.new.places c.loop-level.invariant.asks c.row_in_wider.ensures.asks

pub returns-in-None-clause-asks : goal.returns-in-None-clause-asks
returns-in-None-clause-asks g c =
    asks_then g.S.Source.may_answer g.S.Source.failed g.S.Source.asked (IsOfEdge c.args.size) c.args.places.now
    c.loop-level.places c.row_in_wider.new.places c.loop-level.invariant.asks c.row_in_wider.ensures.asks

pub loop-level-preserved : goal.loop-level-preserved
loop-level-preserved g c =
    let may = g.S.Source.may_answer in
    let failed = g.S.Source.failed in
    let asked = g.S.Source.asked in
    let so = IsOfEdge c.args.size in
    let x = c.args.places.now in
    let y = c.loop-level.places in
    let before = c.loop-level.invariant.asks in
    let level = c.loop-level.level in
    let rows = c.loop-level.rows.items in
    let is = c.in_ok-push-in-Some.ensures.items in
    let count = c.loop-level.invariant.count in
    record {
      asks = asks_then may failed asked so x y c.row_in_wider.new.places before c.row_in_wider.ensures.asks;
      count = count_more rows c.push.new.self.items c.in-Some.row level is count;
      taken = rows_more (λ k row. BeginsTile (MayGive may x) c.args.size k row) rows c.push.new.self.items c.in-Some.row level is
          count c.loop-level.invariant.taken
          (tile_weaker (MayGive may y) (MayGive may x)
          (λ path bytes given. given_before may failed asked so x y path bytes before given) c.args.size level
          c.in-Some.row.items (rw c.in-Some.is at c.in_ok-row.ensures.taken));
    }

pub returns-clause-taken : goal.returns-clause-taken
returns-clause-taken g c = record {
  size_is = c.new.ensures.size;
  rows_are = λ level upto.
      subst (λ (rs : List (List (List ℕ))). BeginsTile (MayGive g.S.Source.may_answer c.args.places.now) c.args.size level
      (get_or rs level [])) (sym c.new.ensures.rows) (c.loop-level.invariant.taken level (omega arith));
}
