use Rattle.std.proofs.Common.{◌≡◌, ◌<◌}
use Rattle.copy_places.proofs.Asking.{asks_same, asks_then}
use Rattle.copy_places.specs.Giving.{MayGive}
use Rattle.copy_places.proofs.Giving.{given_before}
use Rattle.tlog_shape.specs.Edge.{edge_index_of}
use Rattle.copy_follow.specs.Repaired.{IsOfEdge}
use Rattle.copy_follow.proofs.Cuts.{bundle_weaker}
use Rattle.copy_follow.proofs.wider.end_in_wider_ones.Goals as goal

pub loop-place-init : goal.loop-place-init
loop-place-init g c = record {
  asks = asks_same g.S.Source.may_answer g.S.Source.failed g.S.Source.asked (IsOfEdge c.args.size) c.args.places.now;
}

pub returns-in_err-bytes-clause-asks : goal.returns-in_err-bytes-clause-asks
returns-in_err-bytes-clause-asks g c =
    asks_then g.S.Source.may_answer g.S.Source.failed g.S.Source.asked (IsOfEdge c.args.size) c.args.places.now c.loop-place.places
    c.end_in_wider.new.places c.loop-place.invariant.asks c.end_in_wider.ensures.asks

pub returns-in-Some-clause-asks : goal.returns-in-Some-clause-asks
returns-in-Some-clause-asks g c =
    asks_then g.S.Source.may_answer g.S.Source.failed g.S.Source.asked (IsOfEdge c.args.size) c.args.places.now c.loop-place.places
    c.end_in_wider.new.places c.loop-place.invariant.asks c.end_in_wider.ensures.asks

pub loop-place-preserved : goal.loop-place-preserved
loop-place-preserved g c = record {
  asks = asks_then g.S.Source.may_answer g.S.Source.failed g.S.Source.asked (IsOfEdge c.args.size) c.args.places.now c.loop-place.places
      c.end_in_wider.new.places c.loop-place.invariant.asks c.end_in_wider.ensures.asks;
}

pub returns-in-Some-clause-taken : goal.returns-in-Some-clause-taken
returns-in-Some-clause-taken g c =
    let may = g.S.Source.may_answer in
    let x = c.args.places.now in
    let y = c.loop-place.places in
    bundle_weaker (MayGive may y) (MayGive may x)
    (λ path bytes given. given_before may g.S.Source.failed g.S.Source.asked (IsOfEdge c.args.size) x y path bytes
    c.loop-place.invariant.asks given) (edge_index_of c.args.size 0) c.in-Some.bytes.items
    (rw c.in-Some.is at c.in_ok-bytes.ensures.taken)
