use Rattle.std.proofs.Common.{inl, inr}
use Rattle.copy_places.specs.Asked.{IsEdgeTile}
use Rattle.copy_places.specs.Giving.{IsEdgeFrom, MayGive}
use Rattle.copy_places.proofs.Asking.{asks_same}
use Rattle.copy_places.proofs.Giving.{edge_weaker}
use Rattle.copy_follow.specs.Taken.{MayTake, WasPut}
use Rattle.copy_follow.proofs.Cuts.{some_weaker}
use Rattle.copy_places.proofs.TrueAnswers.{none_weaker}
use Rattle.copy_follow.proofs.Lacking.{nowhere_before}
use Rattle.copy_follow.proofs.OnePlace.{put_before}
use Rattle.copy_follow.proofs.mend_edge.edge_found.Goals as goal

pub returns-in-Ok-Some-clause-asks : goal.returns-in-Ok-Some-clause-asks
returns-in-Ok-Some-clause-asks g c =
    asks_same g.S.Source.may_answer g.S.Source.failed g.S.Source.asked (IsEdgeTile c.args.size) c.args.places.now

pub returns-in-Err-clause-asks : goal.returns-in-Err-clause-asks
returns-in-Err-clause-asks g c =
    asks_same g.S.Source.may_answer g.S.Source.failed g.S.Source.asked (IsEdgeTile c.args.size) c.args.places.now

pub returns-in-Ok-clause-taken : goal.returns-in-Ok-clause-taken
returns-in-Ok-clause-taken g c =
    let may = g.S.Source.may_answer in
    let x = c.args.places.now in
    let take = MayTake may x (g.D.Shelf.puts c.args.shelf.now) in
    some_weaker c.in-Ok.found (IsEdgeFrom (MayGive may x) c.args.size) (IsEdgeFrom take c.args.size)
    (λ edge h. edge_weaker (MayGive may x) take (λ path bytes given. inr given) c.args.size edge h) c.in-Ok.ensures.taken

pub returns-in-Ok-Some-own_edge-clause-asks : goal.returns-in-Ok-Some-own_edge-clause-asks
returns-in-Ok-Some-own_edge-clause-asks g c =
    asks_same g.S.Source.may_answer g.S.Source.failed g.S.Source.asked (IsEdgeTile c.args.size) c.args.places.now

pub returns-in-Err-own_edge-clause-asks : goal.returns-in-Err-own_edge-clause-asks
returns-in-Err-own_edge-clause-asks g c =
    asks_same g.S.Source.may_answer g.S.Source.failed g.S.Source.asked (IsEdgeTile c.args.size) c.args.places.now

pub returns-in-Ok-Some-own_edge-clause-taken : goal.returns-in-Ok-Some-own_edge-clause-taken
returns-in-Ok-Some-own_edge-clause-taken g c =
    let x = g.D.Shelf.puts c.args.shelf.now in
    let y = g.D.Shelf.puts c.edge_on_shelf.new.shelf in
    edge_weaker (WasPut y) (MayTake g.S.Source.may_answer c.args.places.now x)
    (λ path bytes put. inl (put_before x y c.edge_on_shelf.ensures.same path bytes put)) c.args.size c.in-Ok-Some-own_edge.edge
    (rw c.in-Ok-Some-own_edge.field-0-is at c.in-Ok-Some-own_edge.ensures.taken)

pub returns-in-Ok-clause-none : goal.returns-in-Ok-clause-none
returns-in-Ok-clause-none g c =
    let x = g.D.Shelf.puts c.args.shelf.now in
    let y = g.D.Shelf.puts c.edge_on_shelf.new.shelf in
    none_weaker c.in-Ok.found _ _ (λ honest. record {
      shelf = rw c.in-Ok-None.field-0-is at c.in-Ok-None.ensures.none;
      own = nowhere_before g.H.TreeHash.digest x y c.edge_on_shelf.ensures.same c.args.size c.args.root.now
          (rw c.in-Ok-None-own_edge.field-0-is at c.in-Ok-None-own_edge.ensures.none);
      places = honest;
    }) c.in-Ok.ensures.honest
