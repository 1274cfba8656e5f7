use Rattle.std.proofs.Common.{inr}
use Rattle.copy_places.specs.Asked.{IsEdgeTile}
use Rattle.copy_places.specs.Giving.{MayGive}
use Rattle.copy_places.proofs.Asking.{asks_same, asks_then, asks_weaker}
use Rattle.copy_places.proofs.Giving.{given_before}
use Rattle.copy_follow.specs.Repaired.{IsEdgeCut, IsOfEdge}
use Rattle.copy_follow.specs.Taken.{MayTake}
use Rattle.copy_follow.proofs.Cuts.{edge_of, edge_weaker, some_weaker}
use Rattle.copy_places.proofs.TruePlaces.{place_between}
use Rattle.copy_follow.proofs.Lacking.{none_any}
use Rattle.copy_follow.proofs.mend_edge.look_for_edge.Goals as goal

pub returns-in-Ok-clause-asks : goal.returns-in-Ok-clause-asks
returns-in-Ok-clause-asks g c =
    let may = g.S.Source.may_answer in
    let failed = g.S.Source.failed in
    let asked = g.S.Source.asked in
    let so = IsOfEdge c.args.size in
    let x = c.args.places.now in
    let y = c.edge_found.new.places in
    asks_then may failed asked so x y c.edge_in_wider_ones.new.places
    (asks_weaker may failed asked (IsEdgeTile c.args.size) so (edge_of c.args.size) x y c.edge_found.ensures.asks)
    c.edge_in_wider_ones.ensures.asks

pub returns-in-Err-edge_in_wider_ones-clause-asks : goal.returns-in-Err-edge_in_wider_ones-clause-asks
returns-in-Err-edge_in_wider_ones-clause-asks g c =
    let may = g.S.Source.may_answer in
    let failed = g.S.Source.failed in
    let asked = g.S.Source.asked in
    let so = IsOfEdge c.args.size in
    let x = c.args.places.now in
    let y = c.edge_found.new.places in
    asks_then may failed asked so x y c.edge_in_wider_ones.new.places
    (asks_weaker may failed asked (IsEdgeTile c.args.size) so (edge_of c.args.size) x y c.edge_found.ensures.asks)
    c.edge_in_wider_ones.ensures.asks

pub returns-in-Ok-clause-taken : goal.returns-in-Ok-clause-taken
returns-in-Ok-clause-taken g c =
    let may = g.S.Source.may_answer in
    let x = c.args.places.now in
    let y = c.edge_found.new.places in
    let take = MayTake may x (g.D.Shelf.puts c.args.shelf.now) in
    some_weaker c.in-Ok.found (IsEdgeCut (MayGive may y) c.args.size) (IsEdgeCut take c.args.size)
    (λ edge h. edge_weaker (MayGive may y) take
    (λ path bytes given. inr (given_before may g.S.Source.failed g.S.Source.asked (IsEdgeTile c.args.size) x y path bytes
    c.edge_found.ensures.asks given)) c.args.size edge h) c.in-Ok.ensures.taken

pub returns-in-Ok-clause-none : goal.returns-in-Ok-clause-none
returns-in-Ok-clause-none g c =
    let may = g.S.Source.may_answer in
    let failed = g.S.Source.failed in
    let asked = g.S.Source.asked in
    let so = IsEdgeTile c.args.size in
    let x = c.args.places.now in
    let y = c.edge_found.new.places in
    let none = rw c.in-Ok-None.field-0-is at c.in-Ok-None.ensures.none in
    none_any c.in-Ok.found _ (record {
      shelf = none.shelf;
      own = none.own;
      places = λ log root t. none.places log root
          (place_between may failed asked g.H.TreeHash.digest log so so (IsOfEdge c.args.size) x x y c.edge_in_wider_ones.new.places
          (asks_same may failed asked so x) c.edge_found.ensures.asks c.edge_in_wider_ones.ensures.asks t);
    })
