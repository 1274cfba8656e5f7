use Rattle.std.proofs.Common.{inl, inr}
use Rattle.copy_places.specs.Asked.{IsPathOrFull}
use Rattle.copy_places.specs.Giving.{MayGive, PartOf}
use Rattle.copy_places.proofs.Asking.{asks_same}
use Rattle.copy_places.proofs.Giving.{part_weaker}
use Rattle.copy_follow.specs.Taken.{MayTake, WasPut}
use Rattle.copy_places.proofs.TrueAnswers.{none_weaker}
use Rattle.copy_follow.proofs.Cuts.{some_weaker}
use Rattle.copy_follow.proofs.Lacking.{own_end_none}
use Rattle.copy_follow.proofs.OnePlace.{put_before}
use Rattle.copy_follow.proofs.mend_edge.end_found.Goals as goal

pub returns-in-Ok-Some-clause-asks : goal.returns-in-Ok-Some-clause-asks
returns-in-Ok-Some-clause-asks g c =
    asks_same g.S.Source.may_answer g.S.Source.failed g.S.Source.asked (IsPathOrFull c.args.path.now) c.args.places.now

pub returns-in-Err-clause-asks : goal.returns-in-Err-clause-asks
returns-in-Err-clause-asks g c =
    asks_same g.S.Source.may_answer g.S.Source.failed g.S.Source.asked (IsPathOrFull c.args.path.now) c.args.places.now

pub returns-in-Ok-Some-clause-taken : goal.returns-in-Ok-Some-clause-taken
returns-in-Ok-Some-clause-taken g c =
    let puts = g.D.Shelf.puts c.args.shelf.now in
    part_weaker (WasPut puts) (MayTake g.S.Source.may_answer c.args.places.now puts) (λ path bytes put. inl put) c.args.path.now
    c.in-Ok-Some.bytes.items (rw c.in-Ok-Some.field-0-is at c.in-Ok-Some.ensures.taken)

pub returns-in-Ok-clause-taken : goal.returns-in-Ok-clause-taken
returns-in-Ok-clause-taken g c =
    let may = g.S.Source.may_answer in
    let x = c.args.places.now in
    let take = MayTake may x (g.D.Shelf.puts c.args.shelf.now) in
    some_weaker c.in-Ok.found (λ bytes. PartOf (MayGive may x) c.args.path.now bytes.items) (λ bytes. PartOf take c.args.path.now bytes.items)
    (λ bytes h. part_weaker (MayGive may x) take (λ path b given. inr given) c.args.path.now bytes.items h) c.in-Ok.ensures.taken

pub returns-in-Ok-Some-own_end-clause-asks : goal.returns-in-Ok-Some-own_end-clause-asks
returns-in-Ok-Some-own_end-clause-asks g c =
    asks_same g.S.Source.may_answer g.S.Source.failed g.S.Source.asked (IsPathOrFull c.args.path.now) c.args.places.now

pub returns-in-Err-own_end-clause-asks : goal.returns-in-Err-own_end-clause-asks
returns-in-Err-own_end-clause-asks g c =
    asks_same g.S.Source.may_answer g.S.Source.failed g.S.Source.asked (IsPathOrFull c.args.path.now) c.args.places.now

pub returns-in-Ok-Some-own_end-clause-taken : goal.returns-in-Ok-Some-own_end-clause-taken
returns-in-Ok-Some-own_end-clause-taken g c =
    let x = g.D.Shelf.puts c.args.shelf.now in
    let y = g.D.Shelf.puts c.edge_bundle_on_shelf.new.shelf in
    part_weaker (WasPut y) (MayTake g.S.Source.may_answer c.args.places.now x)
    (λ path bytes put. inl (put_before x y c.edge_bundle_on_shelf.ensures.same path bytes put)) c.args.path.now
    c.in-Ok-Some-own_end.bytes.items (rw c.in-Ok-Some-own_end.field-0-is at c.in-Ok-Some-own_end.ensures.taken)

pub returns-in-Ok-clause-none : goal.returns-in-Ok-clause-none
returns-in-Ok-clause-none g c =
    let x = g.D.Shelf.puts c.args.shelf.now in
    let y = g.D.Shelf.puts c.edge_bundle_on_shelf.new.shelf in
    none_weaker c.in-Ok.found _ _ (λ vain. record {
      shelf = own_end_none g.H.TreeHash.digest c.args.row.now x y c.edge_bundle_on_shelf.ensures.same c.args.path.now
          (rw c.in-Ok-None.field-0-is at c.in-Ok-None.ensures.none)
          (rw c.in-Ok-None-own_end.field-0-is at c.in-Ok-None-own_end.ensures.none);
      places = vain;
    }) c.in-Ok.ensures.none
