use Rattle.std.proofs.Common.{inr, refl, subst}
use Rattle.std.proofs.lemmas.Result.{IfOk-from_err}
use Rattle.copy_follow.specs.Conflicts.{IsNoConflict}
use Rattle.copy_follow.specs.Faults.{BlamesPlaces, CountsFault}
use Rattle.copy_follow.specs.Taken.{MayTake}
use Rattle.copy_follow.specs.declared.bring_fault.BringFault.TheVariants.{OutOfMemory}
use Rattle.copy_places.specs.Asked.{IsEdgeTile}
use Rattle.copy_places.specs.Giving.{MayGive}
use Rattle.copy_places.proofs.Asking.{asks_same}
use Rattle.copy_places.proofs.AskingOnce.{once_same}
use Rattle.copy_places.proofs.Giving.{edge_weaker}
use Rattle.copy_follow.proofs.Exits.{counted_exit, err_exit, no_place}
use Rattle.copy_follow.proofs.Spared.{no_lack}
use Rattle.copy_follow.proofs.find_edge.find_edge.Goals as goal

pub returns-in_err-edge : goal.returns-in_err-edge
returns-in_err-edge g c =
    let exit = c.from_residual in
    let fault = c.in_err-edge.field-0.0 in
    let step = c.in_err-edge.ensures in
    let failed = g.D.Shelf.failed in
    record {
      fault = err_exit IsNoConflict exit.result fault exit.ensures step.fault;
      same = step.same;
      still = step.still;
      counted = counted_exit exit.result fault exit.ensures (failed c.args.shelf.now) (failed c.args.shelf.now)
          (failed c.edge_on_shelf.new.shelf) refl step.counted;
      asks = asks_same g.S.Source.may_answer g.S.Source.failed g.S.Source.asked (IsEdgeTile c.args.size) c.args.places.now;
      once = once_same g.S.Source.asked (λ k. IsEdgeTile c.args.size) c.args.places.now;
      blames = err_exit (BlamesPlaces c.args.places.now) exit.result fault exit.ensures (no_place c.args.places.now fault step.places);
      leads = IfOk-from_err exit.result _ exit.ensures.0;
      taken = IfOk-from_err exit.result _ exit.ensures.0;
      suffices = err_exit _ exit.result fault exit.ensures (λ entries root t. no_lack fault step.places);
    }

pub returns-in_err-edge-2 : goal.returns-in_err-edge-2
returns-in_err-edge-2 g c =
    let exit = c.from_residual-in_err-edge-2 in
    let failed = g.D.Shelf.failed in
    let places = c.edge_at_places.new.places in
    record {
      fault = err_exit IsNoConflict exit.result OutOfMemory exit.ensures tt;
      same = c.edge_on_shelf.ensures.same;
      still = c.edge_on_shelf.ensures.still;
      counted = counted_exit exit.result OutOfMemory exit.ensures (failed c.args.shelf.now) (failed c.edge_on_shelf.new.shelf)
          (failed c.edge_on_shelf.new.shelf) c.in_ok-edge.ensures.counted refl;
      asks = c.edge_at_places.ensures.asks;
      once = c.edge_at_places.ensures.once;
      blames = err_exit (BlamesPlaces places) exit.result OutOfMemory exit.ensures tt;
      leads = IfOk-from_err exit.result _ exit.ensures.0;
      taken = IfOk-from_err exit.result _ exit.ensures.0;
      suffices = err_exit _ exit.result OutOfMemory exit.ensures (λ entries root t. no_lack OutOfMemory tt);
    }

pub returns-in-None-clause-counted : goal.returns-in-None-clause-counted
returns-in-None-clause-counted g c =
    subst (λ n. CountsFault n (g.D.Shelf.failed c.edge_on_shelf.new.shelf) c.fault_of.result) c.in_ok-edge.ensures.counted
    (c.fault_of.ensures.counted (g.D.Shelf.failed c.edge_on_shelf.new.shelf))

pub returns-in-None-clause-suffices : goal.returns-in-None-clause-suffices
returns-in-None-clause-suffices g c = λ entries root t.
    let none = rw c.in-None.is at c.in_ok-edge-2.ensures.honest in absurd (none entries root t)

pub returns-in-Some-2-clause-taken : goal.returns-in-Some-2-clause-taken
returns-in-Some-2-clause-taken g c =
    let may = g.S.Source.may_answer in
    let x = c.args.places.now in
    edge_weaker (MayGive may x) (MayTake may x (g.D.Shelf.puts c.args.shelf.now)) (λ path bytes given. inr given) c.args.size
    c.in-Some-2.edge (rw c.in-Some-2.is at c.in_ok-edge-2.ensures.taken)

pub returns-in-Some-clause-asks : goal.returns-in-Some-clause-asks
returns-in-Some-clause-asks g c =
    asks_same g.S.Source.may_answer g.S.Source.failed g.S.Source.asked (IsEdgeTile c.args.size) c.args.places.now
