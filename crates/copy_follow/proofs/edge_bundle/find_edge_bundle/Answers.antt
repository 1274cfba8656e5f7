use Rattle.std.proofs.Common.{inl, inr, refl, subst}
use Rattle.std.proofs.lemmas.Result.{IfOk-from_err}
use Rattle.copy_follow.specs.Conflicts.{IsNoConflict}
use Rattle.copy_follow.specs.Faults.{BlamesPlaces, CountsFault}
use Rattle.copy_follow.specs.Taken.{MayTake, WasPut}
use Rattle.copy_follow.specs.declared.bring_fault.BringFault.TheVariants.{OutOfMemory}
use Rattle.copy_places.specs.Asked.{IsPathOrFull}
use Rattle.copy_places.specs.Giving.{MayGive}
use Rattle.copy_places.proofs.Asking.{asks_same}
use Rattle.copy_places.proofs.AskingOnce.{once_same}
use Rattle.copy_places.proofs.Giving.{part_weaker}
use Rattle.copy_follow.proofs.Exits.{counted_exit, err_exit, no_place}
use Rattle.copy_follow.proofs.Spared.{no_lack}
use Rattle.copy_follow.proofs.edge_bundle.find_edge_bundle.Goals as goal

pub returns-in_err-found : goal.returns-in_err-found
returns-in_err-found g c =
    let exit = c.from_residual in
    let fault = c.in_err-found.field-0.0 in
    let step = c.in_err-found.ensures in
    let failed = g.D.Shelf.failed in
    record {
      found = IfOk-from_err exit.result _ exit.ensures.0;
      fault = err_exit IsNoConflict exit.result fault exit.ensures step.fault;
      same = step.same;
      still = step.still;
      counted = counted_exit exit.result fault exit.ensures (failed c.args.shelf.now) (failed c.args.shelf.now)
          (failed c.edge_bundle_on_shelf.new.shelf) refl step.counted;
      asks = asks_same g.S.Source.may_answer g.S.Source.failed g.S.Source.asked (IsPathOrFull c.args.path.now) c.args.places.now;
      once = λ differ. once_same g.S.Source.asked (λ k. IsPathOrFull c.args.path.now) c.args.places.now;
      blames = err_exit (BlamesPlaces c.args.places.now) exit.result fault exit.ensures (no_place c.args.places.now fault step.places);
      taken = IfOk-from_err exit.result _ exit.ensures.0;
      suffices = err_exit _ exit.result fault exit.ensures (λ entries short leaves t. no_lack fault step.places);
    }

pub returns-in_err-found-2 : goal.returns-in_err-found-2
returns-in_err-found-2 g c =
    let exit = c.from_residual-in_err-found-2 in
    let failed = g.D.Shelf.failed in
    record {
      found = IfOk-from_err exit.result _ exit.ensures.0;
      fault = err_exit IsNoConflict exit.result OutOfMemory exit.ensures tt;
      same = c.edge_bundle_on_shelf.ensures.same;
      still = c.edge_bundle_on_shelf.ensures.still;
      counted = counted_exit exit.result OutOfMemory exit.ensures (failed c.args.shelf.now) (failed c.edge_bundle_on_shelf.new.shelf)
          (failed c.edge_bundle_on_shelf.new.shelf) c.in_ok-found.ensures.counted refl;
      asks = c.bundle_at_places.ensures.asks;
      once = c.bundle_at_places.ensures.once;
      blames = err_exit (BlamesPlaces c.bundle_at_places.new.places) exit.result OutOfMemory exit.ensures tt;
      taken = IfOk-from_err exit.result _ exit.ensures.0;
      suffices = err_exit _ exit.result OutOfMemory exit.ensures (λ entries short leaves t. no_lack OutOfMemory tt);
    }

pub returns-in-Some-clause-taken : goal.returns-in-Some-clause-taken
returns-in-Some-clause-taken g c =
    let puts = g.D.Shelf.puts c.args.shelf.now in
    part_weaker (WasPut puts) (MayTake g.S.Source.may_answer c.args.places.now puts) (λ path bytes put. inl put) c.args.path.now
    c.in-Some.found.items (rw c.in-Some.is at c.in_ok-found.ensures.taken)

pub returns-in-Some-2-clause-taken : goal.returns-in-Some-2-clause-taken
returns-in-Some-2-clause-taken g c =
    let may = g.S.Source.may_answer in
    let x = c.args.places.now in
    part_weaker (MayGive may x) (MayTake may x (g.D.Shelf.puts c.args.shelf.now)) (λ path bytes given. inr given) c.args.path.now
    c.in-Some-2.found.items (rw c.in-Some-2.is at c.in_ok-found-2.ensures.taken)

pub returns-in-None-clause-counted : goal.returns-in-None-clause-counted
returns-in-None-clause-counted g c =
    subst (λ n. CountsFault n (g.D.Shelf.failed c.edge_bundle_on_shelf.new.shelf) c.fault_of.result) c.in_ok-found.ensures.counted
    (c.fault_of.ensures.counted (g.D.Shelf.failed c.edge_bundle_on_shelf.new.shelf))

pub returns-in-None-clause-suffices : goal.returns-in-None-clause-suffices
returns-in-None-clause-suffices g c = λ entries short leaves t.
    let none = rw c.in-None.is at c.in_ok-found-2.ensures.honest in absurd (none entries short leaves t)
