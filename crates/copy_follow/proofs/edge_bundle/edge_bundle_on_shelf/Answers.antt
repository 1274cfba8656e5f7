use Rattle.std.proofs.Common.{List, ℕ, length, refl, subst, sym}
use Rattle.std.proofs.lemmas.Result.{IfOk-from_err}
use Rattle.copy_places.specs.Giving.{PartOf}
use Rattle.copy_follow.specs.Conflicts.{IsNoConflict}
use Rattle.copy_follow.specs.Faults.{IsOfNoPlace}
use Rattle.copy_follow.specs.Taken.{WasPut}
use Rattle.copy_follow.specs.declared.bring_fault.BringFault.TheVariants.{OutOfMemory}
use Rattle.copy_follow.proofs.Exits.{counted_exit, err_exit}
use Rattle.copy_follow.proofs.Lacking.{no_part, one_part}
use Rattle.copy_follow.proofs.ShelfReads.{partial_put}
use Rattle.log_reader.specs.Verified.{HasLeaves}
use Rattle.copy_follow.proofs.edge_bundle.edge_bundle_on_shelf.Goals as goal

pub returns-in_default-clause-none : goal.returns-in_default-clause-none
returns-in_default-clause-none g c = λ bytes there v.
    no_part (g.D.Shelf.puts c.args.shelf.now) c.args.path.now bytes (rw c.in_default.is at c.in_ok-bytes.ensures.answer) there

pub returns-in-None-clause-none : goal.returns-in-None-clause-none
returns-in-None-clause-none g c = λ bytes there v.
    let read = rw c.in-Some.is at c.in_ok-bytes.ensures.answer in
    let same = one_part (g.D.Shelf.puts c.args.shelf.now) c.args.path.now bytes c.in-Some.bytes.items read there in
    let none = rw c.in-None.is at c.in_ok-found.ensures.none in
    let row = c.args.row.now in
    none (subst (λ (b : List ℕ). HasLeaves g.H.TreeHash.digest (length row) b row) (sym same) v)

pub returns-in_err-found : goal.returns-in_err-found
returns-in_err-found g c =
    let exit = c.from_residual-in_err-found in
    let failed = g.D.Shelf.failed in
    record {
      found = IfOk-from_err exit.result _ exit.ensures.0;
      fault = err_exit IsNoConflict exit.result OutOfMemory exit.ensures tt;
      places = err_exit IsOfNoPlace exit.result OutOfMemory exit.ensures tt;
      same = c.partial_on_shelf.ensures.same;
      still = c.partial_on_shelf.ensures.still;
      counted = counted_exit exit.result OutOfMemory exit.ensures (failed c.args.shelf.now) (failed c.partial_on_shelf.new.shelf)
          (failed c.partial_on_shelf.new.shelf) c.in_ok-bytes.ensures.counted refl;
      taken = IfOk-from_err exit.result _ exit.ensures.0;
      none = IfOk-from_err exit.result _ exit.ensures.0;
    }

pub returns-in-Some-2-clause-taken : goal.returns-in-Some-2-clause-taken
returns-in-Some-2-clause-taken g c =
    let read = partial_put (g.D.Shelf.puts c.args.shelf.now) c.args.path.now c.in-Some.bytes.items
    (rw c.in-Some.is at c.in_ok-bytes.ensures.answer) in
    let given = rw c.in-Some-2.is at c.in_ok-found.ensures.given in
    subst (λ (b : List ℕ). PartOf (WasPut (g.D.Shelf.puts c.args.shelf.now)) c.args.path.now b) (cc given) read
