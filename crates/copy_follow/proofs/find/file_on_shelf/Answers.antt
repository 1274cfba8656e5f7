use Rattle.std.proofs.Common.{ℕ, List, refl, subst, sym}
use Rattle.std.proofs.lemmas.Result.{IfOk-from_err}
use Rattle.copy_follow.specs.Conflicts.{IsNoConflict}
use Rattle.copy_follow.specs.Faults.{IsOfNoPlace}
use Rattle.copy_follow.specs.Taken.{WasPut}
use Rattle.copy_follow.specs.declared.bring_fault.BringFault.TheVariants.{OutOfMemory}
use Rattle.copy_follow.proofs.Exits.{counted_exit, err_exit}
use Rattle.copy_follow.proofs.OnePlace.{put_read}
use Rattle.copy_follow.proofs.Lacking.{none_recorded, one_recorded}
use Rattle.log_reader.specs.Verified.{Verifies}
use Rattle.copy_follow.proofs.find.file_on_shelf.Goals as goal

pub returns-in_default-clause-none : goal.returns-in_default-clause-none
returns-in_default-clause-none g c = λ bytes there row v.
    none_recorded (g.D.Shelf.puts c.args.shelf.now) c.args.path.now bytes (rw c.in_default.is at c.in_ok-bytes.ensures.answer) there

pub returns-in-None-clause-none : goal.returns-in-None-clause-none
returns-in-None-clause-none g c = λ bytes there row v.
    let read = rw c.in-Some.is at c.in_ok-bytes.ensures.answer in
    let same = one_recorded (g.D.Shelf.puts c.args.shelf.now) c.args.path.now bytes c.in-Some.bytes.items read there in
    let none = rw c.in-None.is at c.in_ok-found.ensures.none in
    none row (subst (λ (b : List ℕ). Verifies g.H.TreeHash.digest c.args.kind c.args.hash.now b row) (sym same) v)

pub returns-in_err-found : goal.returns-in_err-found
returns-in_err-found g c =
    let exit = c.from_residual-in_err-found in
    let failed = g.D.Shelf.failed in
    record {
      found = IfOk-from_err exit.result _ exit.ensures.0;
      fault = err_exit IsNoConflict exit.result OutOfMemory exit.ensures tt;
      places = err_exit IsOfNoPlace exit.result OutOfMemory exit.ensures tt;
      same = c.read.ensures.same;
      still = c.read.ensures.still;
      counted = counted_exit exit.result OutOfMemory exit.ensures (failed c.args.shelf.now) (failed c.read.new.self)
          (failed c.read.new.self) c.in_ok-bytes.ensures.counted refl;
      taken = IfOk-from_err exit.result _ exit.ensures.0;
      none = IfOk-from_err exit.result _ exit.ensures.0;
    }

pub returns-in-Some-2-clause-taken : goal.returns-in-Some-2-clause-taken
returns-in-Some-2-clause-taken g c =
    let puts = g.D.Shelf.puts c.args.shelf.now in
    let same = rw c.in-Some-2.is at c.in_ok-found.ensures.same in
    let read = rw c.in-Some.is at c.in_ok-bytes.ensures.answer in
    subst (λ (b : List ℕ). WasPut puts c.args.path.now b) (sym same)
    (put_read puts c.args.path.now c.in-Some.bytes.items read)
