use Rattle.std.proofs.Common.{ℕ, List, Err, Result, subst, refl}
use Rattle.mirror_trees.specs.Tops.{IsListOf}
use Rattle.mirror_trees.proofs.ServedParts.{list_of}
use Rattle.mirror_files.specs.declared.export_fault.UpdateFault.{UpdateFault}
use Rattle.mirror_files.specs.declared.export_fault.UpdateFault.TheVariants.{NothingComplete}
use Rattle.mirror_files.specs.Beginnings.{UpdatesTop}
use Rattle.mirror_folders.proofs.Securing.{puts_none}
use Rattle.mirror_files.proofs.Exported.{same_recorded}
use Rattle.mirror_files.proofs.Updated.{not_nothing, updates_of}
use Rattle.mirror_files.proofs.UpdateWhole.{nothing_whole, stays_whole}
use Rattle.mirror_files.proofs.updating.update.Goals as goal

pub returns-in_default : goal.returns-in_default
returns-in_default g c =
    let kept = same_recorded (g.S.Shelf.puts c.args.shelf.now) in
    record {
      puts = kept;
      nothing = (λ _. c.in_default.ensures.none, λ _. refl);
      whole = nothing_whole g.H.TreeHash.digest c.args.mirror.now.view c.in_default.ensures.none
          (g.S.Shelf.puts c.args.shelf.now) (g.S.Shelf.puts c.args.shelf.now) (Err NothingComplete) kept;
      flushed = puts_none (g.S.Shelf.puts c.args.shelf.now) (g.S.Shelf.puts c.args.shelf.now)
          (g.S.Shelf.flushes c.args.shelf.now) (g.S.Shelf.flushes c.args.shelf.now) kept refl;
      blamed = refl;
    }

pub returns : goal.returns
returns g c =
    let puts = g.S.Shelf.puts in
    let digest = g.H.TreeHash.digest in
    let v = c.args.mirror.now.view in
    let top = c.in-Some.top in
    let is = c.in-Some.ensures.some in
    let recorded = subst (λ o. (entries : List (List ℕ)) → IsListOf digest top entries
    → UpdatesTop digest top o entries (puts c.args.shelf.now) (puts c.update_to.new.shelf) c.update_to.result)
    c.origin.ensures c.update_to.ensures.recorded in
    let does = recorded is.served.entries (list_of digest v top is) in
    record {
      puts = updates_of digest v top is (puts c.args.shelf.now) (puts c.update_to.new.shelf) c.update_to.result does;
      nothing = (
        λ e. absurd (subst (λ (r : Result (Unit {0}) UpdateFault). UpdatesTop digest top v.origin is.served.entries
            (puts c.args.shelf.now) (puts c.update_to.new.shelf) r) e does),
        λ nothing. absurd (not_nothing digest v top is nothing),
      );
      whole = stays_whole digest v top is (puts c.args.shelf.now) (puts c.update_to.new.shelf) c.update_to.result recorded;
      flushed = c.update_to.ensures.flushed;
      blamed = c.update_to.ensures.counted;
    }
