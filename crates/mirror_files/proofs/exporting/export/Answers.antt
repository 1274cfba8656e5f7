use Rattle.std.proofs.Common.{Bool, Ok, Err, refl, subst, ◌∙◌}
use Rattle.std.proofs.lemmas.Result.{err_from_is_err_and}
use Rattle.tlog_tiles.specs.declared.paths.Path.TheVariants.{Checkpoint}
use Rattle.mirror_files.proofs.Exported.{all_put, cut_put, count_of, not_nothing, not_put, other_fault, same_recorded}
use Rattle.mirror_files.proofs.Exported.{records_none, records_some}
use Rattle.mirror_files.specs.Faults.{of_shelf}
use Rattle.mirror_folders.specs.Shelf.{CountsFailures, RecordsHas}
use Rattle.mirror_files.proofs.Moments.{checkpoint_last, kept_last}
use Rattle.mirror_folders.proofs.Securing.{puts_none, puts_then, then_flushes}
use Rattle.mirror_trees.proofs.ServedParts.{list_of}
use Rattle.mirror_files.proofs.exporting.export.Goals as goal

pub returns : goal.returns
returns g c =
    let puts = g.S.Shelf.puts in
    let flushes = g.S.Shelf.flushes in
    let digest = g.H.TreeHash.digest in
    let v = c.args.mirror.now.view in
    let is = c.in-Some.ensures.some in
    let free = records_none (puts c.args.shelf.now) Checkpoint
    (subst (λ b. RecordsHas (puts c.args.shelf.now) Checkpoint b) c.if-in_use.false c.in_ok-in_use.ensures.answer) in
    let all = all_put digest v c.in-Some.top is (puts c.args.shelf.now)
    (puts c.has.new.self) (puts c.put_served.new.shelf) (tt {0}) c.in_ok-in_use.ensures.same free
    (c.in_ok-put_served.ensures.recorded is.served.entries (list_of digest v c.in-Some.top is)) in
    record {
      puts = all;
      nothing = (λ e. cc, λ nothing. absurd (not_nothing digest v c.in-Some.top is nothing));
      last = checkpoint_last digest v (puts c.args.shelf.now) (puts c.put_served.new.shelf) (Ok (tt {0})) all;
      flushed = then_flushes (puts c.args.shelf.now) (puts c.has.new.self) (puts c.put_served.new.shelf)
          (flushes c.args.shelf.now) (flushes c.has.new.self) (flushes c.put_served.new.shelf) c.in_ok-in_use.ensures.same
          c.in_ok-in_use.ensures.still c.in_ok-put_served.ensures.flushed;
      blamed = c.in_ok-put_served.ensures.counted ∙ c.in_ok-in_use.ensures.counted;
    }

pub returns-in_default : goal.returns-in_default
returns-in_default g c =
    let puts = g.S.Shelf.puts in
    let flushes = g.S.Shelf.flushes in
    let kept = same_recorded (puts c.args.shelf.now) in
    record {
      puts = kept;
      nothing = (λ _. c.in_default.ensures.none, λ _. refl);
      last = kept_last g.H.TreeHash.digest c.args.mirror.now.view (puts c.args.shelf.now) (puts c.args.shelf.now) kept;
      flushed = puts_none (puts c.args.shelf.now) (puts c.args.shelf.now) (flushes c.args.shelf.now)
          (flushes c.args.shelf.now) kept refl;
      blamed = refl;
    }

pub returns-then-in_use : goal.returns-then-in_use
returns-then-in_use g c =
    let puts = g.S.Shelf.puts in
    let flushes = g.S.Shelf.flushes in
    let is = c.in-Some.ensures.some in
    let used = records_some (puts c.args.shelf.now) Checkpoint
    (subst (λ b. RecordsHas (puts c.args.shelf.now) Checkpoint b) c.if-in_use.true c.in_ok-in_use.ensures.answer) in
    record {
      puts = (c.in_ok-in_use.ensures.same, used);
      nothing = (
        λ e. cc,
        λ nothing. absurd (not_nothing g.H.TreeHash.digest c.args.mirror.now.view c.in-Some.top is nothing),
      );
      last = kept_last g.H.TreeHash.digest c.args.mirror.now.view (puts c.args.shelf.now) (puts c.has.new.self)
          c.in_ok-in_use.ensures.same;
      flushed = puts_none (puts c.args.shelf.now) (puts c.has.new.self) (flushes c.args.shelf.now) (flushes c.has.new.self)
          c.in_ok-in_use.ensures.same c.in_ok-in_use.ensures.still;
      blamed = c.in_ok-in_use.ensures.counted;
    }

pub returns-in_err-in_use : goal.returns-in_err-in_use
returns-in_err-in_use g c =
    let puts = g.S.Shelf.puts in
    let flushes = g.S.Shelf.flushes in
    let failed = g.S.Shelf.failed in
    let digest = g.H.TreeHash.digest in
    let v = c.args.mirror.now.view in
    let is = c.in-Some.ensures.some in
    let p = err_from_is_err_and c.from_residual.result c.from_residual.ensures.1 in
    let put = not_put digest v c.in-Some.top is (Unit {0}) (puts c.args.shelf.now) (puts c.has.new.self)
    c.in_err-in_use.field-0.0 c.in_err-in_use.ensures.same in
    rw (p.1, p.2) record {
      puts = put;
      nothing = (
        λ e. absurd (other_fault (Unit {0}) c.in_err-in_use.field-0.0 e),
        λ nothing. absurd (not_nothing digest v c.in-Some.top is nothing),
      );
      last = checkpoint_last digest v {T = Unit {0}} (puts c.args.shelf.now) (puts c.has.new.self)
          (Err (of_shelf c.in_err-in_use.field-0.0)) put;
      flushed = puts_none (puts c.args.shelf.now) (puts c.has.new.self) (flushes c.args.shelf.now) (flushes c.has.new.self)
          c.in_err-in_use.ensures.same c.in_err-in_use.ensures.still;
      blamed = count_of Bool (Unit {0}) (failed c.args.shelf.now) (failed c.has.new.self) c.in_err-in_use.field-0.0
          c.in_err-in_use.ensures.counted;
    }

pub returns-in_err-put_served : goal.returns-in_err-put_served
returns-in_err-put_served g c =
    let puts = g.S.Shelf.puts in
    let flushes = g.S.Shelf.flushes in
    let failed = g.S.Shelf.failed in
    let digest = g.H.TreeHash.digest in
    let v = c.args.mirror.now.view in
    let is = c.in-Some.ensures.some in
    let e = c.in_err-put_served.field-0.0 in
    let p = err_from_is_err_and c.from_residual-in_err-put_served.result c.from_residual-in_err-put_served.ensures.1 in
    let free = records_none (puts c.args.shelf.now) Checkpoint
    (subst (λ b. RecordsHas (puts c.args.shelf.now) Checkpoint b) c.if-in_use.false c.in_ok-in_use.ensures.answer) in
    let put = cut_put digest v c.in-Some.top is (Unit {0})
    (puts c.args.shelf.now) (puts c.has.new.self) (puts c.put_served.new.shelf) e c.in_ok-in_use.ensures.same free
    (c.in_err-put_served.ensures.recorded is.served.entries (list_of digest v c.in-Some.top is)) in
    rw (p.1, p.2) record {
      puts = put;
      nothing =
          (λ q. absurd (other_fault (Unit {0}) e q), λ nothing. absurd (not_nothing digest v c.in-Some.top is nothing));
      last = checkpoint_last digest v {T = Unit {0}} (puts c.args.shelf.now) (puts c.put_served.new.shelf)
          (Err (of_shelf e)) put;
      flushed = puts_then (puts c.args.shelf.now) (puts c.has.new.self) (puts c.put_served.new.shelf)
          (flushes c.args.shelf.now) (flushes c.has.new.self) (flushes c.put_served.new.shelf)
          (puts_none (puts c.args.shelf.now) (puts c.has.new.self) (flushes c.args.shelf.now) (flushes c.has.new.self)
          c.in_ok-in_use.ensures.same c.in_ok-in_use.ensures.still) c.in_err-put_served.ensures.flushed;
      blamed = count_of (Unit {0}) (Unit {0}) (failed c.args.shelf.now) (failed c.put_served.new.shelf)
          e (subst (λ n. CountsFailures {T = Unit {0}} n (failed c.put_served.new.shelf) (Err e))
          c.in_ok-in_use.ensures.counted c.in_err-put_served.ensures.counted);
    }
