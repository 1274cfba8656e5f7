use Rattle.std.proofs.Common.{ℕ, List, Some, inr, sym, ap, subst, ◌∙◌}
use Rattle.std.specs.Prelude.{option_map}
use Rattle.std.proofs.lemmas.Bool.{false≢true}
use Rattle.std.proofs.lemmas.Result.{err_from_is_err_and}
use Rattle.mirror_files.specs.Beginnings.{PutsLast}
use Rattle.mirror_folders.proofs.Securing.{puts_none, puts_then}
use Rattle.mirror_files.proofs.Flushing.{update_last}
use Rattle.mirror_files.proofs.Updated.{count_of, not_counted, top_goes_on}
use Rattle.mirror_files.proofs.UpdateSteps.{cut_off, last_put, no_since, not_read}
use Rattle.mirror_files.proofs.updating.update_to.Goals as goal

-- the checkpoint could not be read
pub returns-in_err-found : goal.returns-in_err-found
returns-in_err-found g c =
    let puts = g.S.Shelf.puts in
    let failed = g.S.Shelf.failed in
    let e = c.in_err-found.field-0.0 in
    let p = err_from_is_err_and c.from_residual.result c.from_residual.ensures.1 in
    rw (p.1, p.2) record {
      recorded = λ entries is. not_read g.H.TreeHash.digest c.args.top.now c.args.origin.now entries (Unit {0})
          (puts c.args.shelf.now) (puts c.read.new.self) e c.in_err-found.ensures.same;
      flushed = puts_none (puts c.args.shelf.now) (puts c.read.new.self) (g.S.Shelf.flushes c.args.shelf.now)
          (g.S.Shelf.flushes c.read.new.self) c.in_err-found.ensures.same c.in_err-found.ensures.still;
      counted = count_of (Unit {0}) (failed c.args.shelf.now) (failed c.read.new.self) e c.in_err-found.ensures.counted;
    }

-- the bytes that were found are no checkpoint of the log
pub returns-in_err-since : goal.returns-in_err-since
returns-in_err-since g c =
    let puts = g.S.Shelf.puts in
    let failed = g.S.Shelf.failed in
    let digest = g.H.TreeHash.digest in
    let fault = c.in_err-since.field-0.0 in
    let p = err_from_is_err_and c.from_residual-in_err-since.result c.from_residual-in_err-since.ensures.1 in
    rw (p.1, p.2) record {
      recorded = λ entries is. no_since digest c.args.top.now c.args.origin.now entries (Unit {0}) (puts c.args.shelf.now)
          (puts c.read.new.self) _ fault c.in_ok-found.ensures.same c.in_ok-found.ensures.answer c.in_err-since.ensures;
      flushed = puts_none (puts c.args.shelf.now) (puts c.read.new.self) (g.S.Shelf.flushes c.args.shelf.now)
          (g.S.Shelf.flushes c.read.new.self) c.in_ok-found.ensures.same c.in_ok-found.ensures.still;
      counted = not_counted digest (Unit {0}) c.args.top.now c.args.origin.now _ (failed c.args.shelf.now)
          (failed c.read.new.self) fault c.in_err-since.ensures c.in_ok-found.ensures.counted;
    }

-- some tiles or bundles were not put
pub returns-in_err-put_parts-clause-recorded : goal.returns-in_err-put_parts-clause-recorded
returns-in_err-put_parts-clause-recorded g c =
    let puts = g.S.Shelf.puts in
    let digest = g.H.TreeHash.digest in
    let top = c.args.top.now in
    let origin = c.args.origin.now in
    let found = option_map (λ v. v.items) c.in_ok-found.found in
    let since = c.in_ok-since.since in
    let p = err_from_is_err_and c.from_residual-in_err-put_parts.result c.from_residual-in_err-put_parts.ensures.1 in
    λ entries is. rw (p.1, p.2) (cut_off digest top origin entries found since
    (top_goes_on digest top origin found since c.in_ok-since.ensures) (Unit {0}) (puts c.args.shelf.now)
    (puts c.read.new.self) (puts c.put_parts.new.shelf) c.in_err-put_parts.field-0.0 c.in_ok-found.ensures.same
    c.in_ok-found.ensures.answer (c.in_err-put_parts.ensures.recorded entries is))

-- the checkpoint was put, or not
pub returns-clause-recorded : goal.returns-clause-recorded
returns-clause-recorded g c =
    let puts = g.S.Shelf.puts in
    let digest = g.H.TreeHash.digest in
    let top = c.args.top.now in
    let origin = c.args.origin.now in
    let found = option_map (λ v. v.items) c.in_ok-found.found in
    let since = c.in_ok-since.since in
    let note = c.bytes-note.ensures.bytes ∙ c.note.ensures in
    λ entries is. last_put digest top origin entries found since
    (top_goes_on digest top origin found since c.in_ok-since.ensures) (puts c.args.shelf.now) (puts c.read.new.self)
    (puts c.put_parts.new.shelf) (puts c.put_last.new.shelf) c.put_last.result c.in_ok-found.ensures.same
    c.in_ok-found.ensures.answer
    (λ same. false≢true (sym c.if-is_found.false ∙ c.is_found.ensures.1 (same ∙ ap (λ (l : List ℕ). Some l) (sym note))))
    (c.in_ok-put_parts.ensures.recorded entries is)
    (subst (λ (l : List ℕ). PutsLast (puts c.put_parts.new.shelf) (puts c.put_last.new.shelf) found l c.put_last.result)
    note c.put_last.ensures.puts)

-- ---- the files to flush

pub returns-then-is_found-clause-flushed : goal.returns-then-is_found-clause-flushed
returns-then-is_found-clause-flushed g c = inr c.in_ok-found.ensures.same

pub returns-in_err-put_parts-clause-flushed : goal.returns-in_err-put_parts-clause-flushed
returns-in_err-put_parts-clause-flushed g c =
    let puts = g.S.Shelf.puts in
    let flushes = g.S.Shelf.flushes in
    let p = err_from_is_err_and c.from_residual-in_err-put_parts.result c.from_residual-in_err-put_parts.ensures.1 in
    rw p.1 (puts_then (puts c.args.shelf.now) (puts c.read.new.self) (puts c.put_parts.new.shelf) (flushes c.args.shelf.now)
    (flushes c.read.new.self) (flushes c.put_parts.new.shelf)
    (puts_none (puts c.args.shelf.now) (puts c.read.new.self) (flushes c.args.shelf.now) (flushes c.read.new.self)
    c.in_ok-found.ensures.same c.in_ok-found.ensures.still) c.in_err-put_parts.ensures.secured)

pub returns-clause-flushed : goal.returns-clause-flushed
returns-clause-flushed g c =
    let puts = g.S.Shelf.puts in
    let flushes = g.S.Shelf.flushes in
    update_last (puts c.args.shelf.now) (puts c.put_parts.new.shelf) (puts c.put_last.new.shelf) (flushes c.args.shelf.now)
    (flushes c.put_parts.new.shelf) (flushes c.put_last.new.shelf)
    (puts_then (puts c.args.shelf.now) (puts c.read.new.self) (puts c.put_parts.new.shelf) (flushes c.args.shelf.now)
    (flushes c.read.new.self) (flushes c.put_parts.new.shelf)
    (puts_none (puts c.args.shelf.now) (puts c.read.new.self) (flushes c.args.shelf.now) (flushes c.read.new.self)
    c.in_ok-found.ensures.same c.in_ok-found.ensures.still) c.in_ok-put_parts.ensures.secured)
    (option_map (λ v. v.items) c.in_ok-found.found) _ c.put_last.result c.put_last.ensures.puts c.put_last.ensures.flushed
