use Rattle.std.proofs.Common.{refl, subst}
use Rattle.std.proofs.lemmas.Result.{err_from_is_err_and}
use Rattle.mirror_folders.specs.Flushes.{FlushesAll}
use Rattle.mirror_folders.proofs.Securing.{loses_none, then_secures}
use Rattle.mirror_files.proofs.updating.put_last.Goals as goal

pub returns-in_err-again-clause-flushed : goal.returns-in_err-again-clause-flushed
returns-in_err-again-clause-flushed g c =
    let p = err_from_is_err_and c.from_residual.result c.from_residual.ensures.1 in
    rw p.1 (loses_none (g.S.Shelf.flushes c.args.shelf.now) (g.S.Shelf.flushes c.read.new.self) c.in_err-again.ensures.still)

pub returns-then-not-is_same_found-clause-flushed : goal.returns-then-not-is_same_found-clause-flushed
returns-then-not-is_same_found-clause-flushed g c =
    loses_none (g.S.Shelf.flushes c.args.shelf.now) (g.S.Shelf.flushes c.read.new.self) c.in_ok-again.ensures.still

pub returns-in_err-put-clause-flushed : goal.returns-in_err-put-clause-flushed
returns-in_err-put-clause-flushed g c =
    let flushes = g.S.Shelf.flushes in
    let p = err_from_is_err_and c.from_residual-in_err-put.result c.from_residual-in_err-put.ensures.1 in
    rw p.1 (then_secures (λ _. ⊥) (flushes c.args.shelf.now) (flushes c.read.new.self) (flushes c.put.new.self)
    (loses_none (flushes c.args.shelf.now) (flushes c.read.new.self) c.in_ok-again.ensures.still) c.in_err-put.ensures.secured)

pub returns-clause-flushed : goal.returns-clause-flushed
returns-clause-flushed g c =
    subst (λ q. FlushesAll q (g.S.Shelf.flushes c.put.new.self)) c.in_ok-again.ensures.still (c.in_ok-put.ensures.flushed refl)
