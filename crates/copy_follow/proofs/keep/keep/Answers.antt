use Rattle.std.proofs.Common.{inl}
use Rattle.copy_follow.proofs.Earlier.{kept_then, stands_kept}
use Rattle.std.proofs.Common.{◌≡◌}
use Rattle.copy_follow.proofs.Secured.{after_still}
use Rattle.copy_follow.proofs.keep.keep.Goals as goal

pub returns-in_err-flush_before_checkpoint-clause-puts : goal.returns-in_err-flush_before_checkpoint-clause-puts
returns-in_err-flush_before_checkpoint-clause-puts g c = inl (kept_then (g.D.Shelf.puts c.args.shelf.now)
    (g.D.Shelf.puts c.stands.new.shelf) (g.D.Shelf.puts c.flush_before_checkpoint.new.self) c.stands.ensures.same
    c.flush_before_checkpoint.ensures.same)

pub returns-then-branch-clause-puts : goal.returns-then-branch-clause-puts
returns-then-branch-clause-puts g c = inl (kept_then (g.D.Shelf.puts c.args.shelf.now)
    (g.D.Shelf.puts c.stands.new.shelf) (g.D.Shelf.puts c.flush_before_checkpoint.new.self) c.stands.ensures.same
    c.flush_before_checkpoint.ensures.same)

pub returns-then-branch-clause-stands : goal.returns-then-branch-clause-stands
returns-then-branch-clause-stands g c = stands_kept (g.D.Shelf.puts c.args.shelf.now)
    (g.D.Shelf.puts c.stands.new.shelf) (g.D.Shelf.puts c.flush_before_checkpoint.new.self) c.args.path.now c.args.bytes.now
    (c.in_ok-stands.ensures.there c.if-branch.true) c.flush_before_checkpoint.ensures.same

pub returns-then-branch-clause-secured : goal.returns-then-branch-clause-secured
returns-then-branch-clause-secured g c =
    let flushes = g.D.Shelf.flushes in
    after_still (λ p. p ≡ c.args.path.now) (flushes c.args.shelf.now) (flushes c.stands.new.shelf)
    (flushes c.flush_before_checkpoint.new.self) c.stands.ensures.still c.in_ok-flush_before_checkpoint.ensures.secured

pub returns-clause-secured : goal.returns-clause-secured
returns-clause-secured g c =
    let flushes = g.D.Shelf.flushes in
    after_still (λ p. p ≡ c.args.path.now) (flushes c.args.shelf.now) (flushes c.stands.new.shelf) (flushes c.put.new.self)
    c.stands.ensures.still c.in_ok-put.ensures.secured
