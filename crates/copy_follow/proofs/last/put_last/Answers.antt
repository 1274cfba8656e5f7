use Rattle.std.proofs.Common.{refl, subst}
use Rattle.mirror_folders.specs.Flushes.{FlushesAll}
use Rattle.copy_follow.proofs.last.put_last.Goals as goal

pub returns-clause-flushed : goal.returns-clause-flushed
returns-clause-flushed g c =
    subst (λ q. FlushesAll q (g.D.Shelf.flushes c.put.new.self)) c.read.ensures.still (c.in_ok-put.ensures.flushed refl)
