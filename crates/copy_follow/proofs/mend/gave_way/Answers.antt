use Rattle.std.proofs.Common.{subst}
use Rattle.log_reader.specs.Holding.{GoesOn}
use Rattle.copy_follow.proofs.Mending.{had_way}
use Rattle.mirror_folders.specs.Shelf.{RecordsRead}
use Rattle.std.proofs.Common.{Some}
use Rattle.copy_follow.proofs.mend.gave_way.Goals as goal

pub returns-in-Some-2-clause-had : goal.returns-in-Some-2-clause-had
returns-in-Some-2-clause-had g c = λ yes.
    let x = g.D.Shelf.puts c.args.shelf.now in
    let y = g.D.Shelf.puts c.read.new.self in
    let z = g.D.Shelf.puts c.read-2.new.self in
    let none = rw c.in-None.is at c.in_ok-read.ensures.answer in
    let there = rw c.in-Some-2.is at c.in_ok-full.ensures.answer in
    let read = subst (λ p. RecordsRead y p (Some c.in-Some-2.full.items)) c.full.ensures there in
    had_way x y z c.args.path.now c.args.bytes.now c.in-Some-2.full.items c.requires none c.read.ensures.same read
    c.read-2.ensures.same
    (subst (λ b. GoesOn c.args.path.now c.args.bytes.now b) c.deref.ensures.value (c.begins_full.ensures yes))
