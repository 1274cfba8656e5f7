use Rattle.std.proofs.Common.{map}
use Rattle.mirror_model.specs.Answered.{answer_of}
use Rattle.tlog_mirror.proofs.PlayedEvents.{remembers, taken_at}
use Rattle.tlog_mirror.proofs.JudgedEvents.{judged_at, taken_origins}
use Rattle.tlog_mirror.proofs.plays.take_at.Goals as goal

pub returns-clause-takes : goal.returns-clause-takes
returns-clause-takes g c =
    taken_at c.args.world.now c.args.target c.index-world-target.result c.requires.target g.H.TreeHash.digest
    (map (λ b. (goal.Verifier-dyn g (b.vtable, b.value)).key b.value) c.args.keys.now) c.args.item.now
    (answer_of c.take_item.result) c.take_item.new.mirror c.take_item.ensures.takes

pub returns-clause-remembered : goal.returns-clause-remembered
returns-clause-remembered g c =
    remembers c.args.world.now c.args.target c.index-world-target.result c.requires.target c.take_item.new.mirror
    c.take_item.ensures.remembered

pub returns-clause-judged : goal.returns-clause-judged
returns-clause-judged g c =
    judged_at g.H.TreeHash.digest
    (map (λ b. (goal.Verifier-dyn g (
      b.vtable,
      b.value,
    )).key b.value) c.args.keys.now) c.args.world.now c.args.target c.index-world-target.result c.requires.target
    c.args.item.now c.take_item.result c.take_item.ensures.judged

pub returns-clause-origins : goal.returns-clause-origins
returns-clause-origins g c =
    taken_origins g.H.TreeHash.digest
    (map (λ b. (goal.Verifier-dyn g (
      b.vtable,
      b.value,
    )).key b.value) c.args.keys.now) c.args.world.now c.args.target c.index-world-target.result c.requires.target
    c.args.item.now (answer_of c.take_item.result) c.take_item.new.mirror c.take_item.ensures.takes
