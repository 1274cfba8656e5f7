use Rattle.std.proofs.Common.{◌<◌, arith, rules}
use Rattle.mirror_model.specs.Answered.{answer_of}
use Rattle.tlog_mirror.proofs.PlayedMerges.{merged_in_back, merged_in_front}
use Rattle.tlog_mirror.proofs.PlayedEvents.{merged_itself}
use Rattle.tlog_mirror.proofs.plays.merge_at.Goals as goal

pub returns-then-target-source-clause-merges : goal.returns-then-target-source-clause-merges
returns-then-target-source-clause-merges g c = λ keys.
    merged_itself c.args.world.now c.args.target c.index-world-target.result c.requires.target g.H.TreeHash.digest keys
    c.args.source c.if-target-source.true (answer_of c.merge_itself.result)
    c.merge_itself.ensures.merges

pub returns-then-target-source-clause-judged : goal.returns-then-target-source-clause-judged
returns-then-target-source-clause-judged g c = rw c.merge_itself.ensures.done tt

pub returns-then-target-source-clause-itself : goal.returns-then-target-source-clause-itself
returns-then-target-source-clause-itself g c = λ same. c.merge_itself.ensures.done

pub returns-then-target-source-2 : goal.returns-then-target-source-2
returns-then-target-source-2 g c =
    let parts = c.split_at_mut-front.ensures in
    let m =
    merged_in_front g.H.TreeHash.digest c.args.world.now c.split_at_mut-front.result.0.now
    c.split_at_mut-front.result.1.now parts.value c.args.target c.args.source c.index-front-target.result
    c.index-back-0.result c.requires.target c.requires.source c.merge.new.self (answer_of c.answer_of_merge.result)
    parts.front_len c.if-target-source-2.true (rw (← c.answer_of_merge.ensures.same) at c.merge.ensures.merges)
    c.merge.ensures.remembered in
    record {
      merges = m.merges;
      judged = search rules;
      itself = λ same. absurd (omega (arith, same, c.if-target-source-2.true));
      origins = m.origins;
      remembered = m.remembered;
    }

pub returns : goal.returns
returns g c =
    let parts = c.split_at_mut-front-2.ensures in
    let below : c.args.source < c.args.target = omega (arith, c.if-target-source.false, c.if-target-source-2.false) in
    let m =
    merged_in_back g.H.TreeHash.digest c.args.world.now c.split_at_mut-front-2.result.0.now
    c.split_at_mut-front-2.result.1.now parts.value c.args.target c.args.source c.index-back-0-2.result
    c.index-front-source.result c.requires.target c.requires.source c.merge-2.new.self (answer_of c.answer_of_merge-2.result)
    parts.front_len below (rw (← c.answer_of_merge-2.ensures.same) at c.merge-2.ensures.merges)
    c.merge-2.ensures.remembered in
    record {
      merges = m.merges;
      judged = search rules;
      itself = λ same. absurd (omega (arith, same, below));
      origins = m.origins;
      remembered = m.remembered;
    }
