use Rattle.copy_commands.proofs.PlacePerforming.{same_answer}
use Rattle.copy_commands.proofs.follow.follow_among.Goals as goal

pub returns-clause-does : goal.returns-clause-does
returns-clause-does g c =
    same_answer _ g.S.Source.may_answer g.S.Source.failed g.S.Source.asked _ _ _ c.args.places c.args.follow.now
    c.repair_or_follow-answer.result c.followed.result c.followed.ensures c.repair_or_follow-answer.ensures.does
