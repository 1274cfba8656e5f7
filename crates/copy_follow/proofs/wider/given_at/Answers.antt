use Rattle.copy_follow.proofs.wider.given_at.Goals as goal

pub returns-in-Ok-File-clause-given : goal.returns-in-Ok-File-clause-given
returns-in-Ok-File-clause-given g c = record {
  index = c.args.place;
  listed = c.requires.place;
  may_be = rw c.in-Ok-File.field-0-is at c.in-Ok-File.ensures.answer;
}
