use Rattle.program_copies.proofs.LawfulViews.{copy_views_are_lawful}
use Rattle.program_copies.proofs.MirrorAnswers.{copies_answer_as_mirrors}
use Rattle.program_copies.proofs.laws.copies_answer_as_mirrors_law.Goals as goal

pub returns-clause-reply : goal.returns-clause-reply
returns-clause-reply g c = copies_answer_as_mirrors (g.K.CopyKeys.are_keys c.args._keys.now)

pub returns-clause-lawful : goal.returns-clause-lawful
returns-clause-lawful g c = copy_views_are_lawful
