use Rattle.std.proofs.Common.{lit<}
use Rattle.program_words.specs.Spelling.{colon}
use Rattle.program_words.proofs.Places.{last_lacks, none_lacks}
use Rattle.program_words.proofs.place.name_and_digits.Goals as goal

pub returns-clause-last : goal.returns-clause-last
returns-clause-last c = last_lacks colon c.args.host.now c.rsplit_once.result c.rsplit_once.ensures.cases (lit< tt)

pub returns-clause-none : goal.returns-clause-none
returns-clause-none c = none_lacks colon c.args.host.now c.rsplit_once.result c.rsplit_once.ensures.cases (lit< tt)
