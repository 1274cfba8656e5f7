use Rattle.std.proofs.Common.{option_map}
use Rattle.clap.specs.Words.{found_of}
use Rattle.program_words.proofs.Refusing.{given_as}
use Rattle.program_words.proofs.parts.word_given.Goals as goal

pub returns : goal.returns
returns c =
    given_as (found_of c.args.found.now) c.args.name.now (option_map (λ s. s.now) c.get_str.result) c.get_str.ensures
