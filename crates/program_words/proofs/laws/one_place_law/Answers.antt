use Rattle.program_words.proofs.Places.{literal_server, one_place, plain_name}
use Rattle.program_words.proofs.laws.one_place_law.Goals as goal

pub returns : goal.returns
returns c = record { one = one_place; literal = literal_server; name = plain_name }
