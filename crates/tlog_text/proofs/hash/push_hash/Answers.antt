use Rattle.tlog_text.specs.Hash.{base64_of}
use Rattle.tlog_text.proofs.hash.push_hash.Goals as goal

pub returns-clause-ok : goal.returns-clause-ok
unfolding base64_of
returns-clause-ok c = c.encode_string.ensures.ok
