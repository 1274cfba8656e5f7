use Rattle.tlog_text.specs.Hash.{base64_of, IsHashText}
use Rattle.tlog_text.proofs.Hashes.{one_hash}
use Rattle.tlog_proof.proofs.Lines.{base64_lacks_newline}
use Rattle.tlog_proof.proofs.read.hash_field.Goals as goal

pub returns-in_default-clause-complete : goal.returns-in_default-clause-complete
returns-in_default-clause-complete c = λ hash rest h e.
    c.in_default.ensures.complete (base64_of hash) rest (base64_lacks_newline hash) e

pub returns-in-Some-read_hash-clause-complete : goal.returns-in-Some-read_hash-clause-complete
returns-in-Some-read_hash-clause-complete c = λ hash rest h e.
    let found = c.in-Some.ensures.complete (base64_of hash) rest (base64_lacks_newline hash) e in
    let is : IsHashText c.in-Some.encoded.now hash = record { is_hash = h; is_base64 = found.0 } in
    (one_hash c.in-Some.encoded.now c.in-Some-read_hash.hash hash c.in-Some-read_hash.ensures.some is, found.1)

pub returns-in-None-clause-complete : goal.returns-in-None-clause-complete
returns-in-None-clause-complete c = λ hash rest h e.
    let found = c.in-Some.ensures.complete (base64_of hash) rest (base64_lacks_newline hash) e in
    c.in-None.ensures.none hash (record { is_hash = h; is_base64 = found.0 })
