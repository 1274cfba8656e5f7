use Rattle.std.proofs.Common.{sym, refl}
use Rattle.byteorder.specs.Endian.{big_bytes}
use Rattle.signed_note.proofs.KeyWords.{not_sized}
use Rattle.signed_note.proofs.key_words.id_of.Goals as goal

pub returns-in_err-bytes-clause-none : goal.returns-in_err-bytes-clause-none
returns-in_err-bytes-clause-none c =
    rw c.from_residual.ensures
    (λ id h. not_sized c.args.digits.now (big_bytes 4 id) 4 c.from_hex.result c.from_hex.ensures
    (sym c.in_err-bytes.ensures.variant) refl h)

pub returns-in_err-bytes-clause-found : goal.returns-in_err-bytes-clause-found
returns-in_err-bytes-clause-found c = rw c.from_residual.ensures tt
