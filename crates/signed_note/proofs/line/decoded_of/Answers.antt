use Rattle.std.proofs.Common.{refl, sym, ◌∙◌}
use Rattle.tlog_text.specs.Hash.{base64_of}
use Rattle.signed_note.proofs.line.decoded_of.Goals as goal

pub returns-in-Ok : goal.returns-in-Ok
unfolding base64_of
returns-in-Ok c = (c.in-Ok.ensures.bytes, sym c.as_bytes.ensures.value ∙ c.in-Ok.ensures.exact (refl, refl))

pub returns-in-Err-DecodeError : goal.returns-in-Err-DecodeError
unfolding base64_of
returns-in-Err-DecodeError c = λ bytes fit e.
    let failed = rw c.in-Err-DecodeError.field-0-is at c.in-Err-DecodeError.ensures.err in
    let decoded = (c.in-Err-DecodeError.ensures.strict (refl, refl) bytes fit).1 (c.as_bytes.ensures.value ∙ e) in
    absurd (cc (sym failed ∙ decoded))
