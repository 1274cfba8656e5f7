use Rattle.std.proofs.Common.{ℕ, ◌<◌, length, replicate, ap, sym, subst, ◌∙◌, arith}
use Rattle.std.specs.Prelude.{slice_index}
use Rattle.base64.specs.Engines.{standard}
use Rattle.base64.specs.GeneralPurpose.{decode_slice_of, decoded_bytes_of, IsBytes}
use Rattle.base64.specs.Decode.{IsWrittenOver}
use Rattle.tlog_text.specs.Hash.{IsHashText}
use Rattle.tlog_text.proofs.Hashes.{found, length-hash, other_len, refused}
use Rattle.tlog_text.proofs.hash.read_hash.Goals as goal

pub returns-then-text-ne-SYMBOLS-clause-none : goal.returns-then-text-ne-SYMBOLS-clause-none
returns-then-text-ne-SYMBOLS-clause-none c =
    λ hash h. c.if-text-ne-SYMBOLS.true (ap length h.is_base64 ∙ length-hash hash h.is_hash)

pub returns-in_default-clause-none : goal.returns-in_default-clause-none
returns-in_default-clause-none c =
    let bytes : (i : ℕ) → slice_index c.args.text.now i < 256 = λ i. let f = c.type_inv.text i in omega arith in
    let value = c.decode_slice.ensures.value ∙ ap (λ s. decode_slice_of standard s 33) c.as_bytes.ensures.value in
    refused c.args.text.now bytes c.if-text-ne-SYMBOLS.false c.decode_slice.result value c.in_default.not-Ok

pub returns-then-len-ne32-clause-none : goal.returns-then-len-ne32-clause-none
returns-then-len-ne32-clause-none c =
    let bytes : (i : ℕ) → slice_index c.args.text.now i < 256 = λ i. let f = c.type_inv.text i in omega arith in
    let value = c.decode_slice.ensures.value ∙ ap (λ s. decode_slice_of standard s 33) c.as_bytes.ensures.value in
    other_len c.args.text.now bytes c.if-text-ne-SYMBOLS.false c.decode_slice.result c.in-Ok.len value c.in-Ok.is
    c.if-len-ne32.true

pub returns-clause-some : goal.returns-clause-some
returns-clause-some c =
    let text = c.args.text.now in
    let bytes : (i : ℕ) → slice_index text i < 256 = λ i. let f = c.type_inv.text i in omega arith in
    let value = c.decode_slice.ensures.value ∙ ap (λ s. decode_slice_of standard s 33) c.as_bytes.ensures.value in
    let written =
    subst (λ s. IsWrittenOver (decoded_bytes_of standard s)
    (replicate 33 0) c.decode_slice.new.output) c.as_bytes.ensures.value c.in-Ok.ensures.written in
    let are = subst (λ s. IsBytes (decoded_bytes_of standard s)) c.as_bytes.ensures.value c.in-Ok.ensures.bytes in
    subst (IsHashText text) (sym c.drop_last.ensures)
    (found text bytes c.if-text-ne-SYMBOLS.false
    (replicate 33 0) c.decode_slice.new.output c.decode_slice.result c.in-Ok.len value c.in-Ok.is c.if-len-ne32.false
    written are)
