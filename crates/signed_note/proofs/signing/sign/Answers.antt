use Rattle.std.proofs.Common.{◌≡◌, ◌++◌, ◌∷◌, List, ℕ, ap, ◌∙◌, arith}
use Rattle.std.proofs.lemmas.Result.{IfOk-from_err}
use Rattle.byteorder.specs.Endian.{big_bytes}
use Rattle.signed_note.specs.Hmac.{hmac}
use Rattle.signed_note.specs.Names.{newline}
use Rattle.tlog_text.specs.Hash.{base64_of}
use Rattle.signed_note.specs.Notes.{signed_bytes, line_text}
use Rattle.signed_note.specs.Signing.{signed_line}
use Rattle.signed_note.proofs.Signed.{signed_is_note, signed_opens, written}
use Rattle.signed_note.proofs.signing.sign.Goals as goal

bytes_are : (c : goal.After-drop-encoded-2) →
    c.into_bytes.result.items ≡ c.args.text.now ++ newline ∷ line_text (signed_line c.args.text.now c.args.key.now)
bytes_are c =
    let mac : c.mac.result ≡ hmac c.args.key.now.secret c.args.text.now =
    c.mac.ensures ∙ ap (hmac c.args.key.now.secret) c.as_bytes.ensures.value in
    let payload : c.payload_of-payload.result ≡ signed_bytes (signed_line c.args.text.now c.args.key.now) =
    c.payload_of-payload.ensures ∙
    (ap (λ (n : ℕ). big_bytes 4 n ++ c.mac.result) c.id.ensures ∙
    ap (λ (x : List ℕ). big_bytes 4 c.args.key.now.id ++ x) mac) in
    let of = c.deref.ensures ∙ (c.in_ok-encoded.ensures ∙ ap base64_of payload) in
    written c.into_bytes.result.items c.args.text.now c.own_name.result.now c.deref.result.now c.args.key.now
    (ap (λ v. v.items) c.into_bytes.ensures.value ∙ c.in_ok-note.ensures) c.own_name.ensures.name of

pub returns-clause-bytes : goal.returns-clause-bytes
returns-clause-bytes c = bytes_are c

pub returns-clause-note : goal.returns-clause-note
returns-clause-note c =
    rw (bytes_are c)
    (signed_is_note c.args.text.now c.args.key.now c.requires c.own_name.ensures.own
    (omega (arith, c.id.ensures, c.id.type_inv)))

pub returns-clause-opens : goal.returns-clause-opens
returns-clause-opens c = signed_opens c.args.text.now c.args.key.now

pub returns-in_err-encoded-clause-bytes : goal.returns-in_err-encoded-clause-bytes
returns-in_err-encoded-clause-bytes c = IfOk-from_err c.from_residual.result _ c.from_residual.ensures.0

pub returns-in_err-encoded-clause-note : goal.returns-in_err-encoded-clause-note
returns-in_err-encoded-clause-note c = IfOk-from_err c.from_residual.result _ c.from_residual.ensures.0

pub returns-in_err-encoded-clause-opens : goal.returns-in_err-encoded-clause-opens
returns-in_err-encoded-clause-opens c = IfOk-from_err c.from_residual.result _ c.from_residual.ensures.0

pub returns-in_err-note-clause-bytes : goal.returns-in_err-note-clause-bytes
returns-in_err-note-clause-bytes c = let exit = c.from_residual-in_err-note in IfOk-from_err exit.result _ exit.ensures.0

pub returns-in_err-note-clause-note : goal.returns-in_err-note-clause-note
returns-in_err-note-clause-note c = let exit = c.from_residual-in_err-note in IfOk-from_err exit.result _ exit.ensures.0

pub returns-in_err-note-clause-opens : goal.returns-in_err-note-clause-opens
returns-in_err-note-clause-opens c = let exit = c.from_residual-in_err-note in IfOk-from_err exit.result _ exit.ensures.0
