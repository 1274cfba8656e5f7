-- The reply from a copy is that of a mirror with its view.
use Rattle.std.proofs.Common.{◌≡◌, ℕ, List, Option, sym, subst}
use Rattle.signed_note.specs.declared.key_line.KeyLine.{KeyLine}
use Rattle.mirror_http.specs.Answered.{IsBodyFor, IsRequestOf, reply_with}
use Rattle.mirror_http.specs.Response.{IsBody, Response}
use Rattle.mirror_http.specs.declared.request.Request.{Request}
use Rattle.mirror_http.proofs.Replying.{responds}
use Rattle.mirror_model.specs.View.{nothing, View}
use Rattle.program_copies.specs.CopyLaws.{CopiesAnswerAsMirrors, copy_view}
use Rattle.program_copies.proofs.CopyBodies.{body_of_copy, body_of_empty}

responded : (digest : List ℕ → List ℕ) (v : View) (bytes reply : List ℕ) (request : Request) (body : Option (List ℕ)) →
    IsRequestOf bytes request → reply ≡ reply_with request body → IsBodyFor (IsBody digest v) request body →
    Response digest v bytes reply
responded digest v bytes reply request body asks e has =
    subst (λ (r : List ℕ). Response digest v bytes r) (sym e) (responds (IsBody digest v) bytes request body asks has)

pub copies_answer_as_mirrors : (AreKeys : List KeyLine → Type 0) → CopiesAnswerAsMirrors AreKeys
copies_answer_as_mirrors AreKeys digest hash last origin puts bytes reply is = record {
  empty = λ none. responded digest (nothing origin) bytes reply is.request is.body is.asks is.reply_is
      (body_of_empty digest origin puts none AreKeys last is.request is.body is.given);
  one = λ note entries of stands clear files.
      responded digest (copy_view digest origin note entries) bytes reply is.request is.body is.asks is.reply_is
      (body_of_copy digest hash origin note entries puts of AreKeys last stands is.request is.body is.given clear files);
}
