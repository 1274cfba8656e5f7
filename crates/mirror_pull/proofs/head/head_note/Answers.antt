use Rattle.std.proofs.Common.{◌≡◌, [], map, string_bytes, ap, ◌∙◌, subst}
use Rattle.tlog_checkpoint.specs.Grammar.{IsCheckpoint}
use Rattle.signed_note.specs.KeyKinds.{secret_key}
use Rattle.signed_note.specs.Signing.{signed_line}
use Rattle.mirror_pull.proofs.Texts.{origin_line, checkpoint_text, opens_more}
use Rattle.mirror_pull.proofs.head.head_note.Goals as goal

pub write-requires : goal.write-requires
write-requires c = record {
  origin = rw (c.new.ensures, c.in_ok-from_str.ensures.ok) (origin_line c.args.origin.now c.requires.origin);
  size = c.requires.size;
  extensions = rw (c.new-3.ensures, c.new-2.ensures.items) tt;
}

pub sign-requires : goal.sign-requires
sign-requires c =
    let none : c.new-3.result ≡ [] = c.new-3.ensures ∙ ap (map string_bytes) c.new-2.ensures.items in
    let name : c.new.result ≡ c.args.origin.now = c.new.ensures ∙ c.in_ok-from_str.ensures.ok in
    let text = string_bytes c.in_ok-text.text in
    let read : IsCheckpoint text c.args.origin.now c.args.size c.args.root.now [] =
    subst (λ o. IsCheckpoint text o c.args.size c.args.root.now []) name
    (subst (λ xs. IsCheckpoint text c.new.result c.args.size c.args.root.now xs) none c.in_ok-text.ensures) in
    rw c.deref.ensures (checkpoint_text text c.args.origin.now c.args.size c.args.root.now c.requires.origin read)

pub returns : goal.returns
returns c = λ keys has.
    let none : c.new-3.result ≡ [] = c.new-3.ensures ∙ ap (map string_bytes) c.new-2.ensures.items in
    let name : c.new.result ≡ c.args.origin.now = c.new.ensures ∙ c.in_ok-from_str.ensures.ok in
    let text = string_bytes c.in_ok-text.text in
    let read : IsCheckpoint text c.args.origin.now c.args.size c.args.root.now [] =
    subst (λ o. IsCheckpoint text o c.args.size c.args.root.now []) name
    (subst (λ xs. IsCheckpoint text c.new.result c.args.size c.args.root.now xs) none c.in_ok-text.ensures) in
    record {
      text = c.deref.result.now;
      lines = _;
      extensions = [];
      is_note = c.in_ok-note.ensures.note;
      is_checkpoint = rw c.deref.ensures read;
      opens = opens_more c.deref.result.now (signed_line c.deref.result.now c.args.key.now)
          (secret_key c.args.key.now) keys has c.in_ok-note.ensures.opens;
    }
