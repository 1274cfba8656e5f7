use Rattle.std.proofs.Common.{◌++◌, ◌∙◌, ap, map, refl, subst, sym}
use Rattle.signed_note.specs.KeyKinds.{pinned_key, secret_key}
use Rattle.signed_note.specs.contracts.mac_key.HmacKey as hmac
use Rattle.signed_note.specs.contracts.pinned.PinnedTexts as pinned
use Rattle.signed_note.specs.Verifiers.{key_of}
use Rattle.mirror_model.specs.Refusals.{ReadsHead}
use Rattle.program_copies.proofs.MadeKeys.{all_boxes, key_in, made_first, made_second, none_left, one_more}
use Rattle.program_copies.proofs.opening.open_under.Goals as goal

pub loop-line-init : goal.loop-line-init
loop-line-init c = (
  tt,
  tt,
  ap (λ keys. map (key_in secret_key pinned_key) keys ++ map key_of c.into_iter-line-iterator.result.rest.items)
      c.new-keys.ensures.items,
)

pub loop-line-preserved-in-Ok-push : goal.loop-line-preserved-in-Ok-push
loop-line-preserved-in-Ok-push c = (
  tt,
  tt,
  one_more (key_in secret_key pinned_key) key_of c.loop-line.keys.items c.push.new.self.items c.into_dyn_box.result
      c.in-Some.line c.loop-line.line-iterator.rest.items c.next.new.self.rest.items
      (map key_of c.into_iter-line-iterator.result.rest.items) c.in-Ok-push.ensures.items c.in-Some.ensures.steps.0
      (made_first secret_key pinned_key hmac.the_row.coded (λ y. refl) c.into_dyn_box.result.vtable
      c.into_dyn_box.result.value c.in-Ok.key.value c.into_dyn_box.ensures.1
      ∙ (ap secret_key c.in-Ok.ensures.ok ∙ sym (ap key_of c.in-Hmac.is))) c.loop-line.invariant.2,
)

pub loop-line-preserved : goal.loop-line-preserved
loop-line-preserved c = (
  tt,
  tt,
  one_more (key_in secret_key pinned_key) key_of c.loop-line.keys.items c.push-in-Pin.new.self.items
      c.into_dyn_box-in-Pin.result c.in-Some.line c.loop-line.line-iterator.rest.items c.next.new.self.rest.items
      (map key_of c.into_iter-line-iterator.result.rest.items) c.in-Ok-push-2.ensures.items
      c.in-Some.ensures.steps.0
      (made_second secret_key pinned_key pinned.the_row.coded (λ y. refl) c.into_dyn_box-in-Pin.result.vtable
      c.into_dyn_box-in-Pin.result.value c.in-Ok-new.texts.value c.into_dyn_box-in-Pin.ensures.1
      ∙ (ap pinned_key c.in-Ok-new.ensures.ok ∙ sym (ap key_of c.in-Pin.is))) c.loop-line.invariant.2,
)

pub returns : goal.returns
returns c =
    let boxed =
    ap (map _) c.deref.ensures.value
    ∙ (all_boxes secret_key pinned_key _ (λ b x. refl) (λ b x. refl) c.loop-line.keys.items
    ∙ (none_left (map (key_in secret_key pinned_key) c.loop-line.keys.items) key_of
    c.loop-line.line-iterator.rest.items (sym c.loop-line.line-iterator.rest.ok.0 ∙ c.in-None.ensures.steps.0)
    (map key_of c.into_iter-line-iterator.result.rest.items) c.loop-line.invariant.2
    ∙ ap (map key_of) c.into_iter-line-iterator.ensures.into_iter_gives.0)) in
    subst (λ keys. ReadsHead c.args.note.now c.args.origin.now keys c.open_head.result) boxed c.open_head.ensures
