use Rattle.std.proofs.Common.{◌++◌, ◌∙◌, ap, inr, map, refl, sym}
use Rattle.sha2.specs.Sha256.{sha256}
use Rattle.signed_note.specs.KeyKinds.{pinned_key, secret_key}
use Rattle.signed_note.specs.contracts.mac_key.HmacKey as hmac
use Rattle.signed_note.specs.contracts.pinned.PinnedTexts as pinned
use Rattle.signed_note.specs.Verifiers.{key_of}
use Rattle.signed_note.specs.declared.key_fault.KeyFileFault.TheVariants.{OutOfMemory}
use Rattle.program_library.proofs.Keyed.{lines_lack, runs_under}
use Rattle.program_library.proofs.MadeKeys.{all_boxes, key_in, made_first, made_second, none_left, one_more}
use Rattle.program_library.proofs.running.run_keyed.Goals as goal

pub loop-line-init : goal.loop-line-init
loop-line-init g c = (
  tt,
  tt,
  ap (λ keys. map (key_in secret_key pinned_key) keys ++ map key_of c.into_iter-line-iterator.result.rest.items)
      c.new-keys.ensures.items,
)

pub loop-line-preserved-in-Ok-push : goal.loop-line-preserved-in-Ok-push
loop-line-preserved-in-Ok-push g c = (
  tt,
  tt,
  one_more (key_in secret_key pinned_key) key_of c.loop-line.keys.items c.push.new.self.items c.into_dyn_box.result
      c.in-Some.line c.loop-line.line-iterator.rest.items c.next.new.self.rest.items
      (map key_of c.into_iter-line-iterator.result.rest.items) c.in-Ok-push.ensures.items c.in-Some.ensures.steps.0
      (made_first secret_key pinned_key hmac.the_row.coded (λ y. refl) c.into_dyn_box.result.vtable
      c.into_dyn_box.result.value c.in-Ok.key.value c.into_dyn_box.ensures.1
      ∙ (ap secret_key c.in-Ok.ensures.ok ∙ sym (ap key_of c.in-Hmac.is))) c.loop-line.invariant.2,
)

pub loop-line-preserved : goal.loop-line-preserved
loop-line-preserved g c = (
  tt,
  tt,
  one_more (key_in secret_key pinned_key) key_of c.loop-line.keys.items c.push-in-Pin.new.self.items
      c.into_dyn_box-in-Pin.result c.in-Some.line c.loop-line.line-iterator.rest.items c.next.new.self.rest.items
      (map key_of c.into_iter-line-iterator.result.rest.items) c.in-Ok-push-2.ensures.items
      c.in-Some.ensures.steps.0
      (made_second secret_key pinned_key pinned.the_row.coded (λ y. refl) c.into_dyn_box-in-Pin.result.vtable
      c.into_dyn_box-in-Pin.result.value c.in-Ok-new.texts.value c.into_dyn_box-in-Pin.ensures.1
      ∙ (ap pinned_key c.in-Ok-new.ensures.ok ∙ sym (ap key_of c.in-Pin.is))) c.loop-line.invariant.2,
)

pub returns-in_default-clause-runs : goal.returns-in_default-clause-runs
returns-in_default-clause-runs g c = λ words asks are joins.
    rw c.no_memory.ensures (lines_lack _ _ _ words c.args.key_bytes.now OutOfMemory are tt)

pub returns-in_default-push-clause-runs : goal.returns-in_default-push-clause-runs
returns-in_default-push-clause-runs g c = λ words asks are joins.
    rw c.no_memory-in_default-push.ensures (lines_lack _ _ _ words c.args.key_bytes.now OutOfMemory are tt)

pub returns-in_default-new-clause-runs : goal.returns-in_default-new-clause-runs
returns-in_default-new-clause-runs g c = λ words asks are joins.
    rw c.no_memory-in_default-new.ensures (lines_lack _ _ _ words c.args.key_bytes.now OutOfMemory are tt)

pub returns-in_default-push-2-clause-runs : goal.returns-in_default-push-2-clause-runs
returns-in_default-push-2-clause-runs g c = λ words asks are joins.
    rw c.no_memory-in_default-push-2.ensures (lines_lack _ _ _ words c.args.key_bytes.now OutOfMemory are tt)

pub returns-clause-runs : goal.returns-clause-runs
returns-clause-runs g c = λ words asks are joins. inr record {
  bytes = c.args.key_bytes.now;
  lines = joins.lines;
  joined = c.args.lines.items;
  are_bytes = are;
  are_lines = joins.are_lines;
  joins = joins.joins;
  runs = runs_under _ sha256 _ (map key_of c.args.lines.items) c.args.key_bytes.now words _ _ c.run_command.result
      (ap (map _) c.deref.ensures.value
      ∙ (all_boxes secret_key pinned_key _ (λ b x. refl) (λ b x. refl) c.loop-line.keys.items
      ∙ (none_left (map (key_in secret_key pinned_key) c.loop-line.keys.items) key_of
      c.loop-line.line-iterator.rest.items (sym c.loop-line.line-iterator.rest.ok.0 ∙ c.in-None.ensures.steps.0)
      (map key_of c.into_iter-line-iterator.result.rest.items) c.loop-line.invariant.2
      ∙ ap (map key_of) c.into_iter-line-iterator.ensures.into_iter_gives.0)))
      (inr record {
        command = c.args.command.now;
        asked = asks;
        done = c.run_command.ensures.does;
      });
}

pub returns-clause-ends : goal.returns-clause-ends
returns-clause-ends g c = c.run_command.ensures.ends

pub returns-clause-same : goal.returns-clause-same
returns-clause-same g c = c.run_command.ensures.same
