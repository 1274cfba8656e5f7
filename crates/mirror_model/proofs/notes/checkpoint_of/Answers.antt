use Rattle.std.proofs.Common.{rules, ◌≢◌}
use Rattle.signed_note.specs.declared.fault.NoteFault.TheVariants as noting
use Rattle.tlog_checkpoint.specs.declared.fault.CheckpointFault.TheVariants as reading
use Rattle.mirror_model.proofs.NoHeads.{no_note, no_checkpoint}
use Rattle.mirror_model.proofs.notes.checkpoint_of.Goals as goal

pub returns-in-Err : goal.returns-in-Err
returns-in-Err c =
    let memory : c.in-Err.field-0 ≢ noting.OutOfMemory = search rules in
    record {
      found = tt;
      none = λ origin size root head.
          no_note c.args.bytes.now origin size root head c.in-Err.field-0 memory c.in-Err.ensures;
    }

pub returns : goal.returns
returns c =
    let memory : c.in-Err-read.field-0 ≢ reading.OutOfMemory = search rules in
    record {
      found = tt;
      none = λ origin size root head.
          no_checkpoint c.args.bytes.now origin size root head c.in-Ok.note c.text.result.now c.in-Err-read.field-0
          c.in-Ok.ensures c.text.ensures memory c.in-Err-read.ensures.answer;
    }
