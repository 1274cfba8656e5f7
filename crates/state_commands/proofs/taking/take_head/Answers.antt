use Rattle.std.proofs.Common.{map}
use Rattle.mirror_model.specs.declared.items.Item.TheVariants as item
use Rattle.program_io.proofs.NamedLemmas.{behind_failed}
use Rattle.state_commands.proofs.taking.take_head.Goals as goal

pub returns-in-Err-read_files : goal.returns-in-Err-read_files
returns-in-Err-read_files g c =
    behind_failed (g.F.NamedFiles.puts c.args.files.now) c.args.note.now
    (map (λ row. row.now) c.args.rows.now) c.in-Err-read_files.fault c.in-Err-read_files.ensures

pub returns-in-Ok-take_head_rows : goal.returns-in-Ok-take_head_rows
returns-in-Ok-take_head_rows g c =
    record {
      item = item.Head c.deref.result.now (map (λ row. row.items) c.deref-2.result.now);
      held = (rw c.deref.ensures.value c.in-Ok.ensures.bytes, rw c.deref-2.ensures.value c.in-Ok-read_files.ensures);
      takes = c.in-Ok-take_head_rows.ensures.takes;
      judged = c.in-Ok-take_head_rows.ensures.judged;
    }

pub returns : goal.returns
returns g c =
    record {
      item = item.Head c.deref.result.now (map (λ row. row.items) c.deref-2.result.now);
      held = (rw c.deref.ensures.value c.in-Ok.ensures.bytes, rw c.deref-2.ensures.value c.in-Ok-read_files.ensures);
      takes = c.in-Err-take_head_rows.ensures.takes;
      judged = c.in-Err-take_head_rows.ensures.judged;
    }
