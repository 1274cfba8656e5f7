use Rattle.std.specs.Prelude.{option_map}
use Rattle.program_copies.proofs.OpenedHeads.{blames_head}
use Rattle.program_copies.proofs.checkpoint.read_checkpoint.Goals as goal

pub returns-in-Err-head_in-clause-blames : goal.returns-in-Err-head_in-clause-blames
returns-in-Err-head_in-clause-blames g c digest resource =
    blames_head digest (g.K.CopyKeys.are_keys c.args.keys.now) (g.K.CopyKeys.may_fail c.args.keys.now)
    (option_map (λ note. note.items) c.args.last.now) c.args.origin.now (g.D.Shelf.puts c.args.shelf.now) resource
    c.in-Ok-Some.note.items c.deref.result.now c.deref.ensures.value
    (rw c.in-Ok-Some.field-0-is at c.in-Ok-Some.ensures.note) c.in-Err-head_in.fault c.in-Err-head_in.ensures.refused
