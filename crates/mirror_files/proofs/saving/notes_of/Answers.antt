use Rattle.std.proofs.Common.{ap, map, ◌∙◌}
use Rattle.std.proofs.lemmas.List.{map_push}
use Rattle.mirror_files.proofs.Gathered.{lent_bytes}
use Rattle.mirror_files.proofs.HeldNotes.{note_more, note_end}
use Rattle.mirror_files.proofs.saving.notes_of.Goals as goal

pub loop-i-init : goal.loop-i-init
loop-i-init g c = λ all h. ap (map lent_bytes) c.new-notes.ensures.items

pub loop-i-preserved : goal.loop-i-preserved
loop-i-preserved g c = λ all h.
    ap (map lent_bytes) c.in_ok-push-in-Some.ensures.items
    ∙ (map_push lent_bytes c.loop-i.notes.items c.in-Some.note
    ∙ note_more c.args.mirror.now.view c.loop-i.i all (map lent_bytes c.loop-i.notes.items)
    c.in-Some.note.now c.in-Some.ensures h (c.loop-i.invariant all h))

pub returns-in-None : goal.returns-in-None
returns-in-None g c = note_end c.args.mirror.now.view c.loop-i.i (map lent_bytes c.loop-i.notes.items)
    c.in-None.ensures c.loop-i.invariant
