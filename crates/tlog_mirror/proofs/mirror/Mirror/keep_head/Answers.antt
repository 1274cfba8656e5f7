use Rattle.tlog_mirror.proofs.TakenHeads.{strings_refused, note_entered, note_refused}
use Rattle.tlog_mirror.proofs.mirror.Mirror.keep_head.Goals as goal

pub returns-in-Err-clause-adds : goal.returns-in-Err-clause-adds
returns-in-Err-clause-adds g c =
    strings_refused g.H.TreeHash.digest c.args.self.now.view c.args.strings.now c.args.kept.note.bytes c.in-Err.fault
    c.add_strings.new.self.view c.in-Err.ensures.adds

pub returns-in-Err-keep_note-clause-adds : goal.returns-in-Err-keep_note-clause-adds
returns-in-Err-keep_note-clause-adds g c =
    note_refused g.H.TreeHash.digest c.args.self.now.view c.args.strings.now c.args.kept.note.bytes
    c.add_strings.new.self.view c.keep_note.new.self.view c.in-Ok.ensures.adds c.in-Err-keep_note.ensures.err

pub returns-in-Ok-keep_note-clause-adds : goal.returns-in-Ok-keep_note-clause-adds
returns-in-Ok-keep_note-clause-adds g c =
    note_entered g.H.TreeHash.digest c.args.self.now.view c.args.strings.now c.args.kept.note.bytes
    c.add_strings.new.self.view c.keep_note.new.self.view c.in-Ok.ensures.adds c.in-Ok-keep_note.ensures.ok
