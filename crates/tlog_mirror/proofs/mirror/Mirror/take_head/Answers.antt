use Rattle.std.proofs.Common.{refl}
use Rattle.mirror_trees.proofs.EdgeRows.{bytes_of}
use Rattle.tlog_mirror.proofs.OpenHeads.{judged_as_bytes, open_here, taken_as_bytes}
use Rattle.tlog_mirror.proofs.TakenHeads.{note_judges, note_takes}
use Rattle.tlog_mirror.proofs.mirror.Mirror.take_head.Goals as goal

pub returns-in-Err-clause-takes : goal.returns-in-Err-clause-takes
returns-in-Err-clause-takes g c =
    note_takes g.H.TreeHash.digest _ c.args.self.now.view c.args.note.now
    (bytes_of c.args.edge.now) c.args.self.now.view.origin refl c.in-Err.fault c.in-Err.ensures.reads

pub returns-in-Err-clause-judged : goal.returns-in-Err-clause-judged
returns-in-Err-clause-judged g c =
    note_judges g.H.TreeHash.digest _ c.args.self.now.view c.args.note.now
    (bytes_of c.args.edge.now) c.args.self.now.view.origin refl c.in-Err.fault c.in-Err.ensures.reads

pub take_opened-requires : goal.take_opened-requires
take_opened-requires g c = (
  _,
  open_here c.args.note.now c.args.self.now.view.origin _ c.in-Ok.head c.in-Ok.ensures.reads c.in-Ok.ensures.note
      c.args.self.now.view.origin refl,
)

pub returns-clause-takes : goal.returns-clause-takes
returns-clause-takes g c =
    taken_as_bytes g.H.TreeHash.digest c.args.note.now c.args.self.now.view.origin _ c.in-Ok.head c.in-Ok.ensures.reads
    c.in-Ok.ensures.note c.args.self.now.view refl (bytes_of c.args.edge.now) c.take_opened.result
    c.take_opened.new.self.view (c.take_opened.ensures.takes _)

pub returns-clause-judged : goal.returns-clause-judged
returns-clause-judged g c =
    judged_as_bytes g.H.TreeHash.digest c.args.note.now c.args.self.now.view.origin _ c.in-Ok.head c.in-Ok.ensures.reads
    c.in-Ok.ensures.note c.args.self.now.view refl (bytes_of c.args.edge.now) c.take_opened.result
    (c.take_opened.ensures.judged _)
