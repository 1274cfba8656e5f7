use Rattle.std.proofs.Common.{Err, refl}
use Rattle.mirror_trees.proofs.EdgeRows.{bytes_of}
use Rattle.tlog_mirror.proofs.TakenHeads.{edge_takes, edge_short, head_edge, whole_takes}
use Rattle.tlog_mirror.proofs.TakenHeads.{edge_judges, open_is_head, whole_judges}
use Rattle.mirror_trees.proofs.EmptySets.{empty_no_clash}
use Rattle.tlog_mirror.proofs.mirror.Mirror.take_opened.Goals as goal

pub take_edge-requires : goal.take_edge-requires
take_edge-requires g c = empty_no_clash g.H.TreeHash.digest c.new-strings.result c.new-strings.ensures

pub keep_head-requires-clause-short : goal.keep_head-requires-clause-short
keep_head-requires-clause-short g c =
    let v = c.args.self.now.view in
    edge_short g.H.TreeHash.digest c.requires.0 v c.args.head.note.bytes
    (bytes_of c.args.edge.now) v.origin refl c.args.head.checkpoint c.requires.1
    c.in-Ok.ensures.judged c.new-strings.result c.take_edge.new.store c.new-strings.ensures
    c.in-Ok.ensures.ok g.met.H.TreeHash.digest_length

pub keep_head-requires-clause-said : goal.keep_head-requires-clause-said
keep_head-requires-clause-said g c =
    let v = c.args.self.now.view in
    open_is_head c.args.head.note.bytes v.origin c.requires.0 c.args.head.checkpoint c.requires.1

pub keep_head-requires-clause-edge : goal.keep_head-requires-clause-edge
keep_head-requires-clause-edge g c =
    let v = c.args.self.now.view in
    head_edge g.H.TreeHash.digest c.requires.0 v c.args.head.note.bytes
    (bytes_of c.args.edge.now) v.origin refl c.args.head.checkpoint c.requires.1
    c.in-Ok.ensures.judged c.new-strings.result c.take_edge.new.store c.new-strings.ensures
    c.in-Ok.ensures.ok c.args.head.note.bytes refl

pub returns-in-Err-clause-takes : goal.returns-in-Err-clause-takes
returns-in-Err-clause-takes g c = λ keys opened.
    let v = c.args.self.now.view in
    edge_takes g.H.TreeHash.digest keys v c.args.head.note.bytes
    (bytes_of c.args.edge.now) v.origin refl c.args.head.checkpoint opened
    c.in-Err.fault c.in-Err.ensures.judged c.new-strings.result c.new-strings.ensures
    c.in-Err.ensures.collision

pub returns-clause-takes : goal.returns-clause-takes
returns-clause-takes g c = λ keys opened.
    let v = c.args.self.now.view in
    whole_takes g.H.TreeHash.digest keys v c.args.head.note.bytes
    (bytes_of c.args.edge.now) v.origin refl c.args.head.checkpoint opened
    c.in-Ok.ensures.judged c.new-strings.result c.take_edge.new.store c.new-strings.ensures
    c.in-Ok.ensures.ok c.args.head.note.bytes refl
    c.keep_head.result c.take_answer.result c.take_answer.ensures c.keep_head.new.self.view c.keep_head.ensures.adds

pub returns-in-Err-clause-judged : goal.returns-in-Err-clause-judged
returns-in-Err-clause-judged g c = λ keys opened.
    let v = c.args.self.now.view in
    edge_judges g.H.TreeHash.digest keys v c.args.head.note.bytes
    (bytes_of c.args.edge.now) v.origin refl c.args.head.checkpoint opened
    (Err c.in-Err.fault) c.in-Err.ensures.judged

pub returns-clause-judged : goal.returns-clause-judged
returns-clause-judged g c = λ keys opened.
    let v = c.args.self.now.view in
    whole_judges g.H.TreeHash.digest keys v c.args.head.note.bytes
    (bytes_of c.args.edge.now) v.origin refl c.args.head.checkpoint opened
    c.in-Ok.ensures.judged c.keep_head.result c.take_answer.result c.take_answer.ensures
