use Rattle.std.proofs.Common.{[]}
use Rattle.std.proofs.lemmas.Result.{err_from_is_err_and}
use Rattle.mirror_files.proofs.page.put.Goals as goal
use Rattle.mirror_files.proofs.Putting.{writes_short, writes_then, with_digest}

pub returns-in_err-make_room : goal.returns-in_err-make_room
returns-in_err-make_room g c =
    let p = err_from_is_err_and c.from_residual.result c.from_residual.ensures.1 in
    rw (p.1, p.2) record {
      writes = writes_short (g.W.Write.contents c.args.writer.now) (g.W.Write.contents c.make_room.new.writer)
          c.args.page.now.held.items c.make_room.new.held.items [] c.args.piece.now c.in_err-make_room.field-0.0 c.in_err-make_room.ensures;
      hashes = tt;
    }

pub returns : goal.returns
returns g c = record {
  writes = writes_then (g.W.Write.contents c.args.writer.now) (g.W.Write.contents c.make_room.new.writer)
      (g.W.Write.contents c.hold.new.writer) c.args.page.now.held.items c.make_room.new.held.items c.hold.new.held.items
      [] c.args.piece.now c.hold.result c.in_ok-make_room.ensures c.hold.ensures;
  hashes = with_digest c.args.page.now.digest c.update.new.self c.args.piece.now c.hold.result c.update.ensures;
}
