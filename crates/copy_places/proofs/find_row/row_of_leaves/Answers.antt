use Rattle.std.proofs.Common.{length, refl}
use Rattle.tlog_tiles.specs.declared.paths.Path.TheVariants.{Tile, Entries}
use Rattle.log_reader.specs.declared.verify.FullFile.TheVariants as full
use Rattle.log_reader.proofs.Kept.{kept_once}
use Rattle.copy_places.proofs.AskingEnds.{ends_then}
use Rattle.copy_places.proofs.KeptAnswers.{answers_same}
use Rattle.copy_places.proofs.KeptRows.{ok_none_weaker}
use Rattle.copy_places.proofs.WayFiles.{nobodys_later}
use Rattle.copy_places.proofs.find_row.row_of_leaves.Goals as goal

pub returns-in-None-clause-goes : goal.returns-in-None-clause-goes
returns-in-None-clause-goes g c =
    ends_then g.S.Source.may_answer g.S.Source.failed g.S.Source.asked c.args.places.now c.find_file.new.places c.row_of_tile.new.places c.find_file.ensures.goes c.row_of_tile.ensures.goes

pub returns-in-None-clause-none : goal.returns-in-None-clause-none
returns-in-None-clause-none g c =
    let digest = g.H.TreeHash.digest in
    let old = g.D.Shelf.puts c.args.shelf.now in
    let mid = g.D.Shelf.puts c.find_file.new.shelf in
    let x = c.find_file.new.places in
    let y = c.row_of_tile.new.places in
    let n = length c.args.places.now.list.items in
    let bundle = rw c.in-None.is at c.in_ok-found.ensures.none in
    ok_none_weaker c.row_of_tile.result _ _
    (λ tile. record {
      tile = nobodys_later digest old mid c.find_file.ensures.same y.ends.tiles.items y.ends.tiles.items (answers_same y.ends.tiles.items)
          (length x.list.items) n c.find_file.ensures.goes.asks.count full.Tile (Tile 0 c.args.index 256) c.args.hash.now tile;
      bundle = λ zero. nobodys_later digest old old (kept_once old) x.ends.tiles.items y.ends.tiles.items c.row_of_tile.ensures.goes.stay n n refl
          full.Bundle (Entries c.args.index 256) c.args.hash.now bundle;
    })
    c.row_of_tile.ensures.none
