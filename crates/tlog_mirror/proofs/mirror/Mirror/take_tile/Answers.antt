use Rattle.std.proofs.Common.{[], refl, ap, ◌∙◌, Err}
use Rattle.tlog_hash.specs.Tree.{joins}
use Rattle.mirror_model.specs.Item.{IsWidth}
use Rattle.mirror_model.specs.declared.items.Item.TheVariants.{Tile}
use Rattle.tlog_mirror.proofs.TakenItems.{tile_judged, gathered, gathered_short, takes_added}
use Rattle.tlog_mirror.proofs.TakenItems.{takes_clashed, tile_good, tile_joins}
use Rattle.mirror_trees.proofs.EmptySets.{empty_no_clash}
use Rattle.tlog_mirror.proofs.mirror.Mirror.take_tile.Goals as goal

pub add_row-requires-clause-no_clash : goal.add_row-requires-clause-no_clash
add_row-requires-clause-no_clash g c = empty_no_clash g.H.TreeHash.digest c.in-Ok-with_capacity.strings c.in-Ok-with_capacity.ensures

pub add_strings-requires-clause-short : goal.add_strings-requires-clause-short
add_strings-requires-clause-short g c =
    let d = g.H.TreeHash.digest in
    let w : IsWidth c.args.width = record { some = c.requires.some; most = c.requires.most } in
    let item = Tile c.args.width c.args.bytes.now in
    gathered_short d item g.met.H.TreeHash.digest_length [] []
    (tile_good c.args.width c.args.bytes.now w c.in-Ok.row.items c.in-Ok.ensures) c.add_row.new.store
    (gathered c.in-Ok-with_capacity.strings c.add_row.new.store _ _ c.in-Ok-with_capacity.ensures c.in-Ok-add_row.ensures.ok
    (ap (joins d) c.as_slice.ensures.value ∙
    tile_joins c.args.width c.args.bytes.now w d c.in-Ok.row.items c.in-Ok.ensures))

pub returns-in-Ok-add_row-clause-takes : goal.returns-in-Ok-add_row-clause-takes
returns-in-Ok-add_row-clause-takes g c = λ keys.
    let d = g.H.TreeHash.digest in
    let w : IsWidth c.args.width = record { some = c.requires.some; most = c.requires.most } in
    let item = Tile c.args.width c.args.bytes.now in
    takes_added d item keys c.args.self.now.view
    (tile_good c.args.width c.args.bytes.now w c.in-Ok.row.items c.in-Ok.ensures) c.add_row.new.store
    (gathered c.in-Ok-with_capacity.strings c.add_row.new.store _ _ c.in-Ok-with_capacity.ensures c.in-Ok-add_row.ensures.ok
    (ap (joins d) c.as_slice.ensures.value ∙
    tile_joins c.args.width c.args.bytes.now w d c.in-Ok.row.items c.in-Ok.ensures)) refl c.add_strings.result
    c.take_answer.result c.take_answer.ensures c.add_strings.new.self.view c.add_strings.ensures.adds

pub returns-in-Err-Collision-clause-takes : goal.returns-in-Err-Collision-clause-takes
returns-in-Err-Collision-clause-takes g c = λ keys.
    let d = g.H.TreeHash.digest in
    let w : IsWidth c.args.width = record { some = c.requires.some; most = c.requires.most } in
    let item = Tile c.args.width c.args.bytes.now in
    takes_clashed d item keys c.args.self.now.view
    (tile_good c.args.width c.args.bytes.now w c.in-Ok.row.items c.in-Ok.ensures)
    c.in-Ok-with_capacity.strings _ c.in-Ok-with_capacity.ensures (ap (joins d) c.as_slice.ensures.value
    ∙ tile_joins c.args.width c.args.bytes.now w d c.in-Ok.row.items c.in-Ok.ensures)
    (c.in-Err-Collision.ensures.collision (ap Err c.in-Err-Collision.field-0-is))

pub returns-in-Ok-add_row-clause-judged : goal.returns-in-Ok-add_row-clause-judged
returns-in-Ok-add_row-clause-judged g c =
    let w : IsWidth c.args.width = record { some = c.requires.some; most = c.requires.most } in
    tile_judged c.args.width c.args.bytes.now
    (tile_good c.args.width c.args.bytes.now w c.in-Ok.row.items c.in-Ok.ensures) c.add_strings.result c.take_answer.result
    c.take_answer.ensures

pub returns-in-Err-Collision-clause-judged : goal.returns-in-Err-Collision-clause-judged
returns-in-Err-Collision-clause-judged g c =
    let w : IsWidth c.args.width = record { some = c.requires.some; most = c.requires.most } in
    tile_good c.args.width c.args.bytes.now w c.in-Ok.row.items c.in-Ok.ensures
