use Rattle.std.proofs.Common.{[], sym, subst}
use Rattle.tlog_tiles.specs.declared.paths.Path.TheVariants.{Tile, Entries}
use Rattle.mirror_pull.specs.Answering.{refused_of}
use Rattle.mirror_pull.specs.Taking.{TakesItem, item_at}
use Rattle.mirror_pull.proofs.Gains.{takes_item}
use Rattle.mirror_pull.proofs.rounds.take_found.Goals as goal

pub returns-in-Tile : goal.returns-in-Tile
returns-in-Tile g c =
    let digest = g.H.TreeHash.digest in
    let old = c.args.mirror.now.view in
    let new = c.take_tile.new.self.view in
    let t = takes_item digest old new
    (Tile c.in-Tile.level c.in-Tile.index c.in-Tile.width) c.args.bytes.now c.take_tile.result
    (c.take_tile.ensures.takes []) in
    subst (λ r. TakesItem digest old (item_at c.args.path c.args.bytes.now) r new) (sym c.refusal.ensures)
    (subst (λ p. TakesItem digest old (item_at p c.args.bytes.now) (refused_of c.take_tile.result) new)
    (sym c.in-Tile.is) t)

pub returns-in-Entries : goal.returns-in-Entries
returns-in-Entries g c =
    let digest = g.H.TreeHash.digest in
    let old = c.args.mirror.now.view in
    let new = c.take_bundle.new.self.view in
    let t = takes_item digest old new
    (Entries c.in-Entries.index c.in-Entries.width) c.args.bytes.now c.take_bundle.result
    (c.take_bundle.ensures.takes []) in
    subst (λ r. TakesItem digest old (item_at c.args.path c.args.bytes.now) r new) (sym c.refusal-in-Entries.ensures)
    (subst (λ p. TakesItem digest old (item_at p c.args.bytes.now) (refused_of c.take_bundle.result) new)
    (sym c.in-Entries.is) t)
