use Rattle.mirror_folders.specs.Shelf.{RecordsRead}
use Rattle.copy_places.specs.Mixes.{given_at}
use Rattle.mirror_folders.specs.Partial.{IsReadCut}
use Rattle.copy_places.proofs.TrueAnswers.{none_weaker}
use Rattle.copy_follow.proofs.Own.{edge_taken, found_wide, mix_nowhere}
use Rattle.copy_follow.proofs.own_edge.own_edge.Goals as goal

pub edge_of_two-requires-clause-first : goal.edge_of_two-requires-clause-first
edge_of_two-requires-clause-first g c = λ level low.
    let parts = c.in-Ok.ensures.parts in
    found_wide (RecordsRead (g.D.Shelf.puts c.args.shelf.now)) c.args.size level (given_at c.in-Ok.rows.0 level) (parts.each level low)

pub edge_of_two-requires-clause-second : goal.edge_of_two-requires-clause-second
edge_of_two-requires-clause-second g c = λ level low.
    let cuts = c.in-Ok.ensures.cuts in
    found_wide (IsReadCut (g.D.Shelf.puts c.args.shelf.now)) c.args.size level (given_at c.in-Ok.rows.1 level) (cuts.each level low)

pub returns-in-Ok-edge_of_two-clause-taken : goal.returns-in-Ok-edge_of_two-clause-taken
returns-in-Ok-edge_of_two-clause-taken g c =
    edge_taken (g.D.Shelf.puts c.args.shelf.now) c.args.size c.args.root.now g.H.TreeHash.digest c.in-Ok.rows.0 c.in-Ok.rows.1
    c.in-Ok.ensures.parts c.in-Ok.ensures.cuts c.in-Ok-edge_of_two.found c.in-Ok-edge_of_two.ensures.leads
    c.in-Ok-edge_of_two.ensures.mix

pub returns-in-Ok-edge_of_two-clause-none : goal.returns-in-Ok-edge_of_two-clause-none
returns-in-Ok-edge_of_two-clause-none g c =
    none_weaker c.in-Ok-edge_of_two.found _ _
    (λ none. mix_nowhere (g.D.Shelf.puts c.args.shelf.now) c.args.size c.in-Ok.rows.0 c.in-Ok.rows.1 c.in-Ok.ensures.parts
    c.in-Ok.ensures.cuts g.H.TreeHash.digest c.args.root.now none) c.in-Ok-edge_of_two.ensures.none
