use Rattle.copy_places.proofs.shelf_edge.edge_on_shelf.Goals as goal

pub returns-clause-none : goal.returns-clause-none
returns-clause-none g c = record {
  rows = c.in_ok-rows.rows;
  rows_are = c.in_ok-rows.ensures.read;
  none = rw c.in-None.is at c.in_ok-edge.ensures.none;
}
