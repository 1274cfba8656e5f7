use Rattle.mirror_model.proofs.TrueItems.{tiles_are_true, bundles_are_true, edges_are_true, edge_is_of_paths}
use Rattle.mirror_model.proofs.laws.truth.true_items_law.Goals as goal

pub returns-clause-tiles : goal.returns-clause-tiles
returns-clause-tiles c = tiles_are_true

pub returns-clause-bundles : goal.returns-clause-bundles
returns-clause-bundles c = bundles_are_true

pub returns-clause-edges : goal.returns-clause-edges
returns-clause-edges c = edges_are_true

pub returns-clause-paths : goal.returns-clause-paths
returns-clause-paths c = edge_is_of_paths
