use Rattle.mirror_model.proofs.Fetching.{full_tiles_begin}
use Rattle.mirror_model.proofs.FullBundles.{full_bundles_serve}
use Rattle.mirror_model.proofs.laws.fetches.full_files_law.Goals as goal

pub returns-clause-tile : goal.returns-clause-tile
returns-clause-tile c = full_tiles_begin

pub returns-clause-bundle : goal.returns-clause-bundle
returns-clause-bundle c = full_bundles_serve
