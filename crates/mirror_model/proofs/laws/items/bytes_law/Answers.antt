use Rattle.mirror_model.proofs.ItemBytes.{row_is_row, row_is_one, bundle_is_one}
use Rattle.mirror_model.proofs.laws.items.bytes_law.Goals as goal

pub returns-clause-row : goal.returns-clause-row
returns-clause-row c = row_is_row

pub returns-clause-one_row : goal.returns-clause-one_row
returns-clause-one_row c = row_is_one

pub returns-clause-one_bundle : goal.returns-clause-one_bundle
returns-clause-one_bundle c = bundle_is_one
