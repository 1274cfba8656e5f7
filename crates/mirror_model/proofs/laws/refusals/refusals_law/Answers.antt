use Rattle.mirror_model.proofs.Refusing.{tiles_are_judged, bundles_are_judged}
use Rattle.mirror_model.proofs.RefusedHeads.{heads_are_judged, head_notes_are_read_once, open_heads_are_read}
use Rattle.mirror_model.proofs.laws.refusals.refusals_law.Goals as goal

pub returns-clause-tiles : goal.returns-clause-tiles
returns-clause-tiles c = tiles_are_judged

pub returns-clause-bundles : goal.returns-clause-bundles
returns-clause-bundles c = bundles_are_judged

pub returns-clause-heads : goal.returns-clause-heads
returns-clause-heads c = heads_are_judged

pub returns-clause-notes : goal.returns-clause-notes
returns-clause-notes c = head_notes_are_read_once

pub returns-clause-open : goal.returns-clause-open
returns-clause-open c = open_heads_are_read
