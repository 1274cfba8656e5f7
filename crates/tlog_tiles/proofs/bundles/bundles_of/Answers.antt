use Rattle.tlog_tiles.proofs.PieceLemmas.{more_bundles}
use Rattle.tlog_tiles.proofs.bundles.bundles_of.Goals as goal

pub loop-entry-preserved : goal.loop-entry-preserved
loop-entry-preserved c =
    let both = more_bundles (λ e. e.now) c.args.entries.now c.loop-entry.entry-index _ c.loop-entry-test.true
    c.loop-entry.text.items c.push_entry.new.text.items c.loop-entry.ends.items c.push_entry.new.ends.items
    c.loop-entry.invariant.text c.loop-entry.invariant.ends c.in_ok-push_entry.ensures.text
    c.in_ok-push_entry.ensures.ends in
    record { text = both.0; ends = both.1 }
