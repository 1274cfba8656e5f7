use Rattle.std.proofs.Common.{sym, ◌∙◌}
use Rattle.tlog_tiles.proofs.Cuts.{not_wide, too_few, too_wide}
use Rattle.tlog_tiles.proofs.cut.first_entries.Goals as goal

pub returns-in_default-clause-none : goal.returns-in_default-clause-none
returns-in_default-clause-none c = not_wide c.args.width c.args.wider c.args.bundle.now c.in_default.ensures.none

pub returns-then-not-is_empty-clause-none : goal.returns-then-not-is_empty-clause-none
returns-then-not-is_empty-clause-none c =
    too_wide c.args.width c.args.wider c.args.bundle.now c.in-Some.behind.now c.in-Some.ensures.some
    (sym c.is_empty.ensures ∙ c.if-not-is_empty.true)

pub returns-in_default-after_entries-clause-none : goal.returns-in_default-after_entries-clause-none
returns-in_default-after_entries-clause-none c =
    too_few c.args.width c.args.wider c.args.bundle.now c.in_default-after_entries.ensures.none
