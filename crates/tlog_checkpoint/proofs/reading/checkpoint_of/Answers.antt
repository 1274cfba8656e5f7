use Rattle.std.proofs.Common.{◌∙◌}
use Rattle.tlog_checkpoint.proofs.reading.checkpoint_of.Goals as goal

pub returns : goal.returns
returns c = (
  c.new-origin.ensures ∙ c.in_ok-from_str.ensures.ok,
  c.in_ok-size.ensures,
  c.in_ok-root.ensures,
  c.in_ok-extensions.ensures,
)
