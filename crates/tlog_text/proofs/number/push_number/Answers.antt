use Rattle.std.proofs.Common.{arith}
use Rattle.tlog_text.proofs.Decimals.{decimal_written}
use Rattle.tlog_text.proofs.number.push_number.Goals as goal

pub returns-clause-spelled : goal.returns-clause-spelled
returns-clause-spelled c = decimal_written c.args.n (omega (arith, c.ranges.n.fits))
