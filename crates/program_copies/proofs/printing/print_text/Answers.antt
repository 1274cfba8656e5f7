use Rattle.std.proofs.Common.{inr}
use Rattle.program_copies.proofs.printing.print_text.Goals as goal

-- a write failed, and a prefix was written
pub returns-in-Ok-clause-prints : goal.returns-in-Ok-clause-prints
returns-in-Ok-clause-prints g c =
    inr (
      tt,
      record {
        report = c.in-Ok.report;
        recorded_is = c.in-Ok.is;
        written = c.in-Err-write_report.ensures.err;
      },
    )
