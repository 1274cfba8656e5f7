use Rattle.program_reports.proofs.printing.print_made.Goals as goal

pub returns-in-Ok-write_report-clause-answer : goal.returns-in-Ok-write_report-clause-answer
returns-in-Ok-write_report-clause-answer g c =
    record {
      printed = _;
      tells = c.in-Ok.ensures.tells;
      written = c.in-Ok-write_report.ensures.ok;
    }

pub returns-clause-answer : goal.returns-clause-answer
returns-clause-answer g c =
    record { printed = _; ended = _; tells = c.in-Ok.ensures.tells; written = c.in-Err-write_report.ensures.err }
