use Rattle.program_reports.specs.declared.reports.Report.{Report as Printout}
use Rattle.program_copies.proofs.Reading.{read_fault}
use Rattle.program_copies.proofs.prove.ask_reader.Goals as goal

pub returns-in-Err-read_report-clause-answer : goal.returns-in-Err-read_report-clause-answer
returns-in-Err-read_report-clause-answer g c = record {
  is = read_fault Printout _ _ c.in-Err-read_report.fault c.in-Err-read_report.ensures.counted;
  whole = c.in-Err-read_report.ensures.honest;
}
