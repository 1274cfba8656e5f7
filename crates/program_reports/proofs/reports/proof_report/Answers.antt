use Rattle.std.proofs.Common.{refl}
use Rattle.program_reports.proofs.reports.proof_report.Goals as goal

pub returns : goal.returns
returns g c =
    let top = c.in-Some.top in
    let is = c.in-Some.ensures.some in
    record {
      entries = is.served.entries;
      served = record { note = top.note; size = top.size; root = top.root; served = is.served.served };
      proof = c.in_ok-proof.proof;
      made = c.in_ok-proof.ensures.answer is.served.entries (rw (← is.strings_are) at is.served.served.tree);
      text = c.in_ok-text.ensures;
      status = refl;
    }

pub returns-in_default : goal.returns-in_default
returns-in_default g c = c.in_default.ensures.none
