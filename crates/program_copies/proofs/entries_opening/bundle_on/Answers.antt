use Rattle.std.proofs.Common.{length, ap, ◌∙◌}
use Rattle.tlog_tiles.specs.Tiles.{bundle_bytes}
use Rattle.program_copies.proofs.CopyFaults.{undamaged_answer}
use Rattle.program_copies.proofs.WholeSteps.{width_is}
use Rattle.program_copies.proofs.entries_opening.bundle_on.Goals as goal

pub returns-in-Ok-clause-honest : goal.returns-in-Ok-clause-honest
returns-in-Ok-clause-honest g c = λ entries is files.
    let r = c.in-Ok.ensures.honest entries is files in
    record {
      reader_is = r.reader_is;
      answer = r.answer ∙ ap (λ w. bundle_bytes entries c.args.index w) (width_is (length entries) c.args.index);
    }

pub returns-in-Err-clause-honest : goal.returns-in-Err-clause-honest
returns-in-Err-clause-honest g c = λ entries is files.
    let r = c.in-Err.ensures.honest entries is files in
    record {
      reader_is = r.reader_is;
      answer = undamaged_answer c.in-Err.fault c.fault_of.result c.fault_of.ensures r.answer;
    }
