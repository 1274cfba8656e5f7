use Rattle.std.proofs.Common.{refl, rules}
use Rattle.std.specs.Prelude.{option_map, ⊤}
use Rattle.program_reports.specs.declared.reports.Report.{Report as Printout}
use Rattle.program_copies.specs.GivenFiles.{IsEdgeTo}
use Rattle.program_copies.proofs.Damages.{file_under, names_before, opened_under, read_names}
use Rattle.program_copies.proofs.Given.{given_fault, given_counts}
use Rattle.program_copies.proofs.Reading.{compared_whole, opened_checkpoint, read_refused}
use Rattle.program_copies.proofs.compare.compare_text.Goals as goal

pub returns-in-Err-given_heads-clause-answer : goal.returns-in-Err-given_heads-clause-answer
returns-in-Err-given_heads-clause-answer g c =
    given_fault _ _ _ _ g.H.TreeHash.digest (g.D.NamedFolders.held c.args.folders.now c.args.folder.now)
    c.in-Err-given_heads.fault c.in-Err-given_heads.ensures

pub returns-in-Err-given_heads-clause-counted : goal.returns-in-Err-given_heads-clause-counted
returns-in-Err-given_heads-clause-counted g c =
    given_counts _ _ _ _ _ _ c.in-Err-given_heads.fault c.in-Err-given_heads.ensures c.in-Ok.ensures.counted

pub returns-in-Ok-compare_report-clause-answer : goal.returns-in-Ok-compare_report-clause-answer
returns-in-Ok-compare_report-clause-answer g c = record {
  size = c.in-Some.reader.edge.size;
  root = c.in-Some.reader.root;
  checkpoint = opened_checkpoint g.H.TreeHash.digest _ _ _ c.in-Ok.opened c.in-Some.reader c.in-Ok.ensures.answer c.in-Some.is;
  given = option_map (λ v. v.items) c.in-Ok-given_heads.given;
  gives = c.in-Ok-given_heads.ensures;
  is = compared_whole g.H.TreeHash.digest c.args.origin.now (g.D.NamedFolders.held c.args.folders.now c.args.folder.now)
      (g.D.Shelf.puts c.open_copy.new.folders) c.in-Some.reader _ _ _ c.in-Ok-compare_report.report
      c.in-Ok.ensures.opened (rw c.in-Some.is at c.in-Ok.ensures.honest) c.in-Ok-compare_report.ensures.report;
}

pub returns-in-Err-clause-answer : goal.returns-in-Err-clause-answer
returns-in-Err-clause-answer g c = record {
  refused = c.in-Err.ensures.answer;
  named = opened_under g.H.TreeHash.digest c.args.origin.now _ (g.D.NamedFolders.held c.args.folders.now c.args.folder.now)
      c.in-Err.fault c.in-Err.ensures.damage;
}

pub returns-clause-answer : goal.returns-clause-answer
returns-clause-answer g c =
    let digest = g.H.TreeHash.digest in
    let held = g.D.NamedFolders.held c.args.folders.now c.args.folder.now in
    let after = g.D.Shelf.puts c.open_copy.new.folders in
    let reader = c.in-Some.reader in
    let to : IsEdgeTo digest reader.edge.size reader.root reader.edge =
    record { hashes = search rules; size_is = refl; leads = search rules } in
    record {
      refused = read_refused {T = Printout} digest c.args.origin.now _ held after reader _ (λ entries report. ⊤) _ _
          c.in-Err-compare_report.fault c.in-Ok.ensures.opened (rw c.in-Some.is at c.in-Ok.ensures.honest)
          c.in-Err-compare_report.ensures.counted c.in-Err-compare_report.ensures.honest;
      named = file_under digest reader.edge.size reader.root held c.args.origin.now _
          (opened_checkpoint digest _ _ _ c.in-Ok.opened reader c.in-Ok.ensures.answer c.in-Some.is)
          c.in-Err-compare_report.fault
          (names_before digest reader.edge.size reader.root held after c.in-Ok.ensures.opened c.in-Err-compare_report.fault
          (read_names digest reader.edge.size reader.root after reader.edge to c.in-Err-compare_report.fault
          c.in-Err-compare_report.ensures.damage));
    }
