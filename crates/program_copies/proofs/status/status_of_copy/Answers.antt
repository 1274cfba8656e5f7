use Rattle.std.proofs.Common.{refl, rules}
use Rattle.std.specs.Prelude.{⊤}
use Rattle.program_copies.specs.GivenFiles.{IsEdgeTo}
use Rattle.program_copies.proofs.Damages.{file_under, names_before, opened_under, read_names}
use Rattle.program_copies.proofs.Reading.{opened_checkpoint, read_at_end, read_refused, reports_read}
use Rattle.program_copies.proofs.status.status_of_copy.Goals as goal

pub returns-in-Err-clause-answer : goal.returns-in-Err-clause-answer
returns-in-Err-clause-answer g c = record {
  refused = c.in-Err.ensures.answer;
  named = opened_under g.H.TreeHash.digest c.args.origin.now _ (g.D.NamedFolders.held c.args.folders.now c.args.folder.now)
      c.in-Err.fault c.in-Err.ensures.damage;
}

pub returns-clause-answer : goal.returns-clause-answer
returns-clause-answer g c =
    let digest = g.H.TreeHash.digest in
    let held = g.D.NamedFolders.held c.args.folders.now c.args.folder.now in
    let after = g.D.Shelf.puts c.open_copy.new.folders in
    let reader = c.in-Some.reader in
    let to : IsEdgeTo digest reader.edge.size reader.root reader.edge =
    record { hashes = search rules; size_is = refl; leads = search rules } in
    record {
      refused = read_refused {T = Unit {0}} digest c.args.origin.now _ held after reader _ (λ entries done. ⊤) _ _
          c.in-Err-read_end.fault c.in-Ok.ensures.opened (rw c.in-Some.is at c.in-Ok.ensures.honest)
          c.in-Err-read_end.ensures.counted c.in-Err-read_end.ensures.honest;
      named = file_under digest reader.edge.size reader.root held c.args.origin.now _
          (opened_checkpoint digest _ _ _ c.in-Ok.opened reader c.in-Ok.ensures.answer c.in-Some.is)
          c.in-Err-read_end.fault
          (names_before digest reader.edge.size reader.root held after c.in-Ok.ensures.opened c.in-Err-read_end.fault
          (read_names digest reader.edge.size reader.root after reader.edge to c.in-Err-read_end.fault
          c.in-Err-read_end.ensures.damage));
    }

pub returns-in-Ok-read_end-clause-answer : goal.returns-in-Ok-read_end-clause-answer
returns-in-Ok-read_end-clause-answer g c =
    let digest = g.H.TreeHash.digest in
    let held = g.D.NamedFolders.held c.args.folders.now c.args.folder.now in
    let reader = c.in-Some.reader in
    reports_read digest c.args.origin.now _ held reader c.size.result c.root.result c.report_of-in-Ok-read_end.result
    c.size.ensures c.root.ensures.root
    (opened_checkpoint digest _ _ held c.in-Ok.opened reader c.in-Ok.ensures.answer c.in-Some.is)
    (read_at_end digest held (g.D.Shelf.puts c.open_copy.new.folders) c.in-Ok.ensures.opened c.in-Ok.opened reader c.in-Ok.ensures.given c.in-Some.is c.root.ensures.hashes c.root.ensures.leads
    c.in-Ok-read_end.ensures.end) c.report_of-in-Ok-read_end.ensures.report c.report_of-in-Ok-read_end.ensures.fault
