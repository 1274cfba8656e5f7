use Rattle.std.proofs.Common.{refl, rules}
use Rattle.program_copies.specs.GivenFiles.{IsEdgeTo}
use Rattle.program_copies.proofs.Damages.{opened_under_proof}
use Rattle.program_copies.proofs.Reading.{opened_checkpoint, proof_of_copy}
use Rattle.program_copies.proofs.prove.text_of_proof.Goals as goal

pub returns-in-Err-clause-answer : goal.returns-in-Err-clause-answer
returns-in-Err-clause-answer g c = record {
  refused = c.in-Err.ensures.answer;
  named = opened_under_proof g.H.TreeHash.digest c.args.origin.now _
      (g.D.NamedFolders.held c.args.folders.now c.args.folder.now) c.args.ask c.in-Err.fault c.in-Err.ensures.damage;
}

pub returns-clause-answer : goal.returns-clause-answer
returns-clause-answer g c =
    let reader = c.in-Some.reader in
    let to : IsEdgeTo g.H.TreeHash.digest reader.edge.size reader.root reader.edge =
    record { hashes = search rules; size_is = refl; leads = search rules } in
    proof_of_copy g.H.TreeHash.digest c.args.origin.now _ (g.D.NamedFolders.held c.args.folders.now c.args.folder.now)
    (g.D.Shelf.puts c.open_copy.new.folders) reader c.in-Ok.ensures.opened (rw c.in-Some.is at c.in-Ok.ensures.honest)
    (opened_checkpoint g.H.TreeHash.digest _ _ _ c.in-Ok.opened reader c.in-Ok.ensures.answer c.in-Some.is) to c.args.ask
    c.ask_reader.result c.ask_reader.ensures.answer c.ask_reader.ensures.damage
