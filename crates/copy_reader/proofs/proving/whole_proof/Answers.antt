use Rattle.log_reader.proofs.FalseFiles.{names_before}
use Rattle.copy_reader.proofs.Damage.{rows_in_tree}
use Rattle.copy_reader.proofs.proving.whole_proof.Goals as goal

pub returns-in-Err-read_rows-clause-names : goal.returns-in-Err-read_rows-clause-names
returns-in-Err-read_rows-clause-names g c =
    let digest = g.H.TreeHash.digest in
    let may = g.S.Source.may_answer in
    let old = may c.args.files.now in
    let fault = c.in-Err-read_rows.fault in
    rows_in_tree digest old c.args.reader.now.edge c.args.ask fault
    (names_before digest old (may c.made_proof.new.files) c.made_proof.ensures.later c.args.reader.now.edge c.made_proof.new.reader.edge
    c.made_proof.ensures.edge fault c.in-Err-read_rows.ensures.names)
