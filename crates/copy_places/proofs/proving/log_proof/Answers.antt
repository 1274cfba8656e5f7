use Rattle.tlog_proof.specs.declared.proof.Proof.{Proof}
use Rattle.copy_places.proofs.TwoReads.{read_log}
use Rattle.copy_places.proofs.proving.log_proof.Goals as goal

pub returns-clause-honest : goal.returns-clause-honest
returns-clause-honest g c =
    read_log Proof g.H.TreeHash.digest c.args.large.now.size.0 c.args.large.now.root _ _ _
    (g.S.Source.may_answer c.args.files.now) _ c.open.ensures.later c.consistency.result c.in_ok-reader.ensures.honest
    c.consistency.ensures.honest
