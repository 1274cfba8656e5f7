use Rattle.log_reader.proofs.TrueReads.{source_later}
use Rattle.copy_reader.proofs.Trees.{log_audited}
use Rattle.copy_reader.proofs.LogStops.{names_wrong, names_head, read_in_order}
use Rattle.copy_reader.proofs.AuditExits.{err_exit}
use Rattle.copy_reader.specs.AuditFaults.{IsFailure}
use Rattle.copy_reader.proofs.log.audit.Goals as goal

pub returns-clause-audited : goal.returns-clause-audited
returns-clause-audited g c =
    let may = g.S.Source.may_answer in
    let asked = g.S.Source.asked in
    log_audited g.H.TreeHash.digest c.args.origin.now _ c.in_ok-audited.audited.size c.in_ok-audited.audited.root
    (may c.args.source.now) (may c.read_checkpoint.new.source) (may c.audit_tree.new.source) (asked c.args.source.now)
    (asked c.read_checkpoint.new.source) (asked c.audit_tree.new.source) c.in_ok-audited.ensures.given
    c.in_ok-audit_tree.ensures.given

pub returns-in_err-audited-clause-honest : goal.returns-in_err-audited-clause-honest
returns-in_err-audited-clause-honest g c = λ entries note log.
    let fault = c.in_err-audited.ensures.honest g.H.TreeHash.digest entries note log in
    err_exit IsFailure c.from_residual.result c.in_err-audited.field-0.0 c.from_residual.ensures fault

pub returns-in_err-audit_tree-clause-honest : goal.returns-in_err-audit_tree-clause-honest
returns-in_err-audit_tree-clause-honest g c = λ entries note log.
    let may = g.S.Source.may_answer in
    let head = c.in_ok-audited.ensures.honest g.H.TreeHash.digest entries note log in
    let fault = c.in_err-audit_tree.ensures.honest entries
    (source_later g.H.TreeHash.digest entries (may c.args.source.now) (may c.read_checkpoint.new.source)
    c.in_ok-audited.ensures.given.given.stays log.files) head.0 head.1 in
    err_exit IsFailure c.from_residual-in_err-audit_tree.result c.in_err-audit_tree.field-0.0 c.from_residual-in_err-audit_tree.ensures fault

pub returns-in_err-audited-clause-named : goal.returns-in_err-audited-clause-named
returns-in_err-audited-clause-named g c =
    let stop = names_head g.H.TreeHash.digest c.args.origin.now _ (g.S.Source.may_answer c.args.source.now)
    (g.S.Source.may_answer c.read_checkpoint.new.source) (g.S.Source.asked c.args.source.now)
    (g.S.Source.asked c.read_checkpoint.new.source) _ c.in_err-audited.ensures.first in
    err_exit _ c.from_residual.result c.in_err-audited.field-0.0 c.from_residual.ensures stop

pub returns-in_err-audit_tree-clause-named : goal.returns-in_err-audit_tree-clause-named
returns-in_err-audit_tree-clause-named g c =
    let may = g.S.Source.may_answer in
    let asked = g.S.Source.asked in
    let stop = names_wrong g.H.TreeHash.digest c.args.origin.now _ c.in_ok-audited.audited.size c.in_ok-audited.audited.root
    (may c.args.source.now) (may c.read_checkpoint.new.source) (may c.audit_tree.new.source) (asked c.args.source.now)
    (asked c.read_checkpoint.new.source) (asked c.audit_tree.new.source) c.in_ok-audited.ensures.given _
    c.in_err-audit_tree.ensures.first in
    err_exit _ c.from_residual-in_err-audit_tree.result c.in_err-audit_tree.field-0.0 c.from_residual-in_err-audit_tree.ensures stop

pub returns-clause-ordered : goal.returns-clause-ordered
returns-clause-ordered g c =
    let may = g.S.Source.may_answer in
    let asked = g.S.Source.asked in
    read_in_order g.H.TreeHash.digest c.args.origin.now _ c.in_ok-audited.audited.size c.in_ok-audited.audited.root
    (may c.args.source.now) (may c.read_checkpoint.new.source) (may c.audit_tree.new.source) (asked c.args.source.now)
    (asked c.read_checkpoint.new.source) (asked c.audit_tree.new.source) c.in_ok-audited.ensures.given
    c.in_ok-audit_tree.ensures.read
