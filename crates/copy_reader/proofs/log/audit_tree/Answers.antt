use Rattle.std.proofs.Common.{◌≡◌, ◌<◌, refl, sym, subst, ◌∙◌, arith}
use Rattle.log_reader.specs.EdgeRows.{row_at}
use Rattle.log_reader.proofs.TrueReads.{source_later}
use Rattle.copy_reader.proofs.EdgeFiles.{are_of_edge}
use Rattle.copy_reader.proofs.Given.{on_ok}
use Rattle.copy_reader.proofs.Trees.{tree_given}
use Rattle.copy_reader.specs.Found.{IsEdgeRead, IsLogOf}
use Rattle.copy_reader.specs.Order.{below_edge, edge_order, file_order}
use Rattle.copy_reader.specs.Stops.{AreRead, HasEdge, StopsEdge, StopsIn}
use Rattle.copy_reader.proofs.LogStops.{stops_below, stops_longer}
use Rattle.copy_reader.proofs.RowsGiven.{edge_is_true, rows_paths}
use Rattle.copy_reader.proofs.Stops.{on_err, read_then}
use Rattle.copy_reader.proofs.AuditExits.{err_exit}
use Rattle.copy_reader.specs.AuditFaults.{IsFailure}
use Rattle.copy_reader.proofs.log.audit_tree.Goals as goal

pub returns-clause-given : goal.returns-clause-given
returns-clause-given g c =
    let may = g.S.Source.may_answer in
    let asked = g.S.Source.asked in
    let edge = c.in_ok-edge.edge in
    let leads = c.in_ok-edge.ensures.leads in
    let fits = c.ranges.size.fits in
    let small : edge.size < 18446744073709551616 = omega (arith, leads.is_edge.size_is, fits) in
    on_ok c.audit_edge-done.result c.audit_edge-done.ensures.covers
    (λ all. tree_given g.H.TreeHash.digest c.args.size c.args.root.now edge leads small (may c.args.source.now)
    (may c.read_edge.new.source) (may c.audit_edge-done.new.source) (asked c.args.source.now) (asked c.read_edge.new.source)
    (asked c.audit_edge-done.new.source) c.in_ok-edge.ensures.given all)

pub returns-in_err-edge-clause-honest : goal.returns-in_err-edge-clause-honest
returns-in_err-edge-clause-honest g c = λ entries s same root.
    let fault = c.in_err-edge.ensures.honest entries s same root in
    err_exit IsFailure c.from_residual.result c.in_err-edge.field-0.0 c.from_residual.ensures fault

pub returns-clause-honest : goal.returns-clause-honest
returns-clause-honest g c = λ entries s same root.
    let may = g.S.Source.may_answer in
    c.audit_edge-done.ensures.honest entries
    (source_later g.H.TreeHash.digest entries (may c.args.source.now) (may c.read_edge.new.source)
    c.in_ok-edge.ensures.given.given.stays s) (c.in_ok-edge.ensures.leads.is_edge.size_is ∙ sym same)
    (c.in_ok-edge.ensures.honest entries s same root)

pub returns-clause-read : goal.returns-clause-read
returns-clause-read g c =
    let may = g.S.Source.may_answer in
    let asked = g.S.Source.asked in
    let size = c.args.size in
    let edge = c.in_ok-edge.edge in
    let a = may c.args.source.now in
    let b = may c.read_edge.new.source in
    let d = may c.audit_edge-done.new.source in
    let x = asked c.args.source.now in
    let y = asked c.read_edge.new.source in
    let z = asked c.audit_edge-done.new.source in
    let digest = g.H.TreeHash.digest in
    let r = c.in_ok-edge.ensures.read in
    let size_is : edge.size ≡ size = c.in_ok-edge.ensures.leads.is_edge.size_is in
    let has = HasEdge digest edge in
    let log = IsLogOf digest size c.args.root.now in
    on_ok c.audit_edge-done.result c.audit_edge-done.ensures.read
    (λ below. read_then a b d x y z digest log has (edge_order size 8) (below_edge size) (file_order size) refl
    (rows_paths digest log size (row_at edge) 8 a b x y r)
    (λ entries l t. record {
      short = l.short;
      size_is = size_is ∙ sym l.size_is;
      rows = edge_is_true digest g.met.H.TreeHash.digest_length edge size size_is a b x y r entries l.short l.size_is t;
    })
    (subst (λ n. AreRead digest has (below_edge n) b d y z) size_is below))

pub returns-in_err-edge-clause-first : goal.returns-in_err-edge-clause-first
returns-in_err-edge-clause-first g c =
    let size = c.args.size in
    let stop = stops_longer g.H.TreeHash.digest size c.args.root.now
    (g.S.Source.may_answer c.args.source.now) (g.S.Source.may_answer c.read_edge.new.source)
    (g.S.Source.asked c.args.source.now) (g.S.Source.asked c.read_edge.new.source) _ c.in_err-edge.ensures.first in
    err_exit _ c.from_residual.result c.in_err-edge.field-0.0 c.from_residual.ensures stop

pub returns-clause-first : goal.returns-clause-first
returns-clause-first g c =
    let digest = g.H.TreeHash.digest in
    let may = g.S.Source.may_answer in
    let asked = g.S.Source.asked in
    let size = c.args.size in
    let root = c.args.root.now in
    let edge = c.in_ok-edge.edge in
    let a = may c.args.source.now in
    let b = may c.read_edge.new.source in
    let d = may c.audit_edge-done.new.source in
    let x = asked c.args.source.now in
    let y = asked c.read_edge.new.source in
    let z = asked c.audit_edge-done.new.source in
    let r = c.in_ok-edge.ensures.read in
    let size_is : edge.size ≡ size = c.in_ok-edge.ensures.leads.is_edge.size_is in
    let has = HasEdge digest edge in
    let log = IsLogOf digest size root in
    let leads = c.in_ok-edge.ensures.leads in
    let read = rows_paths digest log size (row_at edge) 8 a b x y r in
    let edge_read : IsEdgeRead digest size root read.reads = record {
      edge = edge;
      size_is = size_is;
      hashes = λ level low. record { count = leads.is_edge.widths level low; sizes = r.hashes level (omega (arith, low)) };
      root_is = leads.root_is;
      rows = are_of_edge edge (λ l. l < 8) r.reads r.have_rows;
    } in
    on_err (StopsIn digest (below_edge edge.size) has b d y z) (StopsEdge digest (file_order size) size root a d x z)
    c.audit_edge-done.result
    (λ fault stop. stops_below digest size root has a b d x y z read
    (λ entries l t. record {
      short = l.short;
      size_is = size_is ∙ sym l.size_is;
      rows = edge_is_true digest g.met.H.TreeHash.digest_length edge size size_is a b x y r entries l.short l.size_is t;
    })
    edge_read fault (subst (λ n. StopsIn digest (below_edge n) has b d y z fault) size_is stop))
    c.audit_edge-done.ensures.first
