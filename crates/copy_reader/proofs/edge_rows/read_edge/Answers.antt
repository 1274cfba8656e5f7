use Rattle.std.proofs.Common.{inr, ◌<◌, ◌^◌, length, sym, ◌∙◌, arith}
use Rattle.std.proofs.lemmas.Bool.{false≢true}
use Rattle.log_reader.proofs.Prefixes.{true_rows_lead}
use Rattle.copy_reader.proofs.LogStops.{stops_at_edge}
use Rattle.copy_reader.proofs.RowsGiven.{edge_is_true}
use Rattle.copy_reader.proofs.AuditExits.{err_exit, true_exit}
use Rattle.copy_reader.proofs.edge_rows.read_edge.Goals as goal

pub returns-in_err-edge-clause-honest : goal.returns-in_err-edge-clause-honest
returns-in_err-edge-clause-honest g c = λ entries s same root.
    let fault = c.in_err-edge.ensures.honest g.H.TreeHash.digest entries g.met.H.TreeHash.digest_length s same in
    true_exit c.from_residual.result _ c.in_err-edge.field-0.0 c.from_residual.ensures fault

pub returns-then-branch-clause-honest : goal.returns-then-branch-clause-honest
returns-then-branch-clause-honest g c = λ entries s same root.
    c.in_ok-edge.ensures.honest g.H.TreeHash.digest entries g.met.H.TreeHash.digest_length s same

pub returns-else-branch-clause-honest : goal.returns-else-branch-clause-honest
returns-else-branch-clause-honest g c = λ entries s same root.
    let digest = g.H.TreeHash.digest in
    let small : length entries < 256 ^ 8 = omega (arith, same, c.ranges.size.fits) in
    let leads = true_rows_lead digest c.in_ok-edge.edge entries (same ∙ sym c.in_ok-edge.ensures.edge.size_is) small
    (c.in_ok-edge.ensures.honest digest entries g.met.H.TreeHash.digest_length s same) in
    absurd (false≢true (sym c.if-branch.false ∙ c.in_ok-leads_to.ensures.1 (leads ∙ root)))

pub returns-in_err-edge-clause-first : goal.returns-in_err-edge-clause-first
returns-in_err-edge-clause-first g c =
    let digest = g.H.TreeHash.digest in
    let size = c.args.size in
    let stop = stops_at_edge digest size c.args.root.now
    (g.S.Source.may_answer c.args.source.now) (g.S.Source.may_answer c.rows_of.new.source)
    (g.S.Source.asked c.args.source.now) (g.S.Source.asked c.rows_of.new.source) _
    (c.in_err-edge.ensures.first digest g.met.H.TreeHash.digest_length) in
    err_exit _ c.from_residual.result c.in_err-edge.field-0.0 c.from_residual.ensures stop

pub returns-else-branch-clause-first : goal.returns-else-branch-clause-first
returns-else-branch-clause-first g c =
    let digest = g.H.TreeHash.digest in
    let size = c.args.size in
    let r = c.in_ok-edge.ensures.read in
    inr (record {
      reads = r.reads;
      given = r.given;
      order = r.paths_are;
      lowest = c.lowest_path.ensures;
      wrong = λ entries log t.
          let small : length entries < 256 ^ 8 = omega (arith, log.size_is, c.ranges.size.fits) in
          let size_is = c.in_ok-edge.ensures.edge.size_is in
          let leads = true_rows_lead digest c.in_ok-edge.edge entries (log.size_is ∙ sym size_is) small
          (edge_is_true digest g.met.H.TreeHash.digest_length c.in_ok-edge.edge size size_is
          (g.S.Source.may_answer c.args.source.now) (g.S.Source.may_answer c.rows_of.new.source)
          (g.S.Source.asked c.args.source.now) (g.S.Source.asked c.rows_of.new.source) r entries log.short log.size_is t) in
          absurd (false≢true (sym c.if-branch.false ∙ c.in_ok-leads_to.ensures.1 (leads ∙ log.root_is)));
    })
