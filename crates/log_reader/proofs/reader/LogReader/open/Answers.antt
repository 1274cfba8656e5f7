use Rattle.std.proofs.Common.{◌<◌, ◌^◌, length, refl, sym, ◌∙◌, arith}
use Rattle.std.proofs.lemmas.Result.{IfOk-from_err}
use Rattle.log_reader.proofs.Exits.{counted_exit, failed_exit}
use Rattle.log_reader.proofs.TruePrefixes.{reader_made}
use Rattle.log_reader.proofs.FalseFiles.{names_exit}
use Rattle.log_reader.specs.FalseEdges.{NamesFalseEdge}
use Rattle.log_reader.proofs.reader.LogReader.open.Goals as goal

pub returns-in_err-edge : goal.returns-in_err-edge
returns-in_err-edge g c =
    let failed = g.S.Source.failed in
    let exit = c.from_residual in
    let step = c.in_err-edge.ensures in
    let fault = c.in_err-edge.field-0.0 in
    record {
      size = IfOk-from_err exit.result _ exit.ensures.0;
      root = IfOk-from_err exit.result _ exit.ensures.0;
      given = IfOk-from_err exit.result _ exit.ensures.0;
      later = step.later;
      kept = step.kept;
      counted = counted_exit exit.result c.read_edge.result fault exit.ensures c.in_err-edge.was (failed c.args.source.now)
          (failed c.args.source.now) (failed c.read_edge.new.source) refl c.read_edge.ensures.counted;
      names = names_exit (NamesFalseEdge g.H.TreeHash.digest (g.S.Source.may_answer c.args.source.now) c.args.size c.args.root.now)
          exit.result fault exit.ensures step.names;
      honest = λ entries same root s. failed_exit exit.result _ fault exit.ensures (step.honest entries same root s);
    }

pub returns-clause-honest : goal.returns-clause-honest
returns-clause-honest g c = λ entries same root s.
    let small : length entries < 256 ^ 8 = omega (arith, same, c.ranges.size.fits) in
    reader_made g.H.TreeHash.digest entries c.in_ok-edge.edge c.over.result (same ∙ sym c.in_ok-edge.ensures.size) small
    (c.in_ok-edge.ensures.honest entries same root s) c.over.ensures.edge (c.over.ensures.root ∙ sym c.in_ok-edge.ensures.root)
    c.over.ensures.place.0 c.over.ensures.place.1 c.over.ensures.place.2
