use Rattle.std.proofs.Common.{inr, ℕ, ◌<◌, ◌≤◌, ◌^◌, length, subst, sym, ap, ◌∙◌, arith, refl}
use Rattle.std.proofs.lemmas.Bool.{false≢true}
use Rattle.log_reader.specs.EdgeRows.{RowIsTrue, hash_of_edge}
use Rattle.log_reader.specs.Ways.{HasEdgeHashes}
use Rattle.log_reader.proofs.Prefixes.{true_rows_lead}
use Rattle.std.proofs.lemmas.Result.{IfOk-from_err}
use Rattle.log_reader.specs.declared.fault.ReadFault.TheVariants.{OutOfMemory}
use Rattle.log_reader.proofs.Exits.{counted_exit, failed_exit, memory_exit}
use Rattle.log_reader.proofs.FalseEdges.{edge_named}
use Rattle.log_reader.proofs.FalseFiles.{names_exit}
use Rattle.log_reader.specs.FalseEdges.{IsEdgeGiven, NamesFalseEdge}
use Rattle.log_reader.proofs.edge_files.read_edge.Goals as goal

pub returns-in_err-rows : goal.returns-in_err-rows
returns-in_err-rows g c =
    let failed = g.S.Source.failed in
    let exit = c.from_residual in
    let step = c.in_err-rows.ensures in
    record {
      size = IfOk-from_err exit.result _ exit.ensures.0;
      rows = IfOk-from_err exit.result _ exit.ensures.0;
      root = IfOk-from_err exit.result _ exit.ensures.0;
      got = IfOk-from_err exit.result _ exit.ensures.0;
      later = step.later;
      kept = step.kept;
      counted = counted_exit exit.result c.read_rows.result c.in_err-rows.field-0.0 exit.ensures c.in_err-rows.was
          (failed c.args.source.now) (failed c.args.source.now) (failed c.read_rows.new.source) refl c.read_rows.ensures.counted;
      names = names_exit (NamesFalseEdge g.H.TreeHash.digest (g.S.Source.may_answer c.args.source.now) c.args.size c.args.root.now)
          exit.result c.in_err-rows.field-0.0 exit.ensures (edge_named g.H.TreeHash.digest (g.S.Source.may_answer c.args.source.now)
          c.args.size c.args.root.now c.in_err-rows.field-0.0 step.names);
      honest = λ entries same root s.
          failed_exit exit.result _ c.in_err-rows.field-0.0 exit.ensures (step.honest entries same s);
    }

pub returns-in_err-edge : goal.returns-in_err-edge
returns-in_err-edge g c =
    let failed = g.S.Source.failed in
    let exit = c.from_residual-in_err-edge in
    let step = c.in_ok-rows.ensures in
    record {
      size = IfOk-from_err exit.result _ exit.ensures.0;
      rows = IfOk-from_err exit.result _ exit.ensures.0;
      root = IfOk-from_err exit.result _ exit.ensures.0;
      got = IfOk-from_err exit.result _ exit.ensures.0;
      later = step.later;
      kept = step.kept;
      counted = memory_exit exit.result exit.ensures (failed c.args.source.now) (failed c.read_rows.new.source) step.counted;
      names = names_exit (NamesFalseEdge g.H.TreeHash.digest (g.S.Source.may_answer c.args.source.now) c.args.size c.args.root.now)
          exit.result OutOfMemory exit.ensures tt;
      honest = λ entries same root s. failed_exit exit.result _ OutOfMemory exit.ensures tt;
    }

pub returns-then-is_same : goal.returns-then-is_same
returns-then-is_same g c =
    let step = c.in_ok-rows.ensures in
    let is = c.in_ok-edge.ensures in
    record {
      size = ap (λ e. e.size) is ∙ step.size;
      rows = subst HasEdgeHashes (sym is) step.rows;
      root = sym c.root.ensures ∙ c.is_same.ensures.0 c.if-is_same.true;
      got = subst (IsEdgeGiven (g.S.Source.may_answer c.args.source.now) c.args.size) (sym is) step.got;
      later = step.later;
      kept = step.kept;
      counted = step.counted;
      names = tt;
      honest = λ entries same root s.
          subst (λ e. (level : ℕ) → level ≤ 7 → RowIsTrue g.H.TreeHash.digest e entries level) (sym is)
          (step.honest entries same s);
    }

pub returns-else-is_same : goal.returns-else-is_same
returns-else-is_same g c = record {
  size = tt;
  rows = tt;
  root = tt;
  got = tt;
  later = c.in_ok-rows.ensures.later;
  kept = c.in_ok-rows.ensures.kept;
  counted = c.in_ok-rows.ensures.counted;
  names = inr (record {
    edge = c.in_ok-rows.rows;
    size_is = c.in_ok-rows.ensures.size;
    widths = λ level low. (c.in_ok-rows.ensures.rows level low).count;
    rows = c.in_ok-rows.ensures.got;
    lowest = c.lowest_path.ensures;
    wrong = λ leads. false≢true (sym c.if-is_same.false ∙ c.is_same.ensures.1
        (c.root.ensures ∙ (ap (hash_of_edge g.H.TreeHash.digest) c.in_ok-edge.ensures ∙ leads)));
  });
  honest = λ entries same root s.
      let digest = g.H.TreeHash.digest in
      let small : length entries < 256 ^ 8 = omega (arith, same, c.ranges.size.fits) in
      let leads = true_rows_lead digest c.in_ok-rows.rows entries (same ∙ sym c.in_ok-rows.ensures.size) small
      (c.in_ok-rows.ensures.honest entries same s) in
      false≢true (sym c.if-is_same.false
      ∙ c.is_same.ensures.1 (c.root.ensures ∙ (ap (hash_of_edge digest) c.in_ok-edge.ensures ∙ (leads ∙ root))));
}
