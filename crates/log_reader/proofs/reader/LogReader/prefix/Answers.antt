use Rattle.std.proofs.Common.{◌≡◌, ◌<◌, ◌≤◌, ◌^◌, length, subst, sym, ap, take, ◌∙◌, arith, refl}
use Rattle.tlog_shape.specs.Edge.{edge_index_of}
use Rattle.log_reader.specs.EdgeRows.{hash_of_edge}
use Rattle.log_reader.specs.Ways.{HasEdgeHashes, IsShownEdge}
use Rattle.log_reader.proofs.TruePrefixes.{reader_made, size_first}
use Rattle.std.proofs.lemmas.Result.{IfOk-from_err}
use Rattle.log_reader.specs.declared.fault.ReadFault.TheVariants.{OutOfMemory}
use Rattle.log_reader.proofs.Exits.{counted_exit, failed_exit, memory_exit}
use Rattle.log_reader.proofs.FalseFiles.{names_exit}
use Rattle.log_reader.specs.FalseFiles.{NamesFalse}
use Rattle.log_reader.proofs.reader.LogReader.prefix.Goals as goal

pub returns-in_err-rows : goal.returns-in_err-rows
returns-in_err-rows g c =
    let failed = g.S.Source.failed in
    let exit = c.from_residual in
    let step = c.in_err-rows.ensures in
    record {
      edge = step.edge;
      root = step.root;
      size = IfOk-from_err exit.result _ exit.ensures.0;
      shown = IfOk-from_err exit.result _ exit.ensures.0;
      later = step.later;
      kept = step.kept;
      counted = counted_exit exit.result c.first_edge.result c.in_err-rows.field-0.0 exit.ensures c.in_err-rows.was
          (failed c.args.source.now) (failed c.args.source.now) (failed c.first_edge.new.source) refl c.first_edge.ensures.counted;
      names = names_exit (NamesFalse g.H.TreeHash.digest (g.S.Source.may_answer c.args.source.now) c.args.self.now.edge) exit.result c.in_err-rows.field-0.0 exit.ensures
          step.names;
      honest = λ entries r s.
          let went = step.honest entries r s in
          record {
            reader_is = went.reader_is;
            answer = failed_exit exit.result _ c.in_err-rows.field-0.0 exit.ensures went.answer;
          };
    }

pub returns-in_err-edge : goal.returns-in_err-edge
returns-in_err-edge g c =
    let failed = g.S.Source.failed in
    let exit = c.from_residual-in_err-edge in
    let step = c.in_ok-rows.ensures in
    record {
      edge = step.edge;
      root = step.root;
      size = IfOk-from_err exit.result _ exit.ensures.0;
      shown = IfOk-from_err exit.result _ exit.ensures.0;
      later = step.later;
      kept = step.kept;
      counted = memory_exit exit.result exit.ensures (failed c.args.source.now) (failed c.first_edge.new.source) step.counted;
      names = names_exit (NamesFalse g.H.TreeHash.digest (g.S.Source.may_answer c.args.source.now) c.args.self.now.edge) exit.result OutOfMemory exit.ensures tt;
      honest = λ entries r s. record {
        reader_is = (step.honest entries r s).reader_is;
        answer = failed_exit exit.result _ OutOfMemory exit.ensures tt;
      };
    }

pub over-requires-clause-hashes : goal.over-requires-clause-hashes
over-requires-clause-hashes g c = subst HasEdgeHashes (sym c.in_ok-edge.ensures) c.in_ok-rows.ensures.hashes

pub over-requires-clause-leads : goal.over-requires-clause-leads
over-requires-clause-leads g c = sym c.root-root.ensures

pub returns : goal.returns
returns g c =
    let digest = g.H.TreeHash.digest in
    let size = c.args.size in
    let rows = c.in_ok-rows.rows in
    let step = c.in_ok-rows.ensures in
    let same : c.in_ok-edge.edge ≡ rows = c.in_ok-edge.ensures in
    let edge_is = c.over.ensures.edge ∙ same in
    record {
      edge = step.edge;
      root = step.root;
      size = ap (λ e. e.size) edge_is ∙ step.size;
      shown = subst (IsShownEdge digest c.args.self.now.edge) (sym edge_is) step.shown;
      later = step.later;
      kept = step.kept;
      counted = step.counted;
      names = tt;
      honest = λ entries r s.
          let done = step.honest entries r s in
          let within : size ≤ length entries = subst (λ n. size ≤ n) r.size_is c.requires in
          let long : length (take size entries) ≡ size = size_first digest entries size within in
          let small : length (take size entries) < 256 ^ 8 = omega (arith, long, c.ranges.size.fits) in
          record {
            reader_is = done.reader_is;
            answer = reader_made digest (take size entries) rows c.over.result (long ∙ sym step.size) small
                done.answer edge_is (c.over.ensures.root ∙ (c.root-root.ensures ∙ ap (hash_of_edge digest) same))
                c.over.ensures.place.0 (c.over.ensures.place.1 ∙ ap (λ e. edge_index_of e.size 0) same) c.over.ensures.place.2;
          };
    }
