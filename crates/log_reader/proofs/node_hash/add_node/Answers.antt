use Rattle.std.proofs.Common.{refl}
use Rattle.log_reader.specs.declared.fault.ReadFault.TheVariants.{OutOfMemory}
use Rattle.log_reader.proofs.Exits.{counted_exit, failed_exit, memory_exit}
use Rattle.log_reader.proofs.FalseFiles.{names_exit}
use Rattle.log_reader.specs.FalseFiles.{NamesFalseIfFile}
use Rattle.log_reader.proofs.node_hash.add_node.Goals as goal

pub returns-in_err-hash : goal.returns-in_err-hash
returns-in_err-hash g c =
    let failed = g.S.Source.failed in
    let exit = c.from_residual in
    let step = c.in_err-hash.ensures in
    record {
      edge = step.edge;
      root = step.root;
      later = step.later;
      kept = step.kept;
      counted = counted_exit exit.result c.node_hash.result c.in_err-hash.field-0.0 exit.ensures c.in_err-hash.was
          (failed c.args.source.now) (failed c.args.source.now) (failed c.node_hash.new.source) refl c.node_hash.ensures.counted;
      asks = step.asks;
      names = names_exit (NamesFalseIfFile g.H.TreeHash.digest (g.S.Source.may_answer c.args.source.now) c.args.reader.now.edge) exit.result c.in_err-hash.field-0.0 exit.ensures
          step.names;
      honest = λ entries r s.
          let went = step.honest entries r s in
          record {
            reader_is = went.reader_is;
            answer = failed_exit exit.result _ c.in_err-hash.field-0.0 exit.ensures went.answer;
          };
    }

pub returns-in_err-push : goal.returns-in_err-push
returns-in_err-push g c =
    let failed = g.S.Source.failed in
    let exit = c.from_residual-in_err-push in
    let step = c.in_ok-hash.ensures in
    record {
      edge = step.edge;
      root = step.root;
      later = step.later;
      kept = step.kept;
      counted = memory_exit exit.result exit.ensures (failed c.args.source.now) (failed c.node_hash.new.source) step.counted;
      asks = step.asks;
      names = names_exit (NamesFalseIfFile g.H.TreeHash.digest (g.S.Source.may_answer c.args.source.now) c.args.reader.now.edge) exit.result OutOfMemory exit.ensures tt;
      honest = λ entries r s. record {
        reader_is = (step.honest entries r s).reader_is;
        answer = failed_exit exit.result _ OutOfMemory exit.ensures tt;
      };
    }

pub returns : goal.returns
returns g c =
    let step = c.in_ok-hash.ensures in
    record {
      edge = step.edge;
      root = step.root;
      later = step.later;
      kept = step.kept;
      counted = step.counted;
      asks = step.asks;
      names = tt;
      honest = λ entries r s.
          let went = step.honest entries r s in
          record {
            reader_is = went.reader_is;
            answer = (went.answer, c.in_ok-push.ensures.items);
          };
    }
