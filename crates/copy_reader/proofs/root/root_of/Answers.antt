use Rattle.std.proofs.Common.{refl}
use Rattle.std.proofs.lemmas.Result.{IfOk-from_err}
use Rattle.log_reader.proofs.Exits.{counted_exit, failed_exit}
use Rattle.log_reader.proofs.Kept.{kept_once}
use Rattle.log_reader.specs.FalseFiles.{NamesFalse}
use Rattle.log_reader.proofs.FalseFiles.{names_exit}
use Rattle.copy_reader.proofs.root.root_of.Goals as goal

pub returns-then-size-clause-kept : goal.returns-then-size-clause-kept
returns-then-size-clause-kept g c = kept_once (g.S.Source.files c.args.files.now)

pub returns-in_err-first : goal.returns-in_err-first
returns-in_err-first g c =
    let failed = g.S.Source.failed in
    let exit = c.from_residual in
    let step = c.in_err-first.ensures in
    record {
      shown = IfOk-from_err exit.result _ exit.ensures.0;
      edge = step.edge;
      root = step.root;
      later = step.later;
      kept = step.kept;
      counted = counted_exit exit.result c.prefix.result c.in_err-first.field-0.0 exit.ensures c.in_err-first.was
          (failed c.args.files.now) (failed c.args.files.now) (failed c.prefix.new.source) refl c.prefix.ensures.counted;
      names = names_exit (NamesFalse g.H.TreeHash.digest (g.S.Source.may_answer c.args.files.now) c.args.reader.now.edge)
          exit.result c.in_err-first.field-0.0 exit.ensures step.names;
      honest = λ entries r s.
          let went = step.honest entries r s in
          record {
            reader_is = went.reader_is;
            answer = failed_exit exit.result _ c.in_err-first.field-0.0 exit.ensures went.answer;
          };
    }
