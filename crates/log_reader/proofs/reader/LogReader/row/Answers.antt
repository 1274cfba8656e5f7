use Rattle.std.proofs.Common.{◌∙◌, ap, arith, length, refl, subst}
use Rattle.std.proofs.lemmas.Result.{IfOk-from_err}
use Rattle.log_reader.specs.declared.fault.ReadFault.TheVariants.{OutOfMemory}
use Rattle.log_reader.proofs.Exits.{counted_exit, failed_exit, memory_exit}
use Rattle.log_reader.proofs.TrueReads.{there_true}
use Rattle.log_reader.specs.Ways.{HasEdgeHashes}
use Rattle.log_reader.proofs.Climbing.{shown_there}
use Rattle.log_reader.proofs.FalseFiles.{names_exit, shown_wide}
use Rattle.log_reader.specs.FalseFiles.{NamesFalse}
use Rattle.log_reader.proofs.reader.LogReader.row.Goals as goal

pub returns-in_err-go_to : goal.returns-in_err-go_to
returns-in_err-go_to g c =
    let failed = g.S.Source.failed in
    let exit = c.from_residual in
    let step = c.in_err-go_to.ensures in
    record {
      edge = step.edge;
      root = step.root;
      enough = IfOk-from_err exit.result _ exit.ensures.0;
      shown = IfOk-from_err exit.result _ exit.ensures.0;
      later = step.later;
      kept = step.kept;
      counted = counted_exit exit.result c.go_to.result c.in_err-go_to.field-0.0 exit.ensures c.in_err-go_to.was
          (failed c.args.source.now) (failed c.args.source.now) (failed c.go_to.new.source) refl c.go_to.ensures.counted;
      names = names_exit (NamesFalse g.H.TreeHash.digest (g.S.Source.may_answer c.args.source.now) c.args.self.now.edge) exit.result c.in_err-go_to.field-0.0 exit.ensures
          step.names;
      honest = λ entries r s.
          let went = step.honest entries r s in
          record {
            reader_is = went.reader_is;
            answer = failed_exit exit.result _ c.in_err-go_to.field-0.0 exit.ensures went.answer;
          };
    }

pub returns-in_err-copy_row : goal.returns-in_err-copy_row
returns-in_err-copy_row g c =
    let failed = g.S.Source.failed in
    let exit = c.from_residual-in_err-copy_row in
    let step = c.in_ok-go_to.ensures in
    record {
      edge = step.edge;
      root = step.root;
      enough = IfOk-from_err exit.result _ exit.ensures.0;
      shown = IfOk-from_err exit.result _ exit.ensures.0;
      later = step.later;
      kept = step.kept;
      counted = memory_exit exit.result exit.ensures (failed c.args.source.now) (failed c.go_to.new.source) step.counted;
      names = names_exit (NamesFalse g.H.TreeHash.digest (g.S.Source.may_answer c.args.source.now) c.args.self.now.edge) exit.result OutOfMemory exit.ensures tt;
      honest = λ entries r s. record {
        reader_is = (step.honest entries r s).reader_is;
        answer = failed_exit exit.result _ OutOfMemory exit.ensures tt;
      };
    }

pub returns-clause-edge : goal.returns-clause-edge
returns-clause-edge g c = c.in_ok-go_to.ensures.edge

pub returns-clause-root : goal.returns-clause-root
returns-clause-root g c = c.in_ok-go_to.ensures.root

pub returns-clause-later : goal.returns-clause-later
returns-clause-later g c = c.in_ok-go_to.ensures.later

pub returns-clause-kept : goal.returns-clause-kept
returns-clause-kept g c = c.in_ok-go_to.ensures.kept

pub returns-clause-counted : goal.returns-clause-counted
returns-clause-counted g c = c.in_ok-go_to.ensures.counted

pub returns-clause-honest : goal.returns-clause-honest
returns-clause-honest g c = λ entries r s.
    let is = (c.in_ok-go_to.ensures.honest entries r s).reader_is in
    record {
      reader_is = is;
      answer = c.in_ok-copy_row.ensures.items
          ∙ there_true g.H.TreeHash.digest g.met.H.TreeHash.digest_length entries c.go_to.new.reader is c.args.level c.args.index
          c.here.result.now c.here.ensures.row c.in_ok-go_to.ensures.there;
    }

pub returns-clause-enough : goal.returns-clause-enough
returns-clause-enough g c =
    let digest = g.H.TreeHash.digest in
    let edge = c.args.self.now.edge in
    let row = c.here.result.now in
    let went = c.in_ok-go_to.ensures in
    let shown = shown_there digest edge c.go_to.new.reader c.args.level c.args.index row went.edge went.there c.here.ensures.shown in
    let wide = shown_wide digest edge (subst HasEdgeHashes went.edge c.here.ensures.hashes) c.args.level c.args.index row shown in
    omega (arith, wide, ap length c.in_ok-copy_row.ensures.items)
