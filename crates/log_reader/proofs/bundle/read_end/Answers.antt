use Rattle.std.proofs.Common.{inl, inr, length, refl, subst, sym, ◌∙◌}
use Rattle.std.proofs.lemmas.Bool.{false≢true}
use Rattle.std.proofs.lemmas.Result.{IfOk-from_err}
use Rattle.tlog_tiles.specs.declared.paths.Path.TheVariants.{Entries}
use Rattle.log_reader.specs.FalseFiles.{IsFalseEnd}
use Rattle.log_reader.specs.Faults.{NamesFile}
use Rattle.log_reader.specs.Parts.{LacksPart}
use Rattle.log_reader.specs.Verified.{HasLeaves}
use Rattle.log_reader.specs.declared.fault.ReadFault.TheVariants.{OutOfMemory}
use Rattle.log_reader.proofs.Exits.{counted_exit, failed_exit, memory_exit, names_more}
use Rattle.log_reader.proofs.FalseFiles.{names_exit}
use Rattle.log_reader.proofs.Parts.{part_there, part_true}
use Rattle.log_reader.proofs.TrueBundles.{end_file, end_leaves}
use Rattle.log_reader.proofs.bundle.read_end.Goals as goal

pub returns-in_err-bytes : goal.returns-in_err-bytes
returns-in_err-bytes g c =
    let failed = g.S.Source.failed in
    let digest = g.H.TreeHash.digest in
    let may = g.S.Source.may_answer c.args.source.now in
    let row = c.args.row.now in
    let exit = c.from_residual in
    let step = c.in_err-bytes.ensures in
    let fault = c.in_err-bytes.field-0.0 in
    record {
      bytes = IfOk-from_err exit.result _ exit.ensures.0;
      given = IfOk-from_err exit.result _ exit.ensures.0;
      later = step.later;
      kept = step.kept;
      counted = counted_exit exit.result c.get_partial.result fault exit.ensures c.in_err-bytes.was (failed c.args.source.now)
          (failed c.args.source.now) (failed c.get_partial.new.source) refl c.get_partial.ensures.counted;
      names = names_exit (NamesFile (IsFalseEnd digest may row c.args.index)) exit.result fault exit.ensures
          (names_more (LacksPart may (Entries c.args.index (length row))) (IsFalseEnd digest may row c.args.index) (λ named h. inl h) fault
          step.names);
      honest = λ entries e s. failed_exit exit.result _ fault exit.ensures
          (part_there digest g.met.H.TreeHash.digest_length entries may s (Entries c.args.index (length row))
          (end_file digest entries c.args.index row e) fault step.names);
    }

pub returns-in_err-has_leaves : goal.returns-in_err-has_leaves
returns-in_err-has_leaves g c =
    let failed = g.S.Source.failed in
    let exit = c.from_residual-in_err-has_leaves in
    let step = c.in_ok-bytes.ensures in
    record {
      bytes = IfOk-from_err exit.result _ exit.ensures.0;
      given = IfOk-from_err exit.result _ exit.ensures.0;
      later = step.later;
      kept = step.kept;
      counted = memory_exit exit.result exit.ensures (failed c.args.source.now) (failed c.get_partial.new.source) step.counted;
      names = names_exit (NamesFile (IsFalseEnd g.H.TreeHash.digest (g.S.Source.may_answer c.args.source.now) c.args.row.now c.args.index))
          exit.result OutOfMemory exit.ensures tt;
      honest = λ entries e s. failed_exit exit.result _ OutOfMemory exit.ensures tt;
    }

pub returns-then-branch : goal.returns-then-branch
returns-then-branch g c =
    let digest = g.H.TreeHash.digest in
    let row = c.args.row.now in
    let step = c.in_ok-bytes.ensures in
    record {
      bytes = subst (λ b. HasLeaves digest (length row) b row) c.deref.ensures.value
          (c.in_ok-has_leaves.ensures.0 c.if-branch.true);
      given = step.given;
      later = step.later;
      kept = step.kept;
      counted = step.counted;
      names = tt;
      honest = λ entries e s. part_true digest g.met.H.TreeHash.digest_length entries
          (g.S.Source.may_answer c.args.source.now) s (Entries c.args.index (length row))
          (end_file digest entries c.args.index row e) c.in_ok-bytes.bytes.items step.given;
    }

pub returns-else-branch : goal.returns-else-branch
returns-else-branch g c =
    let digest = g.H.TreeHash.digest in
    let row = c.args.row.now in
    let step = c.in_ok-bytes.ensures in
    record {
      bytes = tt;
      given = tt;
      later = step.later;
      kept = step.kept;
      counted = step.counted;
      names = inr (
        refl,
        c.in_ok-bytes.bytes.items,
        step.given,
        λ has. false≢true (sym c.if-branch.false ∙ c.in_ok-has_leaves.ensures.1
            (subst (λ b. HasLeaves digest (length row) b row) (sym c.deref.ensures.value) has)),
      );
      honest = λ entries e s.
          let length_is = g.met.H.TreeHash.digest_length in
          let is = part_true digest length_is entries (g.S.Source.may_answer c.args.source.now) s (Entries c.args.index (length row))
          (end_file digest entries c.args.index row e) c.in_ok-bytes.bytes.items step.given in
          false≢true (sym c.if-branch.false ∙ c.in_ok-has_leaves.ensures.1
          (end_leaves digest length_is entries c.args.index row e c.deref.result.now s.short (c.deref.ensures.value ∙ is)));
    }
