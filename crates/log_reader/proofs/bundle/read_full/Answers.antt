use Rattle.std.specs.Bool.{⊤}
use Rattle.std.proofs.Common.{ℕ, List, IfErr, None, Some, refl, subst, ◌∙◌}
use Rattle.std.proofs.lemmas.Result.{IfOk-at_ok, IfOk-from_err}
use Rattle.log_reader.specs.Holding.{ReadsTrue}
use Rattle.log_reader.specs.Verified.{Verifies}
use Rattle.log_reader.specs.declared.verify.FullFile.TheVariants.{Bundle}
use Rattle.log_reader.proofs.TrueBundles.{bundle_given, bundle_there, bundle_verifies}
use Rattle.log_reader.proofs.Exits.{counted_exit, failed_exit, found_counted, found_ok, found_true, lacks_exit}
use Rattle.log_reader.proofs.FalseFiles.{full_fails, names_exit, names_found, names_lacking}
use Rattle.log_reader.specs.FalseFiles.{NamesFull}
use Rattle.tlog_tiles.specs.declared.paths.Path.TheVariants.{Entries}
use Rattle.log_reader.proofs.bundle.read_full.Goals as goal

pub returns-in_err-bytes : goal.returns-in_err-bytes
returns-in_err-bytes g c =
    let failed = g.S.Source.failed in
    let exit = c.from_residual in
    let step = c.in_err-bytes.ensures in
    record {
      bytes = IfOk-from_err exit.result _ exit.ensures.0;
      given = IfOk-from_err exit.result _ exit.ensures.0;
      later = step.later;
      kept = step.kept;
      counted = counted_exit exit.result c.get_file.result c.in_err-bytes.field-0.0 exit.ensures c.in_err-bytes.was
          (failed c.args.source.now) (failed c.args.source.now) (failed c.get_file.new.source) refl c.get_file.ensures.counted;
      names =
          let digest = g.H.TreeHash.digest in
          let may = g.S.Source.may_answer c.args.source.now in
          let path = Entries c.args.index 256 in
          names_lacking (NamesFull digest may Bundle c.args.hash.now path) exit.result c.in_err-bytes.field-0.0 _ exit.ensures
          step.lacks (full_fails digest may Bundle c.args.hash.now path)
          (λ none. (refl, record { answer = None; given = none; wrong = tt }));
      honest = λ entries t s. lacks_exit exit.result _ c.in_err-bytes.field-0.0 _ exit.ensures step.lacks
          (bundle_there g.H.TreeHash.digest g.met.H.TreeHash.digest_length entries (g.S.Source.may_answer c.args.source.now) s
          c.args.index c.args.hash.now t);
    }

pub returns-in_err-row : goal.returns-in_err-row
returns-in_err-row g c =
    let failed = g.S.Source.failed in
    let exit = c.from_residual-in_err-row in
    let step = c.in_ok-bytes.ensures in
    let old = failed c.args.source.now in
    let mid = failed c.get_file.new.source in
    record {
      bytes = IfOk-from_err exit.result _ exit.ensures.0;
      given = IfOk-from_err exit.result _ exit.ensures.0;
      later = step.later;
      kept = step.kept;
      counted = counted_exit exit.result c.or_false.result c.in_err-row.field-0.0 exit.ensures c.in_err-row.was old mid mid
          step.counted (found_counted c.verified.result _ c.or_false.result c.or_false.ensures mid mid refl);
      names =
          let digest = g.H.TreeHash.digest in
          let may = g.S.Source.may_answer c.args.source.now in
          let path = Entries c.args.index 256 in
          let named = names_found (NamesFull digest may Bundle c.args.hash.now path) c.verified.result _ c.or_false.result
          c.or_false.ensures _ c.verified.ensures.none
          (λ none. (
            refl,
            record {
              answer = Some c.in_ok-bytes.bytes.items;
              given = step.answer;
              wrong = subst (λ b. (row : List (List ℕ)) → Verifies digest Bundle c.args.hash.now b row → ⊥) c.deref.ensures.value
                  none;
            },
          )) tt in
          names_exit (NamesFull digest may Bundle c.args.hash.now path) exit.result c.in_err-row.field-0.0 exit.ensures
          (subst (λ r. IfErr r (NamesFull digest may Bundle c.args.hash.now path)) c.in_err-row.was named);
      honest = λ entries t s.
          let digest = g.H.TreeHash.digest in
          let length_is = g.met.H.TreeHash.digest_length in
          let may = g.S.Source.may_answer c.args.source.now in
          let is = bundle_given digest length_is entries may s c.args.index c.args.hash.now t c.in_ok-bytes.bytes.items step.answer in
          failed_exit exit.result _ c.in_err-row.field-0.0 exit.ensures (subst (λ r. ReadsTrue r (λ _. ⊤)) c.in_err-row.was
          (found_true c.verified.result _ c.or_false.result c.or_false.ensures _ _ c.verified.ensures.found
          c.verified.ensures.none (λ _. ⊤) (λ row h. tt) (λ none. none _ (bundle_verifies digest length_is entries may s
          c.args.index c.args.hash.now t c.deref.result.now (c.deref.ensures.value ∙ is)))));
    }

pub returns : goal.returns
returns g c =
    let step = c.in_ok-bytes.ensures in
    let row = c.in_ok-row.row in
    record {
      bytes = record {
        row = row.items;
        verifies = subst (λ bytes. Verifies g.H.TreeHash.digest Bundle c.args.hash.now bytes row.items) c.deref.ensures.value
            (IfOk-at_ok _ c.in_ok-row.was
            (found_ok c.verified.result _ c.or_false.result c.or_false.ensures _ _ (λ _ h. h) c.verified.ensures.found));
      };
      given = step.answer;
      later = step.later;
      kept = step.kept;
      counted = step.counted;
      names = tt;
      honest = λ entries t s. bundle_given g.H.TreeHash.digest g.met.H.TreeHash.digest_length entries
          (g.S.Source.may_answer c.args.source.now) s c.args.index c.args.hash.now t c.in_ok-bytes.bytes.items step.answer;
    }
