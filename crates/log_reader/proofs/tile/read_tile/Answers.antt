use Rattle.std.proofs.Common.{ℕ, List, None, Some, refl, subst, ◌∙◌}
use Rattle.std.proofs.lemmas.Result.{IfOk-from_err}
use Rattle.log_reader.proofs.TrueReads.{row_is_true, tile_given, tile_there, tile_verifies}
use Rattle.log_reader.proofs.Exits.{counted_exit, found_counted, found_ok, found_true, lacks_exit}
use Rattle.log_reader.proofs.FalseFiles.{full_fails, names_found, names_lacking}
use Rattle.log_reader.specs.FalseFiles.{NamesFull}
use Rattle.log_reader.specs.declared.verify.FullFile.TheVariants as full
use Rattle.tlog_tiles.specs.declared.paths.Path.TheVariants.{Tile}
use Rattle.log_reader.specs.Verified.{Verifies}
use Rattle.log_reader.proofs.tile.read_tile.Goals as goal

pub returns-in_err-bytes : goal.returns-in_err-bytes
returns-in_err-bytes g c =
    let failed = g.S.Source.failed in
    let exit = c.from_residual in
    let step = c.in_err-bytes.ensures in
    record {
      row = IfOk-from_err exit.result _ exit.ensures.0;
      later = step.later;
      kept = step.kept;
      counted = counted_exit exit.result c.get_file.result c.in_err-bytes.field-0.0 exit.ensures c.in_err-bytes.was
          (failed c.args.source.now) (failed c.args.source.now) (failed c.get_file.new.source) refl c.get_file.ensures.counted;
      honest = λ entries t s. lacks_exit exit.result _ c.in_err-bytes.field-0.0 _ exit.ensures step.lacks
          (tile_there g.H.TreeHash.digest g.met.H.TreeHash.digest_length entries (g.S.Source.may_answer c.args.source.now) s
          c.args.level c.args.index c.args.hash.now t);
      asks = step.asks;
      names =
          let digest = g.H.TreeHash.digest in
          let may = g.S.Source.may_answer c.args.source.now in
          let path = Tile c.args.level c.args.index 256 in
          names_lacking (NamesFull digest may full.Tile c.args.hash.now path) exit.result c.in_err-bytes.field-0.0 _ exit.ensures
          step.lacks (full_fails digest may full.Tile c.args.hash.now path)
          (λ none. (refl, record { answer = None; given = none; wrong = tt }));
    }

pub returns : goal.returns
returns g c =
    let failed = g.S.Source.failed in
    let step = c.in_ok-bytes.ensures in
    record {
      row = found_ok c.verified_row.result _ c.or_false.result c.or_false.ensures _ _
          (λ row h. record { bytes = c.deref.result.now; verifies = h }) c.verified_row.ensures.found;
      later = step.later;
      kept = step.kept;
      counted = found_counted c.verified_row.result _ c.or_false.result c.or_false.ensures (failed c.args.source.now)
          (failed c.get_file.new.source) step.counted;
      asks = step.asks;
      names =
          let digest = g.H.TreeHash.digest in
          let may = g.S.Source.may_answer c.args.source.now in
          let path = Tile c.args.level c.args.index 256 in
          names_found (NamesFull digest may full.Tile c.args.hash.now path) c.verified_row.result _ c.or_false.result
          c.or_false.ensures _ c.verified_row.ensures.none
          (λ none. (
            refl,
            record {
              answer = Some c.in_ok-bytes.bytes.items;
              given = step.answer;
              wrong = subst (λ b. (row : List (List ℕ)) → Verifies digest full.Tile c.args.hash.now b row → ⊥)
                  c.deref.ensures.value none;
            },
          )) tt;
      honest = λ entries t s.
          let digest = g.H.TreeHash.digest in
          let length_is = g.met.H.TreeHash.digest_length in
          let is = c.deref.ensures.value ∙ tile_given digest length_is entries (g.S.Source.may_answer c.args.source.now) s
          c.args.level c.args.index c.args.hash.now t c.in_ok-bytes.bytes.items step.answer in
          found_true c.verified_row.result _ c.or_false.result c.or_false.ensures _ _ c.verified_row.ensures.found
          c.verified_row.ensures.none _
          (λ row h. row_is_true digest length_is entries c.args.level c.args.index 256 c.deref.result.now row is h.is_row)
          (λ none. none _ (tile_verifies digest length_is entries c.args.level c.args.index c.args.hash.now c.deref.result.now t is));
    }
