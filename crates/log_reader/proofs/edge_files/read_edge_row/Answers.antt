use Rattle.std.proofs.Common.{ℕ, List, ◌<◌, inr, refl, sym, subst, ◌∙◌, arith}
use Rattle.std.proofs.lemmas.List.Elements.{All-nil}
use Rattle.std.proofs.lemmas.Result.{IfOk-from_err}
use Rattle.tlog_shape.specs.Edge.{width_of}
use Rattle.tlog_tiles.specs.Row.{IsRow}
use Rattle.log_reader.specs.Faults.{NamesFile}
use Rattle.log_reader.specs.FalseEdges.{NamesFalsePart, part_path}
use Rattle.log_reader.specs.Holding.{IsTreeFile}
use Rattle.log_reader.specs.Parts.{IsPartGiven, LacksPart}
use Rattle.log_reader.specs.Ways.{AreHashesOf}
use Rattle.log_reader.proofs.Exits.{counted_exit, failed_exit, found_counted, found_ok, found_true}
use Rattle.log_reader.proofs.FalseEdges.{row_lacking}
use Rattle.log_reader.proofs.FalseFiles.{names_exit, names_found}
use Rattle.log_reader.proofs.Kept.{kept_once}
use Rattle.log_reader.proofs.Parts.{part_there, part_true}
use Rattle.log_reader.proofs.TruePrefixes.{no_row_is_true}
use Rattle.log_reader.proofs.TrueReads.{edge_row, edge_tile_file, one_row}
use Rattle.log_reader.proofs.edge_files.read_edge_row.Goals as goal

pub returns-in_err-bytes : goal.returns-in_err-bytes
returns-in_err-bytes g c =
    let failed = g.S.Source.failed in
    let may = g.S.Source.may_answer c.args.source.now in
    let size = c.args.size in
    let level = c.args.level in
    let exit = c.from_residual in
    let step = c.in_err-bytes.ensures in
    let fault = c.in_err-bytes.field-0.0 in
    let some : 0 < width_of size level = omega (arith, c.edge_width-width.ensures, c.if-width-eq0.false) in
    let lacks = subst (λ p. NamesFile (LacksPart may p) fault) c.edge_path-path.ensures step.names in
    record {
      row = IfOk-from_err exit.result _ exit.ensures.0;
      got = IfOk-from_err exit.result _ exit.ensures.0;
      later = step.later;
      kept = step.kept;
      counted = counted_exit exit.result c.get_partial.result fault exit.ensures c.in_err-bytes.was (failed c.args.source.now)
          (failed c.args.source.now) (failed c.get_partial.new.source) refl c.get_partial.ensures.counted;
      names = names_exit (NamesFalsePart may size) exit.result fault exit.ensures
          (row_lacking may size level c.requires some fault lacks);
      honest = λ entries same s. failed_exit exit.result _ fault exit.ensures
          (part_there g.H.TreeHash.digest g.met.H.TreeHash.digest_length entries may s (part_path size level)
          (subst (λ n. IsTreeFile n (part_path size level)) (sym same) (edge_tile_file size level c.requires some)) fault lacks);
    }

pub returns-then-width-eq0 : goal.returns-then-width-eq0
returns-then-width-eq0 g c =
    let none = sym c.edge_width-width.ensures ∙ c.if-width-eq0.true in
    record {
      row = subst (AreHashesOf (width_of c.args.size c.args.level)) (sym c.new.ensures.items)
          (record { count = sym none; sizes = All-nil _ });
      got = λ some. absurd (omega (arith, some, none));
      later = record { stays = λ path answer may. may };
      kept = kept_once (g.S.Source.files c.args.source.now);
      counted = refl;
      names = tt;
      honest = λ entries same s.
          no_row_is_true g.H.TreeHash.digest entries c.args.size c.args.level entries c.new.result.items none c.new.ensures.items;
    }

pub returns : goal.returns
returns g c =
    let failed = g.S.Source.failed in
    let may = g.S.Source.may_answer c.args.source.now in
    let size = c.args.size in
    let level = c.args.level in
    let wide = c.edge_width-width.ensures in
    let step = c.in_ok-bytes.ensures in
    let bytes = c.in_ok-bytes.bytes.items in
    let text = c.deref.result.now in
    let read = c.row_in in
    let some : 0 < width_of size level = omega (arith, wide, c.if-width-eq0.false) in
    let given = subst (λ p. IsPartGiven may p bytes) c.edge_path-path.ensures step.given in
    record {
      row = found_ok read.result c.edge_path-path.result c.or_false.result c.or_false.ensures _ _
          (λ row h. record { count = h.count ∙ wide; sizes = h.sizes }) read.ensures.row;
      got = found_ok read.result c.edge_path-path.result c.or_false.result c.or_false.ensures _ _
          (λ row h. λ _. (
            bytes,
            given,
            subst (λ b. IsRow (width_of size level) b row.items) c.deref.ensures.value (subst (λ w. IsRow w text row.items) wide h),
          )) read.ensures.row;
      later = step.later;
      kept = step.kept;
      counted = found_counted read.result c.edge_path-path.result c.or_false.result c.or_false.ensures (failed c.args.source.now)
          (failed c.get_partial.new.source) step.counted;
      names = names_found (NamesFalsePart may size) read.result c.edge_path-path.result c.or_false.result c.or_false.ensures _
          read.ensures.none
          (λ none. (
            level,
            record {
              low = c.requires;
              some = some;
              wrong = inr (
                c.edge_path-path.ensures,
                bytes,
                given,
                λ h. subst (λ b. (row : List (List ℕ)) → IsRow (width_of size level) b row → ⊥) c.deref.ensures.value
                    (subst (λ w. (row : List (List ℕ)) → IsRow w text row → ⊥) wide none) h.0 h.1,
              );
            },
          )) tt;
      honest = λ entries same s.
          let digest = g.H.TreeHash.digest in
          let length_is = g.met.H.TreeHash.digest_length in
          let file = subst (λ n. IsTreeFile n (part_path size level)) (sym same) (edge_tile_file size level c.requires some) in
          let is = edge_row digest length_is entries size level c.edge_width-width.result wide text
          (c.deref.ensures.value ∙ part_true digest length_is entries may s (part_path size level) file bytes given) in
          found_true read.result c.edge_path-path.result c.or_false.result c.or_false.ensures _ _ read.ensures.row
          read.ensures.none _ (λ row h. one_row digest length_is entries c.edge_width-width.result text row.items _ h is)
          (λ none. none _ is);
    }
