use Rattle.std.proofs.Common.{◌≤◌, ◌∙◌, ap, arith, length, subst, sym, take, refl}
use Rattle.std.proofs.lemmas.List.Elements.{All-nil}
use Rattle.log_reader.specs.Holding.{true_row}
use Rattle.log_reader.specs.Ways.{AreHashesOf, IsShownRow}
use Rattle.log_reader.proofs.Kept.{kept_once}
use Rattle.log_reader.proofs.TruePrefixes.{no_row_is_true, start_is_true, start_within}
use Rattle.std.proofs.lemmas.Result.{IfOk-from_err}
use Rattle.log_reader.specs.declared.fault.ReadFault.TheVariants.{OutOfMemory}
use Rattle.log_reader.proofs.Exits.{counted_exit, failed_exit, memory_exit}
use Rattle.tlog_shape.specs.Edge.{edge_index_of, width_of}
use Rattle.log_reader.specs.Holding.{row_width}
use Rattle.log_reader.proofs.FalseFiles.{names_exit, wide_in}
use Rattle.log_reader.specs.FalseFiles.{NamesFalse}
use Rattle.log_reader.proofs.prefix.first_row.Goals as goal

pub returns-in_err-row : goal.returns-in_err-row
returns-in_err-row g c =
    let failed = g.S.Source.failed in
    let exit = c.from_residual in
    let step = c.in_err-row.ensures in
    record {
      edge = step.edge;
      root = step.root;
      row = IfOk-from_err exit.result _ exit.ensures.0;
      later = step.later;
      kept = step.kept;
      counted = counted_exit exit.result c.row.result c.in_err-row.field-0.0 exit.ensures c.in_err-row.was
          (failed c.args.source.now) (failed c.args.source.now) (failed c.row.new.source) refl c.row.ensures.counted;
      names = names_exit (NamesFalse g.H.TreeHash.digest (g.S.Source.may_answer c.args.source.now) c.args.reader.now.edge) exit.result c.in_err-row.field-0.0 exit.ensures
          step.names;
      honest = λ entries r s.
          let went = step.honest entries r s in
          record {
            reader_is = went.reader_is;
            answer = failed_exit exit.result _ c.in_err-row.field-0.0 exit.ensures went.answer;
          };
    }

pub returns-then-len-width : goal.returns-then-len-width
returns-then-len-width g c = record {
  edge = c.in_ok-row.ensures.edge;
  root = c.in_ok-row.ensures.root;
  row = tt;
  later = c.in_ok-row.ensures.later;
  kept = c.in_ok-row.ensures.kept;
  counted = c.in_ok-row.ensures.counted;
  names =
      let size = c.args.size in
      let level = c.args.level in
      let n = c.args.reader.now.edge.size in
      let enough : row_width n level (edge_index_of size level) ≤ length c.in_ok-row.row.items =
      subst (λ i. row_width n level i ≤ length c.in_ok-row.row.items) c.edge_index-index.ensures c.in_ok-row.ensures.enough in
      let wide = wide_in n size level c.requires.within in
      absurd (omega (arith, enough, wide, c.len.ensures, c.if-len-width.true, c.edge_width-width.ensures));
  honest = λ entries r s.
      let digest = g.H.TreeHash.digest in
      let done = c.in_ok-row.ensures.honest entries r s in
      let within : c.args.size ≤ length entries = subst (λ n. c.args.size ≤ n) r.size_is c.requires.within in
      let enough = start_within digest entries c.args.size c.args.level within c.in_ok-row.row.items
      (done.answer ∙ ap (true_row digest entries c.args.level) c.edge_index-index.ensures) in
      record {
        reader_is = done.reader_is;
        answer = absurd (omega (arith, enough, c.len.ensures, c.if-len-width.true, c.edge_width-width.ensures));
      };
}

pub returns-in_err-copy_start : goal.returns-in_err-copy_start
returns-in_err-copy_start g c =
    let failed = g.S.Source.failed in
    let exit = c.from_residual-in_err-copy_start in
    let step = c.in_ok-row.ensures in
    record {
      edge = step.edge;
      root = step.root;
      row = IfOk-from_err exit.result _ exit.ensures.0;
      later = step.later;
      kept = step.kept;
      counted = memory_exit exit.result exit.ensures (failed c.args.source.now) (failed c.row.new.source) step.counted;
      names = names_exit (NamesFalse g.H.TreeHash.digest (g.S.Source.may_answer c.args.source.now) c.args.reader.now.edge) exit.result OutOfMemory exit.ensures tt;
      honest = λ entries r s. record {
        reader_is = (step.honest entries r s).reader_is;
        answer = failed_exit exit.result _ OutOfMemory exit.ensures tt;
      };
    }

pub returns : goal.returns
returns g c =
    let digest = g.H.TreeHash.digest in
    let row = c.in_ok-row.row.items in
    let step = c.in_ok-row.ensures in
    let copied = c.in_ok-copy_start.ensures in
    let start_is = copied.items ∙ (ap (take c.edge_width-width.result) c.deref.ensures.value
    ∙ ap (λ w. take w row) c.edge_width-width.ensures) in
    record {
      edge = step.edge;
      root = step.root;
      row = record {
        hashes = record { count = copied.count ∙ c.edge_width-width.ensures; sizes = copied.sizes };
        shown = λ some. record {
          row = row;
          shown = subst (λ i. IsShownRow digest c.args.reader.now.edge c.args.level i row) c.edge_index-index.ensures step.shown;
          start_is = start_is;
        };
      };
      later = step.later;
      kept = step.kept;
      counted = step.counted;
      names = tt;
      honest = λ entries r s.
          let done = step.honest entries r s in
          let within : c.args.size ≤ length entries = subst (λ n. c.args.size ≤ n) r.size_is c.requires.within in
          record {
            reader_is = done.reader_is;
            answer = start_is_true digest entries c.args.size c.args.level within row c.in_ok-copy_start.field-0.items
                (done.answer ∙ ap (true_row digest entries c.args.level) c.edge_index-index.ensures) start_is;
          };
    }

pub returns-then-width-eq0 : goal.returns-then-width-eq0
returns-then-width-eq0 g c =
    let none = sym c.edge_width-width.ensures ∙ c.if-width-eq0.true in
    record {
      edge = refl;
      root = refl;
      row = record {
        hashes = subst (AreHashesOf (width_of c.args.size c.args.level)) (sym c.new.ensures.items)
            (record { count = sym none; sizes = All-nil _ });
        shown = λ some. absurd (omega (arith, some, none));
      };
      later = record { stays = λ path answer may. may };
      kept = kept_once (g.S.Source.files c.args.source.now);
      counted = refl;
      names = tt;
      honest = λ entries r s. record {
        reader_is = r;
        answer = no_row_is_true g.H.TreeHash.digest entries c.args.size c.args.level (take c.args.size entries) c.new.result.items
            none c.new.ensures.items;
      };
    }
