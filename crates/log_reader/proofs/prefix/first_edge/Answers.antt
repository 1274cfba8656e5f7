use Rattle.std.proofs.Common.{◌≡◌, ◌<◌, ℕ, [], ap, get_or, length, refl, subst, take, ◌∙◌, arith}
use Rattle.log_reader.specs.Holding.{IsEdgeRowOf}
use Rattle.log_reader.specs.Ways.{IsShownPart}
use Rattle.log_reader.proofs.Kept.{kept_once, kept_twice, stays_twice}
use Rattle.log_reader.proofs.RowLists.{count_more, items_of, rows_more}
use Rattle.log_reader.proofs.TrueReads.{rows_true, tiles_later}
use Rattle.std.proofs.lemmas.Result.{IfOk-from_err}
use Rattle.log_reader.specs.declared.fault.ReadFault.TheVariants.{OutOfMemory}
use Rattle.log_reader.proofs.Exits.{counted_exit, failed_exit, memory_exit}
use Rattle.log_reader.proofs.FalseFiles.{names_before, names_exit}
use Rattle.log_reader.specs.FalseFiles.{NamesFalse}
use Rattle.log_reader.proofs.prefix.first_edge.Goals as goal

pub loop-level-init : goal.loop-level-init
loop-level-init g c = record {
  edge = refl;
  root = refl;
  later = record { stays = λ path answer m. m };
  kept = kept_once (g.S.Source.files c.args.source.now);
  counted = refl;
  count = ap length c.new-rows.ensures.items;
  shown = λ k lt. absurd (omega (arith, lt));
  honest = λ entries r s. (r, λ k lt. absurd (omega (arith, lt)));
}

pub returns-in_err-first_row : goal.returns-in_err-first_row
returns-in_err-first_row g c =
    let files = g.S.Source.files in
    let failed = g.S.Source.failed in
    let exit = c.from_residual in
    let i = c.loop-level.invariant in
    let step = c.in_err-first_row.ensures in
    record {
      edge = step.edge ∙ i.edge;
      root = step.root ∙ i.root;
      size = IfOk-from_err exit.result _ exit.ensures.0;
      hashes = IfOk-from_err exit.result _ exit.ensures.0;
      shown = IfOk-from_err exit.result _ exit.ensures.0;
      later = stays_twice i.later step.later;
      kept = kept_twice (files c.args.source.now) (files c.loop-level.source) (files c.first_row.new.source) i.kept
          step.kept;
      counted = counted_exit exit.result c.first_row.result c.in_err-first_row.field-0.0 exit.ensures
          c.in_err-first_row.was (failed c.args.source.now) (failed c.loop-level.source)
          (failed c.first_row.new.source) i.counted c.first_row.ensures.counted;
      names = names_exit (NamesFalse g.H.TreeHash.digest (g.S.Source.may_answer c.args.source.now) c.args.reader.now.edge) exit.result c.in_err-first_row.field-0.0
          exit.ensures (names_before g.H.TreeHash.digest (g.S.Source.may_answer c.args.source.now) (g.S.Source.may_answer c.loop-level.source) i.later c.args.reader.now.edge
          c.loop-level.reader.edge i.edge c.in_err-first_row.field-0.0 step.names);
      honest = λ entries r s.
          let went = step.honest entries (i.honest entries r s).0 (tiles_later g.H.TreeHash.digest entries _ _ i.later s) in
          record {
            reader_is = went.reader_is;
            answer = failed_exit exit.result _ c.in_err-first_row.field-0.0 exit.ensures went.answer;
          };
    }

pub returns-in_err-push : goal.returns-in_err-push
returns-in_err-push g c =
    let files = g.S.Source.files in
    let failed = g.S.Source.failed in
    let exit = c.from_residual-in_err-push in
    let i = c.loop-level.invariant in
    let step = c.in_ok-first_row.ensures in
    record {
      edge = step.edge ∙ i.edge;
      root = step.root ∙ i.root;
      size = IfOk-from_err exit.result _ exit.ensures.0;
      hashes = IfOk-from_err exit.result _ exit.ensures.0;
      shown = IfOk-from_err exit.result _ exit.ensures.0;
      later = stays_twice i.later step.later;
      kept = kept_twice (files c.args.source.now) (files c.loop-level.source) (files c.first_row.new.source) i.kept
          step.kept;
      counted = memory_exit exit.result exit.ensures (failed c.args.source.now) (failed c.first_row.new.source)
          (step.counted ∙ i.counted);
      names = names_exit (NamesFalse g.H.TreeHash.digest (g.S.Source.may_answer c.args.source.now) c.args.reader.now.edge) exit.result OutOfMemory exit.ensures tt;
      honest = λ entries r s. record {
        reader_is = (step.honest entries (i.honest entries r s).0 (tiles_later g.H.TreeHash.digest entries _ _ i.later s)).reader_is;
        answer = failed_exit exit.result _ OutOfMemory exit.ensures tt;
      };
    }

pub loop-level-preserved : goal.loop-level-preserved
loop-level-preserved g c =
    let digest = g.H.TreeHash.digest in
    let size = c.args.size in
    let n = c.loop-level.level in
    let vs = c.loop-level.rows.items in
    let more = c.push.new.self.items in
    let v = c.in_ok-first_row.field-0 in
    let files = g.S.Source.files in
    let may = g.S.Source.may_answer in
    let i = c.loop-level.invariant in
    let step = c.in_ok-first_row.ensures in
    let is = c.in_ok-push.ensures.items in
    record {
      edge = step.edge ∙ i.edge;
      root = step.root ∙ i.root;
      later = record { stays = λ path answer m. i.later.stays path answer (step.later.stays path answer m) };
      kept = kept_twice (files c.args.source.now) (files c.loop-level.source) (files c.first_row.new.source) i.kept
          step.kept;
      counted = step.counted ∙ i.counted;
      count = count_more vs more v n is i.count;
      shown = rows_more (λ k row. IsShownPart digest c.args.reader.now.edge size k row) vs more v n is i.count i.shown
          (subst (λ e. IsShownPart digest e size n v.items) i.edge step.row);
      honest = λ entries r s.
          let at = i.honest entries r s in
          let went = step.honest entries at.0 (tiles_later digest entries (may c.args.source.now) (may c.loop-level.source) i.later s)
          in (
            went.reader_is,
            rows_more (λ k row. IsEdgeRowOf digest size k (take size entries) row) vs more v n is i.count at.1 went.answer,
          );
    }

pub returns-clause-honest : goal.returns-clause-honest
returns-clause-honest g c = λ entries r s.
    let vs = c.loop-level.rows.items in
    let size = c.args.size in
    let at = c.loop-level.invariant.honest entries r s in
    let all : c.loop-level.level ≡ 8 = omega arith in
    record {
      reader_is = at.0;
      answer = rows_true g.H.TreeHash.digest g.met.H.TreeHash.digest_length (take size entries) size vs c.new.result
          c.new.ensures.size c.new.ensures.rows
          (subst (λ n. (k : ℕ) → k < n → IsEdgeRowOf g.H.TreeHash.digest size k (take size entries) (get_or (items_of vs) k []))
          all at.1);
    }
