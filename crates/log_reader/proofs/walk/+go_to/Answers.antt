use Rattle.std.proofs.Common.{refl, rules, ◌≡◌, sym, subst, ap, ◌∙◌, ◌+◌, ◌/◌, ◌<◌, ◌≤◌, ◌^◌, arith}
use Rattle.std.proofs.lemmas.Result.{IfOk-from_err}
use Rattle.tlog_shape.specs.Edge.{edge_index_of}
use Rattle.log_reader.specs.Holding.{IsReaderOf}
use Rattle.log_reader.specs.declared.fault.ReadFault.TheVariants.{OutOfMemory}
use Rattle.log_reader.proofs.Climbing.{above_full}
use Rattle.log_reader.proofs.Exits.{counted_exit, failed_exit, memory_exit}
use Rattle.log_reader.proofs.Kept.{kept_once, kept_twice, stays_twice}
use Rattle.log_reader.proofs.TrueReads.{is_below, row_below, tiles_later, went_down, went_to_edge}
use Rattle.log_reader.proofs.FalseFiles.{names_before, names_exit}
use Rattle.log_reader.specs.FalseFiles.{NamesFalse}
use Rattle.log_reader.specs.Requested.{IsTileOver}
use Rattle.log_reader.proofs.Requested.{over_here, over_higher, over_up, requests_none, requests_twice, requests_wider}
use Rattle.log_reader.proofs.walk.+go_to.Goals as goal

pub go_to-requires : goal.go_to-requires
go_to-requires g t c κs within =
    let n = c.args.reader.now.edge.size in
    let level = c.args.level in
    let same : c.climb.new.reader.edge.size ≡ n = ap (λ e. e.size) c.climb.ensures.edge in
    let small : n < 2 ^ 64 = omega (arith, c.size.ensures, c.size.type_inv, same) in
    let end : c.edge_index-end.result ≡ edge_index_of n level =
    c.edge_index-end.ensures ∙ ap (λ m. edge_index_of m level) (c.size.ensures ∙ same) in
    let full : c.args.index < edge_index_of n level = subst (λ e. c.args.index < e) end c.if-index-end.false in
    let up = above_full n level c.args.index small full in
    let low : level + 1 ≤ 7 = up.0 in
    let above : c.args.index / 256 ≤ edge_index_of c.climb.new.reader.edge.size (level + 1) =
    subst (λ m. c.args.index / 256 ≤ edge_index_of m (level + 1)) (sym same) up.1 in
    search (rules, low, above)

pub returns-then-is_at : goal.returns-then-is_at
returns-then-is_at g t c = record {
  edge = c.climb.ensures.edge;
  root = c.climb.ensures.root;
  there = c.is_at.ensures.0 c.if-is_at.true;
  later = record { stays = λ path answer may. may };
  kept = kept_once (g.S.Source.files c.args.source.now);
  counted = refl;
  asks = λ at is. requests_none (g.S.Source.asked c.args.source.now) _;
  names = tt;
  honest = λ entries r s. record { reader_is = c.climb.ensures.honest entries r; answer = tt };
}

pub returns-then-index-end-clause-kept : goal.returns-then-index-end-clause-kept
returns-then-index-end-clause-kept g t c = kept_once (g.S.Source.files c.args.source.now)

pub returns-then-index-end-clause-honest : goal.returns-then-index-end-clause-honest
returns-then-index-end-clause-honest g t c = λ entries r s. record {
  reader_is = went_to_edge g.H.TreeHash.digest g.met.H.TreeHash.digest_length entries c.climb.new.reader
      (c.climb.ensures.honest entries r) c.args.level c.to_edge.new.self c.requires.level c.to_edge.ensures;
  answer = tt;
}

pub returns-in_err-go_to : goal.returns-in_err-go_to
returns-in_err-go_to g t c =
    let failed = g.S.Source.failed in
    let exit = c.from_residual in
    let step = c.in_err-go_to.ensures in
    record {
      edge = step.edge ∙ c.climb.ensures.edge;
      root = step.root ∙ c.climb.ensures.root;
      there = IfOk-from_err exit.result _ exit.ensures.0;
      later = step.later;
      kept = step.kept;
      counted = counted_exit exit.result c.go_to.result c.in_err-go_to.field-0.0 exit.ensures c.in_err-go_to.was
          (failed c.args.source.now) (failed c.args.source.now) (failed c.go_to.new.source) refl c.go_to.ensures.counted;
      asks = λ at is. requests_wider _ _ _ _
          (λ path h. over_higher c.args.reader.now.edge.size at c.args.level path
          (subst (λ e. IsTileOver e.size at (c.args.level + 1) path) c.climb.ensures.edge h))
          (step.asks at (over_up at c.args.level c.args.index is));
      names =
          let digest = g.H.TreeHash.digest in
          let may = g.S.Source.may_answer c.args.source.now in
          let fault = c.in_err-go_to.field-0.0 in
          names_exit (NamesFalse digest may c.args.reader.now.edge) exit.result fault exit.ensures
          (subst (λ e. NamesFalse digest may e fault) c.climb.ensures.edge step.names);
      honest = λ entries r s.
          let went = step.honest entries (c.climb.ensures.honest entries r) s in
          record {
            reader_is = went.reader_is;
            answer = failed_exit exit.result _ c.in_err-go_to.field-0.0 exit.ensures went.answer;
          };
    }

pub returns-in_err-row : goal.returns-in_err-row
returns-in_err-row g t c =
    let files = g.S.Source.files in
    let failed = g.S.Source.failed in
    let exit = c.from_residual-in_err-row in
    let up = c.in_ok-go_to.ensures in
    let step = c.in_err-row.ensures in
    record {
      edge = up.edge ∙ c.climb.ensures.edge;
      root = up.root ∙ c.climb.ensures.root;
      there = IfOk-from_err exit.result _ exit.ensures.0;
      later = stays_twice up.later step.later;
      kept = kept_twice (files c.args.source.now) (files c.go_to.new.source) (files c.read_below.new.source) up.kept step.kept;
      counted = counted_exit exit.result c.read_below.result c.in_err-row.field-0.0 exit.ensures c.in_err-row.was
          (failed c.args.source.now) (failed c.go_to.new.source) (failed c.read_below.new.source) up.counted
          c.read_below.ensures.counted;
      asks = λ at is. requests_twice _ _ _ _ (requests_wider _ _ _ _
          (λ path h. over_higher c.args.reader.now.edge.size at c.args.level path
          (subst (λ e. IsTileOver e.size at (c.args.level + 1) path) c.climb.ensures.edge h))
          (up.asks at (over_up at c.args.level c.args.index is)))
          (requests_wider _ _ _ _
          (λ path h. over_here c.args.reader.now.edge.size at c.args.level c.args.index is (omega (
            arith,
            c.if-index-end.false,
            c.edge_index-end.ensures,
            c.size.ensures,
            ap (λ e. edge_index_of e.size c.args.level) c.climb.ensures.edge,
            ap (λ m. edge_index_of m c.args.level) c.size.ensures,
          )) path h) step.asks);
      names =
          let digest = g.H.TreeHash.digest in
          let may = g.S.Source.may_answer in
          let fault = c.in_err-row.field-0.0 in
          let b = is_below c.go_to.new.reader c.args.level c.args.index c.edge_index-end.result c.size.result c.requires.level
          up.there.0 up.there.1 c.edge_index-end.ensures (ap (λ e. e.size) up.edge ∙ sym c.size.ensures) c.if-index-end.false in
          names_exit (NamesFalse digest (may c.args.source.now) c.args.reader.now.edge) exit.result fault exit.ensures
          (names_before digest (may c.args.source.now) (may c.go_to.new.source) up.later c.args.reader.now.edge
          c.go_to.new.reader.edge (up.edge ∙ c.climb.ensures.edge) fault (step.names b));
      honest = λ entries r s.
          let at = up.honest entries (c.climb.ensures.honest entries r) s in
          let b = is_below c.go_to.new.reader c.args.level c.args.index c.edge_index-end.result c.size.result c.requires.level
          up.there.0 up.there.1 c.edge_index-end.ensures (ap (λ e. e.size) up.edge ∙ sym c.size.ensures) c.if-index-end.false in
          record {
            reader_is = at.reader_is;
            answer = failed_exit exit.result _ c.in_err-row.field-0.0 exit.ensures
                (step.honest entries at.reader_is (tiles_later g.H.TreeHash.digest entries _ _ up.later s) b);
          };
    }

pub returns-in_err-down : goal.returns-in_err-down
returns-in_err-down g t c =
    let files = g.S.Source.files in
    let failed = g.S.Source.failed in
    let exit = c.from_residual-in_err-down in
    let up = c.in_ok-go_to.ensures in
    let step = c.in_ok-row.ensures in
    let same = c.in_err-down.ensures.err in
    record {
      edge = ap (λ r. r.edge) same ∙ (up.edge ∙ c.climb.ensures.edge);
      root = ap (λ r. r.root) same ∙ (up.root ∙ c.climb.ensures.root);
      there = IfOk-from_err exit.result _ exit.ensures.0;
      later = stays_twice up.later step.later;
      kept = kept_twice (files c.args.source.now) (files c.go_to.new.source) (files c.read_below.new.source) up.kept step.kept;
      counted = memory_exit exit.result exit.ensures (failed c.args.source.now) (failed c.read_below.new.source)
          (step.counted ∙ up.counted);
      asks = λ at is. requests_twice _ _ _ _ (requests_wider _ _ _ _
          (λ path h. over_higher c.args.reader.now.edge.size at c.args.level path
          (subst (λ e. IsTileOver e.size at (c.args.level + 1) path) c.climb.ensures.edge h))
          (up.asks at (over_up at c.args.level c.args.index is)))
          (requests_wider _ _ _ _
          (λ path h. over_here c.args.reader.now.edge.size at c.args.level c.args.index is (omega (
            arith,
            c.if-index-end.false,
            c.edge_index-end.ensures,
            c.size.ensures,
            ap (λ e. edge_index_of e.size c.args.level) c.climb.ensures.edge,
            ap (λ m. edge_index_of m c.args.level) c.size.ensures,
          )) path h) step.asks);
      names = names_exit (NamesFalse g.H.TreeHash.digest (g.S.Source.may_answer c.args.source.now) c.args.reader.now.edge)
          exit.result OutOfMemory exit.ensures tt;
      honest = λ entries r s. record {
        reader_is = subst (IsReaderOf g.H.TreeHash.digest entries) (sym same)
            (up.honest entries (c.climb.ensures.honest entries r) s).reader_is;
        answer = failed_exit exit.result _ OutOfMemory exit.ensures tt;
      };
    }

pub returns : goal.returns
returns g t c =
    let files = g.S.Source.files in
    let digest = g.H.TreeHash.digest in
    let length_is = g.met.H.TreeHash.digest_length in
    let went = c.in_ok-go_to.ensures in
    let step = c.in_ok-row.ensures in
    let is = c.in_ok-down.ensures.ok in
    record {
      edge = ap (λ r. r.edge) is ∙ (went.edge ∙ c.climb.ensures.edge);
      root = ap (λ r. r.root) is ∙ (went.root ∙ c.climb.ensures.root);
      there = (omega (arith, ap (λ r. r.level) is, went.there.0), ap (λ r. r.index) is);
      later = stays_twice went.later step.later;
      kept = kept_twice (files c.args.source.now) (files c.go_to.new.source) (files c.read_below.new.source) went.kept step.kept;
      counted = step.counted ∙ went.counted;
      asks = λ at is. requests_twice _ _ _ _ (requests_wider _ _ _ _
          (λ path h. over_higher c.args.reader.now.edge.size at c.args.level path
          (subst (λ e. IsTileOver e.size at (c.args.level + 1) path) c.climb.ensures.edge h))
          (went.asks at (over_up at c.args.level c.args.index is)))
          (requests_wider _ _ _ _
          (λ path h. over_here c.args.reader.now.edge.size at c.args.level c.args.index is (omega (
            arith,
            c.if-index-end.false,
            c.edge_index-end.ensures,
            c.size.ensures,
            ap (λ e. edge_index_of e.size c.args.level) c.climb.ensures.edge,
            ap (λ m. edge_index_of m c.args.level) c.size.ensures,
          )) path h) step.asks);
      names = tt;
      honest = λ entries r s.
          let up = went.honest entries (c.climb.ensures.honest entries r) s in
          let b = is_below c.go_to.new.reader c.args.level c.args.index c.edge_index-end.result c.size.result c.requires.level
          went.there.0 went.there.1 c.edge_index-end.ensures (ap (λ e. e.size) went.edge ∙ sym c.size.ensures)
          c.if-index-end.false in
          let row = row_below digest length_is entries c.go_to.new.reader up.reader_is c.args.level c.args.index b c.in_ok-row.row
          (step.honest entries up.reader_is (tiles_later digest entries _ _ went.later s) b) in
          record {
            reader_is = went_down digest length_is entries c.go_to.new.reader up.reader_is c.args.level c.args.index b
                c.down.new.self c.in_ok-row.row row is;
            answer = tt;
          };
    }
