use Rattle.std.proofs.Common.{◌≡◌, ℕ, ◌+◌, ◌*◌, ◌<◌, ◌≤◌, ◌^◌, ◌%◌, drop, length, take, subst, sym, ap, ◌∙◌, arith, refl}
use Rattle.std.proofs.Common.{length-drop}
use Rattle.std.proofs.Math.Nat.{div-mul-le_self}
use Rattle.std.proofs.lemmas.Bool.{false≢true}
use Rattle.std.proofs.lemmas.List.{take_all}
use Rattle.std.proofs.lemmas.Nat.{le-div}
use Rattle.tlog_shape.specs.Edge.{edge_index_of, width_of}
use Rattle.tlog_shape.specs.Split.{IsPowerOfTwo}
use Rattle.tlog_shape.proofs.Levels.{level_positive}
use Rattle.tlog_hash.specs.Tree.{fold_of, mth}
use Rattle.log_reader.specs.EdgeRows.{RowIsTrue}
use Rattle.log_reader.specs.FalseFiles.{NamesFalseIfFile}
use Rattle.log_reader.specs.Holding.{row_width, true_row}
use Rattle.log_reader.specs.Nodes.{IsHashFrom, IsNodeRange}
use Rattle.log_reader.specs.Ways.{row_of_way}
use Rattle.log_reader.specs.declared.fault.ReadFault.TheVariants.{OutOfMemory}
use Rattle.log_reader.proofs.Exits.{counted_exit, failed_exit, memory_exit, or_counted, or_true}
use Rattle.log_reader.proofs.FalseFiles.{names_exit, names_if, names_or}
use Rattle.log_reader.proofs.Kept.{kept_once}
use Rattle.log_reader.proofs.NodeHashes.{from_end, part_folds, row_count}
use Rattle.log_reader.proofs.NodeNumbers.{count_is, count_power, count_some, end_first, end_start, ends, first_aligned, fits, perfect_aligned, power_positive, row_fits, start_is, top_above}
use Rattle.log_reader.proofs.Requested.{over_node, requests_none, requests_wider}
use Rattle.log_reader.proofs.TrueReads.{there_true}
use Rattle.log_reader.proofs.node_hash.node_hash.Goals as goal

pub go_to-requires-clause-level : goal.go_to-requires-clause-level
go_to-requires-clause-level g c = c.top_level-level.ensures.within

pub go_to-requires-clause-within : goal.go_to-requires-clause-within
go_to-requires-clause-within g c =
    let n = c.args.reader.now.edge.size in
    let level = c.top_level-level.result in
    let index = edge_index_of c.args.start level in
    let width = 256 ^ (level + 1) in
    let upto : index ≤ edge_index_of n level =
    le-div index n width (level_positive (level + 1)) (omega (arith, div-mul-le_self c.args.start width, c.requires.within)) in
    omega (arith, c.edge_index.ensures, upto)

pub edge_width-requires : goal.edge_width-requires
edge_width-requires g c = c.top_level-level.ensures.within

pub node-requires-clause-power : goal.node-requires-clause-power
node-requires-clause-power g c =
    subst IsPowerOfTwo (sym c.edge_width-then-is_perfect.ensures)
    (count_power c.args.start c.args.len c.top_level-level.result c.ranges.len.fits (c.is_perfect.ensures.0 c.if-is_perfect.true) (perfect_aligned c.args.reader.now.edge.size c.args.start c.args.len c.requires (c.is_perfect.ensures.0 c.if-is_perfect.true))
    c.top_level-level.ensures)

pub node-requires-clause-aligned : goal.node-requires-clause-aligned
node-requires-clause-aligned g c =
    (λ i. c.edge_width.ensures i % c.edge_width-then-is_perfect.ensures i)
    ∙ first_aligned c.args.start c.args.len c.top_level-level.result c.ranges.len.fits (c.is_perfect.ensures.0 c.if-is_perfect.true) (perfect_aligned c.args.reader.now.edge.size c.args.start c.args.len c.requires (c.is_perfect.ensures.0 c.if-is_perfect.true))
    c.top_level-level.ensures

pub node-requires-clause-fits : goal.node-requires-clause-fits
node-requires-clause-fits g c =
    let fits = row_fits c.args.start c.args.len c.top_level-level.result c.ranges.len.fits (c.is_perfect.ensures.0 c.if-is_perfect.true) (perfect_aligned c.args.reader.now.edge.size c.args.start c.args.len c.requires (c.is_perfect.ensures.0 c.if-is_perfect.true))
    c.top_level-level.ensures in
    omega (arith, fits, c.edge_width.ensures, c.edge_width-then-is_perfect.ensures)

pub returns-in_err-go_to : goal.returns-in_err-go_to
returns-in_err-go_to g c =
    let failed = g.S.Source.failed in
    let exit = c.from_residual in
    let step = c.in_err-go_to.ensures in
    record {
      edge = step.edge;
      root = step.root;
      later = step.later;
      kept = step.kept;
      counted = counted_exit exit.result c.go_to.result c.in_err-go_to.field-0.0 exit.ensures c.in_err-go_to.was
          (failed c.args.source.now) (failed c.args.source.now) (failed c.go_to.new.source) refl c.go_to.ensures.counted;
      asks = requests_wider _ _ _ _
          (over_node c.args.reader.now.edge.size c.args.start c.args.len c.top_level-level.result
          (top_above c.args.len c.top_level-level.result (power_positive c.args.len (c.is_perfect.ensures.0 c.if-is_perfect.true)) c.ranges.len.fits c.top_level-level.ensures))
          (step.asks c.args.start (sym c.edge_index.ensures));
      names = names_exit (NamesFalseIfFile g.H.TreeHash.digest (g.S.Source.may_answer c.args.source.now) c.args.reader.now.edge) exit.result c.in_err-go_to.field-0.0 exit.ensures
          (names_if g.H.TreeHash.digest (g.S.Source.may_answer c.args.source.now) c.args.reader.now.edge c.in_err-go_to.field-0.0 step.names);
      honest = λ entries r s.
          let went = step.honest entries r s in
          record {
            reader_is = went.reader_is;
            answer = failed_exit exit.result _ c.in_err-go_to.field-0.0 exit.ensures went.answer;
          };
    }

pub returns-then-is_perfect : goal.returns-then-is_perfect
returns-then-is_perfect g c =
    let failed = g.S.Source.failed in
    let step = c.in_ok-go_to.ensures in
    record {
      edge = step.edge;
      root = step.root;
      later = step.later;
      kept = step.kept;
      counted = or_counted c.node.result _ c.ok_or.result c.ok_or.ensures.value (failed c.args.source.now)
          (failed c.go_to.new.source) step.counted step.counted;
      asks = requests_wider _ _ _ _
          (over_node c.args.reader.now.edge.size c.args.start c.args.len c.top_level-level.result
          (top_above c.args.len c.top_level-level.result (power_positive c.args.len (c.is_perfect.ensures.0 c.if-is_perfect.true)) c.ranges.len.fits c.top_level-level.ensures))
          (step.asks c.args.start (sym c.edge_index.ensures));
      names = names_or (NamesFalseIfFile g.H.TreeHash.digest (g.S.Source.may_answer c.args.source.now) c.args.reader.now.edge) c.node.result _ c.ok_or.result
          c.ok_or.ensures.value tt;
      honest = λ entries r s.
          let digest = g.H.TreeHash.digest in
          let n = length entries in
          let start = c.args.start in
          let len = c.args.len in
          let level = c.top_level-level.result in
          let index = edge_index_of start level in
          let first = width_of start level in
          let count = width_of len level in
          let wide = row_width n level index in
          let small : len < 2 ^ 64 = c.ranges.len.fits in
          let within : start + len ≤ n = subst (λ m. start + len ≤ m) r.size_is c.requires.within in
          let power = c.is_perfect.ensures.0 c.if-is_perfect.true in
          let aligned = perfect_aligned c.args.reader.now.edge.size c.args.start c.args.len c.requires power in
          let top = c.top_level-level.ensures in
          let done = c.in_ok-go_to.ensures.honest entries r s in
          let there = c.in_ok-go_to.ensures.there in
          let at = c.go_to.new.reader in
          let row = row_of_way at.edge at.level at.way in
          let is_row : row ≡ true_row digest entries level index =
          there_true digest g.met.H.TreeHash.digest_length entries at done.reader_is level index row refl
          (there.0, there.1 ∙ c.edge_index.ensures) in
          let long : length row ≡ wide = ap length is_row ∙ row_count digest entries level (256 * index) wide in
          let upto = fits n start len level small within power aligned top in
          let some = count_some n start len level small within power aligned top in
          let f = c.edge_width.ensures in
          let w = c.edge_width-then-is_perfect.ensures in
          let folded = c.node.ensures (omega (arith, f, w, upto, long)) in
          record {
            reader_is = done.reader_is;
            answer = or_true c.node.result _ c.ok_or.result c.ok_or.ensures.value _ _
                (λ hash is. is ∙ ((λ i. fold_of digest (take (w i) (drop (f i) row)))
                ∙ part_folds digest entries level start len index first count wide row is_row upto some
                (start_is n start len level small within power aligned top)
                (count_is n start len level small within power aligned top) within)) folded;
          };
    }

pub returns-in_err-hash : goal.returns-in_err-hash
returns-in_err-hash g c =
    let failed = g.S.Source.failed in
    let exit = c.from_residual-in_err-hash in
    record {
      edge = refl;
      root = refl;
      later = record { stays = λ path answer may. may };
      kept = kept_once (g.S.Source.files c.args.source.now);
      counted = memory_exit exit.result exit.ensures (failed c.args.source.now) (failed c.args.source.now) refl;
      asks = requests_none (g.S.Source.asked c.args.source.now) _;
      names = names_exit (NamesFalseIfFile g.H.TreeHash.digest (g.S.Source.may_answer c.args.source.now) c.args.reader.now.edge) exit.result OutOfMemory exit.ensures tt;
      honest = λ entries r s. record { reader_is = r; answer = failed_exit exit.result _ OutOfMemory exit.ensures tt };
    }

pub returns : goal.returns
returns g c = record {
  edge = refl;
  root = refl;
  later = record { stays = λ path answer may. may };
  kept = kept_once (g.S.Source.files c.args.source.now);
  counted = or_counted c.in_ok-hash.hash _ c.ok_or-2.result c.ok_or-2.ensures.value (g.S.Source.failed c.args.source.now)
      (g.S.Source.failed c.args.source.now) refl refl;
  asks = requests_none (g.S.Source.asked c.args.source.now) _;
  names = names_or (NamesFalseIfFile g.H.TreeHash.digest (g.S.Source.may_answer c.args.source.now) c.args.reader.now.edge) c.in_ok-hash.hash _ c.ok_or-2.result
      c.ok_or-2.ensures.value tt;
  honest = λ entries r s.
      let digest = g.H.TreeHash.digest in
      let n = length entries in
      let start = c.args.start in
      let len = c.args.len in
      let level = c.top_level-level.result in
      let top = c.top_level-level.ensures in
      let small : len < 2 ^ 64 = c.ranges.len.fits in
      let node = subst (λ m. IsNodeRange m start len) r.size_is c.requires in
      let other : IsPowerOfTwo len → ⊥ = λ p. false≢true (sym c.if-is_perfect.false ∙ c.is_perfect.ensures.1 p) in
      let size : c.edge.result.now.size ≡ n = ap (λ e. e.size) c.edge.ensures.edge ∙ r.size_is in
      let rows = subst (λ e. (l : ℕ) → l ≤ 7 → RowIsTrue digest e entries l) (sym c.edge.ensures.edge) r.edge in
      let first = c.edge_width-2.ensures in
      let at : (256 * edge_index_of n level + c.edge_width-2.result) * 256 ^ level ≡ start =
      ap (λ f. (256 * edge_index_of n level + f) * 256 ^ level) first ∙ end_start n start len level node small other top in
      let fits : c.edge_width-2.result ≤ width_of n level =
      omega (arith, first, end_first n start len level node small other top) in
      let found = subst (λ m. IsHashFrom digest entries m c.in_ok-hash.hash) at
      (c.in_ok-hash.ensures entries size rows fits) in
      let end = ends n start len level node small other top in
      record {
        reader_is = r;
        answer = or_true c.in_ok-hash.hash _ c.ok_or-2.result c.ok_or-2.ensures.value _ _
            (λ hash is. is ∙ ap (mth digest)
            (sym (take_all len (drop start entries) (omega (arith, length-drop start entries, end)))))
            (from_end digest entries start c.in_ok-hash.hash (omega (arith, end, node.some)) found);
      };
}
