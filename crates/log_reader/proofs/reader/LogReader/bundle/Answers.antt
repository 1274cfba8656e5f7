use Rattle.std.proofs.Common.{◌≡◌, ◌*◌, ◌/◌, ◌%◌, ◌<◌, ◌≤◌, ℕ, Global, Vec, [], ap, arith, get_or, inl, length, refl, subst, sym, ◌∙◌}
use Rattle.std.proofs.lemmas.List.{get_or_read_under}
use Rattle.tlog_shape.specs.Edge.{edge_index_of, width_of}
use Rattle.tlog_hash.specs.Rows.{level_row}
use Rattle.tlog_tiles.specs.Tiles.{bundle_bytes}
use Rattle.log_reader.specs.EdgeRows.{row_at}
use Rattle.log_reader.specs.Holding.{IsTileHash, ReadsTrue, row_width, true_row}
use Rattle.log_reader.proofs.FullTiles.{source_tiles}
use Rattle.log_reader.proofs.TrueBundles.{end_row}
use Rattle.log_reader.proofs.TrueReads.{hash_in_row, source_later, there_true, width_at_edge, width_full, within_row}
use Rattle.std.proofs.lemmas.Result.{IfOk-from_err}
use Rattle.log_reader.specs.Faults.{CountsFailure}
use Rattle.log_reader.proofs.Exits.{counted_exit, failed_exit}
use Rattle.log_reader.proofs.Kept.{kept_twice, stays_twice}
use Rattle.std.proofs.lemmas.Bool.{ltb-true}
use Rattle.log_reader.specs.Ways.{HasEdgeHashes}
use Rattle.log_reader.proofs.Climbing.{shown_there}
use Rattle.log_reader.proofs.FalseFiles.{bundle_named, end_named, names_before, names_exit, shown_below}
use Rattle.log_reader.specs.FalseFiles.{NamesFalse}
use Rattle.std.proofs.lemmas.Result.{IfErr-weaker, IfOk-weaker}
use Rattle.log_reader.specs.Parts.{IsPartGiven}
use Rattle.tlog_tiles.specs.declared.paths.Path.TheVariants.{Entries}
use Rattle.log_reader.proofs.Parts.{bundle_before}
use Rattle.log_reader.proofs.reader.LogReader.bundle.Goals as goal

pub returns-then-index-edge_index-clause-given : goal.returns-then-index-edge_index-clause-given
returns-then-index-edge_index-clause-given g c =
    let may = g.S.Source.may_answer c.args.source.now in
    let edge = c.args.self.now.edge in
    let index = c.args.index in
    let row = c.row.result.now in
    let at : index ≡ edge_index_of edge.size 0 =
    c.if-index-edge_index.true ∙ (c.edge_index.ensures ∙ ap (λ m. edge_index_of m 0) c.size.ensures) in
    let is : row ≡ row_at edge 0 = c.row.ensures ∙ ap (λ e. row_at e 0) (c.rows.ensures ∙ c.edge.ensures.edge) in
    let wide : length row ≡ row_width edge.size 0 index =
    ap length is ∙ ((c.edge.ensures.hashes 0 (omega arith)).count
    ∙ (sym (width_at_edge edge.size 0) ∙ ap (row_width edge.size 0) (sym at))) in
    IfOk-weaker c.read_end.result _ _
    (λ bytes h. subst (λ w. IsPartGiven may (Entries index w) bytes.items) wide h) c.read_end.ensures.given

pub returns-in-Some-clause-given : goal.returns-in-Some-clause-given
returns-in-Some-clause-given g c =
    let may = g.S.Source.may_answer in
    let n = c.args.self.now.edge.size in
    let index = c.args.index in
    let end : c.edge_index.result ≡ edge_index_of n 0 =
    c.edge_index.ensures ∙ ap (λ m. edge_index_of m 0) c.size.ensures in
    let before : index < edge_index_of n 0 = omega (arith, end, c.requires, c.if-index-edge_index.false) in
    IfOk-weaker c.read_full.result _ _
    (λ bytes h. subst (λ w. IsPartGiven (may c.args.source.now) (Entries index w) bytes.items) (sym (width_full n 0 index before))
    (bundle_before (may c.args.source.now) (may c.go_to.new.source) c.in_ok-go_to.ensures.later index 256 bytes.items (inl h)))
    c.read_full.ensures.given

pub returns-then-index-edge_index-clause-honest : goal.returns-then-index-edge_index-clause-honest
returns-then-index-edge_index-clause-honest g c = λ entries r s.
    let digest = g.H.TreeHash.digest in
    let n = length entries in
    let index = c.args.index in
    let row = c.row.result.now in
    let before : 256 * index < n = subst (λ m. 256 * index < m) r.size_is c.requires in
    let at : index ≡ edge_index_of n 0 =
    c.if-index-edge_index.true ∙ (c.edge_index.ensures ∙ ap (λ m. edge_index_of m 0) (c.size.ensures ∙ r.size_is)) in
    let is : row ≡ level_row digest entries 0 (256 * edge_index_of n 0) (width_of n 0) =
    c.row.ensures ∙ (ap (λ e. row_at e 0) (c.rows.ensures ∙ c.edge.ensures.edge) ∙ (r.edge 0 (omega arith)
    ∙ ap (λ m. level_row digest entries 0 (256 * edge_index_of m 0) (width_of m 0)) r.size_is)) in
    let e = end_row digest g.met.H.TreeHash.digest_length entries index row before at is in
    let wide : length row ≡ row_width n 0 index =
    e.end.is_tile.width_is ∙ (sym (width_at_edge n 0) ∙ ap (row_width n 0) (sym at)) in
    record {
      reader_is = r;
      answer = subst
          (λ w. ReadsTrue c.read_end.result (λ (bytes : Vec ℕ Global). bytes.items ≡ bundle_bytes entries index w)) wide
          (c.read_end.ensures.honest entries e s);
    }

pub returns-in_err-go_to : goal.returns-in_err-go_to
returns-in_err-go_to g c =
    let failed = g.S.Source.failed in
    let exit = c.from_residual in
    let step = c.in_err-go_to.ensures in
    record {
      edge = step.edge;
      root = step.root;
      shown = IfOk-from_err exit.result _ exit.ensures.0;
      given = IfOk-from_err exit.result _ exit.ensures.0;
      later = step.later;
      kept = step.kept;
      counted = counted_exit exit.result c.go_to.result c.in_err-go_to.field-0.0 exit.ensures c.in_err-go_to.was
          (failed c.args.source.now) (failed c.args.source.now) (failed c.go_to.new.source) refl c.go_to.ensures.counted;
      names = names_exit (NamesFalse g.H.TreeHash.digest (g.S.Source.may_answer c.args.source.now) c.args.self.now.edge) exit.result c.in_err-go_to.field-0.0 exit.ensures
          step.names;
      honest = λ entries r s.
          let went = step.honest entries r
          (source_tiles g.H.TreeHash.digest entries (g.S.Source.may_answer c.args.source.now) s) in
          record {
            reader_is = went.reader_is;
            answer = failed_exit exit.result _ c.in_err-go_to.field-0.0 exit.ensures went.answer;
          };
    }

pub returns-in-Some-clause-edge : goal.returns-in-Some-clause-edge
returns-in-Some-clause-edge g c = c.in_ok-go_to.ensures.edge

pub returns-in-Some-clause-root : goal.returns-in-Some-clause-root
returns-in-Some-clause-root g c = c.in_ok-go_to.ensures.root

pub returns-in-Some-clause-later : goal.returns-in-Some-clause-later
returns-in-Some-clause-later g c = stays_twice c.in_ok-go_to.ensures.later c.read_full.ensures.later

pub returns-in-Some-clause-kept : goal.returns-in-Some-clause-kept
returns-in-Some-clause-kept g c =
    let files = g.S.Source.files in
    kept_twice (files c.args.source.now) (files c.go_to.new.source) (files c.read_full.new.source) c.in_ok-go_to.ensures.kept
    c.read_full.ensures.kept

pub returns-in-Some-clause-counted : goal.returns-in-Some-clause-counted
returns-in-Some-clause-counted g c =
    let failed = g.S.Source.failed in
    subst (λ n. CountsFailure n (failed c.read_full.new.source) c.read_full.result) c.in_ok-go_to.ensures.counted
    c.read_full.ensures.counted

pub returns-in-Some-clause-honest : goal.returns-in-Some-clause-honest
returns-in-Some-clause-honest g c = λ entries r s.
    let digest = g.H.TreeHash.digest in
    let length_is = g.met.H.TreeHash.digest_length in
    let n = length entries in
    let index = c.args.index in
    let row = c.here.result.now in
    let done = c.in_ok-go_to.ensures.honest entries r
    (source_tiles digest entries (g.S.Source.may_answer c.args.source.now) s) in
    let end : c.edge_index.result ≡ edge_index_of n 0 =
    c.edge_index.ensures ∙ ap (λ m. edge_index_of m 0) (c.size.ensures ∙ r.size_is) in
    let some : 256 * index < n = subst (λ m. 256 * index < m) r.size_is c.requires in
    let before : index < edge_index_of n 0 = omega (arith, end, some, c.if-index-edge_index.false) in
    let is : row ≡ true_row digest entries 1 (index / 256) =
    there_true digest g.met.H.TreeHash.digest_length entries c.go_to.new.reader done.reader_is 1 (index / 256) row
    c.here.ensures.row c.in_ok-go_to.ensures.there in
    let at : c.in-Some.hash.now ≡ get_or row (index % 256) [] =
    get_or_read_under row (index % 256) (length row) c.in-Some.hash.now [] c.in-Some.ensures.lookup.1
    (within_row digest length_is entries 0 index (omega arith) before row is) refl in
    record {
      reader_is = done.reader_is;
      answer = subst
          (λ w. ReadsTrue c.read_full.result (λ (bytes : Vec ℕ Global). bytes.items ≡ bundle_bytes entries index w))
          (sym (width_full n 0 index before))
          (c.read_full.ensures.honest entries
          (subst (IsTileHash digest entries 0 index) (sym at)
          (hash_in_row digest length_is entries 0 index (omega arith) before row is))
          (source_later digest entries _ _ c.in_ok-go_to.ensures.later s));
    }

pub returns-in-None : goal.returns-in-None
returns-in-None g c = record {
  edge = c.in_ok-go_to.ensures.edge;
  root = c.in_ok-go_to.ensures.root;
  shown = tt;
  given = tt;
  later = c.in_ok-go_to.ensures.later;
  kept = c.in_ok-go_to.ensures.kept;
  counted = c.in_ok-go_to.ensures.counted;
  names =
      let digest = g.H.TreeHash.digest in
      let edge = c.args.self.now.edge in
      let index = c.args.index in
      let row = c.here.result.now in
      let went = c.in_ok-go_to.ensures in
      let end : c.edge_index.result ≡ edge_index_of edge.size 0 =
      c.edge_index.ensures ∙ ap (λ m. edge_index_of m 0) c.size.ensures in
      let before : index < edge_index_of edge.size 0 = omega (arith, end, c.requires, c.if-index-edge_index.false) in
      let shown = shown_there digest edge c.go_to.new.reader 1 (index / 256) row went.edge went.there c.here.ensures.shown in
      let within = shown_below digest edge (subst HasEdgeHashes went.edge c.here.ensures.hashes) 0 index row shown before in
      let none : length row ≤ index % 256 = c.in-None.ensures.lookup.3 in
      absurd (omega (arith, within, none));
  honest = λ entries r s.
      let digest = g.H.TreeHash.digest in
      let n = length entries in
      let index = c.args.index in
      let row = c.here.result.now in
      let done = c.in_ok-go_to.ensures.honest entries r
      (source_tiles digest entries (g.S.Source.may_answer c.args.source.now) s) in
      let end : c.edge_index.result ≡ edge_index_of n 0 =
      c.edge_index.ensures ∙ ap (λ m. edge_index_of m 0) (c.size.ensures ∙ r.size_is) in
      let some : 256 * index < n = subst (λ m. 256 * index < m) r.size_is c.requires in
      let before : index < edge_index_of n 0 = omega (arith, end, some, c.if-index-edge_index.false) in
      let is : row ≡ true_row digest entries 1 (index / 256) =
      there_true digest g.met.H.TreeHash.digest_length entries c.go_to.new.reader done.reader_is 1 (index / 256) row
      c.here.ensures.row c.in_ok-go_to.ensures.there in
      let within = within_row digest g.met.H.TreeHash.digest_length entries 0 index (omega arith) before row is in
      let none : length row ≤ index % 256 = c.in-None.ensures.lookup.3 in
      absurd (omega (arith, within, none));
}

pub returns-then-index-edge_index-clause-names : goal.returns-then-index-edge_index-clause-names
returns-then-index-edge_index-clause-names g c =
    let edge = c.args.self.now.edge in
    let at : c.args.index ≡ edge_index_of edge.size 0 =
    c.if-index-edge_index.true ∙ (c.edge_index.ensures ∙ ap (λ m. edge_index_of m 0) c.size.ensures) in
    let is : c.row.result.now ≡ row_at edge 0 =
    c.row.ensures ∙ ap (λ e. row_at e 0) (c.rows.ensures ∙ c.edge.ensures.edge) in
    IfErr-weaker c.read_end.result _ _
    (end_named g.H.TreeHash.digest (g.S.Source.may_answer c.args.source.now) edge c.row.result.now c.args.index at is)
    c.read_end.ensures.names

pub returns-in-Some-clause-names : goal.returns-in-Some-clause-names
returns-in-Some-clause-names g c =
    let digest = g.H.TreeHash.digest in
    let may = g.S.Source.may_answer in
    let edge = c.args.self.now.edge in
    let index = c.args.index in
    let row = c.here.result.now in
    let went = c.in_ok-go_to.ensures in
    let shown = shown_there digest edge c.go_to.new.reader 1 (index / 256) row went.edge went.there c.here.ensures.shown in
    let within : index % 256 < length row = ltb-true _ _ (sym c.in-Some.ensures.lookup.0) in
    let at : c.in-Some.hash.now ≡ get_or row (index % 256) [] =
    get_or_read_under row (index % 256) (length row) c.in-Some.hash.now [] c.in-Some.ensures.lookup.1 within refl in
    IfErr-weaker c.read_full.result _ _
    (λ fault h. names_before digest (may c.args.source.now) (may c.go_to.new.source) went.later edge edge refl fault
    (bundle_named digest (may c.go_to.new.source) edge index row shown within c.in-Some.hash.now at fault h))
    c.read_full.ensures.names
