use Rattle.std.proofs.Common.{inr, ◌*◌, ◌<◌, rules, ◌≡◌, ℕ, List, [], ◌∷◌, Vec, Global, IfSome, length, sym, subst, ap, ◌∙◌, arith}
use Rattle.tlog_shape.specs.Edge.{edge_index_of, width_of}
use Rattle.std.proofs.lemmas.Bool.{false≢true}
use Rattle.tlog_hash.specs.Rows.{level_row}
use Rattle.tlog_tiles.proofs.EdgeLemmas.{hashes_of}
use Rattle.log_reader.specs.Holding.{IsTreeFile}
use Rattle.log_reader.proofs.TrueBundles.{end_leaves, end_row}
use Rattle.tlog_tiles.specs.declared.paths.Path.TheVariants.{Entries}
use Rattle.log_reader.specs.EdgeRows.{row_at}
use Rattle.log_reader.specs.Verified.{HasLeaves}
use Rattle.copy_reader.specs.Edges.{IsGivenAt}
use Rattle.copy_reader.proofs.Levels.{bundle_none, bundle_some}
use Rattle.copy_reader.specs.Found.{EndBundle, IsAbsent, IsPresent, NotInFull}
use Rattle.copy_reader.specs.Order.{bundle_of_width, edge_bundle}
use Rattle.copy_reader.specs.Stops.{HasEdge, IsPartRead}
use Rattle.copy_reader.proofs.Orders.{no_bundle, some_bundle}
use Rattle.copy_reader.proofs.ShortLogs.{end_file}
use Rattle.copy_reader.proofs.Stops.{part_stops, read_as, read_none, read_one, stops_here}
use Rattle.copy_reader.proofs.AuditExits.{err_exit}
use Rattle.copy_reader.specs.AuditFaults.{IsFailure}
use Rattle.copy_reader.proofs.edge_bundle.audit_edge_bundle.Goals as goal

pub returns-then-is_empty-clause-covers : goal.returns-then-is_empty-clause-covers
returns-then-is_empty-clause-covers g c =
    let none : length c.row-row.result.now ≡ 0 = search rules in
    bundle_none c.args.edge.now c.requires g.H.TreeHash.digest (g.S.Source.may_answer c.args.source.now)
    (g.S.Source.asked c.args.source.now) (subst (λ (r : List (List ℕ)). length r ≡ 0) c.row-row.ensures none)

pub returns-clause-covers : goal.returns-clause-covers
returns-clause-covers g c =
    let digest = g.H.TreeHash.digest in
    let edge = c.args.edge.now in
    let n = edge.size in
    let a = g.S.Source.may_answer c.args.source.now in
    let b = g.S.Source.may_answer c.get_part.new.source in
    let x = g.S.Source.asked c.args.source.now in
    let y = g.S.Source.asked c.get_part.new.source in
    let bytes = c.in-Some.bytes.items in
    let row = row_at edge 0 in
    let width_is : length row ≡ width_of n 0 = c.requires 0 (omega arith) in
    let at : c.edge_index.result ≡ edge_index_of n 0 = c.edge_index.ensures ∙ ap (λ k. edge_index_of k 0) c.size.ensures in
    let leaves : HasLeaves digest (length c.row-row.result.now) c.deref.result.now c.row-row.result.now = search rules in
    let v = subst (λ w. HasLeaves digest w bytes row) width_is
    (subst (λ (r : List (List ℕ)). HasLeaves digest (length r) bytes r) c.row-row.ensures
    (subst (λ t. HasLeaves digest (length c.row-row.result.now) t c.row-row.result.now) c.deref.ensures.value leaves)) in
    let path : Entries c.edge_index.result (length c.row-row.result.now) ≡ Entries (edge_index_of n 0) (width_of n 0) =
    λ j. Entries (at j) ((ap length c.row-row.ensures ∙ width_is) j) in
    let found = subst (λ o. IfSome o (λ (w : Vec ℕ Global). IsGivenAt (Entries c.edge_index.result (length c.row-row.result.now)) w.items a b x y))
    c.in-Some.is c.in_ok-bytes.ensures.given in
    bundle_some edge c.requires digest a b x y bytes v (subst (λ p. IsGivenAt p bytes a b x y) path found)

pub returns-in_err-bytes-clause-honest : goal.returns-in_err-bytes-clause-honest
returns-in_err-bytes-clause-honest g c = λ entries s size true_row.
    let digest = g.H.TreeHash.digest in
    let edge = c.args.edge.now in
    let n = length entries in
    let row = c.row-row.result.now in
    let index = c.edge_index.result in
    let some : 0 < length row = search rules in
    let wide : length row ≡ width_of n 0 =
    ap length c.row-row.ensures ∙ (c.requires 0 (omega arith) ∙ ap (λ m. width_of m 0) size) in
    let at : index ≡ edge_index_of n 0 =
    c.edge_index.ensures ∙ ap (λ m. edge_index_of m 0) (c.size.ensures ∙ size) in
    let file : IsTreeFile n (Entries index (length row)) =
    inr (record { index_is = at; width_is = wide; some = some }) in
    let fault = c.in_err-bytes.ensures.honest digest entries g.met.H.TreeHash.digest_length s file in
    err_exit IsFailure c.from_residual.result c.in_err-bytes.field-0.0 c.from_residual.ensures fault

pub returns-in-None-clause-honest : goal.returns-in-None-clause-honest
returns-in-None-clause-honest g c = λ entries s size true_row.
    let digest = g.H.TreeHash.digest in
    let edge = c.args.edge.now in
    let n = length entries in
    let row = c.row-row.result.now in
    let index = c.edge_index.result in
    let some : 0 < length row = search rules in
    let wide : length row ≡ width_of n 0 =
    ap length c.row-row.ensures ∙ (c.requires 0 (omega arith) ∙ ap (λ m. width_of m 0) size) in
    let at : index ≡ edge_index_of n 0 =
    c.edge_index.ensures ∙ ap (λ m. edge_index_of m 0) (c.size.ensures ∙ size) in
    let file : IsTreeFile n (Entries index (length row)) =
    inr (record { index_is = at; width_is = wide; some = some }) in
    rw c.in-None.is at (c.in_ok-bytes.ensures.honest digest entries g.met.H.TreeHash.digest_length s file)

pub returns-then-not-is_true-clause-honest : goal.returns-then-not-is_true-clause-honest
returns-then-not-is_true-clause-honest g c = λ entries s size true_row.
    let digest = g.H.TreeHash.digest in
    let edge = c.args.edge.now in
    let n = length entries in
    let row = c.row-row.result.now in
    let index = c.edge_index.result in
    let some : 0 < length row = search rules in
    let wide : length row ≡ width_of n 0 =
    ap length c.row-row.ensures ∙ (c.requires 0 (omega arith) ∙ ap (λ m. width_of m 0) size) in
    let at : index ≡ edge_index_of n 0 =
    c.edge_index.ensures ∙ ap (λ m. edge_index_of m 0) (c.size.ensures ∙ size) in
    let file : IsTreeFile n (Entries index (length row)) =
    inr (record { index_is = at; width_is = wide; some = some }) in
    let length_is = g.met.H.TreeHash.digest_length in
    let is = rw c.in-Some.is at (c.in_ok-bytes.ensures.honest digest entries length_is s file) in
    let row_is : row ≡ level_row digest entries 0 (256 * edge_index_of n 0) (width_of n 0) =
    c.row-row.ensures ∙ (true_row
    ∙ ap (λ m. level_row digest entries 0 (256 * edge_index_of m 0) (width_of m 0)) size) in
    let before : 256 * index < n = omega (arith, at, wide, some, hashes_of n 0) in
    let e = end_row digest length_is entries index row before at row_is in
    absurd (false≢true (sym c.if-not-is_true.true ∙ c.in_ok-is_true.ensures.1
    (end_leaves digest length_is entries index row e c.deref.result.now s.short (c.deref.ensures.value ∙ is))))

pub returns-then-is_empty-clause-read : goal.returns-then-is_empty-clause-read
returns-then-is_empty-clause-read g c =
    let n = c.args.edge.now.size in
    let none : length c.row-row.result.now ≡ 0 = search rules in
    let width : width_of n 0 ≡ 0 =
    sym (c.requires 0 (omega arith)) ∙ subst (λ (r : List (List ℕ)). length r ≡ 0) c.row-row.ensures none in
    read_none g.H.TreeHash.digest (HasEdge g.H.TreeHash.digest c.args.edge.now) (g.S.Source.may_answer c.args.source.now) (g.S.Source.asked c.args.source.now) (edge_bundle n)
    (no_bundle (edge_index_of n 0) (width_of n 0) width)

pub returns-clause-read : goal.returns-clause-read
returns-clause-read g c =
    let digest = g.H.TreeHash.digest in
    let hash = g.met.H.TreeHash.digest_length in
    let edge = c.args.edge.now in
    let n = edge.size in
    let a = g.S.Source.may_answer c.args.source.now in
    let b = g.S.Source.may_answer c.get_part.new.source in
    let x = g.S.Source.asked c.args.source.now in
    let y = g.S.Source.asked c.get_part.new.source in
    let row = c.row-row.result.now in
    let index = c.edge_index.result in
    let some : 0 < length row = search rules in
    let wide : length row ≡ width_of n 0 = ap length c.row-row.ensures ∙ c.requires 0 (omega arith) in
    let at : index ≡ edge_index_of n 0 = c.edge_index.ensures ∙ ap (λ k. edge_index_of k 0) c.size.ensures in
    let path = Entries index (length row) in
    let partial : length row < 256 = omega (arith, wide) in
    let is : edge_bundle n ≡ path ∷ [] =
    (λ j. bundle_of_width (sym at j) (sym wide j)) ∙ some_bundle index (length row) some in
    let r = subst (λ o. IfSome o (λ (w : Vec ℕ Global). IsPartRead path w.items a b x y)) c.in-Some.is
    c.in_ok-bytes.ensures.read in
    let bytes = c.in-Some.bytes.items in
    let leaves : HasLeaves digest (length row) c.deref.result.now row = search rules in
    let v = subst (λ t. HasLeaves digest (length row) t row) c.deref.ensures.value leaves in
    read_as a b x y digest (HasEdge digest edge) (path ∷ []) (edge_bundle n) (sym is)
    (read_one a b x y digest (HasEdge digest edge) path r.found r.given
    (λ entries h.
    let row_is : row ≡ level_row digest entries 0 (256 * index) (length row) =
    c.row-row.ensures ∙ (h.rows 0 (omega arith)
    ∙ (λ j. level_row digest entries 0 (256 * sym at j) (sym wide j))) in
    EndBundle index (length row) r.found bytes r.begins (subst (HasLeaves digest (length row) bytes) row_is v)))

pub returns-in_err-bytes-clause-first : goal.returns-in_err-bytes-clause-first
returns-in_err-bytes-clause-first g c =
    let digest = g.H.TreeHash.digest in
    let hash = g.met.H.TreeHash.digest_length in
    let edge = c.args.edge.now in
    let n = edge.size in
    let a = g.S.Source.may_answer c.args.source.now in
    let b = g.S.Source.may_answer c.get_part.new.source in
    let x = g.S.Source.asked c.args.source.now in
    let y = g.S.Source.asked c.get_part.new.source in
    let row = c.row-row.result.now in
    let index = c.edge_index.result in
    let some : 0 < length row = search rules in
    let wide : length row ≡ width_of n 0 = ap length c.row-row.ensures ∙ c.requires 0 (omega arith) in
    let at : index ≡ edge_index_of n 0 = c.edge_index.ensures ∙ ap (λ k. edge_index_of k 0) c.size.ensures in
    let path = Entries index (length row) in
    let partial : length row < 256 = omega (arith, wide) in
    let is : edge_bundle n ≡ path ∷ [] =
    (λ j. bundle_of_width (sym at j) (sym wide j)) ∙ some_bundle index (length row) some in
    let stop = part_stops digest hash (edge_bundle n) [] (HasEdge digest edge) a b x y path is partial
    (λ entries h. (h.short, end_file n entries index (length row) h.size_is at wide some)) _ c.in_err-bytes.ensures.first in
    err_exit _ c.from_residual.result c.in_err-bytes.field-0.0 c.from_residual.ensures stop

pub returns-in-None-clause-first : goal.returns-in-None-clause-first
returns-in-None-clause-first g c =
    let digest = g.H.TreeHash.digest in
    let hash = g.met.H.TreeHash.digest_length in
    let edge = c.args.edge.now in
    let n = edge.size in
    let a = g.S.Source.may_answer c.args.source.now in
    let b = g.S.Source.may_answer c.get_part.new.source in
    let x = g.S.Source.asked c.args.source.now in
    let y = g.S.Source.asked c.get_part.new.source in
    let row = c.row-row.result.now in
    let index = c.edge_index.result in
    let some : 0 < length row = search rules in
    let wide : length row ≡ width_of n 0 = ap length c.row-row.ensures ∙ c.requires 0 (omega arith) in
    let at : index ≡ edge_index_of n 0 = c.edge_index.ensures ∙ ap (λ k. edge_index_of k 0) c.size.ensures in
    let path = Entries index (length row) in
    let partial : length row < 256 = omega (arith, wide) in
    let is : edge_bundle n ≡ path ∷ [] =
    (λ j. bundle_of_width (sym at j) (sym wide j)) ∙ some_bundle index (length row) some in
    stops_here digest (edge_bundle n) (HasEdge digest edge) a b x y IsAbsent path NotInFull [] is
    (rw c.in-None.is at c.in_ok-bytes.ensures.gone) partial (λ entries h t. t)

pub returns-then-not-is_true-clause-first : goal.returns-then-not-is_true-clause-first
returns-then-not-is_true-clause-first g c =
    let digest = g.H.TreeHash.digest in
    let hash = g.met.H.TreeHash.digest_length in
    let edge = c.args.edge.now in
    let n = edge.size in
    let a = g.S.Source.may_answer c.args.source.now in
    let b = g.S.Source.may_answer c.get_part.new.source in
    let x = g.S.Source.asked c.args.source.now in
    let y = g.S.Source.asked c.get_part.new.source in
    let row = c.row-row.result.now in
    let index = c.edge_index.result in
    let some : 0 < length row = search rules in
    let wide : length row ≡ width_of n 0 = ap length c.row-row.ensures ∙ c.requires 0 (omega arith) in
    let at : index ≡ edge_index_of n 0 = c.edge_index.ensures ∙ ap (λ k. edge_index_of k 0) c.size.ensures in
    let path = Entries index (length row) in
    let partial : length row < 256 = omega (arith, wide) in
    let is : edge_bundle n ≡ path ∷ [] =
    (λ j. bundle_of_width (sym at j) (sym wide j)) ∙ some_bundle index (length row) some in
    let r = subst (λ o. IfSome o (λ (w : Vec ℕ Global). IsPartRead path w.items a b x y)) c.in-Some.is
    c.in_ok-bytes.ensures.read in
    stops_here digest (edge_bundle n) (HasEdge digest edge) a b x y IsPresent path r.found [] is r.given r.present
    (λ entries h t.
    let file = end_file n entries index (length row) h.size_is at wide some in
    let true = r.is_true digest entries hash h.short file t in
    let row_is : row ≡ level_row digest entries 0 (256 * edge_index_of (length entries) 0) (width_of (length entries) 0) =
    c.row-row.ensures ∙ (h.rows 0 (omega arith)
    ∙ ap (λ m. level_row digest entries 0 (256 * edge_index_of m 0) (width_of m 0)) h.size_is) in
    let here : index ≡ edge_index_of (length entries) 0 = at ∙ ap (λ m. edge_index_of m 0) h.size_is in
    let broad : length row ≡ width_of (length entries) 0 = wide ∙ ap (λ m. width_of m 0) h.size_is in
    let before : 256 * index < length entries = omega (arith, here, broad, some, hashes_of (length entries) 0) in
    let e = end_row digest hash entries index row before here row_is in
    absurd (false≢true (sym c.if-not-is_true.true ∙ c.in_ok-is_true.ensures.1
    (end_leaves digest hash entries index row e c.deref.result.now h.short (c.deref.ensures.value ∙ true)))))
