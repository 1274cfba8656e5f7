use Rattle.std.proofs.Common.{◌≡◌, ◌<◌, ℕ, List, [], ◌∷◌, Global, IfSome, Vec, length, refl, sym, subst, ap, ◌∙◌, arith}
use Rattle.std.proofs.lemmas.List.Elements.{All-nil, All-same}
use Rattle.tlog_shape.specs.Edge.{edge_index_of, width_of}
use Rattle.tlog_tiles.specs.declared.paths.Path.TheVariants.{Tile}
use Rattle.mirror_sources.specs.Honest.{true_bytes}
use Rattle.log_reader.specs.Holding.{IsTreeFile}
use Rattle.log_reader.proofs.Refusing.{no_row}
use Rattle.log_reader.proofs.TruePrefixes.{no_row_is_true}
use Rattle.log_reader.proofs.TrueReads.{edge_row, edge_tile_file, one_row}
use Rattle.mirror_sources.specs.Files.{width_named}
use Rattle.tlog_tiles.specs.declared.paths.Path.{Path}
use Rattle.copy_reader.specs.Answering.{AreGiven}
use Rattle.copy_reader.specs.Found.{Begins, EdgeRow, FileRead, IsAbsentEdge, IsPresent, IsVerified, NotInFull, file_read, replies_of}
use Rattle.tlog_tiles.specs.Row.{IsRow}
use Rattle.copy_reader.specs.Order.{edge_file}
use Rattle.copy_reader.specs.Stops.{HasSize, IsPartRead, IsRowFile}
use Rattle.copy_reader.proofs.Given.{given_none}
use Rattle.copy_reader.proofs.EdgeFiles.{one_row_file}
use Rattle.copy_reader.proofs.Orders.{no_tile, some_tile}
use Rattle.copy_reader.proofs.Stops.{given_one_file, part_stops, stops_here}
use Rattle.copy_reader.proofs.AuditExits.{err_exit, true_exit}
use Rattle.copy_reader.proofs.edge_rows.row_at_level.Goals as goal

pub returns-then-width-eq0-clause-honest : goal.returns-then-width-eq0-clause-honest
returns-then-width-eq0-clause-honest g c = λ digest entries hash s same.
    no_row_is_true digest entries c.args.size c.args.level entries c.new.result.items
    (sym c.edge_width-width.ensures ∙ c.if-width-eq0.true) c.new.ensures.items

pub returns-in_err-bytes-clause-honest : goal.returns-in_err-bytes-clause-honest
returns-in_err-bytes-clause-honest g c = λ digest entries hash s same.
    let size = c.args.size in
    let level = c.args.level in
    let some : 0 < width_of size level = omega (arith, c.edge_width-width.ensures, c.if-width-eq0.false) in
    let file = subst (IsTreeFile (length entries)) (sym c.edge_path-path.ensures)
    (subst (λ m. IsTreeFile m (Tile level (edge_index_of size level) (width_of size level))) (sym same)
    (edge_tile_file size level c.requires some)) in
    let fault = c.in_err-bytes.ensures.honest digest entries hash s file in
    true_exit c.from_residual.result _ c.in_err-bytes.field-0.0 c.from_residual.ensures fault

pub returns-in-None-clause-honest : goal.returns-in-None-clause-honest
returns-in-None-clause-honest g c = λ digest entries hash s same.
    let size = c.args.size in
    let level = c.args.level in
    let some : 0 < width_of size level = omega (arith, c.edge_width-width.ensures, c.if-width-eq0.false) in
    let file = subst (IsTreeFile (length entries)) (sym c.edge_path-path.ensures)
    (subst (λ m. IsTreeFile m (Tile level (edge_index_of size level) (width_of size level))) (sym same)
    (edge_tile_file size level c.requires some)) in
    rw c.in-None.is at (c.in_ok-bytes.ensures.honest digest entries hash s file)

pub returns-in-Ok-clause-honest : goal.returns-in-Ok-clause-honest
returns-in-Ok-clause-honest g c = λ digest entries hash s same.
    let size = c.args.size in
    let level = c.args.level in
    let some : 0 < width_of size level = omega (arith, c.edge_width-width.ensures, c.if-width-eq0.false) in
    let file = subst (IsTreeFile (length entries)) (sym c.edge_path-path.ensures)
    (subst (λ m. IsTreeFile m (Tile level (edge_index_of size level) (width_of size level))) (sym same)
    (edge_tile_file size level c.requires some)) in
    let is = (rw c.in-Some.is at (c.in_ok-bytes.ensures.honest digest entries hash s file))
    ∙ ap (true_bytes digest entries) c.edge_path-path.ensures in
    one_row digest hash entries c.edge_width-width.result c.deref.result.now c.in-Ok.row.items _ c.in-Ok.ensures
    (edge_row digest hash entries size level c.edge_width-width.result c.edge_width-width.ensures c.deref.result.now
    (c.deref.ensures.value ∙ is))

pub returns-in-Err-RowLength-clause-honest : goal.returns-in-Err-RowLength-clause-honest
returns-in-Err-RowLength-clause-honest g c = λ digest entries hash s same.
    let size = c.args.size in
    let level = c.args.level in
    let some : 0 < width_of size level = omega (arith, c.edge_width-width.ensures, c.if-width-eq0.false) in
    let file = subst (IsTreeFile (length entries)) (sym c.edge_path-path.ensures)
    (subst (λ m. IsTreeFile m (Tile level (edge_index_of size level) (width_of size level))) (sym same)
    (edge_tile_file size level c.requires some)) in
    let is = (rw c.in-Some.is at (c.in_ok-bytes.ensures.honest digest entries hash s file))
    ∙ ap (true_bytes digest entries) c.edge_path-path.ensures in
    no_row c.edge_width-width.result c.deref.result.now
    (rw c.in-Err-RowLength.field-0-is at c.in-Err-RowLength.ensures) _
    (edge_row digest hash entries size level c.edge_width-width.result c.edge_width-width.ensures c.deref.result.now
    (c.deref.ensures.value ∙ is))

pub returns-then-width-eq0-clause-read : goal.returns-then-width-eq0-clause-read
returns-then-width-eq0-clause-read g c =
    let size = c.args.size in
    let level = c.args.level in
    let none : width_of size level ≡ 0 = sym c.edge_width-width.ensures ∙ c.if-width-eq0.true in
    record {
      reads = [];
      given = given_none (g.S.Source.may_answer c.args.source.now) (g.S.Source.asked c.args.source.now);
      paths_are = sym (no_tile level (edge_index_of size level) (width_of size level) none);
      hashes = All-same (λ (h : List ℕ). length h ≡ 32) c.new.result.items [] c.new.ensures.items (All-nil (λ (h : List ℕ). length h ≡ 32));
      has_row = All-nil (λ (r : FileRead). IsRowFile (λ l. l ≡ level) (λ l. c.new.result.items) r.path r.found);
      verified = λ digest entries. tt;
      is_true = λ digest entries hash short same t.
          no_row_is_true digest entries size level entries c.new.result.items none c.new.ensures.items;
    }

pub returns-in_err-bytes-clause-first : goal.returns-in_err-bytes-clause-first
returns-in_err-bytes-clause-first g c = λ digest hash.
    let size = c.args.size in
    let level = c.args.level in
    let index = edge_index_of size level in
    let width = width_of size level in
    let a = g.S.Source.may_answer c.args.source.now in
    let b = g.S.Source.may_answer c.get_part.new.source in
    let x = g.S.Source.asked c.args.source.now in
    let y = g.S.Source.asked c.get_part.new.source in
    let path = c.edge_path-path.result in
    let some : 0 < width = omega (arith, c.edge_width-width.ensures, c.if-width-eq0.false) in
    let is : edge_file size level ≡ path ∷ [] =
    some_tile level index width some ∙ ap (λ (p : Path). p ∷ []) (sym c.edge_path-path.ensures) in
    let partial = subst (λ p. width_named p < 256) (sym c.edge_path-path.ensures) (omega arith) in
    let stop = part_stops digest hash (edge_file size level) [] (HasSize digest size) a b x y path is partial
    (λ entries h. (
      h.short,
      (subst (IsTreeFile (length entries)) (sym c.edge_path-path.ensures)
          (subst (λ m. IsTreeFile m (Tile level index width)) (sym h.size_is) (edge_tile_file size level c.requires some))),
    ))
    _ c.in_err-bytes.ensures.first in
    err_exit _ c.from_residual.result c.in_err-bytes.field-0.0 c.from_residual.ensures stop

pub returns-in-None-clause-first : goal.returns-in-None-clause-first
returns-in-None-clause-first g c = λ digest hash.
    let size = c.args.size in
    let level = c.args.level in
    let index = edge_index_of size level in
    let width = width_of size level in
    let a = g.S.Source.may_answer c.args.source.now in
    let b = g.S.Source.may_answer c.get_part.new.source in
    let x = g.S.Source.asked c.args.source.now in
    let y = g.S.Source.asked c.get_part.new.source in
    let path = c.edge_path-path.result in
    let some : 0 < width = omega (arith, c.edge_width-width.ensures, c.if-width-eq0.false) in
    let is : edge_file size level ≡ path ∷ [] =
    some_tile level index width some ∙ ap (λ (p : Path). p ∷ []) (sym c.edge_path-path.ensures) in
    let gone = rw c.in-None.is at c.in_ok-bytes.ensures.gone in
    let low : width < 256 = omega arith in (
      Tile level index width,
      stops_here digest (edge_file size level) (HasSize digest size) a b x y IsAbsentEdge (Tile level index width) NotInFull []
          (some_tile level index width some)
          (subst (λ p. AreGiven a b x y (replies_of p NotInFull)) c.edge_path-path.ensures gone) (low, low) (λ entries h t. t),
    )

pub returns-in-Ok-clause-read : goal.returns-in-Ok-clause-read
returns-in-Ok-clause-read g c =
    let size = c.args.size in
    let level = c.args.level in
    let index = edge_index_of size level in
    let width = width_of size level in
    let a = g.S.Source.may_answer c.args.source.now in
    let b = g.S.Source.may_answer c.get_part.new.source in
    let x = g.S.Source.asked c.args.source.now in
    let y = g.S.Source.asked c.get_part.new.source in
    let path = c.edge_path-path.result in
    let some : 0 < width = omega (arith, c.edge_width-width.ensures, c.if-width-eq0.false) in
    let is : edge_file size level ≡ path ∷ [] =
    some_tile level index width some ∙ ap (λ (p : Path). p ∷ []) (sym c.edge_path-path.ensures) in
    let r = subst (λ o. IfSome o (λ (v : Vec ℕ Global). IsPartRead path v.items a b x y)) c.in-Some.is
    c.in_ok-bytes.ensures.read in
    let bytes = c.in-Some.bytes.items in
    let row = c.in-Ok.row.items in
    let low : width < 256 = omega arith in
    let begins = subst (λ p. Begins p bytes r.found) c.edge_path-path.ensures r.begins in
    let is_row = subst (λ w. IsRow w bytes row) c.edge_width-width.ensures
    (subst (λ t. IsRow c.edge_width-width.result t row) c.deref.ensures.value c.in-Ok.ensures) in
    record {
      reads = file_read path r.found ∷ [];
      given = given_one_file a b x y path r.found r.given;
      paths_are = sym is;
      hashes = is_row.sizes;
      has_row = one_row_file (λ l. l ≡ level) (λ l. row) path r.found (subst (λ p. IsRowFile (λ l. l ≡ level) (λ l. row) p r.found)
          (sym c.edge_path-path.ensures) (refl, subst (λ t. Begins (Tile level index width) t r.found) is_row.text begins));
      verified = λ digest entries. (
        subst (λ p. IsVerified digest entries p r.found) (sym c.edge_path-path.ensures)
            (EdgeRow level index width r.found bytes row low begins is_row),
        λ t. tt,
      );
      is_true = λ digest entries hash short same t.
          let true = r.is_true digest entries hash short
          (subst (IsTreeFile (length entries)) (sym c.edge_path-path.ensures)
          (subst (λ m. IsTreeFile m (Tile level index width)) (sym same) (edge_tile_file size level c.requires some))) t.0
          ∙ ap (true_bytes digest entries) c.edge_path-path.ensures in
          one_row digest hash entries c.edge_width-width.result c.deref.result.now c.in-Ok.row.items _ c.in-Ok.ensures
          (edge_row digest hash entries size level c.edge_width-width.result c.edge_width-width.ensures c.deref.result.now
          (c.deref.ensures.value ∙ true));
    }

pub returns-in-Err-RowLength-clause-first : goal.returns-in-Err-RowLength-clause-first
returns-in-Err-RowLength-clause-first g c = λ digest hash.
    let size = c.args.size in
    let level = c.args.level in
    let index = edge_index_of size level in
    let width = width_of size level in
    let a = g.S.Source.may_answer c.args.source.now in
    let b = g.S.Source.may_answer c.get_part.new.source in
    let x = g.S.Source.asked c.args.source.now in
    let y = g.S.Source.asked c.get_part.new.source in
    let path = c.edge_path-path.result in
    let some : 0 < width = omega (arith, c.edge_width-width.ensures, c.if-width-eq0.false) in
    let is : edge_file size level ≡ path ∷ [] =
    some_tile level index width some ∙ ap (λ (p : Path). p ∷ []) (sym c.edge_path-path.ensures) in
    let r = subst (λ o. IfSome o (λ (v : Vec ℕ Global). IsPartRead path v.items a b x y)) c.in-Some.is
    c.in_ok-bytes.ensures.read in
    stops_here digest (edge_file size level) (HasSize digest size) a b x y IsPresent path r.found [] is r.given r.present
    (λ entries h t.
    let true = r.is_true digest entries hash h.short
    (subst (IsTreeFile (length entries)) (sym c.edge_path-path.ensures)
    (subst (λ m. IsTreeFile m (Tile level index width)) (sym h.size_is) (edge_tile_file size level c.requires some))) t
    ∙ ap (true_bytes digest entries) c.edge_path-path.ensures in
    no_row c.edge_width-width.result c.deref.result.now
    (rw c.in-Err-RowLength.field-0-is at c.in-Err-RowLength.ensures) _
    (edge_row digest hash entries size level c.edge_width-width.result c.edge_width-width.ensures c.deref.result.now
    (c.deref.ensures.value ∙ true)))
