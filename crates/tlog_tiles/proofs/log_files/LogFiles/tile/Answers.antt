use Rattle.std.proofs.Common.{◌≡◌, ◌*◌, ◌/◌, ◌^◌, length, ap, ◌∙◌, sym, subst, arith}
use Rattle.std.specs.Prelude.{IfSome, IfNone}
use Rattle.tlog_tiles.specs.Row.{row_text}
use Rattle.tlog_tiles.specs.Tiles.{IsTileWithin, tile_bytes}
use Rattle.tlog_tiles.specs.Layout.{entries_in, full_row, HoldsFile}
use Rattle.tlog_tiles.proofs.PieceLemmas.{some_from, none_from}
use Rattle.tlog_tiles.proofs.FullRows.{read_row, full_row_sizes, length-full_row, part_level}
use Rattle.tlog_tiles.proofs.FileLemmas.{tile_of_file, file_of_tile}
use Rattle.tlog_tiles.proofs.log_files.LogFiles.tile.Goals as goal

pub returns-clause-some : goal.returns-clause-some
returns-clause-some g c =
    let digest = g.H.TreeHash.digest in
    let es = entries_in 0 c.self.inside.ends.items c.self.inside.text.items in
    let level = c.args.level in
    let row : c.as_slice.result.now ≡ row_text (full_row digest es level) =
    c.as_slice.ensures.value ∙
    read_row digest es (λ r. r.items) c.self.inside.rows.items 8 level c.index.result.now c.self.invariant.rows_are
    (omega (arith, c.if-level-gt7.false)) c.index.ensures in
    let sizes = full_row_sizes digest es g.met.H.TreeHash.digest_length level in
    subst (λ list. IfSome c.row_piece.result (λ bytes. bytes.now ≡ tile_bytes digest list level c.args.index c.args.width))
    c.self.view_is
    (some_from c.row_piece.result _ _ (λ bytes h.
    let k = h (full_row digest es level) sizes row in
    k.1 ∙
    ap row_text (part_level digest es level (256 * c.args.index) c.args.width (length es / 256 ^ level)
    (omega (arith, k.0.within, length-full_row digest es level)))) c.row_piece.ensures.some)

pub returns-clause-within : goal.returns-clause-within
returns-clause-within g c =
    let digest = g.H.TreeHash.digest in
    let es = entries_in 0 c.self.inside.ends.items c.self.inside.text.items in
    let level = c.args.level in
    let row : c.as_slice.result.now ≡ row_text (full_row digest es level) =
    c.as_slice.ensures.value ∙
    read_row digest es (λ r. r.items) c.self.inside.rows.items 8 level c.index.result.now c.self.invariant.rows_are
    (omega (arith, c.if-level-gt7.false)) c.index.ensures in
    let sizes = full_row_sizes digest es g.met.H.TreeHash.digest_length level in
    subst (λ list. IfSome c.row_piece.result (λ bytes. IsTileWithin (length list) level c.args.index c.args.width))
    c.self.view_is
    (some_from c.row_piece.result _ _ (λ bytes h.
    tile_of_file (length es) level c.args.index c.args.width (omega (arith, c.if-level-gt7.false))
    (subst (λ n. HoldsFile n c.args.index c.args.width) (length-full_row digest es level)
    (h (full_row digest es level) sizes row).0)) c.row_piece.ensures.some)

pub returns-clause-none : goal.returns-clause-none
returns-clause-none g c =
    let digest = g.H.TreeHash.digest in
    let es = entries_in 0 c.self.inside.ends.items c.self.inside.text.items in
    let level = c.args.level in
    let row : c.as_slice.result.now ≡ row_text (full_row digest es level) =
    c.as_slice.ensures.value ∙
    read_row digest es (λ r. r.items) c.self.inside.rows.items 8 level c.index.result.now c.self.invariant.rows_are
    (omega (arith, c.if-level-gt7.false)) c.index.ensures in
    let sizes = full_row_sizes digest es g.met.H.TreeHash.digest_length level in
    subst (λ list. IfNone c.row_piece.result (IsTileWithin (length list) level c.args.index c.args.width → ⊥))
    c.self.view_is
    (none_from c.row_piece.result _ _ (λ h w.
    h (full_row digest es level) sizes row
    (subst (λ n. HoldsFile n c.args.index c.args.width) (sym (length-full_row digest es level))
    (file_of_tile (length es) level c.args.index c.args.width w))) c.row_piece.ensures.none)
