use Rattle.std.proofs.Common.{◌≡◌, length, ◌∙◌, subst}
use Rattle.std.specs.Prelude.{IfSome, IfNone}
use Rattle.tlog_tiles.specs.Tiles.{IsTileWithin, bundle_bytes}
use Rattle.tlog_tiles.specs.Layout.{entries_in}
use Rattle.tlog_tiles.proofs.PieceLemmas.{some_from, none_from}
use Rattle.tlog_tiles.proofs.FileLemmas.{tile_of_bundle, bundle_of_tile}
use Rattle.tlog_tiles.proofs.log_files.LogFiles.bundle.Goals as goal

pub text_piece-requires : goal.text_piece-requires
text_piece-requires g c = (
  entries_in 0 c.self.inside.ends.items c.self.inside.text.items,
  c.as_slice.ensures.value ∙ c.self.invariant.text_is,
  c.as_slice-2.ensures.value ∙ c.self.invariant.ends_are,
)

pub returns-clause-some : goal.returns-clause-some
returns-clause-some g c =
    let es = entries_in 0 c.self.inside.ends.items c.self.inside.text.items in
    let text = c.as_slice.ensures.value ∙ c.self.invariant.text_is in
    let ends = c.as_slice-2.ensures.value ∙ c.self.invariant.ends_are in
    subst (λ list. IfSome c.text_piece.result (λ bytes. bytes.now ≡ bundle_bytes list c.args.index c.args.width))
    c.self.view_is
    (some_from c.text_piece.result _ _ (λ bytes h. (h es text ends).1) c.text_piece.ensures.some)

pub returns-clause-within : goal.returns-clause-within
returns-clause-within g c =
    let es = entries_in 0 c.self.inside.ends.items c.self.inside.text.items in
    let text = c.as_slice.ensures.value ∙ c.self.invariant.text_is in
    let ends = c.as_slice-2.ensures.value ∙ c.self.invariant.ends_are in
    subst (λ list. IfSome c.text_piece.result (λ bytes. IsTileWithin (length list) 0 c.args.index c.args.width))
    c.self.view_is
    (some_from c.text_piece.result _ _
    (λ bytes h. tile_of_bundle (length es) c.args.index c.args.width (h es text ends).0) c.text_piece.ensures.some)

pub returns-clause-none : goal.returns-clause-none
returns-clause-none g c =
    let es = entries_in 0 c.self.inside.ends.items c.self.inside.text.items in
    let ends = c.as_slice-2.ensures.value ∙ c.self.invariant.ends_are in
    subst (λ list. IfNone c.text_piece.result (IsTileWithin (length list) 0 c.args.index c.args.width → ⊥))
    c.self.view_is
    (none_from c.text_piece.result _ _
    (λ h w. h es ends (bundle_of_tile (length es) c.args.index c.args.width w)) c.text_piece.ensures.none)
