use Rattle.std.proofs.Common.{◌≡◌, ◌≤◌, ◌-◌, length, take, drop, ap, ◌∙◌, sym, subst, arith}
use Rattle.tlog_hash.specs.Rows.{part}
use Rattle.tlog_tiles.specs.Bundle.{bundle_text, entry_text}
use Rattle.tlog_tiles.specs.Layout.{HoldsFile}
use Rattle.tlog_tiles.proofs.PieceLemmas.{length-ends_of, piece, piece_starts, piece_ends}
use Rattle.tlog_tiles.proofs.pieces.text_piece.Goals as goal

pub returns-in_default-clause-none : goal.returns-in_default-clause-none
returns-in_default-clause-none c = λ entries is file.
    let len : length entries ≡ length c.args.ends.now = sym (ap length is ∙ length-ends_of 0 entries) in
    c.in_default.ensures.none (subst (λ n. HoldsFile n c.args.index c.args.width) len file)

pub slice_bounds-result-count : goal.slice_bounds-result-count
slice_bounds-result-count c =
    let entries = c.requires.0 in
    let ends = c.requires.2 in
    omega (
      arith,
      c.start_of-start.ensures entries ends,
      c.start_of-end.ensures entries ends,
      piece_starts entry_text c.in-Some.first c.args.width entries,
    )

pub slice_bounds-result-start : goal.slice_bounds-result-start
slice_bounds-result-start c =
    let entries = c.requires.0 in
    let ends = c.requires.2 in
    let h : c.start_of-start.result ≤ c.start_of-end.result =
    omega (
      arith,
      c.start_of-start.ensures entries ends,
      c.start_of-end.ensures entries ends,
      piece_starts entry_text c.in-Some.first c.args.width entries,
    ) in
    h

pub slice_bounds-result-end : goal.slice_bounds-result-end
slice_bounds-result-end c =
    let entries = c.requires.0 in
    let ends = c.requires.2 in
    let h : c.start_of-end.result ≤ length c.args.text.now =
    omega (
      arith,
      c.start_of-end.ensures entries ends,
      piece_ends entry_text c.in-Some.first c.args.width entries,
      ap length c.requires.1,
    ) in
    h

pub returns-clause-some : goal.returns-clause-some
returns-clause-some c = λ entries is ends.
    let len : length c.args.ends.now ≡ length entries = ap length ends ∙ length-ends_of 0 entries in
    let first = c.in-Some.first in
    let from = c.start_of-start.result in
    let to = c.start_of-end.result in (
      subst (λ n. HoldsFile n c.args.index c.args.width) len c.in-Some.ensures.some.1,
      ap (λ xs. take (to - from) (drop from xs)) is ∙
          piece entry_text first c.args.width entries from to (c.start_of-start.ensures entries ends)
          (c.start_of-end.ensures entries ends) ∙
          ap (λ n. bundle_text (part n c.args.width entries)) c.in-Some.ensures.some.0,
    )
