use Rattle.std.proofs.Common.{◌≡◌, ◌-◌, ◌*◌, ◌+◌, ◌/◌, length, take, drop, ap, ◌∙◌, subst, arith}
use Rattle.tlog_hash.specs.Rows.{part}
use Rattle.tlog_tiles.specs.Row.{row_text}
use Rattle.tlog_tiles.proofs.RowLemmas.{length-row_text}
use Rattle.tlog_tiles.specs.Layout.{HoldsFile}
use Rattle.tlog_tiles.proofs.PieceLemmas.{row_part}
use Rattle.tlog_tiles.proofs.pieces.row_piece.Goals as goal

pub returns-in_default-clause-none : goal.returns-in_default-clause-none
returns-in_default-clause-none c = λ hashes all is file.
    let bytes : length c.args.row.now ≡ 32 * length hashes = ap length is ∙ length-row_text hashes all in
    let len : length hashes ≡ length c.args.row.now / 32 = omega (arith, bytes) in
    c.in_default.ensures.none (subst (λ n. HoldsFile n c.args.index c.args.width) len file)

pub returns-clause-some : goal.returns-clause-some
returns-clause-some c = λ hashes all is.
    let bytes : length c.args.row.now ≡ 32 * length hashes = ap length is ∙ length-row_text hashes all in
    let len : length c.args.row.now / 32 ≡ length hashes = omega (arith, bytes) in
    let file = subst (λ n. HoldsFile n c.args.index c.args.width) len c.in-Some.ensures.some.1 in
    let first = c.in-Some.first in
    let at = c.in-Some.ensures.some.0 in (
      file,
      ap (λ xs. take (32 * (first + c.args.width) - 32 * first) (drop (32 * first) xs)) is ∙
          row_part first c.args.width hashes all (omega (arith, file.within, at)) ∙
          ap (λ n. row_text (part n c.args.width hashes)) at,
    )
