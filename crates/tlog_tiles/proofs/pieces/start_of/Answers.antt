use Rattle.std.proofs.Common.{◌≡◌, ◌-◌, length, get_or, ap, ◌∙◌, arith}
use Rattle.tlog_tiles.proofs.PieceLemmas.{start_of_entry, length-ends_of}
use Rattle.tlog_tiles.proofs.pieces.start_of.Goals as goal

pub returns-else-at-eq0 : goal.returns-else-at-eq0
returns-else-at-eq0 c = λ entries is.
    let len : length c.args.ends.now ≡ length entries = ap length is ∙ length-ends_of 0 entries in
    ap (λ xs. get_or xs (c.args.at - 1) 0) is ∙
    start_of_entry c.args.at entries 0 (omega (arith, len, c.requires)) (omega (arith, c.if-at-eq0.false))
