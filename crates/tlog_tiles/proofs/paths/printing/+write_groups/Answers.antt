use Rattle.std.proofs.Common.{◌<◌, sym, refl, arith, rules}
use Rattle.std.proofs.lemmas.Grind.{put_four}
use Rattle.tlog_tiles.proofs.GroupLemmas.{groups_text-zero, groups_text-more}
use Rattle.tlog_tiles.proofs.paths.printing.+write_groups.Goals as goal

pub returns-then-number-eq0 : goal.returns-then-number-eq0
returns-then-number-eq0 g t c = rw (c.if-number-eq0.true, groups_text-zero) (search rules)

pub returns : goal.returns
returns g t c = λ plain ok.
    let apart = c.if-number-eq0.false in
    let some : 0 < c.args.number = omega arith in
    let front = c.in_ok-write_groups.ensures plain refl in
    let mark = c.in_ok-write_str.ensures.writes front.plain refl in
    let digits = c.in_ok-write_three.ensures mark.plain refl in
    let slash = c.write_str-2.ensures.writes digits.plain ok in
    put_four g.W.Write.write_str_gives _ _ _ _ _ _ _ _ _ _ front mark digits slash
    (sym (groups_text-more c.args.number some))
