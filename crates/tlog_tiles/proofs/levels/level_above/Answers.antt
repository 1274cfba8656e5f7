use Rattle.std.proofs.Common.{◌≡◌, ◌+◌, ◌-◌, ◌*◌, ◌∷◌, [], ◌++◌, map, drop, take, ap, sym, ◌∙◌, arith}
use Rattle.std.proofs.lemmas.List.{map-append}
use Rattle.tlog_hash.specs.Rows.{part, ranges}
use Rattle.tlog_hash.specs.Tree.{fold_of}
use Rattle.tlog_tiles.proofs.FullRows.{next_range}
use Rattle.tlog_tiles.proofs.levels.level_above.Goals as goal

pub loop-i-preserved : goal.loop-i-preserved
loop-i-preserved g c =
    let f = fold_of g.H.TreeHash.digest in
    let below = c.args.below.now in
    let i = c.loop-i.i in
    let len : 256 * i + 256 - 256 * i ≡ 256 = omega arith in
    let at : 256 * i ≡ i * 256 = omega arith in
    c.in_ok-push.ensures.items
    ∙ ap (λ xs. xs ++ c.fold.result ∷ []) c.loop-i.invariant
    ∙ ap (λ h. map f (ranges 256 0 i below) ++ h ∷ [])
    (c.fold.ensures ∙ ap (λ n. f (take n (drop (256 * i) below))) len ∙ ap (λ n. f (take 256 (drop n below))) at)
    ∙ sym (ap (map f) (next_range 256 i below) ∙ map-append f (ranges 256 0 i below) (part (i * 256) 256 below ∷ []))
