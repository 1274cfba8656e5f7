use Rattle.std.proofs.Common.{◌<◌, arith, length, refl}
use Rattle.copy_places.proofs.KeptAnswers.{others_set, set_keeps, set_new}
use Rattle.copy_places.proofs.end_tiles.EndTiles.keep.Goals as goal

pub returns-then-i-len-clause-kept : goal.returns-then-i-len-clause-kept
returns-then-i-len-clause-kept c =
    let within : c.in-Some.i < length c.args.self.now.tiles.items =
    let long = c.len.ensures in let less = c.if-i-len.true in omega (arith, long, less) in
    set_keeps c.args.self.now _ c.in-Some.i c.index_mut.result.now _ within refl refl refl refl
    c.index_mut.ensures.value (rw c.in-Some.is at c.requires)

pub returns-then-i-len-clause-stay : goal.returns-then-i-len-clause-stay
returns-then-i-len-clause-stay c =
    rw c.in-Some.is (others_set c.args.self.now.tiles.items c.in-Some.i _)

pub returns-then-i-len-clause-none : goal.returns-then-i-len-clause-none
returns-then-i-len-clause-none c =
    let within : c.in-Some.i < length c.args.self.now.tiles.items =
    let long = c.len.ensures in let less = c.if-i-len.true in omega (arith, long, less) in
    rw c.in-Some.is (set_new c.args.self.now.tiles.items c.in-Some.i c.index_mut.result.now _ c.in_ok-copy.copy c.args.answer.now within
    c.index_mut.ensures.value refl refl refl c.in_ok-copy.ensures)
