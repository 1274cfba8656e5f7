use Rattle.std.proofs.Common.{◌≡◌, ◌≤◌, ◌<◌, length, sym, ap, subst, ◌∙◌, arith, rules}
use Rattle.tlog_hash.specs.Shape.{shape}
use Rattle.mirror_trees.specs.Levels.{ListsLost, ListsNode, first_from}
use Rattle.mirror_trees.proofs.KnownSteps.{known_built}
use Rattle.mirror_trees.proofs.LevelSteps.{clear_built, clear_few, leaf_clear, leaf_lists, pair_lists, part_lists}
use Rattle.mirror_trees.proofs.LevelLists.{first_some, first_none, before_all}
use Rattle.mirror_trees.proofs.levels.+next_lost.Goals as goal

pub returns-then-edge_index-from : goal.returns-then-edge_index-from
returns-then-edge_index-from g t c = λ numbers lists.
    sym (before_all c.args.level g.H.TreeHash.digest c.args.store.now c.args.from c.args.start c.args.size
    c.args.root.now numbers c.requires.some (subst (λ n. n < c.args.from) c.edge_index.ensures c.if-edge_index-from.true)
    lists)

pub returns-then-contains : goal.returns-then-contains
returns-then-contains g t c = λ numbers lists.
    sym (ap (first_from c.args.from)
    (clear_built c.args.level g.H.TreeHash.digest c.args.store.now g.met.H.TreeHash.digest_length c.requires.clean
    c.args.size c.args.root.now
    (known_built g.H.TreeHash.digest c.args.store.now c.args.known.now c.args.size c.args.root.now c.requires.known
    (c.contains.ensures c.if-contains.true)) c.args.start numbers lists))

pub returns-then-is_below : goal.returns-then-is_below
returns-then-is_below g t c = λ numbers lists.
    let few = c.is_below.ensures.0 c.if-is_below.true in
    sym (ap (first_from c.args.from)
    (clear_few c.args.level g.H.TreeHash.digest c.args.store.now c.args.size c.args.root.now few.0 few.1
    c.args.start numbers lists))

pub returns-then-is_noted : goal.returns-then-is_noted
returns-then-is_noted g t c = λ numbers lists.
    sym (ap (first_from c.args.from)
    (c.requires.clear.clear c.args.size c.args.root.now (c.is_noted.ensures c.if-is_noted.true) c.args.start numbers
    lists))

pub returns-in-Some : goal.returns-in-Some
returns-in-Some g t c = λ numbers lists.
    sym (ap (first_from c.args.from)
    (leaf_clear c.args.level g.H.TreeHash.digest c.args.store.now c.args.start c.args.root.now numbers
    (subst (λ n. ListsLost g.H.TreeHash.digest c.args.store.now c.args.level (shape n) c.args.start c.args.root.now numbers)
    c.if-size-eq1.true lists) c.in-Some.field-0.now c.in-Some.ensures.some))

pub returns-in-None : goal.returns-in-None
returns-in-None g t c = λ numbers lists.
    c.number_from.ensures numbers
    (subst (λ n. ListsNode c.args.level c.args.start n numbers) (sym c.if-size-eq1.true)
    (leaf_lists c.args.level g.H.TreeHash.digest c.args.store.now c.args.start c.args.root.now numbers
    (subst (λ n. ListsLost g.H.TreeHash.digest c.args.store.now c.args.level (shape n) c.args.start c.args.root.now numbers)
    c.if-size-eq1.true lists) c.in-None.ensures.none))

pub returns-in_default : goal.returns-in_default
returns-in_default g t c = λ numbers lists.
    let two : 2 ≤ c.args.size = omega (arith, c.requires.some, c.if-size-eq1.false) in
    c.number_from-in_default.ensures numbers
    (pair_lists c.args.level g.H.TreeHash.digest c.args.store.now c.args.start c.args.root.now numbers c.args.size two
    lists c.in_default.ensures.none)

pub returns-in-Some-next_lost : goal.returns-in-Some-next_lost
returns-in-Some-next_lost g t c = λ numbers lists.
    let two : 2 ≤ c.args.size = omega (arith, c.requires.some, c.if-size-eq1.false) in
    let len_l : length c.in-Some-pair_of.pair.0 ≡ 32 = search rules in
    let len_r : length c.in-Some-pair_of.pair.1 ≡ 32 = search rules in
    let p =
    part_lists c.args.level g.H.TreeHash.digest c.args.store.now c.args.start c.args.root.now numbers c.args.size two
    lists c.requires.clean c.split-k.result c.in-Some-pair_of.pair.0 c.in-Some-pair_of.pair.1 c.split-k.ensures.value
    len_l len_r c.in-Some-pair_of.ensures.some in
    sym (ap (first_from c.args.from) p.is
    ∙ first_some c.args.from c.in-Some-next_lost.number p.left p.right
    (sym (c.in-Some-next_lost.ensures p.left p.left_lists)))

pub returns-in-None-next_lost : goal.returns-in-None-next_lost
returns-in-None-next_lost g t c = λ numbers lists.
    let two : 2 ≤ c.args.size = omega (arith, c.requires.some, c.if-size-eq1.false) in
    let len_l : length c.in-Some-pair_of.pair.0 ≡ 32 = search rules in
    let len_r : length c.in-Some-pair_of.pair.1 ≡ 32 = search rules in
    let p =
    part_lists c.args.level g.H.TreeHash.digest c.args.store.now c.args.start c.args.root.now numbers c.args.size two
    lists c.requires.clean c.split-k.result c.in-Some-pair_of.pair.0 c.in-Some-pair_of.pair.1 c.split-k.ensures.value
    len_l len_r c.in-Some-pair_of.ensures.some in
    c.next_lost-in-None-next_lost.ensures p.right p.right_lists
    ∙ sym (ap (first_from c.args.from) p.is
    ∙ first_none c.args.from p.left p.right (sym (c.in-None-next_lost.ensures p.left p.left_lists)))
