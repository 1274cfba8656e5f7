use Rattle.std.proofs.Common.{◌≡◌, length, arith, rules, false}
use Rattle.mirror_trees.proofs.Descents.{no-pair}
use Rattle.mirror_trees.proofs.PrefixSteps.{tells_empty, records_equal, tells_within, tells_differ, tells_beyond}
use Rattle.mirror_trees.proofs.PrefixSteps.{differ_tells, same_tells}
use Rattle.mirror_trees.proofs.prefix.+is_prefix.Goals as goal

pub returns-then-few-eq0 : goal.returns-then-few-eq0
returns-then-few-eq0 g t c = λ xs ys x y.
    tells_empty g.H.TreeHash.digest c.args.store.now c.args.small.0 c.args.large.0 c.args.small.1.now c.args.large.1.now
    xs ys x y c.if-few-eq0.true

pub returns-then-few-many-2 : goal.returns-then-few-many-2
returns-then-few-many-2 g t c = λ xs ys x y.
    records_equal g.H.TreeHash.digest c.args.store.now c.args.small.0 c.args.large.0 c.args.small.1.now
    c.args.large.1.now xs ys x y
    g.met.H.TreeHash.digest_length c.requires.clean c.if-few-many-2.true c.eq.result c.eq.ensures

pub returns-in_default : goal.returns-in_default
returns-in_default g t c = λ xs ys x y.
    absurd (no-pair g.H.TreeHash.digest c.args.store.now c.args.large.0 c.args.large.1.now
    (omega arith) c.in_default.ensures.none ys y)

pub returns-then-few-k : goal.returns-then-few-k
returns-then-few-k g t c = λ xs ys x y.
    let len : length c.in-Some.pair.0 ≡ 32 = search rules in
    tells_within g.H.TreeHash.digest c.args.store.now c.args.small.0 c.args.large.0 c.args.small.1.now
    c.args.large.1.now xs ys x y
    g.met.H.TreeHash.digest_length c.requires.clean c.split-k.result c.in-Some.pair.0 c.in-Some.pair.1
    (omega arith) c.split-k.ensures.value len c.in-Some.ensures.some c.is_prefix.result
    c.if-few-k.true c.is_prefix.ensures

pub returns-in_default-pair_of : goal.returns-in_default-pair_of
returns-in_default-pair_of g t c = λ xs ys x y.
    absurd (no-pair g.H.TreeHash.digest c.args.store.now c.args.small.0 c.args.small.1.now
    (omega (arith, c.split-k.ensures.positive)) c.in_default-pair_of.ensures.none xs x)

pub returns-then-ne : goal.returns-then-ne
returns-then-ne g t c = λ xs ys x y.
    let len : length c.in-Some.pair.0 ≡ 32 = search rules in
    let own_len : length c.in-Some-pair_of.own.0 ≡ 32 = search rules in
    tells_differ g.H.TreeHash.digest c.args.store.now c.args.small.0 c.args.large.0 c.args.small.1.now
    c.args.large.1.now xs ys x y
    g.met.H.TreeHash.digest_length c.requires.clean c.split-k.result c.in-Some.pair.0 c.in-Some.pair.1
    (omega arith) c.split-k.ensures.value len c.in-Some.ensures.some false
    (omega arith) c.if-few-k.false c.in-Some-pair_of.own.0 c.in-Some-pair_of.own.1 own_len
    c.in-Some-pair_of.ensures.some
    (differ_tells c.in-Some-pair_of.own.0 c.in-Some.pair.0 c.ne.result c.ne.ensures c.if-ne.true)

pub returns : goal.returns
returns g t c = λ xs ys x y.
    let len : length c.in-Some.pair.0 ≡ 32 = search rules in
    let own_len : length c.in-Some-pair_of.own.0 ≡ 32 = search rules in
    tells_beyond g.H.TreeHash.digest c.args.store.now c.args.small.0 c.args.large.0 c.args.small.1.now
    c.args.large.1.now xs ys x y
    g.met.H.TreeHash.digest_length c.requires.clean c.split-k.result c.in-Some.pair.0 c.in-Some.pair.1
    (omega arith) c.split-k.ensures.value len c.in-Some.ensures.some c.is_prefix-2.result
    (omega arith) c.if-few-k.false c.in-Some-pair_of.own.0 c.in-Some-pair_of.own.1 own_len
    c.in-Some-pair_of.ensures.some
    (same_tells c.in-Some-pair_of.own.0 c.in-Some.pair.0 c.ne.result c.ne.ensures c.if-ne.false) c.is_prefix-2.ensures
