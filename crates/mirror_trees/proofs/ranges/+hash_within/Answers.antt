use Rattle.std.proofs.Common.{◌≡◌, length, sym, ap, ◌∙◌, arith, rules}
use Rattle.tlog_hash.specs.Tree.{mth}
use Rattle.tlog_hash.specs.Rows.{part}
use Rattle.tlog_hash.proofs.Trees.{mth-none}
use Rattle.mirror_trees.proofs.Descents.{no-pair}
use Rattle.mirror_trees.proofs.RangeSteps.{range_left, range_right, none_left, none_right, mth-straddle, some_from}
use Rattle.mirror_trees.proofs.RangeSteps.{none_from}
use Rattle.mirror_trees.proofs.ranges.+hash_within.Goals as goal

pub returns-then-len-eq0-clause-some : goal.returns-then-len-eq0-clause-some
returns-then-len-eq0-clause-some g t c = λ es tree.
    c.empty.ensures ∙
    sym (ap (λ n. mth g.H.TreeHash.digest (part c.args.start n es)) c.if-len-eq0.true ∙
    mth-none g.H.TreeHash.digest)

pub returns-in_default-clause-none : goal.returns-in_default-clause-none
returns-in_default-clause-none g t c =
    no-pair g.H.TreeHash.digest c.args.store.now c.args.size c.args.root.now (omega arith) c.in_default.ensures.none

pub returns-then-start-len-clause-some : goal.returns-then-start-len-clause-some
returns-then-start-len-clause-some g t c =
    let len : length c.in-Some.pair.0 ≡ 32 = search rules in
    some_from c.hash_within.result _ _
    (range_left g.H.TreeHash.digest c.args.store.now g.met.H.TreeHash.digest_length c.in-Some.ensures.no_clash
    c.args.size c.split-k.result c.args.root.now c.in-Some.pair.0 c.in-Some.pair.1
    (omega arith) c.split-k.ensures.value len c.in-Some.ensures.some c.args.start c.args.len c.if-start-len.true)
    c.hash_within.ensures.some

pub returns-then-start-len-clause-none : goal.returns-then-start-len-clause-none
returns-then-start-len-clause-none g t c =
    let len : length c.in-Some.pair.0 ≡ 32 = search rules in
    none_from c.hash_within.result _ _
    (none_left g.H.TreeHash.digest c.args.store.now g.met.H.TreeHash.digest_length c.in-Some.ensures.no_clash
    c.args.size c.split-k.result c.args.root.now c.in-Some.pair.0 c.in-Some.pair.1 (omega arith)
    c.split-k.ensures.value len c.in-Some.ensures.some) c.hash_within.ensures.none

pub returns-then-k-start-clause-some : goal.returns-then-k-start-clause-some
returns-then-k-start-clause-some g t c =
    let len : length c.in-Some.pair.0 ≡ 32 = search rules in
    some_from c.hash_within-then-k-start.result _ _
    (range_right g.H.TreeHash.digest c.args.store.now g.met.H.TreeHash.digest_length
    c.in-Some.ensures.no_clash c.args.size c.split-k.result c.args.root.now c.in-Some.pair.0 c.in-Some.pair.1
    (omega arith) c.split-k.ensures.value len c.in-Some.ensures.some c.args.start c.args.len c.if-k-start.true)
    c.hash_within-then-k-start.ensures.some

pub returns-then-k-start-clause-none : goal.returns-then-k-start-clause-none
returns-then-k-start-clause-none g t c =
    let len : length c.in-Some.pair.0 ≡ 32 = search rules in
    none_from c.hash_within-then-k-start.result _ _
    (none_right g.H.TreeHash.digest c.args.store.now g.met.H.TreeHash.digest_length c.in-Some.ensures.no_clash
    c.args.size c.split-k.result c.args.root.now c.in-Some.pair.0 c.in-Some.pair.1 (omega arith)
    c.split-k.ensures.value len c.in-Some.ensures.some) c.hash_within-then-k-start.ensures.none

pub returns-clause-some : goal.returns-clause-some
returns-clause-some g t c = λ es tree.
    c.node.ensures ∙
    mth-straddle g.H.TreeHash.digest es c.args.start c.args.len
    c.split-j.result c.in-Some-hash_within.a c.in-Some-hash_within-2.b (omega arith) (omega (arith, tree.size_is))
    c.split-j.ensures.value c.split-j.ensures.below
    (c.in-Some-hash_within.ensures.some es tree) (c.in-Some-hash_within-2.ensures.some es tree)
