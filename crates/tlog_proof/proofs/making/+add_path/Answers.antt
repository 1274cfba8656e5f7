use Rattle.std.proofs.Common.{◌+◌, ◌-◌, arith}
use Rattle.std.proofs.lemmas.Result.{IfErr-weaker}
use Rattle.tlog_hash.specs.Tree.{mth}
use Rattle.tlog_hash.specs.Rows.{part}
use Rattle.tlog_proof.specs.Inclusion.{path_of}
use Rattle.tlog_proof.proofs.Parts.{path_of-one, path_of-left, path_of-right, then_push, none_added}
use Rattle.tlog_proof.proofs.Widening.{on_ok, why_wider}
use Rattle.tlog_proof.proofs.making.+add_path.Goals as goal

pub returns-then-len-eq1-clause-ok : goal.returns-then-len-eq1-clause-ok
returns-then-len-eq1-clause-ok g t c = λ es listed within.
    none_added c.args.path.now.items _
    (path_of-one g.R.MayRanges.digest es c.args.start c.args.len c.args.index c.if-len-eq1.true within)

pub returns-in_ok-add_path-clause-ok : goal.returns-in_ok-add_path-clause-ok
returns-in_ok-add_path-clause-ok g t c =
    let d = g.R.MayRanges.digest in
    let s = c.args.start in
    let n = c.args.len in
    let k = c.split-k.result in
    let below = c.split-k.ensures.below in
    on_ok c.add_hash.result _ _
    (λ added es listed within.
    then_push c.args.path.now.items c.add_path.new.path.items c.add_hash.new.path.items (path_of d c.args.index (part s k es))
    (path_of d c.args.index (part s n es)) (mth d (part (s + k) (n - k) es))
    (c.in_ok-add_path.ensures.ok es listed (omega arith))
    (added es (g.met.R.MayRanges.stays _ _ es c.in_ok-add_path.ensures.steps listed) (omega arith))
    (path_of-left d es s n k (omega arith) c.split-k.ensures.value within c.args.index c.if-index-k.true))
    c.add_hash.ensures.ok

pub returns-in_ok-add_path-clause-why : goal.returns-in_ok-add_path-clause-why
returns-in_ok-add_path-clause-why g t c =
    let below = c.split-k.ensures.below in
    IfErr-weaker c.add_hash.result _ _
    (why_wider g.R.MayRanges.steps g.R.MayRanges.why c.args.start c.args.len (c.args.start + c.split-k.result) (c.args.len - c.split-k.result)
    c.args.ranges.now c.add_path.new.ranges c.add_hash.new.ranges (omega arith) (omega arith)
    (g.met.R.MayRanges.twice c.args.ranges.now c.add_path.new.ranges c.add_hash.new.ranges c.in_ok-add_path.ensures.steps)
    (λ s n fault. g.met.R.MayRanges.why_longer c.args.ranges.now c.add_path.new.ranges c.add_hash.new.ranges s n fault c.in_ok-add_path.ensures.steps)) c.add_hash.ensures.why

pub returns-in_ok-add_path-2-clause-ok : goal.returns-in_ok-add_path-2-clause-ok
returns-in_ok-add_path-2-clause-ok g t c =
    let d = g.R.MayRanges.digest in
    let s = c.args.start in
    let n = c.args.len in
    let k = c.split-k.result in
    let below = c.split-k.ensures.below in
    on_ok c.add_hash-else-index-k.result _ _
    (λ added es listed within.
    then_push c.args.path.now.items c.add_path-else-index-k.new.path.items c.add_hash-else-index-k.new.path.items
    (path_of d (c.args.index - k) (part (s + k) (n - k) es)) (path_of d c.args.index (part s n es)) (mth d (part s k es))
    (c.in_ok-add_path-2.ensures.ok es listed (omega arith))
    (added es (g.met.R.MayRanges.stays _ _ es c.in_ok-add_path-2.ensures.steps listed) (omega arith))
    (path_of-right d es s n k (omega arith) c.split-k.ensures.value within c.args.index c.if-index-k.false))
    c.add_hash-else-index-k.ensures.ok

pub returns-in_ok-add_path-2-clause-why : goal.returns-in_ok-add_path-2-clause-why
returns-in_ok-add_path-2-clause-why g t c =
    let below = c.split-k.ensures.below in
    IfErr-weaker c.add_hash-else-index-k.result _ _
    (why_wider g.R.MayRanges.steps g.R.MayRanges.why c.args.start c.args.len c.args.start c.split-k.result
    c.args.ranges.now c.add_path-else-index-k.new.ranges c.add_hash-else-index-k.new.ranges (omega arith) (omega arith)
    (g.met.R.MayRanges.twice c.args.ranges.now c.add_path-else-index-k.new.ranges c.add_hash-else-index-k.new.ranges c.in_ok-add_path-2.ensures.steps)
    (λ s n fault. g.met.R.MayRanges.why_longer c.args.ranges.now c.add_path-else-index-k.new.ranges c.add_hash-else-index-k.new.ranges s n fault c.in_ok-add_path-2.ensures.steps))
    c.add_hash-else-index-k.ensures.why

pub add_hash-requires-else-index-k : goal.add_hash-requires-else-index-k
add_hash-requires-else-index-k g t c =
    let m = g.met.R.MayRanges in
    m.node_stays c.args.ranges.now c.add_path-else-index-k.new.ranges c.args.start c.split-k.result c.in_ok-add_path-2.ensures.steps
    (m.left c.args.ranges.now c.args.start c.args.len c.split-k.result (omega arith) c.split-k.ensures.value c.requires.node)
