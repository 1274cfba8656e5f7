use Rattle.std.proofs.Common.{false, ◌+◌, ◌-◌, ◌∷◌, [], ◌++◌, arith, sym, ap, ◌∙◌}
use Rattle.std.specs.Prelude.{if◌then◌else◌}
use Rattle.std.proofs.lemmas.Result.{IfErr-weaker}
use Rattle.tlog_hash.specs.Tree.{mth}
use Rattle.tlog_hash.specs.Rows.{part}
use Rattle.tlog_proof.specs.Consistency.{subproof_of}
use Rattle.tlog_proof.proofs.Parts.{subproof_of-all, subproof_of-left, subproof_of-right, then_push, none_added}
use Rattle.tlog_proof.proofs.Widening.{on_ok, why_wider}
use Rattle.tlog_proof.proofs.making.+add_subproof.Goals as goal

pub returns-then-held-clause-ok : goal.returns-then-held-clause-ok
returns-then-held-clause-ok g t c = λ es listed within.
    let d = g.R.MayRanges.digest in
    let s = c.args.start in
    let n = c.args.len in
    none_added c.args.path.now.items _
    (subproof_of-all d es s n c.args.first c.args.held c.if-first-len.true c.requires.some within ∙
    ap (λ b. if b then [] else mth d (part s n es) ∷ []) c.if-held.true)

pub returns-then-first-len-clause-ok : goal.returns-then-first-len-clause-ok
returns-then-first-len-clause-ok g t c =
    let d = g.R.MayRanges.digest in
    let s = c.args.start in
    let n = c.args.len in
    on_ok c.add_hash.result _ _
    (λ added es listed within. added es listed within ∙ ap (λ xs. c.args.path.now.items ++ xs)
    (sym (subproof_of-all d es s n c.args.first c.args.held c.if-first-len.true c.requires.some within ∙
    ap (λ b. if b then [] else mth d (part s n es) ∷ []) c.if-held.false)))
    c.add_hash.ensures.ok

pub returns-in_ok-add_subproof-clause-ok : goal.returns-in_ok-add_subproof-clause-ok
returns-in_ok-add_subproof-clause-ok g t c =
    let d = g.R.MayRanges.digest in
    let s = c.args.start in
    let n = c.args.len in
    let k = c.split-k.result in
    let m = c.args.first in
    let held = c.args.held in
    let below = c.split-k.ensures.below in
    on_ok c.add_hash-then-first-k.result _ _
    (λ added es listed within.
    then_push c.args.path.now.items c.add_subproof.new.path.items c.add_hash-then-first-k.new.path.items
    (subproof_of d m (part s k es) held) (subproof_of d m (part s n es) held) (mth d (part (s + k) (n - k) es))
    (c.in_ok-add_subproof.ensures.ok es listed (omega arith))
    (added es (g.met.R.MayRanges.stays _ _ es c.in_ok-add_subproof.ensures.steps listed) (omega arith))
    (subproof_of-left d es s n k (omega arith) c.split-k.ensures.value within m held c.requires.some c.if-first-k.true))
    c.add_hash-then-first-k.ensures.ok

pub returns-in_ok-add_subproof-clause-why : goal.returns-in_ok-add_subproof-clause-why
returns-in_ok-add_subproof-clause-why g t c =
    let below = c.split-k.ensures.below in
    IfErr-weaker c.add_hash-then-first-k.result _ _
    (why_wider g.R.MayRanges.steps g.R.MayRanges.why c.args.start c.args.len (c.args.start + c.split-k.result) (c.args.len - c.split-k.result)
    c.args.ranges.now c.add_subproof.new.ranges c.add_hash-then-first-k.new.ranges (omega arith) (omega arith)
    (g.met.R.MayRanges.twice c.args.ranges.now c.add_subproof.new.ranges c.add_hash-then-first-k.new.ranges c.in_ok-add_subproof.ensures.steps)
    (λ s n fault. g.met.R.MayRanges.why_longer c.args.ranges.now c.add_subproof.new.ranges c.add_hash-then-first-k.new.ranges s n fault c.in_ok-add_subproof.ensures.steps)) c.add_hash-then-first-k.ensures.why

pub returns-in_ok-add_subproof-2-clause-ok : goal.returns-in_ok-add_subproof-2-clause-ok
returns-in_ok-add_subproof-2-clause-ok g t c =
    let d = g.R.MayRanges.digest in
    let s = c.args.start in
    let n = c.args.len in
    let k = c.split-k.result in
    let m = c.args.first in
    let held = c.args.held in
    let below = c.split-k.ensures.below in
    on_ok c.add_hash-else-first-k.result _ _
    (λ added es listed within.
    then_push c.args.path.now.items c.add_subproof-else-first-k.new.path.items c.add_hash-else-first-k.new.path.items
    (subproof_of d (m - k) (part (s + k) (n - k) es) false) (subproof_of d m (part s n es) held) (mth d (part s k es))
    (c.in_ok-add_subproof-2.ensures.ok es listed (omega arith))
    (added es (g.met.R.MayRanges.stays _ _ es c.in_ok-add_subproof-2.ensures.steps listed) (omega arith))
    (subproof_of-right d es s n k (omega arith) c.split-k.ensures.value within m held
    (omega (arith, c.if-first-len.false, c.requires.within)) c.if-first-k.false))
    c.add_hash-else-first-k.ensures.ok

pub returns-in_ok-add_subproof-2-clause-why : goal.returns-in_ok-add_subproof-2-clause-why
returns-in_ok-add_subproof-2-clause-why g t c =
    let below = c.split-k.ensures.below in
    IfErr-weaker c.add_hash-else-first-k.result _ _
    (why_wider g.R.MayRanges.steps g.R.MayRanges.why c.args.start c.args.len c.args.start c.split-k.result
    c.args.ranges.now c.add_subproof-else-first-k.new.ranges c.add_hash-else-first-k.new.ranges (omega arith) (omega arith)
    (g.met.R.MayRanges.twice c.args.ranges.now c.add_subproof-else-first-k.new.ranges c.add_hash-else-first-k.new.ranges c.in_ok-add_subproof-2.ensures.steps)
    (λ s n fault. g.met.R.MayRanges.why_longer c.args.ranges.now c.add_subproof-else-first-k.new.ranges c.add_hash-else-first-k.new.ranges s n fault c.in_ok-add_subproof-2.ensures.steps))
    c.add_hash-else-first-k.ensures.why

pub add_hash-requires-else-first-k : goal.add_hash-requires-else-first-k
add_hash-requires-else-first-k g t c =
    let m = g.met.R.MayRanges in
    m.node_stays c.args.ranges.now c.add_subproof-else-first-k.new.ranges c.args.start c.split-k.result
    c.in_ok-add_subproof-2.ensures.steps
    (m.left c.args.ranges.now c.args.start c.args.len c.split-k.result (omega arith) c.split-k.ensures.value c.requires.node)
