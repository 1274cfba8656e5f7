use Rattle.std.proofs.Common.{◌<◌, List, ℕ, length, arith, vec_len, subst, ap, sym, ◌∙◌}
use Rattle.std.proofs.lemmas.List.{length-append}
use Rattle.std.proofs.lemmas.Bool.{eqb-false}
use Rattle.std.proofs.KnownBytes.{Consumes-kept}
use Rattle.std.proofs.lemmas.Result.{err_from_is_err_and}
use Rattle.httparse.specs.Grammar.{HasNoRequest}
use Rattle.mirror_http.specs.Looks.{LooksLike, ReadsOn}
use Rattle.mirror_http.specs.declared.head.HeadState.TheVariants.{Open, Bad, Whole}
use Rattle.mirror_http.specs.declared.head.ReadStep.{ReadStep}
use Rattle.mirror_http.proofs.Seeing.{sees_bad, sees_end, sees_full, sees_head, taken_end, taken_more, taken_within, fails_before}
use Rattle.mirror_http.proofs.head.read_head.Goals as goal

pub returns-in_err-read_more-clause-limit : goal.returns-in_err-read_more-clause-limit
returns-in_err-read_more-clause-limit g c =
    let recorded = g.R.Read.remaining in
    taken_within (recorded c.args.reader.now) (recorded c.loop.reader) (recorded c.read_more.new.reader)
    c.loop.received.items c.read_more.new.received.items (vec_len c.loop.received) (omega arith)
    c.loop.invariant.room c.loop.invariant.taken c.read_more.ensures.limit

pub returns-in-End-clause-seen : goal.returns-in-End-clause-seen
returns-in-End-clause-seen g c =
    let recorded = g.R.Read.remaining in
    let old = c.loop.received.items in
    let new = c.read_more.new.received.items in
    let on = subst (λ (t : ReadStep). ReadsOn (recorded c.loop.reader) (recorded c.read_more.new.reader) old new t)
    c.in-End.is c.in_ok-read_more.ensures.turn in
    let taken = taken_end (recorded c.args.reader.now) (recorded c.loop.reader) (recorded c.read_more.new.reader)
    old new c.loop.invariant.taken on in
    let nonempty = eqb-false _ _ (sym c.is_empty.ensures ∙ c.if-is_empty.false) in
    let some : 0 < length new = omega (arith, nonempty) in
    let len = ap length on.same in
    sees_end (recorded c.args.reader.now)
    (recorded c.read_more.new.reader) new new some (omega (arith, len, c.loop.invariant.room)) taken on.at_end
    (subst HasNoRequest (sym on.same) (c.loop.invariant.unended (omega (arith, some, len))))

pub returns-in-Whole-clause-seen : goal.returns-in-Whole-clause-seen
returns-in-Whole-clause-seen g c =
    let recorded = g.R.Read.remaining in
    let old = c.loop.received.items in
    let new = c.read_more.new.received.items in
    let on = subst (λ (t : ReadStep). ReadsOn (recorded c.loop.reader) (recorded c.read_more.new.reader) old new t)
    c.in-More.is c.in_ok-read_more.ensures.turn in
    let taken = taken_more (recorded c.args.reader.now) (recorded c.loop.reader) (recorded c.read_more.new.reader)
    old new c.loop.invariant.taken on in
    let looks = subst (λ (b : List ℕ). LooksLike b (Whole c.in-Whole.method c.in-Whole.target))
    c.deref.ensures.value c.in-Whole.ensures in
    sees_head (recorded c.args.reader.now) (recorded c.read_more.new.reader) new c.in-Whole.method c.in-Whole.target
    on.within taken looks

pub returns-in-Bad-clause-seen : goal.returns-in-Bad-clause-seen
returns-in-Bad-clause-seen g c =
    let recorded = g.R.Read.remaining in
    let old = c.loop.received.items in
    let new = c.read_more.new.received.items in
    let on = subst (λ (t : ReadStep). ReadsOn (recorded c.loop.reader) (recorded c.read_more.new.reader) old new t)
    c.in-More.is c.in_ok-read_more.ensures.turn in
    let taken = taken_more (recorded c.args.reader.now) (recorded c.loop.reader) (recorded c.read_more.new.reader)
    old new c.loop.invariant.taken on in
    let over = subst (λ (b : List ℕ). LooksLike b Bad) c.deref.ensures.value c.in-Bad.ensures in
    let len = ap length on.adds ∙ length-append old on.bytes in
    sees_bad (recorded c.args.reader.now) (recorded c.read_more.new.reader) new new (omega (arith, on.some, len))
    on.within taken over

pub returns-then-len-eq-MAX_REQUEST_LEN-clause-seen : goal.returns-then-len-eq-MAX_REQUEST_LEN-clause-seen
returns-then-len-eq-MAX_REQUEST_LEN-clause-seen g c =
    let recorded = g.R.Read.remaining in
    let old = c.loop.received.items in
    let new = c.read_more.new.received.items in
    let on = subst (λ (t : ReadStep). ReadsOn (recorded c.loop.reader) (recorded c.read_more.new.reader) old new t)
    c.in-More.is c.in_ok-read_more.ensures.turn in
    let taken = taken_more (recorded c.args.reader.now) (recorded c.loop.reader) (recorded c.read_more.new.reader)
    old new c.loop.invariant.taken on in
    let unended = subst (λ (b : List ℕ). LooksLike b Open) c.deref.ensures.value c.in-Open.ensures in
    sees_full (recorded c.args.reader.now) (recorded c.read_more.new.reader) new new (omega arith) taken unended

pub returns-then-is_empty-clause-limit : goal.returns-then-is_empty-clause-limit
returns-then-is_empty-clause-limit g c =
    let recorded = g.R.Read.remaining in
    taken_within (recorded c.args.reader.now) (recorded c.loop.reader) (recorded c.read_more.new.reader)
    c.loop.received.items c.read_more.new.received.items (vec_len c.loop.received) (omega arith)
    c.loop.invariant.room c.loop.invariant.taken c.read_more.ensures.limit

pub returns-in-End-clause-limit : goal.returns-in-End-clause-limit
returns-in-End-clause-limit g c =
    let recorded = g.R.Read.remaining in
    taken_within (recorded c.args.reader.now) (recorded c.loop.reader) (recorded c.read_more.new.reader)
    c.loop.received.items c.read_more.new.received.items (vec_len c.loop.received) (omega arith)
    c.loop.invariant.room c.loop.invariant.taken c.read_more.ensures.limit

pub returns-in-Whole-clause-limit : goal.returns-in-Whole-clause-limit
returns-in-Whole-clause-limit g c =
    let recorded = g.R.Read.remaining in
    taken_within (recorded c.args.reader.now) (recorded c.loop.reader) (recorded c.read_more.new.reader)
    c.loop.received.items c.read_more.new.received.items (vec_len c.loop.received) (omega arith)
    c.loop.invariant.room c.loop.invariant.taken c.read_more.ensures.limit

pub returns-in-Bad-clause-limit : goal.returns-in-Bad-clause-limit
returns-in-Bad-clause-limit g c =
    let recorded = g.R.Read.remaining in
    taken_within (recorded c.args.reader.now) (recorded c.loop.reader) (recorded c.read_more.new.reader)
    c.loop.received.items c.read_more.new.received.items (vec_len c.loop.received) (omega arith)
    c.loop.invariant.room c.loop.invariant.taken c.read_more.ensures.limit

pub returns-then-len-eq-MAX_REQUEST_LEN-clause-limit : goal.returns-then-len-eq-MAX_REQUEST_LEN-clause-limit
returns-then-len-eq-MAX_REQUEST_LEN-clause-limit g c =
    let recorded = g.R.Read.remaining in
    taken_within (recorded c.args.reader.now) (recorded c.loop.reader) (recorded c.read_more.new.reader)
    c.loop.received.items c.read_more.new.received.items (vec_len c.loop.received) (omega arith)
    c.loop.invariant.room c.loop.invariant.taken c.read_more.ensures.limit

pub returns-in_err-read_more-clause-fault : goal.returns-in_err-read_more-clause-fault
returns-in_err-read_more-clause-fault g c =
    let recorded = g.R.Read.remaining in
    let p = err_from_is_err_and c.from_residual.result c.from_residual.ensures.1 in
    rw p.1 (λ is. fails_before (recorded c.args.reader.now) (recorded c.read_more.new.reader) c.loop.received.items
    (Consumes-kept (recorded c.args.reader.now) (recorded c.loop.reader) (recorded c.read_more.new.reader)
    c.loop.received.items c.loop.invariant.taken (c.in_err-read_more.ensures.fault (sym p.2 ∙ is)))
    (omega (arith, c.loop.invariant.room)) (λ some. c.loop.invariant.unended (omega (arith, some))))

pub returns-clause-fault : goal.returns-clause-fault
returns-clause-fault g c is =
    let recorded = g.R.Read.remaining in
    fails_before (recorded c.args.reader.now) (recorded c.loop.reader) c.loop.received.items c.loop.invariant.taken
    (omega (arith, c.loop.invariant.room)) (λ some. c.loop.invariant.unended (omega (arith, some)))
