use Rattle.std.proofs.Common.{◌≡◌, suc, ◌-◌, ◌+◌, subst, arith}
use Rattle.tlog_tiles.specs.Bundle.{HasBundle}
use Rattle.tlog_tiles.proofs.BundleLemmas.{HasBundle-first, HasBundle-rest}
use Rattle.tlog_tiles.proofs.Cuts.{none_read, one_read}
use Rattle.tlog_tiles.proofs.cut.after_entries.Goals as goal

pub loop-init : goal.loop-init
loop-init c = record {
  read = none_read c.args.bytes.now;
  others = λ r h. subst (λ n. HasBundle n c.args.bytes.now r) (omega arith) h;
}

pub returns-in_default-clause-none : goal.returns-in_default-clause-none
returns-in_default-clause-none c = λ rest h.
    let left : c.args.count - c.loop.counter ≡ suc (c.args.count - (c.loop.counter + 1)) = omega arith in
    let at = subst (λ n. HasBundle n c.loop.rest.now rest) left (c.loop.invariant.others rest h) in
    let first = HasBundle-first (c.args.count - (c.loop.counter + 1)) c.loop.rest.now rest at in
    c.in_default.ensures.none first.0 first.1 first.2 first.3

pub loop-preserved : goal.loop-preserved
loop-preserved c =
    let left : c.args.count - c.loop.counter ≡ suc (c.args.count - (c.loop.counter + 1)) = omega arith in
    let found = c.in-Some.ensures.found in
    record {
      read = one_read c.loop.counter c.args.bytes.now c.loop.rest.now c.in-Some._entry.now c.in-Some.after.now
          c.loop.invariant.read found.0 found.1;
      others = λ r h. HasBundle-rest
          (c.args.count - (c.loop.counter + 1)) c.in-Some._entry.now c.in-Some.after.now r found.0
          (subst (λ b. HasBundle (suc (c.args.count - (c.loop.counter + 1))) b r) found.1
          (subst (λ n. HasBundle n c.loop.rest.now r) left (c.loop.invariant.others r h)));
    }
