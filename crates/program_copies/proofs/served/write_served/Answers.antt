use Rattle.std.proofs.Common.{◌≡◌, ◌/◌, ◌<◌, ◌≤◌, length, sym, ap, ◌∙◌, subst, arith}
use Rattle.tlog_tiles.specs.Tiles.{bundle_bytes}
use Rattle.program_copies.specs.Shown.{AppendsFrom, BeginsFrom}
use Rattle.program_copies.specs.Texts.{bundle_width}
use Rattle.program_copies.proofs.Cuts.{err_any}
use Rattle.program_copies.proofs.ServedSteps.{served_early, served_stop, served_then}
use Rattle.program_copies.proofs.served.write_served.Goals as goal

pub returns-in_default-clause-err : goal.returns-in_default-clause-err
returns-in_default-clause-err g c = λ entries tree.
    let range = c.args.range.now in
    served_stop entries (c.requires.short entries tree) range.base64 range.from c.loop-at.at range.to
    (g.W.Write.contents c.args.output.now) (g.W.Write.contents c.loop-at.output) c.loop-at.invariant.high
    (c.loop-at.invariant.written entries tree)

pub returns-in_err-at-clause-err : goal.returns-in_err-at-clause-err
returns-in_err-at-clause-err g c =
    err_any c.from_residual.result _ (λ entries tree.
    let range = c.args.range.now in
    let at = c.loop-at.at in
    let bytes = c.deref.result.now in
    let b = g.W.Write.contents c.loop-at.output in
    let d = g.W.Write.contents c.write_from.new.output in
    let len : length entries ≡ c.args.size = tree.size_is ∙ sym c.requires.size in
    let some = rw c.in-Some.is at c.in-Ok.ensures.some in
    let is : bytes ≡ bundle_bytes entries (at / 256) (bundle_width (length entries) (at / 256)) =
    c.deref.ensures.value ∙ (some entries tree
    ∙ ap (λ w. bundle_bytes entries (at / 256) w) (c.width_at.ensures.width ∙ ap (λ n. bundle_width n (at / 256)) (sym len))) in
    let lt : at < range.to = omega arith in
    let within : range.to ≤ length entries = omega (arith, len) in
    served_early entries (c.requires.short entries tree) range.base64 range.from at range.to bytes
    (g.W.Write.contents c.args.output.now) b d c.loop-at.invariant.low lt within is
    (c.loop-at.invariant.written entries tree)
    (subst (λ n. BeginsFrom bytes n at range.to range.base64 b d) (sym len) c.in_err-at.ensures.err))

pub loop-at-preserved : goal.loop-at-preserved
loop-at-preserved g c = record {
  low = omega (arith, c.loop-at.invariant.low, c.in_ok-at.ensures.next.rises);
  high = c.in_ok-at.ensures.next.within;
  written = λ entries tree.
      let range = c.args.range.now in
      let at = c.loop-at.at in
      let bytes = c.deref.result.now in
      let b = g.W.Write.contents c.loop-at.output in
      let d = g.W.Write.contents c.write_from.new.output in
      let len : length entries ≡ c.args.size = tree.size_is ∙ sym c.requires.size in
      let some = rw c.in-Some.is at c.in-Ok.ensures.some in
      let is : bytes ≡ bundle_bytes entries (at / 256) (bundle_width (length entries) (at / 256)) =
      c.deref.ensures.value ∙ (some entries tree
      ∙ ap (λ w. bundle_bytes entries (at / 256) w) (c.width_at.ensures.width ∙ ap (λ n. bundle_width n (at / 256)) (sym len))) in
      let within : range.to ≤ length entries = omega (arith, len) in
      served_then entries (c.requires.short entries tree) range.base64 range.from at range.to c.in_ok-at.at bytes
      (g.W.Write.contents c.args.output.now) b d c.loop-at.invariant.low within is
      (c.loop-at.invariant.written entries tree) c.in_ok-at.ensures.next
      (subst (λ n. AppendsFrom bytes n at range.base64 b d c.in_ok-at.at) (sym len) c.in_ok-at.ensures.ok);
}
