use Rattle.std.proofs.Common.{ℕ, ◌/◌, ◌<◌, ◌≤◌, List, length, sym, ◌∙◌, subst, arith}
use Rattle.log_reader.specs.EdgeRows.{Edge}
use Rattle.log_reader.specs.Ways.{IsShownBundle}
use Rattle.program_copies.specs.Shown.{AppendsFrom, BeginsFrom}
use Rattle.program_copies.proofs.Cuts.{err_any}
use Rattle.log_reader.proofs.Kept.{kept_twice}
use Rattle.copy_reader.proofs.WholeCopies.{files_later}
use Rattle.program_copies.proofs.ServedSteps.{served_early, served_stop, served_then}
use Rattle.program_copies.proofs.WholeSteps.{ends_early}
use Rattle.program_copies.proofs.CopyFaults.{names_exit}
use Rattle.program_copies.proofs.CopySteps.{shown_early, shown_stop, shown_then}
use Rattle.program_copies.proofs.copied.write_copied.Goals as goal

pub returns-in_err-bytes-clause-err : goal.returns-in_err-bytes-clause-err
returns-in_err-bytes-clause-err g c =
    let range = c.args.range.now in
    err_any c.from_residual.result _
    (shown_stop g.H.TreeHash.digest c.args.reader.now.edge range.base64 range.from c.loop-at.at range.to
    (g.W.Write.contents c.args.output.now) (g.W.Write.contents c.loop-at.output) c.loop-at.invariant.high
    c.loop-at.invariant.written)

pub returns-in-Err-WriteFault-clause-err : goal.returns-in-Err-WriteFault-clause-err
returns-in-Err-WriteFault-clause-err g c =
    let digest = g.H.TreeHash.digest in
    let edge = c.args.reader.now.edge in
    let range = c.args.range.now in
    let at = c.loop-at.at in
    let bytes = c.deref.result.now in
    let b = g.W.Write.contents c.loop-at.output in
    let d = g.W.Write.contents c.write_from.new.output in
    let lt : at < range.to = omega arith in
    let shown = subst (λ (e : Edge). IsShownBundle digest e (at / 256) c.in_ok-bytes.bytes.items) c.loop-at.invariant.edge
    c.in_ok-bytes.ensures.shown in
    shown_early digest edge range.base64 c.requires.hashes range.from at range.to bytes
    (g.W.Write.contents c.args.output.now) b d c.requires.within lt c.loop-at.invariant.written
    (subst (λ (w : List ℕ). IsShownBundle digest edge (at / 256) w) (sym c.deref.ensures.value) shown)
    (subst (λ n. BeginsFrom bytes n at range.to range.base64 b d) c.size-size.ensures c.in-Err-WriteFault.ensures.err)

pub returns-in-Err-OutOfMemory-clause-err : goal.returns-in-Err-OutOfMemory-clause-err
returns-in-Err-OutOfMemory-clause-err g c =
    let digest = g.H.TreeHash.digest in
    let edge = c.args.reader.now.edge in
    let range = c.args.range.now in
    let at = c.loop-at.at in
    let bytes = c.deref.result.now in
    let b = g.W.Write.contents c.loop-at.output in
    let d = g.W.Write.contents c.write_from.new.output in
    let lt : at < range.to = omega arith in
    let shown = subst (λ (e : Edge). IsShownBundle digest e (at / 256) c.in_ok-bytes.bytes.items) c.loop-at.invariant.edge
    c.in_ok-bytes.ensures.shown in
    shown_early digest edge range.base64 c.requires.hashes range.from at range.to bytes
    (g.W.Write.contents c.args.output.now) b d c.requires.within lt c.loop-at.invariant.written
    (subst (λ (w : List ℕ). IsShownBundle digest edge (at / 256) w) (sym c.deref.ensures.value) shown)
    (subst (λ n. BeginsFrom bytes n at range.to range.base64 b d) c.size-size.ensures c.in-Err-OutOfMemory.ensures.err)

pub loop-at-preserved : goal.loop-at-preserved
loop-at-preserved g c = record {
  low = omega (arith, c.loop-at.invariant.low, c.in-Ok.ensures.next.rises);
  high = c.in-Ok.ensures.next.within;
  counted = c.in_ok-bytes.ensures.counted ∙ c.loop-at.invariant.counted;
  same = kept_twice (g.D.Shelf.puts c.args.shelf.now) (g.D.Shelf.puts c.loop-at.shelf) (g.D.Shelf.puts c.bundle_on.new.shelf)
      c.loop-at.invariant.same c.bundle_on.ensures.same;
  edge = c.bundle_on.ensures.edge ∙ c.loop-at.invariant.edge;
  written =
      let digest = g.H.TreeHash.digest in
      let edge = c.args.reader.now.edge in
      let range = c.args.range.now in
      let at = c.loop-at.at in
      let bytes = c.deref.result.now in
      let b = g.W.Write.contents c.loop-at.output in
      let d = g.W.Write.contents c.write_from.new.output in
      let shown = subst (λ (e : Edge). IsShownBundle digest e (at / 256) c.in_ok-bytes.bytes.items) c.loop-at.invariant.edge
      c.in_ok-bytes.ensures.shown in
      shown_then digest edge range.base64 c.requires.hashes range.from at range.to c.in-Ok.next bytes
      (g.W.Write.contents c.args.output.now) b d c.requires.within c.loop-at.invariant.written
      (subst (λ (w : List ℕ). IsShownBundle digest edge (at / 256) w) (sym c.deref.ensures.value) shown)
      c.in-Ok.ensures.next
      (subst (λ n. AppendsFrom bytes n at range.base64 b d c.in-Ok.next) c.size-size.ensures c.in-Ok.ensures.ok);
  honest = λ entries is files.
      let range = c.args.range.now in
      let at = c.loop-at.at in
      let bytes = c.deref.result.now in
      let b = g.W.Write.contents c.loop-at.output in
      let d = g.W.Write.contents c.write_from.new.output in
      let before = c.loop-at.invariant.honest entries is files in
      let read = c.in_ok-bytes.ensures.honest entries before.0
      (files_later g.H.TreeHash.digest (g.D.Shelf.puts c.args.shelf.now) (g.D.Shelf.puts c.loop-at.shelf) c.loop-at.invariant.same
      entries files) in
      let within : range.to ≤ length entries = subst (λ m. range.to ≤ m) is.size_is c.requires.within in (
        read.reader_is,
        served_then entries files.short range.base64 range.from at range.to c.in-Ok.next bytes
            (g.W.Write.contents c.args.output.now) b d c.loop-at.invariant.low within
            (c.deref.ensures.value ∙ read.answer) before.1 c.in-Ok.ensures.next
            (subst (λ n. AppendsFrom bytes n at range.base64 b d c.in-Ok.next) (c.size-size.ensures ∙ is.size_is)
            c.in-Ok.ensures.ok),
      );
}

pub returns-in_err-bytes-clause-honest : goal.returns-in_err-bytes-clause-honest
returns-in_err-bytes-clause-honest g c = λ entries is files.
    let range = c.args.range.now in
    let before = c.loop-at.invariant.honest entries is files in
    let read = c.in_err-bytes.ensures.honest entries before.0
    (files_later g.H.TreeHash.digest (g.D.Shelf.puts c.args.shelf.now) (g.D.Shelf.puts c.loop-at.shelf) c.loop-at.invariant.same
    entries files) in
    ends_early entries range.base64 range.from range.to (g.W.Write.contents c.args.output.now)
    (g.W.Write.contents c.loop-at.output) c.in_err-bytes.field-0.0 c.from_residual.result c.from_residual.ensures read.answer
    (served_stop entries files.short range.base64 range.from c.loop-at.at range.to (g.W.Write.contents c.args.output.now)
    (g.W.Write.contents c.loop-at.output) c.loop-at.invariant.high before.1)

pub returns-in-Err-WriteFault-clause-honest : goal.returns-in-Err-WriteFault-clause-honest
returns-in-Err-WriteFault-clause-honest g c = λ entries is files.
    let range = c.args.range.now in
    let at = c.loop-at.at in
    let bytes = c.deref.result.now in
    let b = g.W.Write.contents c.loop-at.output in
    let d = g.W.Write.contents c.write_from.new.output in
    let lt : at < range.to = omega arith in
    let before = c.loop-at.invariant.honest entries is files in
    let read = c.in_ok-bytes.ensures.honest entries before.0
    (files_later g.H.TreeHash.digest (g.D.Shelf.puts c.args.shelf.now) (g.D.Shelf.puts c.loop-at.shelf) c.loop-at.invariant.same
    entries files) in
    let within : range.to ≤ length entries = subst (λ m. range.to ≤ m) is.size_is c.requires.within in (
      tt,
      served_early entries files.short range.base64 range.from at range.to bytes (g.W.Write.contents c.args.output.now) b d
          c.loop-at.invariant.low lt within (c.deref.ensures.value ∙ read.answer) before.1
          (subst (λ n. BeginsFrom bytes n at range.to range.base64 b d) (c.size-size.ensures ∙ is.size_is)
          c.in-Err-WriteFault.ensures.err),
    )

pub returns-in-Err-OutOfMemory-clause-honest : goal.returns-in-Err-OutOfMemory-clause-honest
returns-in-Err-OutOfMemory-clause-honest g c = λ entries is files.
    let range = c.args.range.now in
    let at = c.loop-at.at in
    let bytes = c.deref.result.now in
    let b = g.W.Write.contents c.loop-at.output in
    let d = g.W.Write.contents c.write_from.new.output in
    let lt : at < range.to = omega arith in
    let before = c.loop-at.invariant.honest entries is files in
    let read = c.in_ok-bytes.ensures.honest entries before.0
    (files_later g.H.TreeHash.digest (g.D.Shelf.puts c.args.shelf.now) (g.D.Shelf.puts c.loop-at.shelf) c.loop-at.invariant.same
    entries files) in
    let within : range.to ≤ length entries = subst (λ m. range.to ≤ m) is.size_is c.requires.within in (
      tt,
      served_early entries files.short range.base64 range.from at range.to bytes (g.W.Write.contents c.args.output.now) b d
          c.loop-at.invariant.low lt within (c.deref.ensures.value ∙ read.answer) before.1
          (subst (λ n. BeginsFrom bytes n at range.to range.base64 b d) (c.size-size.ensures ∙ is.size_is)
          c.in-Err-OutOfMemory.ensures.err),
    )

pub returns-in_err-bytes-clause-damage : goal.returns-in_err-bytes-clause-damage
returns-in_err-bytes-clause-damage g c =
    names_exit g.H.TreeHash.digest (g.D.Shelf.puts c.args.shelf.now) c.args.reader.now.edge (g.D.Shelf.puts c.loop-at.shelf)
    c.loop-at.invariant.same c.loop-at.reader.edge c.loop-at.invariant.edge c.in_err-bytes.field-0.0 c.from_residual.result
    c.from_residual.ensures c.in_err-bytes.ensures.damage
