use Rattle.std.proofs.Common.{◌<◌, ◌^◌, List, ℕ, length, map, ap, ◌∙◌}
use Rattle.std.proofs.lemmas.List.{length-map, take_all}
use Rattle.std.proofs.lemmas.List.Elements.{All-map}
use Rattle.std.proofs.lemmas.Result.{IfOk-from_err}
use Rattle.tlog_tiles.specs.Bundle.{bundle_text}
use Rattle.tlog_tiles.proofs.bundle.write_bundle.Goals as goal

pub returns : goal.returns
returns c = record {
  count = length-map c.args.entries.now (λ e. e.now);
  fits = All-map (λ (e : List ℕ). length e < 2 ^ 16) (λ e. e.now) c.args.entries.now c.requires.fits;
  text = c.loop-entry.invariant ∙
      ap (λ es. bundle_text (map (λ e. e.now) es))
      (take_all c.loop-entry.entry-index c.args.entries.now c.loop-entry-test.false);
}

pub returns-in_err-extend_from_slice : goal.returns-in_err-extend_from_slice
returns-in_err-extend_from_slice c = IfOk-from_err c.from_residual.result _ c.from_residual.ensures.0

pub returns-in_err-extend_from_slice-2 : goal.returns-in_err-extend_from_slice-2
returns-in_err-extend_from_slice-2 c =
    let exit = c.from_residual-in_err-extend_from_slice-2 in
    IfOk-from_err exit.result _ exit.ensures.0
