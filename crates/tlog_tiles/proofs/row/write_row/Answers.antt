use Rattle.std.proofs.Common.{◌≡◌, List, ℕ, length, [], refl, ap, ◌∙◌}
use Rattle.std.proofs.lemmas.List.{take_all}
use Rattle.std.proofs.lemmas.List.Elements.{All-from_get_or}
use Rattle.std.proofs.lemmas.Result.{IfOk-from_err}
use Rattle.tlog_tiles.specs.Row.{row_text}
use Rattle.tlog_tiles.proofs.row.write_row.Goals as goal

pub returns : goal.returns
returns c = record {
  count = refl;
  sizes = All-from_get_or (λ (h : List ℕ). length h ≡ 32) c.args.row.now [] c.told-row;
  text = c.loop-hash.invariant ∙
      ap (λ (r : List (List ℕ)). row_text r) (take_all c.loop-hash.hash-index c.args.row.now c.loop-hash-test.false);
}

pub returns-in_err-extend_from_slice : goal.returns-in_err-extend_from_slice
returns-in_err-extend_from_slice c = IfOk-from_err c.from_residual.result _ c.from_residual.ensures.0
