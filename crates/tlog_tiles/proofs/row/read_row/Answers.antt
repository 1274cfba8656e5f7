use Rattle.std.proofs.Common.{◌≡◌, List, ℕ, length, ◌+◌, ap, ◌∙◌}
use Rattle.std.proofs.lemmas.List.{length_push}
use Rattle.std.proofs.lemmas.List.Elements.{All-push, All-same}
use Rattle.tlog_tiles.proofs.Exits.{no_row}
use Rattle.tlog_tiles.proofs.RowLemmas.{row_push}
use Rattle.tlog_tiles.proofs.row.read_row.Goals as goal

pub loop-i-preserved : goal.loop-i-preserved
loop-i-preserved c =
    let items = c.in_ok-push.ensures.items in
    let size : length c.copy_from_slice.new.self ≡ 32 = c.copy_from_slice.ensures.len in
    record {
      count = ap length items ∙
          (length_push c.loop-i.row.items c.copy_from_slice.new.self ∙ ap (λ n. n + 1) c.loop-i.invariant.count);
      sizes = All-same (λ (h : List ℕ). length h ≡ 32) _ _ items
          (All-push
          (λ (h : List ℕ). length h ≡ 32) c.loop-i.row.items c.copy_from_slice.new.self c.loop-i.invariant.sizes size);
      text = rw items
          (row_push c.args.bytes.now c.loop-i.i c.loop-i.row.items c.copy_from_slice.new.self c.loop-i.invariant.text
          c.copy_from_slice.ensures.after);
    }

pub returns-in_err-push : goal.returns-in_err-push
returns-in_err-push c =
    no_row c.args.width c.args.bytes.now (λ v. v.items) c.from_residual.result c.from_residual.ensures
