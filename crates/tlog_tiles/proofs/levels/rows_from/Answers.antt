use Rattle.std.proofs.Common.{◌≡◌, ◌+◌, [], ◌∷◌, map, ap, ◌∙◌}
use Rattle.std.proofs.lemmas.List.{map-append}
use Rattle.tlog_tiles.specs.Row.{row_text}
use Rattle.tlog_tiles.specs.Layout.{full_row}
use Rattle.tlog_tiles.proofs.FullRows.{more_rows, next_level}
use Rattle.tlog_tiles.proofs.levels.rows_from.Goals as goal

pub loop-preserved : goal.loop-preserved
loop-preserved g c = λ entries is_leaves is_above.
    let digest = g.H.TreeHash.digest in
    let level = c.loop.counter + 1 in
    let h = c.loop.invariant entries is_leaves is_above in
    let below : c.deref-in-loop.result.now ≡ full_row digest entries level = c.deref-in-loop.ensures.value ∙ h.0 in
    let bytes : c.in_ok-write_row-2.field-0.items ≡ row_text (full_row digest entries level) =
    c.in_ok-write_row-2.ensures.text ∙ ap row_text (c.deref.ensures.value ∙ h.0) in (
      next_level digest entries level c.deref-in-loop.result.now c.in_ok-row.row.items below c.in_ok-row.ensures,
      rw (
        c.in_ok-push-2.ensures.items,
        map-append (λ row. row.items) c.loop.rows.items (c.in_ok-write_row-2.field-0 ∷ []),
      )
          (more_rows digest entries level (map (λ row. row.items) c.loop.rows.items) c.in_ok-write_row-2.field-0.items h.1
          bytes),
    )
