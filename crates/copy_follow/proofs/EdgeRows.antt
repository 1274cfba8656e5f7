-- The edge of a larger tree, brought level by level from above.
use Rattle.std.proofs.Common.{◌≡◌, ℕ, ◌+◌, ◌-◌, ◌*◌, ◌/◌, ◌^◌, ◌≤◌, ◌<◌, max, List, length}
use Rattle.std.proofs.Common.{Option, sym, ap, subst, ◌∙◌, arith, inl, inr}
use Rattle.std.proofs.Math.Nat.{div-mul-le_self, lt-div-mul-add, div-eq_of_lt}
use Rattle.std.proofs.lemmas.Bool.{cases_lt}
use Rattle.std.proofs.lemmas.Nat.{le-div, mul-le, pow-add}
use Rattle.std.proofs.lemmas.List.{take_all}
use Rattle.tlog_shape.specs.Edge.{width_of, edge_index_of}
use Rattle.tlog_shape.proofs.Levels.{level_positive}
use Rattle.tlog_hash.specs.Rows.{level_row}
use Rattle.tlog_tiles.proofs.EdgeLemmas.{hashes_of}
use Rattle.mirror_sources.specs.Honest.{true_bytes}
use Rattle.mirror_folders.specs.Shelf.{Put}
use Rattle.copy_follow.specs.Growing.{HoldsBelow, IsKnown, IsCutShort, IsRowBrought, Tip}
use Rattle.log_reader.specs.EdgeRows.{Edge, HasWidths, RowIsTrue, row_at}
use Rattle.copy_follow.specs.Edges.{IsEdgeBrought}
use Rattle.copy_places.proofs.Prefixes.{level_row_front}
use Rattle.copy_follow.proofs.Growth.{gathers_none, gathers_then, kept_same, known_more}
use Rattle.copy_follow.proofs.Below.{holds_gathered, records_earlier}

-- the whole blocks of a level end at or before those of a level below
pub floor_mono : (n low high : ℕ) → low ≤ high → n / 256 ^ high * 256 ^ high ≤ n / 256 ^ low * 256 ^ low
floor_mono n low high le =
    let gap : high ≡ (high - low) + low = omega arith in
    let power : 256 ^ high ≡ 256 ^ (high - low) * 256 ^ low =
    ap (λ e. 256 ^ e) gap ∙ pow-add 256 (high - low) low in
    let t = n / 256 ^ high * 256 ^ (high - low) in
    let whole : n / 256 ^ high * 256 ^ high ≡ t * 256 ^ low =
    ap (λ p. n / 256 ^ high * p) power ∙ omega arith in
    let upto : t * 256 ^ low ≤ n = omega (arith, whole, div-mul-le_self n (256 ^ high)) in
    let fewer : t ≤ n / 256 ^ low = le-div t n (256 ^ low) (level_positive low) upto in
    let less : t * 256 ^ low ≤ n / 256 ^ low * 256 ^ low = mul-le t (256 ^ low) (n / 256 ^ low) (256 ^ low) fewer (omega arith) in
    omega (arith, whole, less)

module _ (edge : Edge) (widths : HasWidths edge) (level : ℕ) (upto : level ≤ 7) where
  abbrev size : ℕ
  size = edge.size

  abbrev at : ℕ
  at = edge_index_of size level

  -- the row ends with the last whole hash of its level
  pub whole_row : 256 * at + length (row_at edge level) ≡ size / 256 ^ level
  whole_row = omega (arith, hashes_of size level, widths level upto)

  pub row_end : (256 * at + length (row_at edge level)) * 256 ^ level ≡ size / 256 ^ level * 256 ^ level
  row_end = ap (λ k. k * 256 ^ level) whole_row

  pub row_width : length (row_at edge level) ≤ 256
  row_width = let w = widths level upto in omega arith

  pub row_fits : size < 9223372036854775808 →
      (256 * at + length (row_at edge level)) * 256 ^ level ≤ 9223372036854775808
  row_fits small = omega (arith, row_end, div-mul-le_self size (256 ^ level), small)

  pub row_beyond : (m : ℕ) → m < size → m < (at + 1) * 256 ^ (level + 1)
  row_beyond m less =
      let above : size < at * 256 ^ (level + 1) + 256 ^ (level + 1) = lt-div-mul-add (level_positive (level + 1)) in
      omega (arith, above, less)

module _ (digest : List ℕ → List ℕ) (tip : Tip) (edge : Edge) (known : List (List ℕ)) (widths : HasWidths edge) where
  abbrev n : ℕ
  n = edge.size

  abbrev m : ℕ
  m = tip.size

  pub edge_first : (x : Option (List Put)) → n < 9223372036854775808 → IsKnown digest tip 0 known →
      IsEdgeBrought digest tip edge known 8 x x
  edge_first x small is =
      let none : edge_index_of n 7 ≡ 0 = div-eq_of_lt (omega arith) in
      let start : edge_index_of n 7 * 256 ^ (7 + 1) ≡ 0 = ap (λ q. q * 256 ^ (7 + 1)) none in
      record {
        next = known;
        gathers = gathers_none digest m known x x (kept_same x);
        size_is = is.size_is ∙ ap (λ k. max m k) (sym start);
        rows_are = λ level low upto. absurd (omega arith);
        holds = λ level low upto. absurd (omega arith);
      }

  pub edge_known : (x y : Option (List Put)) (low level start : ℕ) → level ≡ low - 1 → IsKnown digest tip start known →
      (e : IsEdgeBrought digest tip edge known low x y) →
      IsKnown digest tip (edge_index_of n level * 256 ^ (level + 1)) e.next
  edge_known x y low level start is known_is e =
      known_more digest tip start (edge_index_of n level * 256 ^ (level + 1)) known e.next x y known_is e.gathers
      (e.size_is ∙ ap (λ l. max m (edge_index_of n l * 256 ^ (l + 1))) (sym is))

  -- the row of a level above is within the entries
  pub above_within : (x y : Option (List Put)) (low level : ℕ) → 1 ≤ low → low ≤ level →
      (e : IsEdgeBrought digest tip edge known low x y) →
      (256 * edge_index_of n level + width_of n level) * 256 ^ level ≤ length e.next
  above_within x y low level some le e =
      let up : low - 1 + 1 ≡ low = omega arith in
      let size = e.size_is in
      let whole : (256 * edge_index_of n level + width_of n level) * 256 ^ level ≡ n / 256 ^ level * 256 ^ level =
      ap (λ k. k * 256 ^ level) (hashes_of n level) in
      let there : edge_index_of n (low - 1) * 256 ^ (low - 1 + 1) ≡ n / 256 ^ low * 256 ^ low =
      ap (λ l. n / 256 ^ l * 256 ^ l) up in
      omega (arith, floor_mono n low level le, whole, there, size)

  pub edge_step : (x y z : Option (List Put)) (low level : ℕ) → level ≡ low - 1 → 2 ≤ low → low ≤ 8 →
      (e : IsEdgeBrought digest tip edge known low x y) →
      IsRowBrought digest tip level (edge_index_of n level) (row_at edge level) e.next y z (length (row_at edge level)) →
      IsEdgeBrought digest tip edge known level x z
  edge_step x y z low level is two eight e b =
      let row = row_at edge level in
      let up : level - 1 + 1 ≡ level = omega arith in
      let upto : level ≤ 7 = omega arith in
      let some : 1 ≤ low = omega arith in
      let end = row_end edge widths level upto in
      let there : edge_index_of n (level - 1) * 256 ^ (level - 1 + 1) ≡ n / 256 ^ level * 256 ^ level =
      ap (λ l. n / 256 ^ l * 256 ^ l) up in
      record {
        next = b.next;
        gathers = gathers_then digest m known e.next b.next x y z e.gathers b.gathers;
        size_is = b.size_is ∙ ap (λ k. max m k) (end ∙ sym there);
        rows_are = λ l lower most. elim (cases_lt level l) [
          | inl above ↦ e.rows_are l (omega arith) most
              ∙ sym (ap (λ (es : List (List ℕ)). level_row digest es l (256 * edge_index_of n l) (width_of n l)) b.gathers.next_is
              ∙ level_row_front digest e.next b.gathers.more l (256 * edge_index_of n l) (width_of n l)
              (above_within x y low l some (omega arith) e))
          | inr here ↦
              let same : level ≡ l = omega arith in
              subst (λ j. RowIsTrue digest edge b.next j) same
              (sym (take_all (length row) row (omega arith)) ∙ (b.row_is
              ∙ ap (λ w. level_row digest b.next level (256 * edge_index_of n level) w) (widths level upto)))
        ];
        holds = λ l lower most k lt. elim (cases_lt level l) [
          | inl above ↦
              let back : l - 1 + 1 ≡ l = omega arith in
              let within = above_within x y low l some (omega arith) e in
              let less : (256 * edge_index_of n l + k + 1) * 256 ^ l ≤ (256 * edge_index_of n l + width_of n l) * 256 ^ l =
              mul-le (256 * edge_index_of n l + k + 1) (256 ^ l) (256 * edge_index_of n l + width_of n l) (256 ^ l) (omega arith)
              (omega arith) in
              let same : (256 * edge_index_of n l + k + 1) * 256 ^ (l - 1 + 1) ≡ (256 * edge_index_of n l + k + 1) * 256 ^ l =
              ap (λ j. (256 * edge_index_of n l + k + 1) * 256 ^ j) back in
              holds_gathered digest m (l - 1) (256 * edge_index_of n l + k) e.next b.next x y z (omega arith)
              (omega (arith, less, same, within)) b.gathers (e.holds l (omega arith) most k lt)
          | inr here ↦
              let same : level ≡ l = omega arith in
              let lt_row : k < length row = omega (arith, widths level upto, ap (λ j. width_of n j) same) in
              subst (λ j. HoldsBelow digest m (j - 1) (256 * edge_index_of n j + k) b.next x z) same
              (λ path below new. records_earlier x y z e.gathers.puts path (true_bytes digest b.next path) e.gathers.recorded
              (b.holds k lt_row path below new))
        ];
      }

  pub edge_left : (x y z : Option (List Put)) (low : ℕ) → (e : IsEdgeBrought digest tip edge known low x y) →
      IsCutShort digest m e.next y z → IsCutShort digest m known x z
  edge_left x y z low e b = record {
    next = b.next;
    gathers = gathers_then digest m known e.next b.next x y z e.gathers b.gathers;
  }
