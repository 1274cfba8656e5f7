-- The tip of the first entries of a log, compared with true rows and bundles of the log.
use Rattle.std.proofs.Common.{◌≡◌, ℕ, ◌+◌, ◌-◌, ◌*◌, ◌/◌, ◌^◌, ◌≤◌, List, [], ◌++◌, length, take, drop, get_or}
use Rattle.std.proofs.Common.{inl, inr, refl, sym, ap, ◌∙◌, arith, length-append}
use Rattle.std.specs.Prelude.{IfNone, IsNone, None, Option, Some}
use Rattle.std.proofs.Math.Nat.{div-mul-le_self}
use Rattle.std.proofs.lemmas.Nat.{le-div}
use Rattle.std.proofs.lemmas.List.{take_at}
use Rattle.std.proofs.lemmas.List.Concat.{flat_map-append}
use Rattle.std.proofs.Math.Seq.{take-add}
use Rattle.tlog_shape.specs.Edge.{width_of, edge_index_of}
use Rattle.tlog_shape.proofs.Levels.{level_positive}
use Rattle.tlog_hash.specs.Rows.{level_row, part}
use Rattle.tlog_tiles.specs.Bundle.{bundle_text, entry_text, IsBundle}
use Rattle.tlog_tiles.proofs.EdgeLemmas.{hashes_of}
use Rattle.copy_follow.specs.Growing.{Tip}
use Rattle.copy_follow.specs.Suffices.{IsTipOf, IsTileRow}
use Rattle.copy_places.proofs.Prefixes.{level_row_front, part_front}
use Rattle.copy_places.proofs.Cutting.{count_row, take_row}

pub of_none : {T P : Type 0} (o : Option T) → IsNone o → IfNone o P → P
of_none None none h = h
of_none (Some x) none h = absurd (cc none)

module _ (digest : List ℕ → List ℕ) (tip : Tip) (log : List (List ℕ)) (t : IsTipOf digest tip log) where
  abbrev m : ℕ
  m = tip.size

  known_long : length t.known ≡ m
  known_long = let size = t.known_is.size_is in omega arith

  pub tip_within : m ≤ length log
  tip_within = omega (arith, known_long, ap length t.log_is, length-append t.known t.rest)

  ends : (level : ℕ) → (256 * edge_index_of m level + width_of m level) * 256 ^ level ≤ m
  ends level =
      let h : (256 * edge_index_of m level + width_of m level) * 256 ^ level ≡ m / 256 ^ level * 256 ^ level =
      ap (λ k. k * 256 ^ level) (hashes_of m level) in
      omega (arith, h, div-mul-le_self m (256 ^ level))

  -- the old rows are the log's
  old_row : (level : ℕ) → level ≤ 7 →
      get_or tip.rows level [] ≡ level_row digest log level (256 * edge_index_of m level) (width_of m level)
  old_row level upto =
      let i = 256 * edge_index_of m level in
      let w = width_of m level in
      t.known_is.rows_are level upto
      ∙ sym (ap (λ (l : List (List ℕ)). level_row digest l level i w) t.log_is
      ∙ level_row_front digest t.known t.rest level i w (omega (arith, ends level, known_long)))

  old_count : (level : ℕ) → level ≤ 7 → length (get_or tip.rows level []) ≡ width_of m level
  old_count level upto =
      ap length (old_row level upto) ∙ count_row digest log level (256 * edge_index_of m level) (width_of m level)

  width_upto : (level index : ℕ) (row : List (List ℕ)) → IsTileRow digest log level index row → index ≡ edge_index_of m level →
      width_of m level ≤ length row
  width_upto level index row is at = elim is.whole [
    | inl full ↦ omega (arith, full)
    | inr last ↦
        let low : m / 256 ^ level * 256 ^ level ≤ length log =
        omega (arith, div-mul-le_self m (256 ^ level), tip_within) in
        let upto : m / 256 ^ level ≤ length log / 256 ^ level =
        le-div (m / 256 ^ level) (length log) (256 ^ level) (level_positive level) low in
        omega (arith, upto, last, at, hashes_of m level)
  ]

  -- a true row begins with the old one
  pub row_begins : (level index : ℕ) (row : List (List ℕ)) → level ≤ 7 → IsTileRow digest log level index row →
      index ≡ edge_index_of m level → (P : Type 0) →
      ((length (get_or tip.rows level []) ≡ width_of m level) → (length (get_or tip.rows level []) ≤ length row) →
      (take (length (get_or tip.rows level [])) row ≡ get_or tip.rows level []) → P) → P
  row_begins level index row upto is at P f =
      let w = width_of m level in
      let within : w ≤ length row = width_upto level index row is at in
      let count = old_count level upto in
      f count (omega (arith, count, within))
      (ap (λ n. take n row) count
      ∙ (ap (take w) is.is
      ∙ (take_row digest log level (256 * index) w (length row) within
      ∙ (ap (λ i. level_row digest log level (256 * i) w) at ∙ sym (old_row level upto)))))

  -- a true bundle begins with the old one
  pub bundle_begins : (index width : ℕ) (bytes : List ℕ) (es : List (List ℕ)) → IsBundle width bytes es →
      es ≡ part (256 * index) width log → index ≡ edge_index_of m 0 → m ≤ 256 * index + width → (P : Type 0) →
      ((length tip.bundle ≤ length bytes) → (take (length tip.bundle) bytes ≡ tip.bundle) → P) → P
  bundle_begins index width bytes es is true_es at upto P f =
      let w = width_of m 0 in
      let start = 256 * index in
      let whole : 256 * edge_index_of m 0 + w ≡ m = hashes_of m 0 ∙ omega arith in
      let lt : w ≤ width = omega (arith, whole, at, upto) in
      let split : w + (width - w) ≡ width = omega (arith, lt) in
      let front : part start w log ≡ part (256 * edge_index_of m 0) w t.known =
      ap (part start w) t.log_is
      ∙ (part_front start w t.known t.rest (omega (arith, whole, at, known_long))
      ∙ ap (λ i. part (256 * i) w t.known) at) in
      let rest = take (width - w) (drop w (drop start log)) in
      let cut : part start width log ≡ part start w log ++ rest =
      ap (λ n. take n (drop start log)) (sym split) ∙ take-add w (width - w) (drop start log) in
      let old : bundle_text (part start w log) ≡ tip.bundle = ap bundle_text front ∙ sym t.known_is.bundle_is in
      let text : bytes ≡ tip.bundle ++ bundle_text rest =
      is.text ∙ (ap bundle_text (true_es ∙ cut)
      ∙ (flat_map-append entry_text (part start w log) rest ∙ ap (λ (l : List ℕ). l ++ bundle_text rest) old)) in
      f (omega (arith, ap length text, length-append tip.bundle (bundle_text rest)))
      (ap (take (length tip.bundle)) text ∙ take_at tip.bundle (bundle_text rest) (length tip.bundle) refl)
