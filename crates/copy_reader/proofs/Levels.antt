-- The right edge, level after level from above, and its partial bundle.
use Rattle.std.proofs.Common.{◌≡◌, ◌⊎◌, inl, inr, ℕ, ◌+◌, ◌-◌, ◌*◌, ◌/◌, ◌^◌, ◌≤◌, ◌<◌, List, length, take, Option}
use Rattle.std.proofs.Common.{refl, sym, ap, subst, ◌∙◌, arith}
use Rattle.std.proofs.Math.Nat.{div-eq_of_lt, div-mul-le_self}
use Rattle.std.proofs.lemmas.Bool.{cases_lt}
use Rattle.std.proofs.lemmas.List.{nil_from_length, take_all}
use Rattle.tlog_shape.specs.Edge.{edge_index_of, width_of}
use Rattle.tlog_hash.specs.Rows.{level_row}
use Rattle.tlog_tiles.specs.declared.paths.Path.{Path}
use Rattle.tlog_tiles.specs.declared.paths.Path.TheVariants.{Entries}
use Rattle.tlog_tiles.proofs.EdgeLemmas.{hashes_of}
use Rattle.log_reader.specs.EdgeRows.{Edge, HasWidths, RowIsTrue, row_at}
use Rattle.log_reader.specs.Verified.{HasLeaves}
use Rattle.mirror_sources.specs.Honest.{true_bytes}
use Rattle.copy_reader.specs.Answering.{IsHad}
use Rattle.copy_reader.specs.Covering.{Covers, CoversRow, HasAt, IsFullIn}
use Rattle.copy_reader.specs.Edges.{CoversEdgeBundle, CoversLevels, CoversLog, IsEdgeBundle, IsGivenAt}
use Rattle.copy_reader.proofs.Bundles as bundles
use Rattle.copy_reader.proofs.Covered.{covers_as, covers_none, covers_then}
use Rattle.copy_reader.proofs.Ranges.{full_levels, none_in, place_of}

module _ (edge : Edge) (widths : HasWidths edge) where
  abbrev n : ℕ
  n = edge.size

  -- the end of a row
  pub row_end : (level : ℕ) → level ≤ 7 →
      (256 * edge_index_of n level + length (row_at edge level)) * 256 ^ level ≡ n / 256 ^ level * 256 ^ level
  row_end level upto = ap (λ k. k * 256 ^ level) (omega (arith, hashes_of n level, widths level upto))

  pub row_small : (level : ℕ) → level ≤ 7 → n < 18446744073709551616 →
      (256 * edge_index_of n level + length (row_at edge level)) * 256 ^ level < 18446744073709551616
  row_small level upto small = omega (arith, row_end level upto, div-mul-le_self n (256 ^ level), small)

  whole_size : n / 256 * 256 + width_of n 0 ≡ n
  whole_size =
      let h : 256 * edge_index_of n 0 + width_of n 0 ≡ n / 1 = hashes_of n 0 in
      let i : edge_index_of n 0 ≡ n / 256 = refl in
      omega (arith, h, i)

  module _ (digest : List ℕ → List ℕ) where
    pub levels_first : (may : Path → Option (List ℕ) → Type 0) (x : Option (List Path)) → n < 18446744073709551616 →
        CoversLevels digest edge 8 may may x x
    levels_first may x small =
        let none : n / 256 ^ 8 ≡ 0 = div-eq_of_lt (omega arith) in
        let end : 0 ≡ n / 256 ^ 8 * 256 ^ 8 = ap (λ q. q * 256 ^ 8) (sym none) in
        covers_none digest (IsFullIn 6 0 (n / 256 ^ 8 * 256 ^ 8)) 0 (n / 256 ^ 8 * 256 ^ 8) may x
        (λ entries. (level : ℕ) → 8 ≤ level → level ≤ 7 → RowIsTrue digest edge entries level) end
        (λ path file. none_in 6 0 (n / 256 ^ 8 * 256 ^ 8) path (omega (arith, end)) file)
        (λ entries level low upto. absurd (omega arith))

    pub levels_step : (a b c : Path → Option (List ℕ) → Type 0) (x y z : Option (List Path)) (low level : ℕ) →
        low ≡ level + 1 → 1 ≤ level → level ≤ 7 → CoversLevels digest edge low a b x y →
        CoversRow digest level (edge_index_of n level) (row_at edge level) (length (row_at edge level)) b c y z →
        CoversLevels digest edge level a c x z
    levels_step a b c x y z low level is some upto p r =
        let ei = edge_index_of n level in
        let row = row_at edge level in
        let w = length row in
        let from = 256 * ei * 256 ^ level in
        let to = (256 * ei + w) * 256 ^ level in
        let mid = n / 256 ^ low * 256 ^ low in
        let last = n / 256 ^ level * 256 ^ level in
        let start : from ≡ mid = sym (place_of level ei) ∙ ap (λ l. n / 256 ^ l * 256 ^ l) (sym is) in
        let end : to ≡ last = row_end level upto in
        let P : List (List ℕ) → Type 0 = λ entries. (l : ℕ) → low ≤ l → l ≤ 7 → RowIsTrue digest edge entries l in
        let Q : List (List ℕ) → Type 0 = λ entries. RowIsTrue digest edge entries level in
        let R : List (List ℕ) → Type 0 = λ entries. (l : ℕ) → level ≤ l → l ≤ 7 → RowIsTrue digest edge entries l in
        let below : Covers digest (IsFullIn (level - 1) mid last) mid last b c y z Q =
        covers_as digest (IsFullIn (level - 1) from to) (IsFullIn (level - 1) mid last) from to mid last b c y z
        (λ entries. take w row ≡ level_row digest entries level (256 * ei) w) Q start end
        (λ path file. subst (λ k. IsFullIn (level - 1) k to path) (sym start)
        (subst (λ k. IsFullIn (level - 1) mid k path) (sym end) file))
        (λ entries within true. sym (take_all w row (omega arith)) ∙ (true
        ∙ ap (λ k. level_row digest entries level (256 * ei) k) (widths level upto))) r in
        covers_then digest (IsFullIn 6 0 mid) (IsFullIn (level - 1) mid last) (IsFullIn 6 0 last) 0 mid last P Q R a b c x y z
        (λ path file. full_levels n low level path is some upto file)
        (λ entries above this l lower most. elim (cases_lt level l) [
          | inl higher ↦ above l (omega (arith, is, higher)) most
          | inr here ↦
              let same : level ≡ l = omega arith in
              subst (λ k. RowIsTrue digest edge entries k) same this
        ])
        p below

    -- ---- the partial bundle

    pub bundle_none : (may : Path → Option (List ℕ) → Type 0) (x : Option (List Path)) → length (row_at edge 0) ≡ 0 →
        CoversEdgeBundle digest edge may may x x
    bundle_none may x empty =
        let width : 0 ≡ width_of n 0 = sym empty ∙ widths 0 (omega arith) in
        covers_none digest (IsEdgeBundle n) (n / 256 * 256) n may x (λ entries. RowIsTrue digest edge entries 0)
        (omega (arith, whole_size, width)) (λ path file. omega (arith, width, file.0))
        (λ entries. nil_from_length (row_at edge 0) empty
        ∙ ap (λ w. level_row digest entries 0 (256 * edge_index_of n 0) w) width)

    pub bundle_some : (may later : Path → Option (List ℕ) → Type 0) (x y : Option (List Path)) (bytes : List ℕ) →
        HasLeaves digest (width_of n 0) bytes (row_at edge 0) →
        IsGivenAt (Entries (edge_index_of n 0) (width_of n 0)) bytes may later x y →
        CoversEdgeBundle digest edge may later x y
    bundle_some may later x y bytes v g =
        let index = edge_index_of n 0 in
        let width = width_of n 0 in
        let place : (entries : List (List ℕ)) → HasAt (n / 256 * 256) v.entries entries →
        HasAt (256 * index) v.entries entries =
        λ entries h. subst (λ k. HasAt k v.entries entries) (omega arith) h in
        record {
          more = v.entries;
          replies = g.replies;
          given = g.given;
          size_is = omega (arith, whole_size, v.is_bundle.count);
          short = v.is_bundle.fits;
          claims = λ entries h. bundles.row_is digest index width bytes (row_at edge 0) v entries (place entries h);
          holds = λ entries h path file.
              subst (λ k. IsHad g.replies k (true_bytes digest entries k)) (sym file.1)
              (subst (λ t. IsHad g.replies (Entries index width) t)
              (bundles.bytes_are digest index width bytes (row_at edge 0) v entries (place entries h)) g.had);
        }

    -- ---- both

    pub log_covers : (a b c : Path → Option (List ℕ) → Type 0) (x y z : Option (List Path)) →
        CoversLevels digest edge 1 a b x y → CoversEdgeBundle digest edge b c y z → CoversLog digest edge a c x z
    log_covers a b c x y z p q =
        covers_then digest (IsFullIn 6 0 (n / 256 * 256)) (IsEdgeBundle n)
        (λ path. (IsFullIn 6 0 (n / 256 * 256) path) ⊎ (IsEdgeBundle n path)) 0 (n / 256 * 256) n
        (λ entries. (level : ℕ) → 1 ≤ level → level ≤ 7 → RowIsTrue digest edge entries level)
        (λ entries. RowIsTrue digest edge entries 0)
        (λ entries. (level : ℕ) → level ≤ 7 → RowIsTrue digest edge entries level) a b c x y z
        (λ path file. file)
        (λ entries above lowest level upto. elim (cases_lt 0 level) [
          | inl higher ↦ above level higher upto
          | inr here ↦
              let same : 0 ≡ level = omega arith in
              subst (λ k. RowIsTrue digest edge entries k) same lowest
        ])
        p q
