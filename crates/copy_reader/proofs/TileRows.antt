-- A full tile of level 1 or above: its row is covered hash after hash.
use Rattle.std.proofs.Common.{◌≡◌, inl, inr, ℕ, ◌+◌, ◌-◌, ◌*◌, ◌^◌, ◌≤◌, ◌<◌, List, [], ◌∷◌, ◌++◌, length, take, map, get_or, Option, Some}
use Rattle.std.proofs.Common.{refl, sym, ap, subst, ◌∙◌, arith}
use Rattle.std.proofs.lemmas.Nat.{mul-le}
use Rattle.std.proofs.lemmas.List.{take_all, take_more, map-append}
use Rattle.tlog_shape.proofs.Levels.{level_positive, level_next}
use Rattle.tlog_hash.specs.Rows.{part, ranges, level_row}
use Rattle.tlog_hash.specs.Tree.{fold_of, mth}
use Rattle.tlog_hash.proofs.Folds.{ranges_more}
use Rattle.tlog_tiles.specs.declared.paths.Path.{Path}
use Rattle.tlog_tiles.specs.declared.paths.Path.TheVariants.{Tile}
use Rattle.tlog_tiles.specs.Row.{row_text}
use Rattle.tlog_tiles.proofs.TileLemmas.{row_folds}
use Rattle.mirror_sources.specs.Honest.{true_bytes}
use Rattle.mirror_sources.specs.Replies.{Reply, asked_paths, reply}
use Rattle.mirror_sources.specs.Source.{StaysWithin}
use Rattle.mirror_sources.specs.Recorded.{AddsToRecord}
use Rattle.copy_reader.specs.Answering.{IsHad}
use Rattle.copy_reader.specs.Covering.{Covers, CoversRow, CoversTile, HasAt, IsFullIn, IsRowFound}
use Rattle.copy_reader.proofs.Given.{first_of, given_then, had_left, had_right}
use Rattle.copy_reader.proofs.Covered.{covers_as, covers_none, covers_then, has_within}
use Rattle.copy_reader.proofs.Ranges.{full_split, full_tile, none_in, place_of}

-- the indices of a tile and of its children are small
pub row_small : (level index width : ℕ) → (256 * index + width) * 256 ^ level < 18446744073709551616 →
    256 * index + width < 18446744073709551616
row_small level index width fits =
    let some = level_positive level in
    let less : (256 * index + width) * 1 ≤ (256 * index + width) * 256 ^ level =
    mul-le (256 * index + width) 1 (256 * index + width) (256 ^ level) (omega arith) (omega arith) in
    omega (arith, less, fits)

pub child_small : (level index width i : ℕ) → i < width → (256 * index + width) * 256 ^ level < 18446744073709551616 →
    256 * index + i < 18446744073709551616
child_small level index width i lt fits = omega (arith, lt, row_small level index width fits)

pub child_fits : (level index width i : ℕ) → i < width → (256 * index + width) * 256 ^ level < 18446744073709551616 →
    (256 * index + i + 1) * 256 ^ level < 18446744073709551616
child_fits level index width i lt fits =
    let less : (256 * index + i + 1) * 256 ^ level ≤ (256 * index + width) * 256 ^ level =
    mul-le (256 * index + i + 1) (256 ^ level) (256 * index + width) (256 ^ level) (omega arith) (omega arith) in
    omega (arith, less, fits)

pub row_fits : (level index width : ℕ) → width ≡ 256 → (index + 1) * 256 ^ (level + 1) < 18446744073709551616 →
    (256 * index + width) * 256 ^ level < 18446744073709551616
row_fits level index width is fits =
    let whole : (256 * index + width) * 256 ^ level ≡ 256 * (index + 1) * 256 ^ level =
    ap (λ k. k * 256 ^ level) (omega arith) in
    omega (arith, whole, fits, place_of level (index + 1))

module _ (digest : List ℕ → List ℕ) (level index : ℕ) (row : List (List ℕ)) where
  pub row_first : (may : Path → Option (List ℕ) → Type 0) (x : Option (List Path)) →
      CoversRow digest level index row 0 may may x x
  row_first may x =
      let from = 256 * index * 256 ^ level in
      let to = (256 * index + 0) * 256 ^ level in
      let same : from ≡ to = ap (λ k. k * 256 ^ level) (omega arith) in
      covers_none digest (IsFullIn (level - 1) from to) from to may x
      (λ entries. take 0 row ≡ level_row digest entries level (256 * index) 0) same
      (λ path file. none_in (level - 1) from to path (omega (arith, same)) file) (λ entries. refl)

  -- a hint does not change this
  pub row_hinted : (i : ℕ) (a b c : Path → Option (List ℕ) → Type 0) (x y z : Option (List Path)) → StaysWithin b c →
      z ≡ y → CoversRow digest level index row i a b x y → CoversRow digest level index row i a c x z
  row_hinted i a b c x y z stays same p = record {
    more = p.more;
    replies = p.replies;
    given = record {
      stays = record { stays = λ path answer h. p.given.stays.stays path answer (stays.stays path answer h) };
      may_reply = p.given.may_reply;
      recorded = subst (λ w. AddsToRecord x w (asked_paths p.replies)) (sym same) p.given.recorded;
    };
    size_is = p.size_is;
    short = p.short;
    claims = p.claims;
    holds = p.holds;
  }

  -- one more hash, of a tile of the level below
  pub row_more : (a b c : Path → Option (List ℕ) → Type 0) (x y z : Option (List Path)) (i : ℕ) (h : List ℕ) →
      1 ≤ level → i < length row → h ≡ get_or row i h → CoversRow digest level index row i a b x y →
      CoversTile digest (level - 1) (256 * index + i) h b c y z → CoversRow digest level index row (i + 1) a c x z
  row_more a b c x y z i h some lt at p q =
      let sub = level - 1 in
      let k = 256 * index + i in
      let up : sub + 1 ≡ level = omega arith in
      let from = 256 * index * 256 ^ level in
      let mid = k * 256 ^ level in
      let to = (256 * index + (i + 1)) * 256 ^ level in
      let start : k * 256 ^ (sub + 1) ≡ mid = ap (λ l. k * 256 ^ l) up in
      let end : (k + 1) * 256 ^ (sub + 1) ≡ to = ap (λ l. (k + 1) * 256 ^ l) up ∙ ap (λ n. n * 256 ^ level) (omega arith) in
      let P : List (List ℕ) → Type 0 = λ entries. take i row ≡ level_row digest entries level (256 * index) i in
      let Q : List (List ℕ) → Type 0 = λ entries. h ≡ mth digest (part mid (256 ^ level) entries) in
      let R : List (List ℕ) → Type 0 = λ entries. take (i + 1) row ≡ level_row digest entries level (256 * index) (i + 1) in
      let tile : Covers digest (IsFullIn sub mid to) mid to b c y z Q =
      covers_as digest (IsFullIn sub (k * 256 ^ (sub + 1)) ((k + 1) * 256 ^ (sub + 1))) (IsFullIn sub mid to)
      (k * 256 ^ (sub + 1)) ((k + 1) * 256 ^ (sub + 1)) mid to b c y z
      (λ entries. h ≡ mth digest (part (k * 256 ^ (sub + 1)) (256 ^ (sub + 1)) entries)) Q start end
      (λ path file. subst (λ n. IsFullIn sub n ((k + 1) * 256 ^ (sub + 1)) path) (sym start)
      (subst (λ n. IsFullIn sub mid n path) (sym end) file))
      (λ entries within is. is ∙ ap (λ l. mth digest (part (k * 256 ^ l) (256 ^ l) entries)) up) q in
      covers_then digest (IsFullIn sub from mid) (IsFullIn sub mid to) (IsFullIn sub from to) from mid to P Q R a b c x y z
      (λ path file. full_split sub from mid to k path (sym start) file)
      (λ entries first next.
      let grown : level_row digest entries level (256 * index) (i + 1)
      ≡ level_row digest entries level (256 * index) i ++ mth digest (part mid (256 ^ level) entries) ∷ [] =
      ap (map (mth digest)) (ranges_more (256 ^ level) (256 * index) i entries)
      ∙ map-append (mth digest) (ranges (256 ^ level) (256 * index) i entries) (part mid (256 ^ level) entries ∷ [])
      in
      take_more row i h lt ∙ ((λ j. first j ++ (sym at ∙ next) j ∷ []) ∙ sym grown))
      p tile

  -- a full tile, and then all files below its row
  pub tile_covers : (a b c : Path → Option (List ℕ) → Type 0) (x y z : Option (List Path)) (hash : List ℕ) → 1 ≤ level →
      IsRowFound digest (Tile level index 256) hash row a b x y → CoversRow digest level index row (length row) b c y z →
      CoversTile digest level index hash a c x z
  tile_covers a b c x y z hash some found below =
      let long : length row ≡ 256 = found.is_row.count in
      let from = 256 * index * 256 ^ level in
      let to = (256 * index + 256) * 256 ^ level in
      let r = subst (λ n. CoversRow digest level index row n b c y z) long below in
      let place : from ≡ index * 256 ^ (level + 1) = sym (place_of level index) in
      let end : to ≡ (index + 1) * 256 ^ (level + 1) =
      ap (λ k. k * 256 ^ level) (omega arith) ∙ sym (place_of level (index + 1)) in
      let p : List Reply = reply (Tile level index 256) (Some (row_text row)) ∷ [] in
      let q = r.replies in
      let at : (entries : List (List ℕ)) → HasAt (index * 256 ^ (level + 1)) r.more entries → HasAt from r.more entries =
      λ entries h. subst (λ n. HasAt n r.more entries) (sym place) h in
      let row_true : (entries : List (List ℕ)) → HasAt (index * 256 ^ (level + 1)) r.more entries →
      row ≡ level_row digest entries level (256 * index) 256 =
      λ entries h. sym (take_all 256 row (omega (arith, long))) ∙ r.claims entries (at entries h) in
      record {
        more = r.more;
        replies = p ++ q;
        given = given_then a b c x y z p q found.given r.given;
        size_is = let size = r.size_is in omega (arith, size, place, end);
        short = r.short;
        claims = λ entries h.
            let size = r.size_is in
            let within : to ≤ length entries = omega (arith, size, has_within from entries r.more (at entries h)) in
            sym found.folds ∙ (ap (fold_of digest) (row_true entries h)
            ∙ (row_folds digest entries level (256 * index) 256 (omega arith) within
            ∙ (λ j. mth digest (part (place j) (sym (level_next level) j) entries))));
        holds = λ entries h path file. elim (full_tile level index path some file) [
          | inl tile ↦
              let there : IsHad (p ++ q) (Tile level index 256) (row_text row) =
              had_left p q (Tile level index 256) (row_text row)
              (inl (first_of (reply (Tile level index 256) (Some (row_text row))) [])) in
              subst (λ k. IsHad (p ++ q) k (true_bytes digest entries k)) (sym tile)
              (subst (λ t. IsHad (p ++ q) (Tile level index 256) t) (ap row_text (row_true entries h)) there)
          | inr under ↦ had_right p q path (true_bytes digest entries path) (r.holds entries (at entries h) path under)
        ];
      }
