-- A shown bundle has its number of entries, and they are shown.
use Rattle.std.proofs.Common.{◌≡◌, ℕ, ◌+◌, ◌-◌, ◌*◌, ◌/◌, ◌%◌, ◌^◌, ◌<◌, ◌≤◌, min, List, [], ◌∷◌, ◌++◌, length, get_or, drop}
use Rattle.std.proofs.Common.{◌⊎◌, inl, inr, refl, sym, ap, ◌∙◌, subst, arith}
use Rattle.std.proofs.lemmas.Bool.{cases_lt}
use Rattle.std.proofs.lemmas.List.{get_or-take, get_or-drop, length-take, length-drop, length-append, get_or_append_left, get_or-append_right}
use Rattle.tlog_shape.specs.Edge.{edge_index_of, width_of}
use Rattle.tlog_shape.proofs.Levels.{shift_level}
use Rattle.tlog_tiles.specs.Bundle.{IsBundle}
use Rattle.tlog_hash.specs.Rows.{part}
use Rattle.log_reader.specs.EdgeRows.{Edge, row_at}
use Rattle.log_reader.specs.Ways.{HasEdgeHashes, IsWay, IsShownBundle, IsFullBundle, row_of_way}
use Rattle.program_copies.specs.Texts.{bundle_width}
use Rattle.program_copies.specs.Shown.{AreShownFrom, IsShownEntry}

module _ (digest : List ℕ → List ℕ) (edge : Edge) (hashes : HasEdgeHashes edge) where
  -- a hash of a row is before the edge of the level below
  pub hash_below : (level index : ℕ) (way : List (List (List ℕ))) → IsWay digest edge (level + 1) (index / 256) way →
      index % 256 < length (row_of_way edge (level + 1) way) → index < edge_index_of edge.size level
  hash_below level index [] w lt =
      let count : length (row_at edge (level + 1)) ≡ width_of edge.size (level + 1) = (hashes (level + 1) w.0).count in
      let shift : edge.size / 256 ^ (level + 1) / 256 ≡ edge.size / 256 ^ (level + 1 + 1) = shift_level edge.size (level + 1) in
      omega (arith, w.1, lt, count, shift)
  hash_below level index (row ∷ above) w lt =
      let up : index / 256 < edge_index_of edge.size (level + 1) = hash_below (level + 1) (index / 256) above w.1 w.0.within in
      let shift : edge.size / 256 ^ (level + 1) / 256 ≡ edge.size / 256 ^ (level + 1 + 1) = shift_level edge.size (level + 1) in
      omega (arith, up, shift)

  pub full_below : (index : ℕ) (bytes : List ℕ) → IsFullBundle digest edge index bytes → index < edge.size / 256
  full_below index bytes full =
      hash_below 0 index full.shown.way full.shown.is_way
      (subst (λ (row : List (List ℕ)). index % 256 < length row) full.shown.row_is full.within)

  -- the bytes of a shown bundle are a bundle of its width
  pub shown_bundle : (index : ℕ) (bytes : List ℕ) → 256 * index < edge.size → IsShownBundle digest edge index bytes →
      (entries : List (List ℕ)) × IsBundle (bundle_width edge.size index) bytes entries
  shown_bundle index bytes lt (inl end) =
      let at : index ≡ edge.size / 256 = end.index_is in
      let one : edge.size / 1 ≡ edge.size = omega arith in
      let width : width_of edge.size 0 ≡ bundle_width edge.size index = omega (arith, at, one) in
      (end.has_leaves.entries, subst (λ w. IsBundle w bytes end.has_leaves.entries) width end.has_leaves.is_bundle)
  shown_bundle index bytes lt (inr full) =
      let below : index < edge.size / 256 = full_below index bytes full in
      let width : 256 ≡ bundle_width edge.size index = omega (arith, below) in
      (full.has_leaves.entries, subst (λ w. IsBundle w bytes full.has_leaves.entries) width full.has_leaves.is_bundle)

module _ (digest : List ℕ → List ℕ) (edge : Edge) where
  -- the entries of a shown bundle, from a number on
  pub shown_part : (at c : ℕ) (bytes : List ℕ) (width : ℕ) (entries : List (List ℕ)) → IsShownBundle digest edge (at / 256) bytes →
      width ≤ 256 → IsBundle width bytes entries → AreShownFrom digest edge at (part (at % 256) c entries)
  shown_part at c bytes width entries shown most is k lt =
      let s = at % 256 in
      let len : length (part s c entries) ≡ min c (length entries - s) =
      length-take c (drop s entries) ∙ ap (λ n. min c n) (length-drop s entries) in
      let few : length entries ≡ width = is.count in
      let bucket : (at + k) / 256 ≡ at / 256 = omega (arith, lt, len, few, most) in
      let place : (at + k) % 256 ≡ s + k = omega (arith, lt, len, few, most) in
      record {
        bytes = bytes;
        shown = subst (λ i. IsShownBundle digest edge i bytes) (sym bucket) shown;
        width = width;
        entries = entries;
        is_bundle = is;
        within = omega (arith, place, lt, len);
        entry_is = ap (λ i. get_or entries i []) place
            ∙ (sym (get_or-drop s entries k []) ∙ sym (get_or-take c (drop s entries) k [] (omega (arith, lt, len))));
      }

  shown_at : (from : ℕ) (xs ys : List (List ℕ)) → AreShownFrom digest edge from xs →
      AreShownFrom digest edge (from + length xs) ys → (k : ℕ) → k < length (xs ++ ys) →
      (k < length xs) ⊎ (length xs ≤ k) → IsShownEntry digest edge (from + k) (get_or (xs ++ ys) k [])
  shown_at from xs ys p q k lt (inl low) =
      subst (λ (e : List ℕ). IsShownEntry digest edge (from + k) e) (sym (get_or_append_left xs ys [] k low)) (p k low)
  shown_at from xs ys p q k lt (inr high) =
      let len = length-append xs ys in
      let e : from + length xs + (k - length xs) ≡ from + k = omega (arith, high) in
      subst (λ (x : List ℕ). IsShownEntry digest edge (from + k) x)
      (sym (get_or-append_right xs ys (length xs) k [] refl high))
      (subst (λ n. IsShownEntry digest edge n (get_or ys (k - length xs) [])) e (q (k - length xs) (omega (arith, lt, len, high))))

  -- shown entries, and the next shown entries
  pub shown_on : (from : ℕ) (xs ys : List (List ℕ)) → AreShownFrom digest edge from xs →
      AreShownFrom digest edge (from + length xs) ys → AreShownFrom digest edge from (xs ++ ys)
  shown_on from xs ys p q k lt = shown_at from xs ys p q k lt (cases_lt k (length xs))
