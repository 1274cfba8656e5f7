-- The number of new files.
use Rattle.std.proofs.Common.{◌≡◌, ℕ, zero, suc, ◌+◌, ◌-◌, ◌/◌, ◌^◌, ◌*◌, ◌<◌, ◌≤◌, Bool, true, false, not, cond, nat_eq}
use Rattle.std.proofs.Common.{List, [], ◌∷◌, ◌++◌, length, map, refl, sym, ap, ◌∙◌, inl, inr, arith, length-append}
use Rattle.std.specs.Prelude.{max, ◌==◌, if◌then◌else◌}
use Rattle.std.specs.List.{filter, range_with_len}
use Rattle.std.proofs.lemmas.Bool.{cases_lt, eq-eqb, ne_eqb}
use Rattle.std.proofs.lemmas.List.Elements.{filter-append}
use Rattle.std.proofs.Math.Nat.{mod-lt, div-le_self, div-div-eq-div-mul, pow-suc}
use Rattle.tlog_shape.specs.Edge.{width_of, edge_index_of}
use Rattle.tlog_tiles.specs.declared.paths.Path.{Path}
use Rattle.tlog_tiles.specs.declared.paths.Path.TheVariants.{Checkpoint, Tile, Entries}
use Rattle.mirror_folders.specs.Files.{tiles_below, tile_paths}
use Rattle.mirror_folders.specs.Since.{is_new, since_paths, width_at}
use Rattle.mirror_folders.proofs.PlaceWidths.{width_full, width_last}
use Rattle.mirror_folders.specs.Total.{new_at, new_below, new_partial}

sum_both : (a b c d : ℕ) → a ≡ c → b ≡ d → a + b ≡ c + d
sum_both a b c d p q = omega (arith, p, q)

-- in a row of indices, those from one on are kept
kept_from : {X : Type 0} (test : X → Bool) (at : ℕ → X) (from : ℕ) → ((i : ℕ) → i < from → test (at i) ≡ false) →
    ((i : ℕ) → from ≤ i → test (at i) ≡ true) → (start len : ℕ) →
    length (filter test (map at (range_with_len start len))) ≡ (start + len) - max start from
kept_from test at from old new start zero = omega arith
kept_from test at from old new start (suc len) =
    let rest = filter test (map at (range_with_len (start + 1) len)) in
    let more = kept_from test at from old new (start + 1) len in
    elim (cases_lt start from) [
      | inl before ↦
          (let same : (start + 1 + len) - max (start + 1) from ≡ (start + suc len) - max start from = omega (arith, before)
          in
          ap (λ (b : Bool). length (cond b (at start ∷ rest) rest)) (old start before) ∙ (more ∙ same))
      | inr after ↦
          (let same : suc ((start + 1 + len) - max (start + 1) from) ≡ (start + suc len) - max start from =
          omega (arith, after)
          in
          ap (λ (b : Bool). length (cond b (at start ∷ rest) rest)) (new start after) ∙ (ap suc more ∙ same))
    ]

-- ---- widths

choice_below : (b : Bool) (width : ℕ) → width < 256 → cond b width 0 < 256
choice_below true width small = small
choice_below false width small = omega arith

width_of_below : (m level : ℕ) → width_of m level < 256
width_of_below m level = mod-lt (m / 256 ^ level) (omega arith)

not_full : (m level index : ℕ) → edge_index_of m level ≤ index → 256 ≡ width_at m level index → ⊥
not_full m level index after full =
    let small = choice_below (nat_eq index (edge_index_of m level)) (width_of m level) (width_of_below m level) in
    let is : 256 ≡ cond (nat_eq index (edge_index_of m level)) (width_of m level) 0 =
    full ∙ width_last m level index after
    in
    omega (arith, is, small)

-- ---- the files of a kind

-- the files of a level in a tree of n entries, the full ones first
abbrev files_of : (ℕ → ℕ → Path) → ℕ → ℕ → List Path
files_of at n level =
    map (λ index. at index 256) (range_with_len 0 (edge_index_of n level))
    ++ (if width_of n level == 0 then [] else at (edge_index_of n level) (width_of n level) ∷ [])

module _ (m n level : ℕ) (test : Path → Bool) (at : ℕ → ℕ → Path)
    (tells : (index width : ℕ) → test (at index width) ≡ not (width == width_at m level index)) where
  full_files : length (filter test (map (λ index. at index 256) (range_with_len 0 (edge_index_of n level))))
      ≡ edge_index_of n level - edge_index_of m level
  full_files =
      let old : (i : ℕ) → i < edge_index_of m level → test (at i 256) ≡ false = λ i before.
      tells i 256 ∙ ap not (eq-eqb 256 (width_at m level i) (sym (width_full m level i before)))
      in
      let new : (i : ℕ) → edge_index_of m level ≤ i → test (at i 256) ≡ true = λ i after.
      tells i 256 ∙ ap not (ne_eqb 256 (width_at m level i) (not_full m level i after))
      in
      let kept = kept_from test (λ index. at index 256) (edge_index_of m level) old new 0 (edge_index_of n level) in
      let same : (0 + edge_index_of n level) - max 0 (edge_index_of m level)
      ≡ edge_index_of n level - edge_index_of m level = omega arith
      in
      kept ∙ same

  partial_file : length (filter test (if width_of n level == 0 then []
      else at (edge_index_of n level) (width_of n level) ∷ [])) ≡ new_partial m n level
  partial_file =
      let path = at (edge_index_of n level) (width_of n level) in
      let same = width_of n level == width_at m level (edge_index_of n level) in
      let one : length (cond (test path) (path ∷ []) []) ≡ (if same then 0 else 1) =
      ap (λ (b : Bool). length (cond b (path ∷ []) [])) (tells (edge_index_of n level) (width_of n level))
      ∙ (elim same as (λ b. length (cond (not b) (path ∷ []) []) ≡ (if b then 0 else 1)) [ true ↦ refl | false ↦ refl ])
      in
      elim (width_of n level == 0)
      as (λ b. length (filter test (if b then [] else path ∷ [])) ≡ (if b then 0 else if same then 0 else 1))
      [ true ↦ refl | false ↦ one ]

  of_kind : length (filter test (files_of at n level)) ≡ new_at m n level
  of_kind =
      let full = map (λ index. at index 256) (range_with_len 0 (edge_index_of n level)) in
      let last = if width_of n level == 0 then [] else at (edge_index_of n level) (width_of n level) ∷ [] in
      ap length (filter-append test full last) ∙ (length-append (filter test full) (filter test last)
      ∙ sum_both (length (filter test full)) (length (filter test last)) (edge_index_of n level - edge_index_of m level)
      (new_partial m n level) full_files partial_file)

new_of_tiles : (m n level : ℕ) → length (filter (is_new m) (files_of (λ index width. Tile level index width) n level))
    ≡ new_at m n level
new_of_tiles m n level =
    of_kind m n level (is_new m) (λ index width. Tile level index width) (λ index width. refl)

new_of_bundles : (m n : ℕ) → length (filter (is_new m) (files_of (λ index width. Entries index width) n 0)) ≡ new_at m n 0
new_of_bundles m n = of_kind m n 0 (is_new m) (λ index width. Entries index width) (λ index width. refl)

-- ---- all files

new_tiles : (m n levels : ℕ) → length (filter (is_new m) (tiles_below n levels)) ≡ new_below m n levels
new_tiles m n zero = refl
new_tiles m n (suc level) =
    let last : List Path = files_of (λ index width. Tile level index width) n level in
    ap length (filter-append (is_new m) (tiles_below n level) last)
    ∙ (length-append (filter (is_new m) (tiles_below n level)) (filter (is_new m) last)
    ∙ sum_both (length (filter (is_new m) (tiles_below n level))) (length (filter (is_new m) last)) (new_below m n level)
    (new_at m n level) (new_tiles m n level) (new_of_tiles m n level))

all_tiles : (m n : ℕ) → length (filter (is_new m) (tile_paths n)) ≡ new_below m n 8
unfolding tile_paths
all_tiles m n = new_tiles m n 8

pub length-since_paths : (m n : ℕ) → length (since_paths m n) ≡ new_below m n 8 + new_at m n 0 + 1
length-since_paths m n =
    let bundles : List Path = files_of (λ index width. Entries index width) n 0 in
    let front : List Path = tile_paths n ++ bundles in
    let last : List Path = Checkpoint ∷ [] in
    let both : length (filter (is_new m) front) ≡ new_below m n 8 + new_at m n 0 =
    ap length (filter-append (is_new m) (tile_paths n) bundles)
    ∙ (length-append (filter (is_new m) (tile_paths n)) (filter (is_new m) bundles)
    ∙ sum_both (length (filter (is_new m) (tile_paths n))) (length (filter (is_new m) bundles)) (new_below m n 8)
    (new_at m n 0) (all_tiles m n) (new_of_bundles m n))
    in
    ap length (filter-append (is_new m) front last)
    ∙ (length-append (filter (is_new m) front) (filter (is_new m) last)
    ∙ sum_both (length (filter (is_new m) front)) 1 (new_below m n 8 + new_at m n 0) 1 both refl)

-- ---- bounds

edge_fits : (n level : ℕ) → n < 2 ^ 64 → edge_index_of n level < 2 ^ 56
edge_fits n level small =
    let power : 256 ^ (level + 1) ≡ 256 ^ level * 256 = ap (λ k. 256 ^ k) (omega arith) ∙ pow-suc 256 level in
    let index : edge_index_of n level ≡ n / 256 ^ level / 256 =
    ap (λ k. n / k) power ∙ sym (div-div-eq-div-mul n (256 ^ level) 256)
    in
    let within : n / 256 ^ level ≤ n = div-le_self n (256 ^ level) in
    omega (arith, index, within, small)

choice_le_one : (a b : Bool) → (if a then 0 else if b then 0 else 1) ≤ 1
choice_le_one true b = omega arith
choice_le_one false true = omega arith
choice_le_one false false = omega arith

-- few files of a level are new
pub new_fits : (m n level : ℕ) → n < 2 ^ 64 → new_at m n level ≤ 2 ^ 57
new_fits m n level small =
    let edge = choice_le_one (width_of n level == 0) (width_of n level == width_at m level (edge_index_of n level)) in
    let full = edge_fits n level small in
    omega (arith, full, edge)
