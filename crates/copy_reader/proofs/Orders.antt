-- Lists of paths in order.
use Rattle.std.proofs.Common.{◌≡◌, inl, inr, ℕ, zero, suc, ◌+◌, ◌-◌, ◌*◌, ◌<◌, ◌≤◌, List, [], ◌∷◌, ◌++◌}
use Rattle.std.proofs.Common.{refl, sym, ap, ◌∙◌, arith, append_assoc}
use Rattle.std.proofs.lemmas.Bool.{cases_lt}
use Rattle.std.proofs.lemmas.List.{append-nil}
use Rattle.tlog_tiles.specs.declared.paths.Path.{Path}
use Rattle.tlog_tiles.specs.declared.paths.Path.TheVariants.{Tile, Entries}
use Rattle.tlog_shape.specs.Edge.{edge_index_of, width_of}
use Rattle.copy_reader.specs.Order.{bundle_of_width, each_order, edge_file, edge_order, first_path, level_order, levels_order, row_order, tile_of_width, tile_order}

module _ (order : ℕ → List Path) (first : ℕ) where
  pub each_none : each_order order first 0 ≡ []
  unfolding each_order
  each_none = refl

  each_suc : (i : ℕ) → each_order order first (suc i) ≡ each_order order first i ++ order (first + i)
  unfolding each_order
  each_suc i = refl

  pub each_next : (i : ℕ) → each_order order first (i + 1) ≡ each_order order first i ++ order (first + i)
  each_next i = let next : i + 1 ≡ suc i = omega arith in ap (each_order order first) next ∙ each_suc i

  -- the paths of one number, those before it, and the rest
  pub record Parts (i width : ℕ) : Type 0 where
    pub rest : List Path
    pub parts_are : each_order order first width ≡ each_order order first i ++ (order (first + i) ++ rest)

  pub each_parts : (i width : ℕ) → i < width → Parts i width
  each_parts i zero lt = absurd (omega arith)
  each_parts i (suc width) lt = elim (cases_lt i width) [
    | inl less ↦
        let r = each_parts i width less in
        let before = each_order order first i in
        let here = order (first + i) in
        let last = order (first + width) in
        record {
          rest = r.rest ++ last;
          parts_are = each_suc width ∙ (ap (λ (l : List Path). l ++ last) r.parts_are
              ∙ (append_assoc before (here ++ r.rest) last
              ∙ ap (λ (l : List Path). before ++ l) (append_assoc here r.rest last)));
        }
    | inr most ↦
        let same : width ≡ i = omega arith in
        record {
          rest = [];
          parts_are = each_suc width ∙ ((λ j. each_order order first (same j) ++ order (first + same j))
              ∙ ap (λ (l : List Path). each_order order first i ++ l) (sym (append-nil (order (first + i)))));
        }
  ]

-- ---- tiles

pub lowest_tile : (index : ℕ) → tile_order 0 index ≡ Entries index 256 ∷ Tile 0 index 256 ∷ []
unfolding tile_order
lowest_tile index = refl

higher_tile : (level index : ℕ) → tile_order (suc level) index
    ≡ Tile (suc level) index 256 ∷ each_order (tile_order level) (256 * index) 256
unfolding tile_order
higher_tile level index = refl

pub tile_then : (level index : ℕ) → 1 ≤ level → tile_order level index ≡ Tile level index 256 ∷ row_order level index 256
tile_then zero index some = absurd (omega arith)
tile_then (suc level) index some =
    let down : level ≡ suc level - 1 = omega arith in
    higher_tile level index
    ∙ ap (λ l. Tile (suc level) index 256 ∷ each_order (tile_order l) (256 * index) 256) down

-- ---- partial files

pub some_tile : (level index width : ℕ) → 0 < width → tile_of_width level index width ≡ Tile level index width ∷ []
some_tile level index zero some = absurd (omega arith)
some_tile level index (suc width) some = refl

pub no_tile : (level index width : ℕ) → width ≡ 0 → tile_of_width level index width ≡ []
no_tile level index width none = ap (tile_of_width level index) none

pub some_bundle : (index width : ℕ) → 0 < width → bundle_of_width index width ≡ Entries index width ∷ []
some_bundle index zero some = absurd (omega arith)
some_bundle index (suc width) some = refl

pub no_bundle : (index width : ℕ) → width ≡ 0 → bundle_of_width index width ≡ []
no_bundle index width none = ap (bundle_of_width index) none

-- ---- the edge

pub next_level : (n done : ℕ) → levels_order n (done + 1)
    ≡ levels_order n done ++ row_order (7 - done) (edge_index_of n (7 - done)) (width_of n (7 - done))
next_level n done =
    let none : 0 + done ≡ done = omega arith in
    each_next (level_order n) 0 done ∙ ap (λ k. levels_order n done ++ level_order n k) none

-- the levels above one, that level, and the rest
pub record LevelParts (n done level index width : ℕ) : Type 0 where
  pub rest : List Path
  pub levels_are : levels_order n 7 ≡ levels_order n done ++ (row_order level index width ++ rest)

pub level_parts : (n done level index width : ℕ) → done < 7 → 7 - done ≡ level → index ≡ edge_index_of n level →
    width ≡ width_of n level → LevelParts n done level index width
level_parts n done level index width lt is at wide =
    let parts = each_parts (level_order n) 0 done 7 lt in
    let none : 0 + done ≡ done = omega arith in
    let before = levels_order n done in
    record {
      rest = parts.rest;
      levels_are = parts.parts_are
          ∙ ((λ j. before ++ (level_order n (none j) ++ parts.rest))
          ∙ ((λ j. before ++ (row_order (is j) (edge_index_of n (is j)) (width_of n (is j)) ++ parts.rest))
          ∙ (λ j. before ++ (row_order level (sym at j) (sym wide j) ++ parts.rest))));
    }

-- if no level so far has a row, and the next has none, no level up to it has one
pub still_none : (n level : ℕ) → edge_order n level ≡ [] → width_of n level ≡ 0 → edge_order n (level + 1) ≡ []
still_none n level none empty =
    let at : 0 + level ≡ level = omega arith in
    each_next (edge_file n) 0 level
    ∙ ((λ j. none j ++ edge_file n (at j)) ∙ no_tile level (edge_index_of n level) (width_of n level) empty)

-- the lowest row, if no level below it has one
pub lowest_is : (n level : ℕ) → level < 8 → edge_order n level ≡ [] → 0 < width_of n level →
    first_path (edge_order n 8) ≡ Tile level (edge_index_of n level) (width_of n level)
lowest_is n level lt none some =
    let parts = each_parts (edge_file n) 0 level 8 lt in
    let at : 0 + level ≡ level = omega arith in
    let index = edge_index_of n level in
    let width = width_of n level in
    ap first_path (parts.parts_are
    ∙ ((λ j. none j ++ (edge_file n (at j) ++ parts.rest))
    ∙ (λ j. some_tile level index width some j ++ parts.rest)))

pub next_file : (n level : ℕ) → edge_order n (level + 1) ≡ edge_order n level ++ edge_file n level
next_file n level =
    let at : 0 + level ≡ level = omega arith in
    each_next (edge_file n) 0 level ∙ ap (λ k. edge_order n level ++ edge_file n k) at

-- the rows below a level, that row, and the rest
pub record FileParts (n level : ℕ) : Type 0 where
  pub rest : List Path
  pub files_are : edge_order n 8 ≡ edge_order n level ++ (edge_file n level ++ rest)

pub file_parts : (n level : ℕ) → level < 8 → FileParts n level
file_parts n level lt =
    let parts = each_parts (edge_file n) 0 level 8 lt in
    let at : 0 + level ≡ level = omega arith in
    record {
      rest = parts.rest;
      files_are = parts.parts_are ∙ ap (λ k. edge_order n level ++ (edge_file n k ++ parts.rest)) at;
    }
