-- The files that a log serves for a list of entries.
use Rattle.std.proofs.Common.{◌≡◌, ℕ, ◌+◌, ◌*◌, ◌^◌, ◌<◌, ◌≤◌, List, [], ◌∷◌, ◌++◌, length, drop, All, refl, sym, ap}
use Rattle.std.proofs.Common.{◌∙◌, arith}
use Rattle.std.proofs.lemmas.List.{length-map, length-take-le, length-drop}
use Rattle.std.proofs.lemmas.List.Elements.{All-map, All-take, All-drop}
use Rattle.tlog_hash.specs.Rows.{part, ranges, level_row}
use Rattle.tlog_hash.specs.Tree.{fold_of, mth, tree_of, Tree, Empty, One, Join}
use Rattle.tlog_hash.specs.Nodes.{entries_root}
use Rattle.tlog_hash.proofs.Folds.{mth-tree, length-ranges, joined_ranges, all_ranges, cut_full, mth-level}
use Rattle.tlog_shape.proofs.Levels.{level_positive}
use Rattle.tlog_tiles.specs.Laws.{IsRead}

-- the hashes of a level fold to the tree hash of their entries
pub row_folds : (digest : List ℕ → List ℕ) (entries : List (List ℕ)) (level first width : ℕ) → 1 ≤ width →
    (first + width) * 256 ^ level ≤ length entries →
    fold_of digest (level_row digest entries level first width)
    ≡ mth digest (part (first * 256 ^ level) (width * 256 ^ level) entries)
row_folds digest entries level first width some within =
    let size = 256 ^ level in
    let blocks = ranges size first width entries in
    let count = length-ranges size first width entries in
    let cut = cut_full size blocks (all_ranges size first width entries within) (omega arith) (level_positive level) in
    sym (mth-level digest level blocks cut) ∙ ap (mth digest) (joined_ranges size first width entries)

-- a tree hash has 32 bytes if each digest does
root_size : (digest : List ℕ → List ℕ) → ((s : List ℕ) → length (digest s) ≡ 32) → (t : Tree (List ℕ)) →
    length (entries_root digest t) ≡ 32
root_size digest size Empty = size []
root_size digest size (One entry) = size (0 ∷ entry)
root_size digest size (Join l r) = size (1 ∷ entries_root digest l ++ entries_root digest r)

pub mth_size : (digest : List ℕ → List ℕ) → ((s : List ℕ) → length (digest s) ≡ 32) → (entries : List (List ℕ)) →
    length (mth digest entries) ≡ 32
mth_size digest size entries = ap length (mth-tree digest entries) ∙ root_size digest size (tree_of entries)

-- a part within the list has the requested number of entries
pub length-part : (entries : List (List ℕ)) (start len : ℕ) → start + len ≤ length entries →
    length (part start len entries) ≡ len
length-part entries start len within =
    let rest = length-drop start entries in
    length-take-le len (drop start entries) (omega arith)

-- the true bytes are read as a row or a bundle
pub served_is_read : (digest : List ℕ → List ℕ) → ((s : List ℕ) → length (digest s) ≡ 32) → (entries : List (List ℕ)) →
    All (λ entry. length entry < 2 ^ 16) entries → IsRead digest entries
served_is_read digest size entries fits = record {
  tile = λ level index width. record {
    count = length-map (ranges (256 ^ level) (256 * index) width entries) (mth digest) ∙
        length-ranges (256 ^ level) (256 * index) width entries;
    sizes = All-map (λ (h : List ℕ). length h ≡ 32) (mth digest) (ranges (256 ^ level) (256 * index) width entries)
        (λ k d p. mth_size digest size _);
    text = refl;
  };
  bundle = λ index width h. record {
    count = length-part entries (256 * index) width
        (let most : (256 * index + width) * 1 ≤ length entries = h.within in omega arith);
    fits = All-take (λ (e : List ℕ). length e < 2 ^ 16) width (drop (256 * index) entries)
        (All-drop (λ (e : List ℕ). length e < 2 ^ 16) (256 * index) entries fits);
    text = refl;
  };
}
