-- A bundle whose leaf hashes are a row.
use Rattle.std.proofs.Common.{◌≡◌, inl, inr, ℕ, ◌+◌, ◌*◌, ◌^◌, ◌≤◌, List, [], ◌∷◌, ◌++◌, length, map, Option, Some}
use Rattle.std.proofs.Common.{sym, ap, subst, ◌∙◌, arith}
use Rattle.tlog_hash.specs.Rows.{part, level_row}
use Rattle.tlog_hash.specs.Tree.{fold_of, leaf_hash, mth}
use Rattle.tlog_hash.proofs.LeafRanges.{rows_of_leaves}
use Rattle.tlog_tiles.specs.declared.paths.Path.{Path}
use Rattle.tlog_tiles.specs.declared.paths.Path.TheVariants.{Tile, Entries}
use Rattle.tlog_tiles.specs.Bundle.{bundle_text}
use Rattle.tlog_tiles.specs.Row.{row_text}
use Rattle.tlog_tiles.proofs.TileLemmas.{row_folds}
use Rattle.log_reader.specs.Verified.{HasLeaves, Verifies}
use Rattle.log_reader.specs.declared.verify.FullFile.TheVariants.{Bundle}
use Rattle.mirror_sources.specs.Honest.{true_bytes}
use Rattle.mirror_sources.specs.Replies.{Reply, reply}
use Rattle.copy_reader.specs.Answering.{AreGiven, IsHad}
use Rattle.copy_reader.specs.Covering.{CoversTile, HasAt, IsFullIn}
use Rattle.copy_reader.proofs.Given.{first_of, given_then, had_left, had_right}
use Rattle.copy_reader.proofs.Covered.{has_part, has_within}
use Rattle.copy_reader.proofs.Ranges.{full_bundle}

-- a list that has the bundle's entries at their index
module _ (digest : List ℕ → List ℕ) (index width : ℕ) (bytes : List ℕ) (row : List (List ℕ))
    (v : HasLeaves digest width bytes row) (entries : List (List ℕ)) (h : HasAt (256 * index) v.entries entries) where
  within : 256 * index + width ≤ length entries
  within = omega (arith, v.is_bundle.count, has_within (256 * index) entries v.entries h)

  part_is : part (256 * index) width entries ≡ v.entries
  part_is = ap (λ n. part (256 * index) n entries) (sym v.is_bundle.count)
      ∙ has_part (256 * index) entries v.entries h

  pub row_is : row ≡ level_row digest entries 0 (256 * index) width
  row_is = v.row_is ∙ (ap (map (leaf_hash digest)) (sym part_is)
      ∙ sym (rows_of_leaves digest width (256 * index) entries within))

  pub bytes_are : bytes ≡ true_bytes digest entries (Entries index width)
  bytes_are = v.is_bundle.text ∙ ap bundle_text (sym part_is)

  pub tile_is : row_text row ≡ true_bytes digest entries (Tile 0 index width)
  tile_is = ap row_text row_is

  pub hash_is : (hash : List ℕ) → 1 ≤ width → fold_of digest row ≡ hash →
      hash ≡ mth digest (part (index * 256) width entries)
  hash_is hash some folds =
      let all : (256 * index + width) * 256 ^ 0 ≤ length entries = omega (arith, within) in
      let from : 256 * index * 256 ^ 0 ≡ index * 256 = omega arith in
      let len : width * 256 ^ 0 ≡ width = omega arith in
      sym folds ∙ (ap (fold_of digest) row_is ∙ (row_folds digest entries 0 (256 * index) width some all
      ∙ (λ j. mth digest (part (from j) (len j) entries))))

-- a full bundle and its tile of level 0
module _ (digest : List ℕ → List ℕ) (index : ℕ) (hash bytes : List ℕ) (row : List (List ℕ))
    (v : Verifies digest Bundle hash bytes row) (a b c : Path → Option (List ℕ) → Type 0) (x y z : Option (List Path))
    (first : AreGiven a b x y (reply (Entries index 256) (Some bytes) ∷ []))
    (second : AreGiven b c y z (reply (Tile 0 index 256) (Some (row_text row)) ∷ [])) where
  abbrev p : List Reply
  p = reply (Entries index 256) (Some bytes) ∷ []

  abbrev q : List Reply
  q = reply (Tile 0 index 256) (Some (row_text row)) ∷ []

  place : (entries : List (List ℕ)) → HasAt (index * 256) v.is_row.entries entries →
      HasAt (256 * index) v.is_row.entries entries
  place entries h = subst (λ n. HasAt n v.is_row.entries entries) (omega arith) h

  files : (entries : List (List ℕ)) → HasAt (index * 256) v.is_row.entries entries → (path : Path) →
      IsFullIn 0 (index * 256 ^ (0 + 1)) ((index + 1) * 256 ^ (0 + 1)) path →
      IsHad (p ++ q) path (true_bytes digest entries path)
  files entries h path file = elim (full_bundle index path file) [
    | inl tile ↦
        let there : IsHad (p ++ q) (Tile 0 index 256) (row_text row) =
        had_right p q (Tile 0 index 256) (row_text row) (inl (first_of (reply (Tile 0 index 256) (Some (row_text row))) [])) in
        subst (λ k. IsHad (p ++ q) k (true_bytes digest entries k)) (sym tile)
        (subst (λ t. IsHad (p ++ q) (Tile 0 index 256) t) (tile_is digest index 256 bytes row v.is_row entries (place entries h))
        there)
    | inr bundle ↦
        let there : IsHad (p ++ q) (Entries index 256) bytes =
        had_left p q (Entries index 256) bytes (inl (first_of (reply (Entries index 256) (Some bytes)) [])) in
        subst (λ k. IsHad (p ++ q) k (true_bytes digest entries k)) (sym bundle)
        (subst (λ t. IsHad (p ++ q) (Entries index 256) t)
        (bytes_are digest index 256 bytes row v.is_row entries (place entries h)) there)
  ]

  pub covers_bundle : CoversTile digest 0 index hash a c x z
  covers_bundle = record {
    more = v.is_row.entries;
    replies = p ++ q;
    given = given_then a b c x y z p q first second;
    size_is = let count = v.is_row.is_bundle.count in omega arith;
    short = v.is_row.is_bundle.fits;
    claims = λ entries h. hash_is digest index 256 bytes row v.is_row entries (place entries h) hash (omega arith) v.folds;
    holds = files;
  }
