-- Tiles of level 0 and bundles, as parts of the leaves of a held tree.
use Rattle.std.proofs.Common.{◌≡◌, ℕ, ◌+◌, ◌*◌, ◌≤◌, List, length, take, drop, map, sym, ap, ◌∙◌, subst, arith}
use denote.Bor.{Bor}
use Rattle.std.proofs.lemmas.List.{take-map, drop-map, length-map}
use Rattle.tlog_hash.specs.Tree.{leaf_hash}
use Rattle.tlog_hash.specs.Rows.{part}
use Rattle.tlog_tiles.specs.Row.{row_text}
use Rattle.tlog_tiles.specs.Tiles.{IsTileWithin, tile_bytes}
use Rattle.node_store.specs.Strings.{Strings, NoClash}
use Rattle.mirror_model.specs.Complete.{IsTreeOf}
use Rattle.mirror_model.proofs.OneLists.{only}
use Rattle.mirror_trees.specs.HeldLeaves.{HasLeaves, entries_of}
use Rattle.mirror_trees.specs.declared.leaves.Leaves.{Leaves}
use Rattle.mirror_trees.proofs.LeafRows.{leaf_row}

-- a part of a mapped list
part-map : {X Y : Type 0} (f : X → Y) (start len : ℕ) (xs : List X) →
    part start len (map f xs) ≡ map f (part start len xs)
part-map f start len xs = ap (take len) (drop-map f start xs) ∙ take-map f len (drop start xs)

module _ (digest : List ℕ → List ℕ) (held : Strings) (size : ℕ) (root : List ℕ) (leaves : Leaves)
    (h : HasLeaves digest held size root leaves) where
  hashes_len : (hashes : List (List ℕ)) → hashes ≡ leaves.hashes.items → length hashes ≡ size
  hashes_len hashes are =
      ap length (are ∙ h.hashes_are) ∙ length-map (entries_of leaves) (leaf_hash digest) ∙ h.tree.size_is

  module _ (level index width : ℕ) (zero_is : level ≡ 0) (hashes : List (List ℕ))
      (are : hashes ≡ leaves.hashes.items) where
    pub tile_within : IsTileWithin (length hashes) 0 index width → IsTileWithin size level index width
    tile_within within =
        subst (λ l. IsTileWithin size l index width) (sym zero_is)
        (subst (λ n. IsTileWithin n 0 index width) (hashes_len hashes are) within)

  module _ (hash : (s : List ℕ) → length (digest s) ≡ 32) (clean : NoClash digest held) (entries : List (List ℕ))
      (tree : IsTreeOf digest held size root entries) (index width : ℕ) where
    same : entries_of leaves ≡ entries
    same = only digest held hash clean size root (entries_of leaves) entries h.tree tree

    pub tile_is : (level : ℕ) → level ≡ 0 → (hashes row : List (List ℕ)) → hashes ≡ leaves.hashes.items →
        IsTileWithin (length hashes) 0 index width → row ≡ part (256 * index) width hashes →
        row_text row ≡ tile_bytes digest entries level index width
    tile_is level zero_is hashes row are within row_is =
        let fits : 256 * index + width ≤ length entries =
        omega (arith, within.within, hashes_len hashes are, tree.size_is) in
        ap row_text (row_is
        ∙ ap (part (256 * index) width) (are ∙ h.hashes_are ∙ ap (map (leaf_hash digest)) same)
        ∙ part-map (leaf_hash digest) (256 * index) width entries
        ∙ sym (leaf_row digest held (256 * index) width entries fits))
        ∙ ap (λ l. tile_bytes digest entries l index width) (sym zero_is)

    pub lent_are : (es lent : List (Bor (List ℕ))) → es ≡ leaves.entries.items → lent ≡ part (256 * index) width es →
        map (λ (e : Bor (List ℕ)). e.now) lent ≡ part (256 * index) width entries
    lent_are es lent are lent_is =
        ap (map (λ (e : Bor (List ℕ)). e.now)) (lent_is ∙ ap (part (256 * index) width) are)
        ∙ sym (part-map (λ (e : Bor (List ℕ)). e.now) (256 * index) width leaves.entries.items)
        ∙ ap (part (256 * index) width) same
