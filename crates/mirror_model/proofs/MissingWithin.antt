-- The missing paths of a tree head of a lawful view are within its size.
use Rattle.std.proofs.Common.{◌≡◌, ℕ, ◌+◌, ◌-◌, ◌*◌, ◌/◌, ◌^◌, ◌<◌, ◌≤◌, List, length, map, replicate, sym, ap, ◌∙◌}
use Rattle.std.proofs.Common.{subst, inl, inr, arith}
use Rattle.std.proofs.lemmas.List.{length-replicate}
use Rattle.std.proofs.lemmas.Nat.{pow-add, mul-le}
use Rattle.std.proofs.lemmas.Bool.{cases_lt}
use Rattle.std.proofs.Math.Nat.{div-mul-le_self}
use Rattle.tlog_shape.proofs.Levels.{level_mono}
use Rattle.tlog_hash.specs.Tree.{tree_of}
use Rattle.tlog_hash.specs.Shape.{shape}
use Rattle.tlog_tiles.specs.declared.paths.Path.{Path}
use Rattle.tlog_tiles.specs.declared.paths.Path.TheVariants.{Checkpoint, Tile, Entries}
use Rattle.node_store.specs.Strings.{Strings, HasAll, NoClash}
use Rattle.tlog_tiles.specs.Tiles.{IsWithin}
use Rattle.mirror_model.specs.Edge.{edge_widths, edge_strings}
use Rattle.mirror_model.specs.Item.{row_of, HasEdgeRows}
use Rattle.mirror_model.specs.Walk.{WalkFails, IsMissing}
use Rattle.mirror_model.specs.TreeLaws.{IsOfSize}
use Rattle.mirror_model.specs.TrueLaws.{IsWidest}
use Rattle.mirror_model.specs.Strings.{IsDigest}
use Rattle.mirror_model.specs.FetchLaws.{MissingIsWithin}
use Rattle.mirror_model.proofs.StringSets.{holds_from_held}
use Rattle.mirror_model.proofs.HeadNotes.{heads_have_edges}
use Rattle.mirror_model.proofs.MissingPaths.{missing_is_of_size}
use Rattle.mirror_model.proofs.RowLaws.{from_products}
use Rattle.mirror_model.proofs.TrueItems.{tile_end}
use Rattle.mirror_model.proofs.EdgeWalks.{rows_fit, edge_below, IsBelowHash}

module _ (digest : List ℕ → List ℕ) (hash : IsDigest digest) (held : Strings) (clean : NoClash digest held) (size : ℕ)
    (small : size < 256 ^ 8) where
  -- a node at which the walk from the root fails is below a hash of the edge's rows
  below_hash : (root : List ℕ) (rows : List (List ℕ)) → HasEdgeRows digest size root rows →
      HasAll held (edge_strings digest (map row_of rows)) → (at many : ℕ) →
      WalkFails digest held (shape size) 0 root at many → IsBelowHash digest hash held clean (replicate size 0) at many
  unfolding shape
  below_hash root rows edge all at many f =
      let zs : List ℕ = replicate size 0 in
      let len : length zs ≡ size = length-replicate size 0 in
      let fit =
      rows_fit (length zs) rows (edge.widths ∙ ap (λ n. map (λ width. 32 * width) (edge_widths n)) (sym len)) in
      edge_below digest hash held clean zs (map row_of rows) (omega (arith, len, small)) fit
      (holds_from_held held (edge_strings digest (map row_of rows)) all) at many
      (subst (λ h. WalkFails digest held (tree_of zs) 0 h at many) (sym edge.root_is) f)

  -- so the tile with that level and index is full
  tile_full : (level at many : ℕ) → 256 ^ level < many → IsBelowHash digest hash held clean (replicate size 0) at many →
      (at / 256 ^ (level + 1) + 1) * 256 ^ (level + 1) ≤ size
  tile_full level at many above h =
      let c = 256 ^ (level + 1) in
      let high : level < h.level = elim (cases_lt level h.level) [
        | inl lt ↦ lt
        | inr le ↦ absurd
            (let mono =
            level_mono h.level level le in let step : (h.index + 1) * 256 ^ h.level
            ≡ h.index * 256 ^ h.level + 256 ^ h.level = omega arith in omega (arith, mono, step, h.from, h.upto, above))
      ] in
      let d = h.level - (level + 1) in
      let sum : h.level ≡ (level + 1) + d = omega (arith, high) in
      let power : 256 ^ h.level ≡ 256 ^ d * c = ap (λ m. 256 ^ m) sum ∙ pow-add 256 (level + 1) d ∙ omega arith in
      let k = (h.index + 1) * 256 ^ d in
      let end : (h.index + 1) * 256 ^ h.level ≡ k * c = ap (λ m. (h.index + 1) * m) power ∙ omega arith in
      let low : at / c * c ≤ at = div-mul-le_self at c in
      let less : at / c < k = from_products (at / c) k c (omega (arith, low, h.upto, end, above)) in
      let upto : (at / c + 1) * c ≤ k * c = mul-le _ _ _ _ (omega (arith, less)) (omega arith) in
      let zs : List ℕ = replicate size 0 in
      let len : length zs ≡ size = length-replicate size 0 in
      omega (arith, upto, end, h.full, len)

pub missing_is_within : MissingIsWithin
missing_is_within digest hash v lawful size root head path m =
    within path m (missing_is_of_size digest v.strings size root (omega (arith, small)) path m)
  where
    small : size < 256 ^ 8
    small = omega (arith, head.holds.is_head.is_checkpoint.in_range)

    within : (path : Path) → IsMissing digest v.strings size root path → IsOfSize size path →
        IsWithin size path × IsWidest size path
    within Checkpoint m of = absurd of
    within (Tile level index width) m of =
        let edge = heads_have_edges digest v lawful size root head in
        let at = m.at in
        let many = m.many in
        let h = below_hash digest hash v.strings lawful.no_clash size small root edge.rows edge.has_edge edge.are_held
        at many m.fails in
        let full = tile_full digest hash v.strings lawful.no_clash size small level at many m.path_is.tile.above h in
        let end : (index + 1) * 256 ^ (level + 1) ≤ size =
        subst (λ i. (i + 1) * 256 ^ (level + 1) ≤ size) (sym m.path_is.tile.index_is) full in (
          record {
            level_fits = of.1;
            some = omega (arith, of.2);
            upto = omega (arith, of.2);
            within = subst (λ w. (256 * index + w) * 256 ^ level ≤ size) (sym of.2)
                (subst (λ n. n ≤ size) (sym (tile_end level index)) end);
          },
          of.2,
        )
    within (Entries index width) m of =
        let one : (256 * index + width) * 256 ^ 0 ≡ 256 * index + width = omega arith in (
          record {
            level_fits =
                omega arith;
            some = of.0;
            upto = omega (arith, of.1);
            within = omega (arith, one, of.1, of.2);
          },
          of.1,
        )
