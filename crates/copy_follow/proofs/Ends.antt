-- The partial bundle of a copy that is mended.
use Rattle.std.proofs.Common.{◌≡◌, ◌⊎◌, ℕ, ◌+◌, ◌*◌, ◌/◌, ◌^◌, ◌<◌, ◌≤◌, List, [], ◌∷◌, length, take, Option, refl, sym, ap, subst, ◌∙◌, arith}
use Rattle.std.proofs.lemmas.List.{nil_from_length}
use Rattle.tlog_shape.specs.Edge.{edge_index_of, width_of}
use Rattle.tlog_hash.specs.Rows.{level_row}
use Rattle.tlog_tiles.specs.Bundle.{bundle_text}
use Rattle.tlog_tiles.specs.declared.paths.Path.{Path}
use Rattle.tlog_tiles.specs.declared.paths.Path.TheVariants.{Entries}
use Rattle.tlog_tiles.proofs.EdgeLemmas.{hashes_of}
use Rattle.mirror_model.specs.Strings.{IsDigest}
use Rattle.mirror_sources.specs.Honest.{true_bytes}
use Rattle.mirror_sources.specs.Recorded.{AddsToRecord, KeepsRecord}
use Rattle.mirror_folders.specs.Shelf.{Put}
use Rattle.log_reader.specs.EdgeRows.{Edge, HasWidths, row_at}
use Rattle.log_reader.specs.Verified.{HasLeaves}
use Rattle.copy_follow.specs.Growing.{IsKnown, IsNewFile, empty_tip}
use Rattle.copy_follow.specs.Repaired.{AreEndsClear, BeginsBundle, IsEndHad, RecordsHad}
use Rattle.copy_follow.specs.Suffices.{IsEdgeTrue}
use Rattle.copy_follow.proofs.Bundles as bundles
use Rattle.copy_follow.proofs.Growth.{gathers_none, kept_adds, kept_same}
use Rattle.copy_follow.proofs.MendedFiles.{had_earlier}
use Rattle.copy_follow.proofs.Mending.{never_within}
use Rattle.copy_follow.proofs.Spared.{edge_bundle_true}

module _ (digest : List ℕ → List ℕ) (edge : Edge) (widths : HasWidths edge) (known : List (List ℕ))
    (is : IsKnown digest empty_tip (edge_index_of edge.size 0 * 256) known) where
  abbrev n : ℕ
  n = edge.size

  whole_size : 256 * edge_index_of n 0 + width_of n 0 ≡ n
  whole_size =
      let h : 256 * edge_index_of n 0 + width_of n 0 ≡ n / 1 = hashes_of n 0 in
      omega (arith, h)

  pub end_none : (x : Option (List Put)) → length (row_at edge 0) ≡ 0 → IsEndHad digest edge known x x
  end_none x empty =
      let width : 0 ≡ width_of n 0 = sym empty ∙ widths 0 (omega arith) in
      let long = is.size_is in
      record {
        next = known;
        gathers = gathers_none digest 0 known x x (kept_same x);
        size_is = omega (arith, whole_size, width, long);
        row_is = nil_from_length (row_at edge 0) empty
            ∙ ap (λ w. level_row digest known 0 (256 * edge_index_of n 0) w) width;
        holds = λ some. absurd (omega (arith, width, some));
      }

  module _ (width : ℕ) (some : 1 ≤ width) (width_is : width ≡ width_of n 0) (bytes : List ℕ)
      (v : HasLeaves digest width bytes (row_at edge 0)) (x y z : Option (List Put)) (kept : KeepsRecord x y)
      (puts : (KeepsRecord y z) ⊎ (AddsToRecord y z ((Entries (edge_index_of n 0) width, bytes) ∷ []))) where
    abbrev index : ℕ
    index = edge_index_of n 0

    beyond : 0 < 256 * index + width
    beyond = omega (arith, some)

    wide : width ≤ 256
    wide = omega (arith, width_is)

    goes_on : index ≡ edge_index_of 0 0 → take 0 bytes ≡ []
    goes_on same = refl

    pub end_some : RecordsHad y z (Entries index width) bytes → IsEndHad digest edge known x z
    end_some there =
        let row = row_at edge 0 in
        let next = bundles.next digest empty_tip index width some wide known is beyond bytes row v goes_on in
        let new = bundles.new_bundle digest empty_tip index width some wide known is beyond bytes row v goes_on in
        record {
          next = next;
          gathers = bundles.gathers_bundle digest empty_tip index width some wide known is beyond bytes row v goes_on x y z kept puts;
          size_is = bundles.long_next digest empty_tip index width some wide known is beyond bytes row v goes_on
              ∙ (ap (λ w. 256 * index + w) width_is ∙ whole_size);
          row_is = bundles.row_is digest empty_tip index width some wide known is beyond bytes row v goes_on
              ∙ ap (λ w. level_row digest next 0 (256 * index) w) width_is;
          holds = λ positive. subst (λ w. RecordsHad x z (Entries index w) (true_bytes digest next (Entries index w))) width_is
              (subst (λ b. RecordsHad x z (Entries index width) b) new.bytes_are
              (had_earlier x y z [] (Entries index width) bytes (kept_adds x y kept) there));
        }

-- the partial bundle that was taken is true
pub end_true : (digest : List ℕ → List ℕ) → IsDigest digest → (log : List (List ℕ)) (may : Path → List ℕ → Type 0) →
    AreEndsClear digest log may → (edge : Edge) → HasWidths edge → IsEdgeTrue digest log edge → (index width : ℕ) (bytes : List ℕ)
    (row : List (List ℕ)) → index ≡ edge_index_of edge.size 0 → row ≡ row_at edge 0 → width ≡ length row → 1 ≤ width →
    HasLeaves digest width bytes row → BeginsBundle may index bytes → IsNewFile digest 0 log (Entries index width, bytes)
end_true digest hash log may clear edge widths is index width bytes row at row_is wide some v taken =
    let clean = clear index width bytes v.entries taken v.is_bundle in
    let w : width ≡ width_of edge.size 0 = wide ∙ (ap length row_is ∙ widths 0 (omega arith)) in
    let h : 256 * edge_index_of edge.size 0 + width_of edge.size 0 ≡ edge.size / 1 = hashes_of edge.size 0 in
    let same = edge_bundle_true digest hash log edge widths is index width bytes row at row_is wide v clean in
    record {
      new = never_within (Entries index width);
      within = record {
        level_fits = omega arith;
        some = some;
        upto = omega (arith, w);
        within = omega (arith, h, at, w, is.size_is);
      };
      bytes_are = v.is_bundle.text ∙ ap bundle_text same;
    }
