-- The files that are read of a copy's edge are the copy's.
use Rattle.std.proofs.Common.{◌≡◌, ℕ, suc, ◌+◌, ◌-◌, ◌*◌, ◌≤◌, ◌<◌, List, [], ◌∷◌, ◌++◌, length, get_or, Option, Some, None}
use Rattle.std.proofs.Common.{refl, sym, ap, subst, ◌∙◌, arith, inl, inr}
use Rattle.std.specs.List.{Contains}
use Rattle.std.proofs.Math.Seq.{get_or-append_seam}
use Rattle.std.proofs.lemmas.Bool.{cases_lt}
use Rattle.std.proofs.lemmas.List.{get_or-append_right, length-append, nil_from_length}
use Rattle.tlog_shape.specs.Edge.{edge_index_of, IsTile, width_of}
use Rattle.tlog_hash.specs.Rows.{level_row, part}
use Rattle.tlog_hash.specs.Tree.{mth}
use Rattle.tlog_tiles.specs.declared.paths.Path.{Path}
use Rattle.tlog_tiles.specs.declared.paths.Path.TheVariants.{Checkpoint, Tile, Entries}
use Rattle.tlog_tiles.specs.Bundle.{bundle_text}
use Rattle.tlog_tiles.specs.Row.{IsRow}
use Rattle.tlog_tiles.specs.Tiles.{bundle_bytes, tile_bytes}
use Rattle.tlog_tiles.proofs.RowLemmas.{row_one}
use Rattle.tlog_tiles.proofs.TileLemmas.{served_is_read}
use Rattle.mirror_model.specs.Heads.{IsHead}
use Rattle.mirror_model.specs.Strings.{IsDigest}
use Rattle.mirror_model.proofs.HeadNotes.{head_once}
use Rattle.mirror_folders.specs.Shelf.{HasPut, Put, Stands}
use Rattle.mirror_folders.proofs.Standing.{put_has}
use Rattle.mirror_sources.specs.Files.{full_of}
use Rattle.mirror_folders.specs.Partial.{IsCutOfRead, IsFullCut, IsOfRead, IsReadPartial}
use Rattle.log_reader.specs.Holding.{GoesOn}
use Rattle.copy_places.proofs.Cutting.{cut_true, true_cut}
use Rattle.copy_follow.specs.Found.{IsBundleRead, IsEdgeRead, IsRowRead, IsTipRead}
use Rattle.copy_follow.specs.Pruned.{HasGivenWay, IsPrunedCopy}
use Rattle.copy_follow.proofs.PrunedFiles.{copies_are_pruned, file_within}
use Rattle.log_reader.specs.Holding.{IsTreeFile}
use Rattle.mirror_sources.specs.Honest.{true_bytes}
use Rattle.copy_follow.specs.Growing.{IsKnown, Tip}
use Rattle.mirror_folders.specs.Shelf.{RecordsRead}

-- ---- one file at a path

module _ (puts : List Put) (path : Path) (a b : List ℕ) where
  later_put : (p : Stands puts path a) (q : Stands puts path b) → length p.before < length q.before →
      Contains p.after (path, b)
  later_put p q lt =
      let d : Put = (path, b) in
      let k = length p.before in
      let k' = length q.before in
      let i = k' - suc k in
      let longs : suc (length p.after) + k ≡ suc (length q.after) + k' = omega (
        arith,
        ap length (sym p.puts_are ∙ q.puts_are),
        length-append p.before ((path, a) ∷ p.after),
        length-append q.before ((path, b) ∷ q.after),
      ) in
      let gap : k' - k ≡ suc i = omega arith in
      let there : get_or ((path, a) ∷ p.after) (k' - k) d ≡ d =
      sym (get_or-append_right p.before ((path, a) ∷ p.after) k k' d refl (omega arith))
      ∙ (ap (λ (l : List Put). get_or l k' d) (sym p.puts_are ∙ q.puts_are)
      ∙ get_or-append_seam q.before d q.after d) in
      (i, omega (arith, longs, lt), ap (λ (j : ℕ). get_or ((path, a) ∷ p.after) j d) (sym gap) ∙ there)

pub stands_one : (puts : List Put) (path : Path) (a b : List ℕ) → Stands puts path a → Stands puts path b → a ≡ b
stands_one puts path a b p q = elim (cases_lt (length p.before) (length q.before)) [
  | inl first ↦ sym (p.kept b (later_put puts path a b p q first))
  | inr upto ↦ elim (cases_lt (length q.before) (length p.before)) [
    | inl second ↦ q.kept a (later_put puts path b a q p second)
    | inr from ↦
        let d : Put = (path, b) in
        let k = length p.before in
        let same : k ≡ length q.before = omega arith in
        let pair : (path, a) ≡ d =
        sym (get_or-append_seam p.before (path, a) p.after d)
        ∙ (ap (λ (l : List Put). get_or l k d) (sym p.puts_are ∙ q.puts_are)
        ∙ (ap (λ (j : ℕ). get_or (q.before ++ d ∷ q.after) j d) same ∙ get_or-append_seam q.before d q.after d)) in
        ap (λ (put : Put). put.1) pair
  ]
]

-- a file on the shelf was put there
pub stands_has : (puts : List Put) (path : Path) (bytes : List ℕ) → Stands puts path bytes → HasPut puts path
stands_has puts path bytes s = put_has puts path bytes (
  length s.before,
  omega (arith, ap length s.puts_are, length-append s.before ((path, bytes) ∷ s.after)),
  ap (λ (l : List Put). get_or l (length s.before) (path, bytes)) s.puts_are
      ∙ get_or-append_seam s.before (path, bytes) s.after (path, bytes),
)

-- ---- the tip of a copy

module _ (digest : List ℕ → List ℕ) (hash : IsDigest digest) (origin note : List ℕ) (entries : List (List ℕ))
    (held : List Put) (copy : IsPrunedCopy digest origin note entries held) where
  abbrev n : ℕ
  n = length entries

  pub note_read : (bytes : List ℕ) → Stands held Checkpoint bytes → bytes ≡ note
  note_read bytes there = stands_one held Checkpoint bytes note there copy.note_stands

  pub size_read : (bytes : List ℕ) (size : ℕ) (root : List ℕ) → Stands held Checkpoint bytes →
      IsHead bytes origin size root → size ≡ n
  size_read bytes size root there head =
      (head_once note origin origin size n root (mth digest entries)
      (subst (λ b. IsHead b origin size root) (note_read bytes there) head) copy.is_head).size_is

  stands_read : (path : Path) (bytes : List ℕ) (found : Option (List ℕ)) → Stands held path bytes →
      IsReadPartial (Some held) path found → found ≡ Some bytes
  stands_read path bytes found stands h = by h.own h.read h.gives
    where
      by : (own : Option (List ℕ)) → RecordsRead (Some held) path own → IsOfRead (Some held) path own found → found ≡ Some bytes
      by None read gives = absurd (read (stands_has held path bytes stands))
      by (Some own) read gives = gives ∙ ap (λ (b : List ℕ). Some b) (stands_one held path own bytes read stands)

  -- the file gave way to its full one, which was read
  module _ (path : Path) (file : IsTreeFile n path) (way : HasGivenWay digest entries held path) where
    way_cut : (full : List ℕ) → Stands held (full_of path) full → (found : Option (List ℕ)) → IsFullCut path full found →
        found ≡ Some (true_bytes digest entries path)
    way_cut full read found cut =
        by found cut
        (subst (GoesOn path (true_bytes digest entries path)) (stands_one held (full_of path) way.full full way.stands read) way.begins)
      where
        by : (o : Option (List ℕ)) → IsFullCut path full o → GoesOn path (true_bytes digest entries path) full →
            o ≡ Some (true_bytes digest entries path)
        by None none goes =
            let cut = true_cut digest hash entries copy.short path full (file_within n path file) goes in
            absurd (none (true_bytes digest entries path) cut)
        by (Some part) is goes = ap (λ (b : List ℕ). Some b)
            (cut_true digest hash entries copy.short path full part (file_within n path file) goes is)

    way_full : (full found : Option (List ℕ)) → RecordsRead (Some held) (full_of path) full → IsCutOfRead (Some held) path full found →
        found ≡ Some (true_bytes digest entries path)
    way_full None found read gives = absurd (read (stands_has held (full_of path) way.full way.stands))
    way_full (Some full) found read gives = way_cut full read found gives

    way_read : (found : Option (List ℕ)) → IsReadPartial (Some held) path found → found ≡ Some (true_bytes digest entries path)
    way_read found h = by h.own h.read h.gives
      where
        by : (own : Option (List ℕ)) → RecordsRead (Some held) path own → IsOfRead (Some held) path own found →
            found ≡ Some (true_bytes digest entries path)
        by None read gives = way_full gives.full found gives.read gives.gives
        by (Some own) read gives = absurd (way.gone (stands_has held path own read))

  -- the bytes that are read at the path of a file are that file, also if it was replaced
  pub file_read : (path : Path) (found : Option (List ℕ)) → IsTreeFile n path → IsReadPartial (Some held) path found →
      found ≡ Some (true_bytes digest entries path)
  file_read path found file h = elim (copy.files path file) [
    | inl stands ↦ stands_read path (true_bytes digest entries path) found stands h
    | inr way ↦ way_read path file way found h
  ]

  -- the partial tile and the partial bundle at the edge
  pub edge_file : (level : ℕ) → 1 ≤ width_of n level → IsTile n level (edge_index_of n level) (width_of n level)
  edge_file level some = inr (record { index_is = refl; width_is = refl; some = omega (arith, some) })

  row_true : (level : ℕ) (bytes : List ℕ) (row : List (List ℕ)) → IsRow (width_of n level) bytes row → level ≤ 7 →
      1 ≤ width_of n level →
      IsReadPartial (Some held) (Tile level (edge_index_of n level) (width_of n level)) (Some bytes) →
      row ≡ level_row digest entries level (256 * edge_index_of n level) (width_of n level)
  row_true level bytes row is upto some there =
      let index = edge_index_of n level in
      let width = width_of n level in
      let found : Some bytes ≡ Some (tile_bytes digest entries level index width) =
      file_read (Tile level index width) (Some bytes) (upto, edge_file level some) there in
      let bytes_are : bytes ≡ tile_bytes digest entries level index width = cc found in
      let true_row = (served_is_read digest hash entries copy.short).tile level index width in
      row_one row (level_row digest entries level (256 * index) width) is.sizes true_row.sizes
      (is.count ∙ sym true_row.count) (sym is.text ∙ bytes_are)

  no_row : (level : ℕ) (row : List (List ℕ)) → length row ≡ width_of n level → width_of n level ≡ 0 →
      row ≡ level_row digest entries level (256 * edge_index_of n level) (width_of n level)
  no_row level row long none =
      nil_from_length row (long ∙ none)
      ∙ ap (λ w. level_row digest entries level (256 * edge_index_of n level) w) (sym none)

  pub row_read : (level : ℕ) (row : List (List ℕ)) → level ≤ 7 → IsRowRead (Some held) n level row →
      row ≡ level_row digest entries level (256 * edge_index_of n level) (width_of n level)
  row_read level row upto r = elim (cases_lt 0 (width_of n level)) [
    | inl some ↦ row_true level r.bytes row r.is_row upto (omega arith) (r.stands (omega arith))
    | inr none ↦ no_row level row r.is_row.count (omega arith)
  ]

  bundle_read : (bytes : List ℕ) → IsBundleRead (Some held) n bytes →
      bytes ≡ bundle_text (part (256 * edge_index_of n 0) (width_of n 0) entries)
  bundle_read bytes r = elim (cases_lt 0 (width_of n 0)) [
    | inl some ↦
        let index = edge_index_of n 0 in
        let width = width_of n 0 in
        let found : Some bytes ≡ Some (bundle_bytes entries index width) =
        file_read (Entries index width) (Some bytes) (edge_file 0 (omega arith)) (r.stands (omega arith)) in
        cc found
    | inr none ↦
        let zero_wide : width_of n 0 ≡ 0 = omega arith in
        r.none zero_wide
        ∙ ap (λ w. bundle_text (part (256 * edge_index_of n 0) w entries)) (sym zero_wide)
  ]

  pub tip_known : (tip : Tip) (size : ℕ) → size ≡ n → tip.size ≡ size →
      ((level : ℕ) → level ≤ 7 → IsRowRead (Some held) size level (get_or tip.rows level [])) →
      IsBundleRead (Some held) size tip.bundle → IsKnown digest tip 0 entries
  tip_known tip size is tip_size rows bundle =
      let whole : tip.size ≡ n = tip_size ∙ is in
      record {
        size_is = omega (arith, whole);
        short = copy.short;
        rows_are = λ level upto.
            subst (λ k. get_or tip.rows level [] ≡ level_row digest entries level (256 * edge_index_of k level) (width_of k level))
            (sym whole) (row_read level (get_or tip.rows level []) upto
            (subst (λ k. IsRowRead (Some held) k level (get_or tip.rows level [])) is (rows level upto)));
        bundle_is =
            subst (λ k. tip.bundle ≡ bundle_text (part (256 * edge_index_of k 0) (width_of k 0) entries)) (sym whole)
            (bundle_read tip.bundle (subst (λ k. IsBundleRead (Some held) k tip.bundle) is bundle));
      }

-- the tip of the files that were read from a shelf
pub tip_read : (digest : List ℕ → List ℕ) → IsDigest digest → (origin : List ℕ) (puts : Option (List Put)) (tip : Tip)
    (checkpoint : List ℕ) (size : ℕ) (root : List ℕ) → tip.checkpoint ≡ Some checkpoint →
    RecordsRead puts Checkpoint (Some checkpoint) → IsHead checkpoint origin size root →
    IsEdgeRead puts size (record { size = tip.size; rows = tip.rows }) → IsBundleRead puts size tip.bundle →
    IsTipRead digest origin puts tip
tip_read digest hash origin puts tip checkpoint size root is there head edge bundle = record {
  checkpoint = subst (λ answer. RecordsRead puts Checkpoint answer) (sym is) there;
  copy = λ held puts_are note entries copy.
      tip_of held puts_are note entries (copies_are_pruned digest origin note entries held copy);
  pruned = tip_of;
  empty = λ e. absurd (cc (is, e));
  known = λ e. absurd (cc (is, e));
}
  where
    tip_of : (held : List Put) → puts ≡ Some held → (note : List ℕ) (entries : List (List ℕ)) →
        IsPrunedCopy digest origin note entries held → IsKnown digest tip 0 entries
    tip_of held puts_are note entries copy =
        let stands : Stands held Checkpoint checkpoint =
        subst (λ p. RecordsRead p Checkpoint (Some checkpoint)) puts_are there in
        tip_known digest hash origin note entries held copy tip size
        (size_read digest hash origin note entries held copy checkpoint size root stands head) edge.size_is
        (λ level upto. subst (λ p. IsRowRead p size level (get_or tip.rows level [])) puts_are (edge.rows_are level upto))
        (subst (λ p. IsBundleRead p size tip.bundle) puts_are bundle)
