-- CopyDamaged does not come for a copy, or for a shelf without a checkpoint.
use Rattle.std.proofs.Common.{◌≡◌, ◌⊎◌, inl, inr, ℕ, ◌+◌, ◌*◌, ◌^◌, ◌<◌, ◌≤◌, List, length, Option, Some, None, Vec, Global, sym, ap, subst, ◌∙◌, arith}
use Rattle.std.specs.Prelude.{IfSome, option_map}
use Rattle.tlog_shape.specs.Edge.{edge_index_of, width_of}
use Rattle.tlog_hash.specs.Rows.{level_row, part}
use Rattle.tlog_hash.specs.Tree.{mth}
use Rattle.tlog_hash.proofs.LeafRanges.{rows_of_leaves}
use Rattle.tlog_tiles.specs.declared.paths.Path.TheVariants.{Checkpoint, Tile, Entries}
use Rattle.tlog_tiles.specs.Row.{IsRow}
use Rattle.tlog_tiles.specs.Tiles.{IsWithin, bundle_bytes, tile_bytes}
use Rattle.tlog_tiles.proofs.EdgeLemmas.{hashes_of}
use Rattle.tlog_tiles.proofs.TileLemmas.{served_is_read}
use Rattle.mirror_model.specs.Heads.{IsHead}
use Rattle.mirror_model.specs.Strings.{IsDigest}
use Rattle.mirror_model.proofs.HeadNotes.{head_once}
use Rattle.mirror_sources.specs.Recorded.{KeepsRecord}
use Rattle.mirror_folders.specs.Shelf.{HasPut, Put, RecordsRead}
use Rattle.log_reader.specs.EdgeRows.{Edge, LeadsTo, RowIsTrue, hash_of_edge, row_at}
use Rattle.log_reader.specs.Verified.{HasLeaves}
use Rattle.log_reader.proofs.Prefixes.{true_rows_lead}
use Rattle.copy_follow.specs.Pruned.{IsPrunedCopy}
use Rattle.copy_follow.specs.Damaged.{HasOtherRoot, HasWrongBundle, HasWrongEdge, HasWrongRow, IsBundleWrong, IsDamaged, IsEdgeWrong, IsNoHead, IsRowWrong, IsTipWrong}
use Rattle.copy_follow.specs.Faults.{BlamesFrom, BlamesPlaces, IsOfNoPlace}
use Rattle.mirror_folders.specs.Partial.{IsReadPartial}
use Rattle.copy_follow.specs.Found.{IsEdgeRead}
use Rattle.copy_follow.specs.Growing.{Tip}
use Rattle.copy_follow.specs.declared.bring_fault.BringFault.{BringFault}
use Rattle.copy_follow.specs.declared.bring_fault.BringFault.TheVariants.{CopyDamaged, CopyInUse}
use Rattle.copy_places.specs.declared.places.Places.{Places}
use Rattle.copy_follow.proofs.Earlier.{kept_then}
use Rattle.mirror_folders.proofs.PartialFiles.{partial_before}
use Rattle.copy_follow.proofs.ShelfReads.{edge_before}
use Rattle.copy_follow.proofs.PrunedFiles.{copies_are_pruned}
use Rattle.copy_follow.proofs.TipReads.{edge_file, file_read, note_read, row_read, stands_has}

module _ (digest : List ℕ → List ℕ) (hash : IsDigest digest) (origin note : List ℕ) (entries : List (List ℕ))
    (held : List Put) (copy : IsPrunedCopy digest origin note entries held) where
  abbrev n : ℕ
  n = length entries

  small : n < 256 ^ 8
  small = let range = copy.is_head.is_checkpoint.in_range in omega (arith, range)

  row_there : (level : ℕ) → IsRowWrong (Some held) n level → ⊥
  row_there level w =
      let index = edge_index_of n level in
      let width = width_of n level in
      let found : w.found ≡ Some (tile_bytes digest entries level index width) =
      file_read digest hash origin note entries held copy (Tile level index width) w.found
      (w.upto, edge_file digest hash origin note entries held copy level w.some) w.found_is in
      let row = level_row digest entries level (256 * index) width in
      (subst (λ (o : Option (List ℕ)). IfSome o (λ b. (r : List (List ℕ)) → IsRow width b r → ⊥)) found w.no_row) row
      ((served_is_read digest hash entries copy.short).tile level index width)

  rows_true : (edge : Edge) → IsEdgeRead (Some held) n edge → (level : ℕ) → level ≤ 7 → RowIsTrue digest edge entries level
  rows_true edge r level upto =
      row_read digest hash origin note entries held copy level (row_at edge level) upto (r.rows_are level upto)
      ∙ ap (λ k. level_row digest entries level (256 * edge_index_of k level) (width_of k level)) (sym r.size_is)

  root_there : (edge : Edge) → IsEdgeRead (Some held) n edge → hash_of_edge digest edge ≡ mth digest entries
  root_there edge r = true_rows_lead digest edge entries (sym r.size_is) small (rows_true edge r)

  edge_there : IsEdgeWrong (Some held) n digest (mth digest entries) → ⊥
  edge_there (HasWrongRow level w) = row_there level w
  edge_there (HasOtherRoot edge r other) = other (root_there edge r)

  bundle_there : (edge : Edge) → IsEdgeRead (Some held) n edge → IsBundleWrong digest (Some held) edge → ⊥
  bundle_there edge r w =
      let m = edge.size in
      let index = edge_index_of n 0 in
      let width = width_of n 0 in
      let bytes = bundle_bytes entries index width in
      let some : 1 ≤ width = subst (λ k. 1 ≤ width_of k 0) r.size_is w.some in
      let read : IsReadPartial (Some held) (Entries index width) w.found =
      subst (λ k. IsReadPartial (Some held) (Entries (edge_index_of k 0) (width_of k 0)) w.found) r.size_is w.found_is in
      let found : w.found ≡ Some bytes = file_read digest hash origin note entries held copy (Entries index width) w.found
      (edge_file digest hash origin note entries held copy 0 some) read in
      let whole : 256 * index + width ≡ n = hashes_of n 0 ∙ omega arith in
      let within : IsWithin n (Entries index width) =
      record { level_fits = omega arith; some = some; upto = omega arith; within = omega (arith, whole) } in
      let row : row_at edge 0 ≡ level_row digest entries 0 (256 * index) width =
      row_read digest hash origin note entries held copy 0 (row_at edge 0) (omega arith) (r.rows_are 0 (omega arith)) in
      let leaves : HasLeaves digest width bytes (row_at edge 0) = record {
        entries = part (256 * index) width entries;
        is_bundle = (served_is_read digest hash entries copy.short).bundle index width within;
        row_is = row ∙ rows_of_leaves digest width (256 * index) entries (omega (arith, whole));
      } in
      let other = subst (λ (o : Option (List ℕ)). IfSome o (λ b. HasLeaves digest (width_of m 0) b (row_at edge 0) → ⊥)) found w.no_leaves in
      other (subst (λ k. HasLeaves digest (width_of k 0) bytes (row_at edge 0)) (sym r.size_is) leaves)

  not_wrong : IsTipWrong digest origin (Some held) → ⊥
  not_wrong (IsNoHead bytes there other) =
      other n (mth digest entries) (subst (λ b. IsHead b origin n (mth digest entries))
      (sym (note_read digest hash origin note entries held copy bytes there)) copy.is_head)
  not_wrong (HasWrongEdge bytes there size root head w) =
      let one = head_once note origin origin size n root (mth digest entries)
      (subst (λ b. IsHead b origin size root) (note_read digest hash origin note entries held copy bytes there) head) copy.is_head in
      edge_there (subst (λ k. IsEdgeWrong (Some held) k digest (mth digest entries)) one.size_is
      (subst (λ r. IsEdgeWrong (Some held) size digest r) one.root_is w))
  not_wrong (HasWrongBundle bytes there size root head edge r leads w) =
      let one = head_once note origin origin size n root (mth digest entries)
      (subst (λ b. IsHead b origin size root) (note_read digest hash origin note entries held copy bytes there) head) copy.is_head in
      bundle_there edge (subst (λ k. IsEdgeRead (Some held) k edge) one.size_is r) w

wrong_has : (digest : List ℕ → List ℕ) (origin : List ℕ) (held : List Put) → IsTipWrong digest origin (Some held) →
    HasPut held Checkpoint
wrong_has digest origin held (IsNoHead note there other) = stands_has held Checkpoint note there
wrong_has digest origin held (HasWrongEdge note there size root head w) = stands_has held Checkpoint note there
wrong_has digest origin held (HasWrongBundle note there size root head edge r leads w) = stands_has held Checkpoint note there

pub damaged : (digest : List ℕ → List ℕ) → IsDigest digest → (origin : List ℕ) (puts : Option (List Put)) →
    IsTipWrong digest origin puts → IsDamaged digest origin puts
damaged digest hash origin puts w = record {
  reason = w;
  no_copy = λ held is note entries copy.
      not_wrong digest hash origin note entries held (copies_are_pruned digest origin note entries held copy)
      (subst (λ p. IsTipWrong digest origin p) is w);
  no_pruned = λ held is note entries copy.
      not_wrong digest hash origin note entries held copy (subst (λ p. IsTipWrong digest origin p) is w);
  not_none = λ held is none. none (wrong_has digest origin held (subst (λ p. IsTipWrong digest origin p) is w));
}

-- ---- reads after a call that put nothing

pub row_wrong_before : (x y : Option (List Put)) (n level : ℕ) → KeepsRecord x y → IsRowWrong y n level → IsRowWrong x n level
row_wrong_before x y n level k w = record {
  upto = w.upto;
  some = w.some;
  found = w.found;
  found_is = partial_before x y k _ w.found w.found_is;
  no_row = w.no_row;
}

pub edge_wrong_before : (x y : Option (List Put)) (n : ℕ) (digest : List ℕ → List ℕ) (root : List ℕ) → KeepsRecord x y →
    IsEdgeWrong y n digest root → IsEdgeWrong x n digest root
edge_wrong_before x y n digest root k (HasWrongRow level w) = HasWrongRow level (row_wrong_before x y n level k w)
edge_wrong_before x y n digest root k (HasOtherRoot edge r other) = HasOtherRoot edge (edge_before x y n edge k r) other

bundle_wrong_before : (x y : Option (List Put)) (digest : List ℕ → List ℕ) (edge : Edge) → KeepsRecord x y →
    IsBundleWrong digest y edge → IsBundleWrong digest x edge
bundle_wrong_before x y digest edge k w = record {
  some = w.some;
  found = w.found;
  found_is = partial_before x y k _ w.found w.found_is;
  no_leaves = w.no_leaves;
}

-- the bundle that was read is wrong
pub bundle_wrong : (digest : List ℕ → List ℕ) (x : Option (List Put)) (edge : Edge) (index width : ℕ) (row : List (List ℕ))
    (given : Option (Vec ℕ Global)) → index ≡ edge_index_of edge.size 0 → width ≡ width_of edge.size 0 → row ≡ row_at edge 0 →
    1 ≤ width → IsReadPartial x (Entries index width) (option_map (λ v. v.items) given) →
    IfSome given (λ b. HasLeaves digest width b.items row → ⊥) → IsBundleWrong digest x edge
bundle_wrong digest x edge index width row given at wide row_is some read other = record {
  some = omega (arith, some, wide);
  found = option_map (λ v. v.items) given;
  found_is = subst (λ k. IsReadPartial x (Entries k (width_of edge.size 0)) (option_map (λ v. v.items) given)) at
      (subst (λ k. IsReadPartial x (Entries index k) (option_map (λ v. v.items) given)) wide read);
  no_leaves = by_answer given (subst (λ k. IfSome given (λ b. HasLeaves digest k b.items (row_at edge 0) → ⊥)) wide
      (subst (λ (r : List (List ℕ)). IfSome given (λ b. HasLeaves digest width b.items r → ⊥)) row_is other));
}
  where
    by_answer : (o : Option (Vec ℕ Global)) →
        IfSome o (λ b. HasLeaves digest (width_of edge.size 0) b.items (row_at edge 0) → ⊥) →
        IfSome (option_map (λ v. v.items) o) (λ b. HasLeaves digest (width_of edge.size 0) b (row_at edge 0) → ⊥)
    by_answer None h = tt
    by_answer (Some v) h = h

module _ (digest : List ℕ → List ℕ) (hash : IsDigest digest) (origin : List ℕ) (x y : Option (List Put)) (kept : KeepsRecord x y)
    (note : List ℕ) (there : RecordsRead x Checkpoint (Some note)) where
  pub damaged_head : ((size : ℕ) (root : List ℕ) → IsHead note origin size root → ⊥) → IsDamaged digest origin x
  damaged_head other = damaged digest hash origin x (IsNoHead note there other)

  module _ (size : ℕ) (root : List ℕ) (head : IsHead note origin size root) where
    pub damaged_edge : IsEdgeWrong y size digest root → IsDamaged digest origin x
    damaged_edge w = damaged digest hash origin x
        (HasWrongEdge note there size root head (edge_wrong_before x y size digest root kept w))

    pub damaged_bundle : (edge : Edge) → IsEdgeRead y size edge → LeadsTo digest size root edge → (z : Option (List Put)) →
        KeepsRecord y z → (e : BringFault) → ((e ≡ CopyDamaged) × IsBundleWrong digest z edge) ⊎ IsOfNoPlace e →
        ((e ≡ CopyDamaged) × IsDamaged digest origin x) ⊎ IsOfNoPlace e
    damaged_bundle edge r leads z still e (inr h) = inr h
    damaged_bundle edge r leads z still e (inl h) = inl (
      h.0,
      damaged digest hash origin x (HasWrongBundle note there size root head edge (edge_before x y size edge kept r) leads
          (bundle_wrong_before x z digest edge (kept_then x y z kept still) h.1)),
    )

-- ---- faults

-- CopyDamaged at the reading of the tip
pub tip_damaged : {Q P : Type 0} (e : BringFault) → ((e ≡ CopyInUse) × Q) ⊎ (((e ≡ CopyDamaged) × P) ⊎ IsOfNoPlace e) →
    e ≡ CopyDamaged → P
tip_damaged e (inl h) is = absurd (cc (h.0, is))
tip_damaged e (inr (inl h)) is = h.1
tip_damaged e (inr (inr h)) is = absurd (subst (λ (f : BringFault). IsOfNoPlace f) is h)

-- CopyDamaged does not come later
pub not_damaged_later : {P : Type 0} (digest : List ℕ → List ℕ) {S : Type 0} (places : Places S) (n : ℕ) (tip : Tip)
    (puts : Option (List Put)) (e : BringFault) → BlamesFrom digest places n tip puts e → e ≡ CopyDamaged → P
not_damaged_later digest places n tip puts e (inl h) is = absurd (cc (h.0, is))
not_damaged_later digest places n tip puts e (inr (inl h)) is = absurd (cc (h.0, is))
not_damaged_later digest places n tip puts e (inr (inr h)) is =
    absurd (subst (λ (f : BringFault). BlamesPlaces places f) is h)
