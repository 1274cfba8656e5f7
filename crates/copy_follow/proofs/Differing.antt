-- Rows and bundles that differ from those of a copy.
use Rattle.std.proofs.Common.{◌≡◌, ◌≢◌, ◌⊎◌, inl, inr, All, ℕ, ◌+◌, ◌-◌, ◌*◌, ◌/◌, ◌%◌, ◌<◌, ◌≤◌, List, [], ◌∷◌, length, get_or, take, Option, Some, None, refl, sym, subst, ap, ◌∙◌, arith}
use Rattle.tlog_shape.specs.Edge.{edge_index_of, width_of}
use Rattle.std.specs.Prelude.{IfSome, IsNone}
use Rattle.std.proofs.lemmas.List.{length-map}
use Rattle.std.proofs.lemmas.List.Elements.{All-map}
use Rattle.tlog_hash.specs.Tree.{fold_of, leaf_hash}
use Rattle.mirror_model.specs.Strings.{IsDigest}
use Rattle.log_reader.specs.Verified.{HasLeaves}
use Rattle.mirror_model.specs.Heads.{IsHead}
use Rattle.mirror_folders.specs.Shelf.{Put}
use Rattle.log_reader.specs.EdgeRows.{Edge, row_at}
use Rattle.log_reader.specs.Ways.{AreHashesOf, IsRowUnder, IsShownRow}
use Rattle.copy_follow.specs.Conflicts.{IsNoConflict}
use Rattle.copy_follow.specs.Differing.{ByEmpty, ByTree, DiffersBy, HasOtherRow, IsConflictOf, IsExplained, IsShownHash, OfEmpty, OfTree}
use Rattle.copy_follow.specs.Found.{IsTipRead}
use Rattle.copy_follow.specs.Growing.{Tip}
use Rattle.copy_follow.specs.declared.bring_fault.BringFault.{BringFault}
use Rattle.copy_follow.specs.declared.bring_fault.BringFault.TheVariants.{BadCheckpoint, CopyDamaged, NotLarger}
use Rattle.copy_follow.specs.declared.bring_fault.BringFault.TheVariants.{Contradiction, Collision, NoFile, Source, CopyInUse}
use Rattle.copy_follow.specs.declared.bring_fault.BringFault.TheVariants.{ShelfFault, OutOfMemory}

-- no conflict has nothing to differ
pub differs_none : (digest : List ℕ → List ℕ) (edge : Edge) (tip : Tip) (e : BringFault) → IsNoConflict e →
    DiffersBy digest edge tip e
differs_none digest edge tip BadCheckpoint h = tt
differs_none digest edge tip CopyDamaged h = tt
differs_none digest edge tip NotLarger h = tt
differs_none digest edge tip Contradiction h = absurd h
differs_none digest edge tip Collision h = absurd h
differs_none digest edge tip NoFile h = tt
differs_none digest edge tip Source h = tt
differs_none digest edge tip CopyInUse h = tt
differs_none digest edge tip ShelfFault h = tt
differs_none digest edge tip OutOfMemory h = tt

-- the leaf hashes of a full bundle are 256 hashes
pub leaf_hashes : (digest : List ℕ → List ℕ) → IsDigest digest → (bytes : List ℕ) (row : List (List ℕ)) →
    HasLeaves digest 256 bytes row → AreHashesOf 256 row
leaf_hashes digest hash bytes row v =
    let es = v.entries in
    record {
      count = ap length v.row_is ∙ (length-map es (leaf_hash digest) ∙ v.is_bundle.count);
      sizes = subst (λ (r : List (List ℕ)). All (λ (h : List ℕ). length h ≡ 32) r) (sym v.row_is)
          (All-map (λ (h : List ℕ). length h ≡ 32) (leaf_hash digest) es (λ k d p. hash _));
    }

-- a row that begins with the copy's, if the copy ends there
pub row_start : (tip : Tip) (level index first : ℕ) (row : List (List ℕ)) → index ≡ edge_index_of tip.size level →
    ((index ≡ edge_index_of tip.size level) × (first ≡ width_of tip.size level) × (take first row ≡ get_or tip.rows level []))
    ⊎ ((index ≢ edge_index_of tip.size level) × (first ≡ 0)) →
    take (width_of tip.size level) row ≡ get_or tip.rows level []
row_start tip level index first row at (inl h) = ap (λ n. take n row) (sym h.1) ∙ h.2
row_start tip level index first row at (inr h) = absurd (h.0 at)

pub row_some : (tip : Tip) (level index : ℕ) (row : List (List ℕ)) (o : Option ℕ) → ¬ IsNone o → index ≡ edge_index_of tip.size level →
    IfSome o (λ first. ((index ≡ edge_index_of tip.size level) × (first ≡ width_of tip.size level)
    × (take first row ≡ get_or tip.rows level [])) ⊎ ((index ≢ edge_index_of tip.size level) × (first ≡ 0))) →
    take (width_of tip.size level) row ≡ get_or tip.rows level []
row_some tip level index row None some at h = absurd (some refl)
row_some tip level index row (Some first) some at h = row_start tip level index first row at h

module _ (digest : List ℕ → List ℕ) (edge : Edge) where
  -- a shown row that does not begin with the copy's
  pub other_row : (tip : Tip) (level index : ℕ) (row : List (List ℕ)) → index ≡ edge_index_of tip.size level →
      IsShownRow digest edge level index row →
      (length (get_or tip.rows level []) ≡ width_of tip.size level → length (get_or tip.rows level []) ≤ length row →
      ¬ (take (length (get_or tip.rows level [])) row ≡ get_or tip.rows level [])) → HasOtherRow digest edge tip
  other_row tip level index row at shown other = record {
    level = level;
    row = row;
    shown = subst (λ i. IsShownRow digest edge level i row) at shown;
    other = other;
  }

  -- each row of the edge is shown
  pub edge_shown : (level : ℕ) → level ≤ 7 → IsShownRow digest edge level (edge_index_of edge.size level) (row_at edge level)
  edge_shown level low = record { way = []; is_way = (low, refl); row_is = refl }

  -- each hash of a shown row is shown
  pub child_shown : (level index i : ℕ) (row : List (List ℕ)) → 1 ≤ level → length row ≤ 256 → i < length row →
      IsShownRow digest edge level index row → IsShownHash digest edge (level - 1) (256 * index + i) (get_or row i [])
  child_shown level index i row some wide lt shown =
      let up : level ≡ level - 1 + 1 = omega arith in
      let at : index ≡ (256 * index + i) / 256 = omega (arith, lt, wide) in
      let rest : i ≡ (256 * index + i) % 256 = omega (arith, lt, wide) in
      record {
        above = row;
        shown = subst (λ l. IsShownRow digest edge l ((256 * index + i) / 256) row) up
            (subst (λ k. IsShownRow digest edge level k row) at shown);
        within = subst (λ k. k < length row) rest lt;
        is = ap (λ k. get_or row k []) rest;
      }

  -- the row that folds to a shown hash is shown
  pub under_shown : (level index : ℕ) (hash : List ℕ) (row : List (List ℕ)) → AreHashesOf 256 row → fold_of digest row ≡ hash →
      IsShownHash digest edge level index hash → IsShownRow digest edge level index row
  under_shown level index hash row hashes folds is =
      let above = is.shown.row_is in
      let under : IsRowUnder digest is.above (index % 256) row = record { hashes = hashes; within = is.within; folds = folds ∙ is.is } in
      record {
        way = row ∷ is.shown.way;
        is_way = (subst (λ (a : List (List ℕ)). IsRowUnder digest a (index % 256) row) above under, is.shown.is_way);
        row_is = refl;
      }

pub explained : (digest : List ℕ → List ℕ) (origin note : List ℕ) (puts : Option (List Put)) (tip : Tip) (size : ℕ) (root : List ℕ)
    (e : BringFault) → IsTipRead digest origin puts tip → IsHead note origin size root → IsConflictOf digest tip size root e →
    IsExplained digest origin note puts e
explained digest origin note puts tip size root e read head (OfTree edge leads differs) =
    ByTree tip read size root head edge leads differs
explained digest origin note puts tip size root e read head (OfEmpty false is) = ByEmpty size root head false is
