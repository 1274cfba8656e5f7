-- The tip of an empty copy. Each row and each bundle begins with its own, and no call for it ends by a conflict with a copy.
use Rattle.std.proofs.Common.{◌≡◌, ◌∙◌, ℕ, ◌*◌, ◌≤◌, List, [], length, take, get_or, Option, Some, None, refl, sym, ap, arith}
use Rattle.tlog_shape.specs.Edge.{edge_index_of, width_of}
use Rattle.tlog_hash.specs.Rows.{level_row, part}
use Rattle.tlog_hash.specs.Tree.{mth}
use Rattle.tlog_hash.proofs.Trees.{mth-none}
use Rattle.tlog_tiles.specs.Bundle.{bundle_text}
use Rattle.tlog_tiles.specs.declared.paths.Path.TheVariants.{Checkpoint}
use Rattle.mirror_folders.specs.Shelf.{Put, RecordsRead}
use Rattle.mirror_model.specs.Heads.{IsHead}
use Rattle.copy_follow.specs.Conflicts.{HasConflict, IsConflict, IsFalseEmpty, WithCopy, WithEmpty}
use Rattle.copy_follow.specs.Found.{IsTipRead}
use Rattle.copy_follow.specs.Growing.{IsKnown, Tip}
use Rattle.copy_follow.specs.Suffices.{IsSpared}
use Rattle.copy_follow.specs.declared.bring_fault.BringFault.{BringFault}
use Rattle.copy_follow.specs.declared.bring_fault.BringFault.TheVariants as fault
use Rattle.copy_follow.proofs.WholeMoments.{no_width}

module _ (digest : List ℕ → List ℕ) (tip : Tip) (is : IsKnown digest tip 0 []) where
  none : tip.size ≡ 0
  none = let size = is.size_is in omega arith

  width : (level : ℕ) → width_of tip.size level ≡ 0
  width level = ap (λ n. width_of n level) none ∙ no_width level

  row : (level : ℕ) → level ≤ 7 → get_or tip.rows level [] ≡ []
  row level low =
      is.rows_are level low
      ∙ ap (λ w. level_row digest [] level (256 * edge_index_of tip.size level) w) (width level)

  bundle : tip.bundle ≡ []
  bundle =
      is.bundle_is ∙ ap (λ w. bundle_text (part (256 * edge_index_of tip.size 0) w [])) (width 0)

  -- each row begins with the old one
  pub row_after : (level : ℕ) → level ≤ 7 → (r : List (List ℕ)) → (P : Type 0) →
      ((length (get_or tip.rows level []) ≡ width_of tip.size level) → (length (get_or tip.rows level []) ≤ length r) →
      (take (length (get_or tip.rows level [])) r ≡ get_or tip.rows level []) → P) → P
  row_after level low r P f =
      let empty = row level low in
      let zero : length (get_or tip.rows level []) ≡ 0 = ap length empty in
      f (zero ∙ sym (width level)) (omega (arith, zero)) (ap (λ n. take n r) zero ∙ sym empty)

  -- each bundle begins with the old one
  pub bundle_after : (bytes : List ℕ) → (P : Type 0) →
      ((length tip.bundle ≤ length bytes) → (take (length tip.bundle) bytes ≡ tip.bundle) → P) → P
  bundle_after bytes P f =
      let zero : length tip.bundle ≡ 0 = ap length bundle in
      f (omega (arith, zero)) (ap (λ n. take n bytes) zero ∙ sym bundle)

spared_none : (e : BringFault) → IsSpared e → IsConflict e → ⊥
spared_none fault.BadCheckpoint s c = c
spared_none fault.CopyDamaged s c = c
spared_none fault.NotLarger s c = c
spared_none fault.Contradiction s c = s
spared_none fault.Collision s c = s
spared_none fault.NoFile s c = c
spared_none fault.Source s c = c
spared_none fault.CopyInUse s c = c
spared_none fault.ShelfFault s c = c
spared_none fault.OutOfMemory s c = c

-- a conflict with a log without entries
pub false_empty : (digest : List ℕ → List ℕ) (size : ℕ) (root : List ℕ) (e : BringFault) → size ≡ 0 →
    (root ≡ mth digest [] → IsSpared e) → IsConflict e → IsFalseEmpty digest size root
false_empty digest size root e none so conflict =
    (none, λ same. spared_none e (so (same ∙ sym (mth-none digest))) conflict)

-- the cause of a conflict
pub has_conflict : (digest : List ℕ → List ℕ) (origin note : List ℕ) (x : Option (List Put)) (tip : Tip) (size : ℕ)
    (root : List ℕ) (e : BringFault) → IsTipRead digest origin x tip → IsHead note origin size root →
    (IsKnown digest tip 0 [] → IsConflict e → IsFalseEmpty digest size root) → IsConflict e →
    HasConflict digest origin note x
has_conflict digest origin note x tip size root e t head so conflict = by tip.checkpoint refl t.checkpoint
  where
    by : (found : Option (List ℕ)) → tip.checkpoint ≡ found → RecordsRead x Checkpoint found →
        HasConflict digest origin note x
    by None is read = WithEmpty size root head (so (t.known is) conflict)
    by (Some found) is read = WithCopy found read
