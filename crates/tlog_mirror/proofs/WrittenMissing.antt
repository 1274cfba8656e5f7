-- The lines of missing paths that were written are those of a view.
use Rattle.std.proofs.Common.{◌≡◌, ℕ, ◌^◌, ◌≤◌, List, [], ◌∷◌, ◌++◌, refl, ap, Bool, Option, Some}
use Rattle.std.specs.Prelude.{◌↔◌, ◌≢◌, IsTrue, Ok, Err}
use Rattle.std.specs.Io.KnownBytes.{Appends, Keeps}
use Rattle.byte_streams.specs.Streams.{AppendsPrefix}
use Rattle.byte_streams.specs.declared.fault.StreamFault.{StreamFault}
use Rattle.byte_streams.specs.declared.fault.StreamFault.TheVariants.{ReadFault, WriteFault, OutOfMemory}
use Rattle.tlog_tiles.specs.Path.{path_text}
use Rattle.tlog_tiles.specs.declared.paths.Path.{Path}
use Rattle.node_store.specs.Strings.{NoClash}
use Rattle.mirror_model.specs.Heads.{HasHead}
use Rattle.mirror_model.specs.Texts.{missing_text, IsMissingText}
use Rattle.mirror_model.specs.View.{View}
use Rattle.mirror_trees.specs.Levels.{ListsLevels}
use Rattle.mirror_trees.proofs.LevelPaths.{some_levels, all_missing}
use Rattle.tlog_mirror.specs.MissingWritten.{WritesMissing}

module _ (digest : List ℕ → List ℕ) (v : View) (size : ℕ) (root : List ℕ) where
  module _ (head : HasHead v size root) (clean : NoClash digest v.strings) (small : size ≤ 256 ^ 8) where
    text_of : (paths : List Path) → ListsLevels digest v.strings size root 8 paths →
        IsMissingText digest v size root (missing_text paths)
    text_of paths lists =
        let all = all_missing digest v.strings size root clean small paths lists in
        record { head = head; paths = paths; are_missing = record { sorted = all.sorted; exact = all.exact }; is = refl }

    module _ (old new : Option (List ℕ)) where
      pub whole : (any : Bool) →
          ((paths : List Path) → ListsLevels digest v.strings size root 8 paths → Appends old new (missing_text paths)) →
          ((paths : List Path) → ListsLevels digest v.strings size root 8 paths → IsTrue any ↔ (paths ≢ [])) →
          WritesMissing digest v size root old new (Ok (Some any))
      whole any ok says =
          let all = some_levels digest v.strings size root 8 in
          let s = says all.paths all.lists in
          record {
            text = missing_text all.paths;
            is_text = text_of all.paths all.lists;
            written = ok all.paths all.lists;
            says = (λ h e. s.0 h (no_text all.paths e), λ some. s.1 (λ e. some (ap missing_text e)));
          }
        where
          no_line : (a b : List ℕ) → (a ++ 10 ∷ []) ++ b ≡ [] → ⊥
          no_line [] b e = cc e
          no_line (x ∷ a) b e = cc e

          no_text : (paths : List Path) → missing_text paths ≡ [] → paths ≡ []
          no_text [] e = refl
          no_text (path ∷ paths) e = absurd (no_line (path_text path) (missing_text paths) e)

      pub failed : (f : StreamFault) →
          (f ≡ WriteFault → (paths : List Path) → ListsLevels digest v.strings size root 8 paths →
          AppendsPrefix old new (missing_text paths)) →
          (f ≡ OutOfMemory → Keeps old new) → (f ≡ ReadFault → ⊥) → WritesMissing digest v size root old new (Err f)
      failed ReadFault err memory other = absurd (other refl)
      failed OutOfMemory err memory other = memory refl
      failed WriteFault err memory other =
          let all = some_levels digest v.strings size root 8 in
          record {
            text = missing_text all.paths;
            is_text = text_of all.paths all.lists;
            written = err refl all.paths all.lists;
          }
