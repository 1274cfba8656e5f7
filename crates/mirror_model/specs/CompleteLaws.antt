-- Laws of complete tree heads: each has one list of entries, and keeps it.
use Rattle.std.specs.Prelude.{◌≡◌, ◌↔◌, ℕ, List, length}
use Rattle.tlog_hash.specs.Tree.{mth}
use Rattle.node_store.specs.Strings.{NoClash}
use Rattle.tlog_tiles.specs.declared.paths.Path.{Path}
use Rattle.mirror_model.specs.View.{View, IsSubview}
use Rattle.mirror_model.specs.Strings.{IsDigest}
use Rattle.mirror_model.specs.Heads.{HasHead}
use Rattle.mirror_model.specs.Complete.{Complete, IsComplete, IsLawful}
use Rattle.mirror_model.specs.Walk.{IsMissing}

-- in a lawful view, a size and a root are complete with at most one list of entries
abbrev pub CompleteListIsOne : Type 0
CompleteListIsOne =
    (digest : List ℕ → List ℕ) → IsDigest digest → (v : View) → IsLawful digest v →
    (size : ℕ) (root : List ℕ) (first second : List (List ℕ)) → Complete digest v size root first →
    Complete digest v size root second → first ≡ second

-- the tree hash of a complete list is the root, and its length is the size
abbrev pub CompleteListHasRoot : Type 0
CompleteListHasRoot =
    (digest : List ℕ → List ℕ) (v : View) (size : ℕ) (root : List ℕ) (entries : List (List ℕ)) →
    Complete digest v size root entries → (length entries ≡ size) × (mth digest entries ≡ root)

-- a complete tree head stays complete, with the same entries, when the view grows
abbrev pub CompleteStays : Type 0
CompleteStays =
    (digest : List ℕ → List ℕ) (v w : View) → IsSubview v w →
    (size : ℕ) (root : List ℕ) (entries : List (List ℕ)) →
    Complete digest v size root entries → Complete digest w size root entries

-- a complete tree head has no other entries in a larger view, as long as nothing collides there
abbrev pub CompleteKeepsItsList : Type 0
CompleteKeepsItsList =
    (digest : List ℕ → List ℕ) → IsDigest digest → (v w : View) → IsSubview v w →
    NoClash digest w.strings →
    (size : ℕ) (root : List ℕ) (before after : List (List ℕ)) → Complete digest v size root before →
    Complete digest w size root after → before ≡ after

-- a tree head of a lawful view is complete exactly if the walk from its root fails nowhere
abbrev pub MissingIsNone : Type 0
MissingIsNone =
    (digest : List ℕ → List ℕ) → IsDigest digest → (v : View) → IsLawful digest v →
    (size : ℕ) (root : List ℕ) →
    HasHead v size root →
    ((path : Path) → ¬ IsMissing digest v.strings size root path) ↔ IsComplete digest v size root
