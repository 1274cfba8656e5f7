-- Laws of lawful views: which views are lawful, and which stay so.
use Rattle.std.specs.Prelude.{◌≡◌, ℕ, List}
use Rattle.std.specs.FinSet as set
use Rattle.signed_note.specs.Keys.{Key}
use Rattle.node_store.specs.Strings.{NoClash}
use Rattle.mirror_model.specs.View.{View, nothing, union}
use Rattle.mirror_model.specs.Strings.{IsDigest}
use Rattle.mirror_model.specs.Heads.{HasHead}
use Rattle.mirror_model.specs.declared.items.Item.{Item}
use Rattle.mirror_model.specs.Item.{IsGood, plus}
use Rattle.mirror_model.specs.Complete.{HoldsEdge, IsLawful}

-- an empty view is lawful
abbrev pub NothingIsLawful : Type 0
NothingIsLawful = (digest : List ℕ → List ℕ) (origin : List ℕ) → IsLawful digest (nothing origin)

-- a lawful view with a valid item is lawful, if nothing collides
abbrev pub PlusIsLawful : Type 0
PlusIsLawful =
    (digest : List ℕ → List ℕ) → IsDigest digest → (keys : List Key) (v : View) (item : Item) →
    IsLawful digest v →
    IsGood digest v.origin keys item → NoClash digest (plus digest v item).strings →
    IsLawful digest (plus digest v item)

-- the union of two lawful views of one origin is lawful, if nothing collides
abbrev pub UnionIsLawful : Type 0
UnionIsLawful =
    (digest : List ℕ → List ℕ) (v w : View) → IsLawful digest v → IsLawful digest w →
    v.origin ≡ w.origin →
    NoClash digest (set.union v.strings w.strings) → IsLawful digest (union v w)

-- the right edge of each tree head of a lawful view is held
abbrev pub HeadsHaveEdges : Type 0
HeadsHaveEdges =
    (digest : List ℕ → List ℕ) (v : View) → IsLawful digest v → (size : ℕ) (root : List ℕ) →
    HasHead v size root →
    HoldsEdge digest v.strings size root
