-- Laws of unions of views.
use Rattle.std.specs.Prelude.{◌≡◌, ◌↔◌, ℕ, List}
use Rattle.node_store.specs.Strings.{NoClash, ClashesWith}
use Rattle.mirror_model.specs.View.{View, union, IsSubview}
use Rattle.mirror_model.specs.Strings.{HasClash}

-- the union of two views of one origin does not depend on their order
abbrev pub UnionCommutes : Type 0
UnionCommutes = (v w : View) → v.origin ≡ w.origin → union v w ≡ union w v

-- the union of three views does not depend on their grouping
abbrev pub UnionAssociates : Type 0
UnionAssociates = (v w x : View) → union (union v w) x ≡ union v (union w x)

-- the union of a view with itself is that view
abbrev pub UnionIsIdempotent : Type 0
UnionIsIdempotent = (v : View) → union v v ≡ v

-- a union collides in either order or in neither
abbrev pub UnionClashesEitherWay : Type 0
UnionClashesEitherWay =
    (digest : List ℕ → List ℕ) (v w : View) → HasClash digest (union v w).strings →
    HasClash digest (union w v).strings

-- two views are equal if each holds everything that the other holds
abbrev pub MutualSubviewsAreEqual : Type 0
MutualSubviewsAreEqual = (v w : View) → IsSubview v w → IsSubview w v → v ≡ w

-- if neither view collides alone, their union collides exactly if a string of one collides with a
-- string of the other
abbrev pub UnionClashes : Type 0
UnionClashes =
    (digest : List ℕ → List ℕ) (v w : View) →
    NoClash digest v.strings →
    NoClash digest w.strings →
    HasClash digest (union v w).strings ↔ ClashesWith digest v.strings w.strings

-- if neither view collides alone, their union is free of collisions exactly if no string of one
-- collides with a string of the other
abbrev pub UnionIsClean : Type 0
UnionIsClean =
    (digest : List ℕ → List ℕ) (v w : View) →
    NoClash digest v.strings →
    NoClash digest w.strings →
    NoClash digest (union v w).strings ↔ (¬ ClashesWith digest v.strings w.strings)
