-- Properties of empty sets.
use Rattle.std.proofs.Common.{◌≡◌, ℕ, List, sym, subst}
use Rattle.std.specs.FinSet as set
use Rattle.std.specs.FinSet.{contains-empty}
use Rattle.node_store.specs.Strings.{Strings, NoClash}
use Rattle.node_store.proofs.Sets.{Has-empty}
use Rattle.mirror_model.specs.Forks.{Point, point_cmp}
use Rattle.mirror_model.specs.Marks.{Points}
use Rattle.mirror_trees.specs.HeldTrees.{AreBuilt, HasMark}
use Rattle.mirror_trees.specs.Slices.{AreSettled}

pub empty_no_clash : (digest : List ℕ → List ℕ) (v : Strings) → v ≡ set.empty → NoClash digest v
empty_no_clash digest v is = subst (NoClash digest) (sym is) (record { same = λ x y hx hy e. absurd (Has-empty x hx) })

pub no_mark : (point : Point) → HasMark set.empty point → ⊥
no_mark point h = let e = contains-empty point_cmp point in cc (e, h)

pub empty_known : (digest : List ℕ → List ℕ) (held : Strings) (points : Points) → points ≡ set.empty →
    AreBuilt digest held points
empty_known digest held points is =
    subst (AreBuilt digest held) (sym is)
    (record { built = λ size root h. absurd (no_mark (record { size = size; root = root }) h) })

pub empty_settled : (digest : List ℕ → List ℕ) (held : Strings) (points : Points) → points ≡ set.empty →
    AreSettled digest held points
empty_settled digest held points is = subst (AreSettled digest held) (sym is) (record {
  known = empty_known digest held set.empty (λ i. set.empty);
  closed = λ size root h. absurd (no_mark (record { size = size; root = root }) h);
})
