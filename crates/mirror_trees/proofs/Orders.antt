-- The order of missing paths.
use Rattle.std.proofs.Common.{◌≡◌, ℕ, sym, refl, ap, ◌∙◌, subst, Bool, true, false, nat_eq, eq-eqb}
use Rattle.std.specs.Ordering.{nat_cmp, ordering_then, on, then_cmp, flip_args, eq_by_cmp, is_eq}
use Rattle.std.specs.declared.cmp.Ordering.{Ordering}
use Rattle.std.specs.declared.cmp.Ordering.TheVariants.{Less, Equal, Greater}
use Rattle.std.specs.Prelude.{◌&&◌}
use Rattle.std.proofs.lemmas.Bool.{eqb-true}
use Rattle.std.specs.Cmp.{IsEquivalence, eq_by_cmp_equiv, tied_itself, IsTotalOrder, nat_cmp_total, on_total}
use Rattle.std.specs.Cmp.{then_total, back_total}
use Rattle.std.specs.FinSet.{nat_cmp-IsAntisymmetric}
use Rattle.tlog_tiles.specs.declared.paths.Path.{Path}
use Rattle.tlog_tiles.specs.declared.paths.Path.TheVariants.{Checkpoint, Tile, Entries}
use Rattle.tlog_tiles.specs.contracts.paths.PathPartialEq.TheImpl as path_eq
use Rattle.mirror_model.specs.Front.{path_cmp}
use Rattle.node_store.proofs.Sets.{same_bool}

kind_of : Path → ℕ
kind_of (Tile level index width) = 0
kind_of (Entries index width) = 1
kind_of Checkpoint = 2

level_of : Path → ℕ
level_of (Tile level index width) = level
level_of (Entries index width) = 0
level_of Checkpoint = 0

index_of : Path → ℕ
index_of (Tile level index width) = index
index_of (Entries index width) = index
index_of Checkpoint = 0

width_of : Path → ℕ
width_of (Tile level index width) = width
width_of (Entries index width) = width
width_of Checkpoint = 0

abbrev by_numbers : Path → Path → Ordering
by_numbers =
    then_cmp (on kind_of nat_cmp)
    (then_cmp (on level_of (flip_args nat_cmp)) (then_cmp (on index_of nat_cmp) (on width_of nat_cmp)))

by_numbers_total : IsTotalOrder by_numbers
by_numbers_total =
    then_total (on_total kind_of nat_cmp_total)
    (then_total (on_total level_of (back_total nat_cmp_total))
    (then_total (on_total index_of nat_cmp_total) (on_total width_of nat_cmp_total)))

same_order : (a b : Path) → by_numbers a b ≡ path_cmp a b
unfolding kind_of level_of index_of width_of
same_order (Tile level index width) (Tile l i w) = refl
same_order (Tile level index width) (Entries i w) = refl
same_order (Tile level index width) Checkpoint = refl
same_order (Entries index width) (Tile l i w) = refl
same_order (Entries index width) (Entries i w) = refl
same_order (Entries index width) Checkpoint = refl
same_order Checkpoint (Tile l i w) = refl
same_order Checkpoint (Entries i w) = refl
same_order Checkpoint Checkpoint = refl

pub path_total : IsTotalOrder path_cmp
path_total = subst IsTotalOrder (λ i a b. same_order a b i) by_numbers_total

-- paths that compare as equal are equal
pub then_equal : (a b : Ordering) → ordering_then a b ≡ Equal → (a ≡ Equal) × (b ≡ Equal)
then_equal Less b h = absurd (cc h)
then_equal Equal b h = (refl, h)
then_equal Greater b h = absurd (cc h)

pub path_tied : (a b : Path) → path_cmp a b ≡ Equal → a ≡ b
path_tied (Tile level index width) (Tile l i w) h =
    let first = then_equal (nat_cmp l level) (ordering_then (nat_cmp index i) (nat_cmp width w)) h in
    let rest = then_equal (nat_cmp index i) (nat_cmp width w) first.1 in
    let a = nat_cmp-IsAntisymmetric l level first.0 in
    let b = nat_cmp-IsAntisymmetric index i rest.0 in
    let c = nat_cmp-IsAntisymmetric width w rest.1 in
    λ j. Tile (sym a j) (b j) (c j)
path_tied (Tile level index width) (Entries i w) h = absurd (cc h)
path_tied (Tile level index width) Checkpoint h = absurd (cc h)
path_tied (Entries index width) (Tile l i w) h = absurd (cc h)
path_tied (Entries index width) (Entries i w) h =
    let rest = then_equal (nat_cmp index i) (nat_cmp width w) h in
    let b = nat_cmp-IsAntisymmetric index i rest.0 in
    let c = nat_cmp-IsAntisymmetric width w rest.1 in
    λ j. Entries (b j) (c j)
path_tied (Entries index width) Checkpoint h = absurd (cc h)
path_tied Checkpoint (Tile l i w) h = absurd (cc h)
path_tied Checkpoint (Entries i w) h = absurd (cc h)
path_tied Checkpoint Checkpoint h = refl

-- ---- the derived test for equality

first_true : (a b : Bool) → (a && b) ≡ true → a ≡ true
first_true true b h = refl
first_true false b h = h

second_true : (a b : Bool) → (a && b) ≡ true → b ≡ true
second_true true b h = h
second_true false b h = absurd (cc h)

both_true : (a b : Bool) → a ≡ true → b ≡ true → (a && b) ≡ true
both_true true b p q = q
both_true false b p q = absurd (cc p)

pub equal_is : (o : Ordering) → is_eq o ≡ true → o ≡ Equal
equal_is Less h = absurd (cc h)
equal_is Equal h = refl
equal_is Greater h = absurd (cc h)

pub record IsDerived (E : Path → Path → Bool) : Type 0 where
  pub tiles : (l i w k j v : ℕ) → E (Tile l i w) (Tile k j v) ≡ (nat_eq l k && (nat_eq i j && nat_eq w v))
  pub bundles : (i w j v : ℕ) → E (Entries i w) (Entries j v) ≡ (nat_eq i j && nat_eq w v)
  pub checkpoints : E Checkpoint Checkpoint ≡ true
  pub tile_bundle : (l i w j v : ℕ) → E (Tile l i w) (Entries j v) ≡ false
  pub bundle_tile : (l i w j v : ℕ) → E (Entries j v) (Tile l i w) ≡ false
  pub tile_checkpoint : (l i w : ℕ) → E (Tile l i w) Checkpoint ≡ false
  pub checkpoint_tile : (l i w : ℕ) → E Checkpoint (Tile l i w) ≡ false
  pub bundle_checkpoint : (i w : ℕ) → E (Entries i w) Checkpoint ≡ false
  pub checkpoint_bundle : (i w : ℕ) → E Checkpoint (Entries i w) ≡ false

-- the derived equality of paths is that of their parts
pub derived : IsDerived (path_eq.ghosts).eq
derived = record {
  tiles = λ l i w k j v. refl;
  bundles = λ i w j v. refl;
  checkpoints = refl;
  tile_bundle = λ l i w j v. refl;
  bundle_tile = λ l i w j v. refl;
  tile_checkpoint = λ l i w. refl;
  checkpoint_tile = λ l i w. refl;
  bundle_checkpoint = λ i w. refl;
  checkpoint_bundle = λ i w. refl;
}

module _ (E : Path → Path → Bool) (d : IsDerived E) where
  never : {X : Type 0} (b : Bool) → b ≡ false → b ≡ true → X
  never b f t = absurd (cc (f, t))

  pub exact : (a b : Path) → E a b ≡ true → a ≡ b
  exact (Tile l i w) (Tile k j v) h =
      let all = sym (d.tiles l i w k j v) ∙ h in
      let rest = second_true (nat_eq l k) (nat_eq i j && nat_eq w v) all in
      let x = eqb-true l k (first_true (nat_eq l k) (nat_eq i j && nat_eq w v) all) in
      let y = eqb-true i j (first_true (nat_eq i j) (nat_eq w v) rest) in
      let z = eqb-true w v (second_true (nat_eq i j) (nat_eq w v) rest) in
      λ n. Tile (x n) (y n) (z n)
  exact (Tile l i w) (Entries j v) h = never (E (Tile l i w) (Entries j v)) (d.tile_bundle l i w j v) h
  exact (Tile l i w) Checkpoint h = never (E (Tile l i w) Checkpoint) (d.tile_checkpoint l i w) h
  exact (Entries i w) (Tile k j v) h = never (E (Entries i w) (Tile k j v)) (d.bundle_tile k j v i w) h
  exact (Entries i w) (Entries j v) h =
      let all = sym (d.bundles i w j v) ∙ h in
      let y = eqb-true i j (first_true (nat_eq i j) (nat_eq w v) all) in
      let z = eqb-true w v (second_true (nat_eq i j) (nat_eq w v) all) in
      λ n. Entries (y n) (z n)
  exact (Entries i w) Checkpoint h = never (E (Entries i w) Checkpoint) (d.bundle_checkpoint i w) h
  exact Checkpoint (Tile l i w) h = never (E Checkpoint (Tile l i w)) (d.checkpoint_tile l i w) h
  exact Checkpoint (Entries i w) h = never (E Checkpoint (Entries i w)) (d.checkpoint_bundle i w) h
  exact Checkpoint Checkpoint h = refl

  itself : (a : Path) → E a a ≡ true
  itself (Tile l i w) =
      d.tiles l i w l i w ∙
      both_true (nat_eq l l) (nat_eq i i && nat_eq w w) (eq-eqb l l refl)
      (both_true (nat_eq i i) (nat_eq w w) (eq-eqb i i refl) (eq-eqb w w refl))
  itself (Entries i w) = d.bundles i w i w ∙ both_true (nat_eq i i) (nat_eq w w) (eq-eqb i i refl) (eq-eqb w w refl)
  itself Checkpoint = d.checkpoints

  pub ties : (a b : Path) → E a b ≡ eq_by_cmp path_cmp a b
  ties a b =
      same_bool (E a b) (is_eq (path_cmp a b))
      (λ h. ap (λ c. is_eq (path_cmp a c)) (sym (exact a b h)) ∙ ap is_eq (tied_itself path_total a))
      (λ h. ap (E a) (sym (path_tied a b (equal_is (path_cmp a b) h))) ∙ itself a)

  pub equivalence : IsEquivalence E
  equivalence = subst IsEquivalence (λ i a b. sym (ties a b) i) (eq_by_cmp_equiv path_total)
