-- Sets of points as a hash set keeps them.
use Rattle.std.proofs.Common.{◌≡◌, ℕ, List, [], ◌∷◌, Bool, true, false, map, length, ◌+◌, arith, nat_eq, sym, refl, ap}
use Rattle.std.proofs.Common.{◌∙◌}
use Rattle.std.specs.Prelude.{◌&&◌, ◌||◌, cond}
use Rattle.std.specs.Ordering.{nat_cmp, eq_by_cmp}
use Rattle.std.specs.Cmp.{IsTotalOrder, nat_cmp_total, on_total, then_total, unsigned_ties, both_tied, eq_by_cmp_equiv}
use Rattle.std.specs.Cmp.Lexicographic.{slice_cmp, pointwise, nat_list_cmp_total, lists_ties}
use Rattle.std.specs.FinSet.{len, len-empty, len-insert, contains, insert, contains-from_list, contains-insert}
use Rattle.std.specs.FinSet.{same_set, IsAntisymmetric, slice_cmp-IsAntisymmetric, nat_cmp-IsAntisymmetric}
use Rattle.std.specs.List.{list_any, AllByRecursion, IsDistinct}
use Rattle.std.proofs.lemmas.Map.Keys.{IsDistinct-head, IsDistinct-tail}
use Rattle.mirror_model.specs.Forks.{Point, point_cmp}
use Rattle.mirror_trees.specs.Marked.{point_of, points_of}
use Rattle.mirror_trees.proofs.Orders.{then_equal}

pub point_total : IsTotalOrder point_cmp
point_total = then_total (on_total (λ p. p.size) nat_cmp_total) (on_total (λ p. p.root) nat_list_cmp_total)

pub point_same : IsAntisymmetric point_cmp
point_same a b h =
    let two = then_equal (nat_cmp a.size b.size) (slice_cmp nat_cmp a.root b.root) h in
    let s = nat_cmp-IsAntisymmetric a.size b.size two.0 in
    let r = slice_cmp-IsAntisymmetric nat_cmp-IsAntisymmetric a.root b.root two.1 in
    λ i. record { size = s i; root = r i }

-- the test of the hash set
abbrev pub same_key : ℕ × List ℕ → ℕ × List ℕ → Bool
same_key a b = nat_eq a.0 b.0 && pointwise nat_eq a.1 b.1

key_ties : (a b : ℕ × List ℕ) → same_key a b ≡ eq_by_cmp point_cmp (point_of a) (point_of b)
key_ties a b =
    both_tied (nat_eq a.0 b.0) (pointwise nat_eq a.1 b.1) (nat_cmp a.0 b.0) (slice_cmp nat_cmp a.1 b.1)
    (unsigned_ties a.0 b.0) (lists_ties nat_cmp unsigned_ties a.1 b.1)

pub has_point : (keys : List (ℕ × List ℕ)) (q : ℕ × List ℕ) →
    contains (points_of keys) (point_of q) ≡ list_any (same_key q) keys
has_point keys q = contains-from_list point_total (map point_of keys) (point_of q) ∙ any keys
  where
    any : (keys : List (ℕ × List ℕ)) →
        list_any (eq_by_cmp point_cmp (point_of q)) (map point_of keys) ≡ list_any (same_key q) keys
    any [] = refl
    any (k ∷ keys) = λ i. sym (key_ties q k) i || any keys i

-- a set with one key more
pub add_point : (old new : List (ℕ × List ℕ)) (key : ℕ × List ℕ) →
    ((q : ℕ × List ℕ) → list_any (same_key q) new ≡ cond (same_key key q) true (list_any (same_key q) old)) →
    points_of new ≡ insert (points_of old) (point_of key)
add_point old new key is = same_set point_total point_same (points_of new) (insert (points_of old) (point_of key)) at
  where
    either : (a b : Bool) → cond a true b ≡ (a || b)
    either true b = refl
    either false b = refl

    turned : (a b : Point) → eq_by_cmp point_cmp a b ≡ eq_by_cmp point_cmp b a
    turned a b = (eq_by_cmp_equiv point_total).symm a b

    at : (q : Point) → contains (points_of new) q ≡ contains (insert (points_of old) (point_of key)) q
    at q =
        let k : ℕ × List ℕ = (q.size, q.root) in
        has_point new k ∙ is k ∙ either (same_key key k) (list_any (same_key k) old)
        ∙ (λ i. (key_ties key k ∙ turned (point_of key) q) i || sym (has_point old k) i)
        ∙ sym (contains-insert point_total (points_of old) (point_of key) q)

-- ---- the number of points
none_same : (k : ℕ × List ℕ) (keys : List (ℕ × List ℕ)) → AllByRecursion (λ y. same_key k y ≡ false) keys →
    list_any (same_key k) keys ≡ false
none_same k [] h = refl
none_same k (y ∷ keys) h = (λ i. h.0 i || list_any (same_key k) keys) ∙ none_same k keys h.1

pub count_points : (keys : List (ℕ × List ℕ)) → IsDistinct same_key keys → len (points_of keys) ≡ length keys
count_points [] d = len-empty point_cmp
count_points (k ∷ keys) d =
    len-insert point_total (points_of keys) (point_of k)
    ∙ ap (λ b. cond b (len (points_of keys)) (len (points_of keys) + 1))
    (has_point keys k ∙ none_same k keys (IsDistinct-head same_key k keys d))
    ∙ (let more : len (points_of keys) ≡ length keys =
    count_points keys (IsDistinct-tail same_key k keys d) in omega (arith, more))
