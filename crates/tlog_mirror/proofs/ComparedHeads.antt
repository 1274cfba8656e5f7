-- Tree heads compared with a list of entries, and the evidence that this gives.
use Rattle.std.proofs.Common.{◌≡◌, ℕ, List, [], ◌∷◌, ◌++◌, map, take, get_or, sym, subst, refl}
use Rattle.std.proofs.Common.{Option, Some, None, ap, ◌∙◌, arith}
use Rattle.std.specs.Prelude.{◌≢◌, All, Result, Ok, Err, IfOk, IfSome, find, nat_eq, unwrap_or}
use Rattle.std.specs.List.{AllByRecursion, Contains}
use Rattle.std.proofs.Math.Seq.{take-append_seam}
use Rattle.std.proofs.lemmas.List.{length-take-le}
use Rattle.std.proofs.lemmas.List.Elements.{All-contains, All-from_recursion, recursion_from_All}
use Rattle.tlog_shape.specs.Split.{split_of, power_within}
use Rattle.tlog_hash.specs.Tree.{mth, fold_of, joins, pairs_of, strings, tree_of, tree_within}
use Rattle.tlog_hash.specs.Sum.{sum_digest}
use Rattle.mirror_model.specs.View.{View}
use Rattle.mirror_model.specs.Forks.{Point}
use Rattle.mirror_model.specs.Examples.{large_list, small_list, sum_hash}
use Rattle.mirror_model.specs.Listed.{ListsHeads}
use Rattle.mirror_model.proofs.Examples.{is_forked}
use Rattle.mirror_model.proofs.OneLists.{one_served, only}
use Rattle.mirror_model.proofs.StringSets.{listed_from_has}
use Rattle.mirror_trees.specs.Marked.{point_of}
use Rattle.tlog_mirror.specs.Compared.{ComparesLarge, ForkIsNoPrefix, HeadsAreComparedOnce, IsCompared, ReportsCompared}
use Rattle.tlog_mirror.specs.Compared.{ReportsHeld, SameIsPrefix, compared_point}
use Rattle.tlog_mirror.specs.declared.compared.Compared.{Compared}
use Rattle.tlog_mirror.specs.declared.compared.Compared.TheVariants.{Same, Fork, Larger}

-- ---- evidence

pub fork_is_no_prefix : ForkIsNoPrefix
fork_is_no_prefix digest entries other size root own (within, is, differs) len at p =
    let begins : take size entries ≡ other =
    ap (take size) (sym p.is) ∙ ap (λ n. take n (other ++ p.rest)) (sym len) ∙ take-append_seam other p.rest in
    differs (sym is ∙ ap (mth digest) begins ∙ at)

pub same_is_prefix : SameIsPrefix
same_is_prefix digest hash held clean entries other size root (within, is) tree beginning =
    only digest held hash clean size root other (take size entries) tree
    (record { size_is = length-take-le size entries within; root_is = is; are_held = beginning })

-- ---- one answer

module _ (digest : List ℕ → List ℕ) (entries : List (List ℕ)) where
  abbrev IsSo : Compared → Type 0
  IsSo = IsCompared digest entries

  size_same : (p q : Point) → p ≡ q → p.size ≡ q.size
  size_same p q e = ap (λ (x : Point). x.size) e

  root_same : (p q : Point) → p ≡ q → p.root ≡ q.root
  root_same p q e = ap (λ (x : Point). x.root) e

  begin_same : (m n : ℕ) → m ≡ n → mth digest (take m entries) ≡ mth digest (take n entries)
  begin_same m n e = ap (λ k. mth digest (take k entries)) e

  no_two : (m n : ℕ) (r t own : List ℕ) → m ≡ n → r ≡ t → mth digest (take m entries) ≡ r →
      mth digest (take n entries) ≡ own → own ≢ t → ⊥
  no_two m n r t own s e is other differs = differs (sym other ∙ sym (begin_same m n s) ∙ is ∙ e)

  compared_one : (a b : Compared) → compared_point a ≡ compared_point b → IsSo a → IsSo b → a ≡ b
  compared_one (Same m r) (Same n t) e p q =
      let s = size_same _ _ e in let h = root_same _ _ e in λ i. Same (s i) (h i)
  compared_one (Same m r) (Fork n t own) e (w, is) (x, other, differs) =
      absurd (no_two m n r t own (size_same _ _ e) (root_same _ _ e) is other differs)
  compared_one (Same m r) (Larger n t) e (w, is) q =
      let s : m ≡ n = size_same _ _ e in absurd (omega (arith, s, w, q))
  compared_one (Fork m r own) (Same n t) e (w, other, differs) (x, is) =
      absurd (no_two n m t r own (sym (size_same _ _ e)) (sym (root_same _ _ e)) is other differs)
  compared_one (Fork m r own) (Fork n t other) e (w, is, differs) (x, at, apart) =
      let s : m ≡ n = size_same _ _ e in
      let h : r ≡ t = root_same _ _ e in
      let o : own ≡ other = sym is ∙ begin_same m n s ∙ at in
      λ i. Fork (s i) (h i) (o i)
  compared_one (Fork m r own) (Larger n t) e (w, is, differs) q =
      let s : m ≡ n = size_same _ _ e in absurd (omega (arith, s, w, q))
  compared_one (Larger m r) (Same n t) e p (w, is) =
      let s : m ≡ n = size_same _ _ e in absurd (omega (arith, s, w, p))
  compared_one (Larger m r) (Fork n t own) e p (w, is, differs) =
      let s : m ≡ n = size_same _ _ e in absurd (omega (arith, s, w, p))
  compared_one (Larger m r) (Larger n t) e p q =
      let s = size_same _ _ e in let h = root_same _ _ e in λ i. Larger (s i) (h i)

  pub lists_one : (first second : List Compared) → map compared_point first ≡ map compared_point second →
      AllByRecursion IsSo first → AllByRecursion IsSo second → first ≡ second
  lists_one [] [] e p q = refl
  lists_one [] (b ∷ rest) e p q = absurd (cc e)
  lists_one (a ∷ rest) [] e p q = absurd (cc e)
  lists_one (a ∷ xs) (b ∷ ys) e p q =
      let first : compared_point a ≡ compared_point b = cc e in
      let others : map compared_point xs ≡ map compared_point ys = cc e in
      let one = compared_one a b first p.0 q.0 in
      let rest = lists_one xs ys others p.1 q.1 in
      λ i. one i ∷ rest i

pub compared_once : HeadsAreComparedOnce
compared_once digest hash v lawful heads first second p q =
    let same : p.entries ≡ q.entries = one_served digest hash v lawful p.entries q.entries p.served q.served in
    lists_one digest p.entries first second (p.heads_are ∙ sym q.heads_are) (recursion_from_All _ _ p.each)
    (recursion_from_All _ _ (subst (λ es. All (IsCompared digest es) second) (sym same) q.each))

-- ---- the case with numbers

first_byte : (n m : ℕ) → sum_hash n ≡ sum_hash m → n ≡ m
first_byte n m e = ap (λ (xs : List ℕ). get_or xs 0 0) e

other_byte : sum_hash 51 ≡ sum_hash 9 → ⊥
other_byte e = let wrong : 51 ≡ 9 = first_byte 51 9 e in omega (arith, wrong)

-- the strings of both trees
abbrev both : List (List ℕ)
both = strings sum_digest small_list ++ strings sum_digest large_list

-- the first of them whose digest has that first byte
abbrev with_digest : List ℕ → List ℕ
with_digest hash = unwrap_or (find (λ s. nat_eq (get_or (sum_digest s) 0 0) (get_or hash 0 0)) both) []

-- each is the only one with its digest
one_each : (x : List ℕ) → Contains both x → x ≡ with_digest (sum_digest x)
unfolding strings pairs_of joins fold_of tree_of tree_within split_of power_within sum_digest
one_each x c =
    All-contains (λ s. s ≡ with_digest (sum_digest s)) both x
    (All-from_recursion (λ s. s ≡ with_digest (sum_digest s)) both
    (refl, (refl, (refl, (refl, (refl, (refl, (refl, (refl, (refl, (refl, (refl, (refl, tt))))))))))))) c

pub compares_large : ComparesLarge
unfolding mth fold_of tree_of tree_within split_of power_within sum_digest
compares_large = record {
  same = (omega arith, refl);
  same_of_others = refl;
  fork = (omega arith, refl, other_byte);
  not_larger = λ h. omega (arith, h);
  not_fork = λ own h. fork_of_root own h;
  not_other = λ h. other_root h;
  larger = omega arith;
  not_prefix = is_forked.not_prefix;
  no_clash = record {
    same = λ x y p q e. one_each x (listed_from_has both x p) ∙ ap with_digest e
        ∙ sym (one_each y (listed_from_has both y q));
  };
}
  where
    fork_of_root : (own : List ℕ) → IsCompared sum_digest large_list (Fork 4 (sum_hash 163) own) → ⊥
    fork_of_root own (w, is, differs) = differs (sym is)

    other_root : IsCompared sum_digest large_list (Fork 2 (sum_hash 9) (sum_hash 163)) → ⊥
    other_root (w, is, differs) = let wrong : 51 ≡ 163 = first_byte 51 163 is in omega (arith, wrong)

-- ---- the held tree heads

pub held_reported : {A E : Type 0} (digest : List ℕ → List ℕ) (v : View) (items : A → List Compared)
    (points : List (ℕ × List ℕ)) (r : Result (Option A) E) → ListsHeads v (map point_of points) →
    IfOk r (λ o. IfSome o (λ x. ReportsCompared digest v (map point_of points) (items x))) →
    IfOk r (λ o. IfSome o (λ x. ReportsHeld digest v (items x)))
held_reported digest v items points (Err e) listed h = h
held_reported digest v items points (Ok None) listed h = h
held_reported digest v items points (Ok (Some x)) listed h =
    record { heads = map point_of points; are_heads = listed; reports = h }
