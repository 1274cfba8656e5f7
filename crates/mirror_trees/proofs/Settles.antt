-- The remembered points of a tree, step by step.
use Rattle.std.proofs.Common.{◌≡◌, ℕ, ◌-◌, ◌≤◌, List, ◌∷◌, ◌++◌, length, sym, ap, ◌∙◌, subst, ◌⊎◌}
use Rattle.std.proofs.Common.{inl, inr, Result, Ok, Err}
use Rattle.std.specs.Prelude.{OnOk, OnErr}
use Rattle.std.specs.Ordering.{is_eq}
use Rattle.std.specs.Cmp.{tied_itself}
use Rattle.std.specs.FinSet as set
use Rattle.std.specs.FinSet.{contains-insert}
use Rattle.tlog_shape.specs.Split.{split_of}
use Rattle.node_store.proofs.Sets.{or_left, or_right, or_either}
use Rattle.node_store.specs.Strings.{Strings, Has, IsHeldAt, NoClash}
use Rattle.mirror_model.specs.Complete.{IsBuilt}
use Rattle.mirror_model.specs.Forks.{Point, point_cmp}
use Rattle.mirror_model.specs.Marks.{Points}
use Rattle.mirror_model.proofs.StringSets.{held_more}
use Rattle.mirror_trees.specs.HeldTrees.{AreBuilt, HasMark}
use Rattle.mirror_trees.specs.Slices.{IsSliceOf, HasSlices, AreSettled, Gains, SettledStays, MarksAreSlices}
use Rattle.mirror_trees.proofs.Marking.{point_total, point_same}
use Rattle.mirror_trees.proofs.SliceSteps.{point_at, one_slice, whole_slice, left_slice, right_slice}
use Rattle.mirror_trees.proofs.SliceSteps.{parts_slice, slice_stays}
use Rattle.mirror_trees.proofs.Orders.{equal_is}

-- ---- a set with one point more

pub mark_added : (v : Points) (p : Point) → HasMark (set.insert v p) p
mark_added v p = contains-insert point_total v p p ∙ or_left _ _ (ap is_eq (tied_itself point_total p))

pub mark_kept : (v : Points) (p q : Point) → HasMark v q → HasMark (set.insert v p) q
mark_kept v p q h = contains-insert point_total v p q ∙ or_right _ _ h

pub mark_cases : (v : Points) (p q : Point) → HasMark (set.insert v p) q → (q ≡ p) ⊎ HasMark v q
mark_cases v p q h =
    elim (or_either _ _ (sym (contains-insert point_total v p q) ∙ h)) [
      | inl t ↦ inl (point_same q p (equal_is (point_cmp q p) t))
      | inr m ↦ inr m
    ]

module _ (digest : List ℕ → List ℕ) (held : Strings) where
  -- nothing is added
  pub gains_nothing : (n : ℕ) (root : List ℕ) (v : Points) → AreSettled digest held v → Gains digest held n root v v
  gains_nothing n root v s = record { at_least = λ p h. h; at_most = λ p h. inl h; settled = s }

  -- the complete tree is added, after all its smaller slices
  module _ (n : ℕ) (root : List ℕ) (some : 1 ≤ n) (b : IsBuilt digest held n root) (v : Points)
      (parts : (p : Point) → IsSliceOf digest held n root p → (p ≡ point_at n root) ⊎ HasMark v p) where
    pub whole_done : HasSlices digest held (set.insert v (point_at n root)) n root
    whole_done p m =
        elim (parts p m) [
          | inl is ↦ subst (HasMark (set.insert v (point_at n root))) (sym is) (mark_added v (point_at n root))
          | inr h ↦ mark_kept v (point_at n root) p h
        ]

    pub whole_settled : AreSettled digest held v → AreSettled digest held (set.insert v (point_at n root))
    whole_settled s = record {
      known = record {
        built = λ size hash h. elim (mark_cases v (point_at n root) (point_at size hash) h) [
          | inl is ↦ subst (λ (q : Point). IsBuilt digest held q.size q.root) (sym is) b
          | inr m ↦ s.known.built size hash m
        ];
      };
      closed = λ size hash h. elim (mark_cases v (point_at n root) (point_at size hash) h) [
        | inl is ↦ subst (λ (q : Point). HasSlices digest held (set.insert v (point_at n root)) q.size q.root)
            (sym is) whole_done
        | inr m ↦ λ p slice. mark_kept v (point_at n root) p (s.closed size hash m p slice)
      ];
    }

    pub gains_whole : (w : Points) → Gains digest held n root w v →
        Gains digest held n root w (set.insert v (point_at n root))
    gains_whole w g = record {
      at_least = λ p h. mark_kept v (point_at n root) p (g.at_least p h);
      at_most = λ p h. elim (mark_cases v (point_at n root) p h) [
        | inl is ↦ inr (subst (IsSliceOf digest held n root) (sym is) (whole_slice digest held n root some b))
        | inr m ↦ g.at_most p m
      ];
      settled = whole_settled g.settled;
    }

  -- one entry
  pub one_parts : (root : List ℕ) (v : Points) (p : Point) → IsSliceOf digest held 1 root p →
      (p ≡ point_at 1 root) ⊎ HasMark v p
  one_parts root v p m = inl (one_slice digest held root p m)

  module _ (size : (s : List ℕ) → length (digest s) ≡ 32) (clean : NoClash digest held) (n k : ℕ) (root l r : List ℕ)
      (two : 2 ≤ n) (k_is : k ≡ split_of n) (len : length l ≡ 32) (h : IsHeldAt digest held root (1 ∷ l ++ r))
      (b : IsBuilt digest held n root) where
    -- the left part is remembered, and then the right one
    pub gains_left : (u v : Points) → Gains digest held k l u v → Gains digest held n root u v
    gains_left u v g = record {
      at_least = g.at_least;
      at_most = λ p m. elim (g.at_most p m) [
        | inl a ↦ inl a
        | inr s ↦ inr (left_slice digest held size clean n k root l r two k_is len h b p s)
      ];
      settled = g.settled;
    }

    pub gains_right : (u v w : Points) → Gains digest held k l u v → Gains digest held (n - k) r v w →
        Gains digest held n root u w
    gains_right u v w f g = record {
      at_least = λ p m. g.at_least p (f.at_least p m);
      at_most = λ p m. elim (g.at_most p m) [
        | inl a ↦ (gains_left u v f).at_most p a
        | inr s ↦ inr (right_slice digest held size clean n k root l r two k_is len h b p s)
      ];
      settled = g.settled;
    }

    pub both_parts : (v w : Points) → HasSlices digest held v k l → Gains digest held (n - k) r v w →
        HasSlices digest held w (n - k) r → (p : Point) → IsSliceOf digest held n root p →
        (p ≡ point_at n root) ⊎ HasMark w p
    both_parts v w left g right p m =
        elim (parts_slice digest held size clean n k root l r two k_is len h b p m) [
          | inl is ↦ inl is
          | inr (inl s) ↦ inr (g.at_least p (left p s))
          | inr (inr s) ↦ inr (right p s)
        ]

-- ---- the answers of adding a point

-- the set is unchanged, or has the point too
pub added_done : {E : Type 0} (digest : List ℕ → List ℕ) (held : Strings) (n : ℕ) (root : List ℕ)
    (r : Result (Unit {0}) E) (v w : Points) (p : Point) → OnOk r (w ≡ set.insert v p) →
    HasSlices digest held (set.insert v p) n root → OnOk r (HasSlices digest held w n root)
added_done digest held n root (Ok x) v w p is h = subst (λ q. HasSlices digest held q n root) (sym is) h
added_done digest held n root (Err e) v w p is h = tt

pub added_gains : {E : Type 0} (digest : List ℕ → List ℕ) (held : Strings) (n : ℕ) (root : List ℕ)
    (r : Result (Unit {0}) E) (u v w : Points) (p : Point) → OnOk r (w ≡ set.insert v p) → OnErr r (w ≡ v) →
    Gains digest held n root u v → Gains digest held n root u (set.insert v p) → Gains digest held n root u w
added_gains digest held n root (Ok x) u v w p is same f g = subst (Gains digest held n root u) (sym is) g
added_gains digest held n root (Err e) u v w p is same f g = subst (Gains digest held n root u) (sym same) f

-- ---- laws

-- held trees stay held if more strings are held
pub built_stays : (digest : List ℕ → List ℕ) (held more : Strings) →
    ((string : List ℕ) → Has held string → Has more string) → (points : Points) → AreBuilt digest held points →
    AreBuilt digest more points
built_stays digest held more upon points s = record {
  built =
      λ size root h. let b =
      s.built size root h in record {
        entries =
            b.entries;
        is =
            record {
              size_is =
                  b.is.size_is;
              root_is = b.is.root_is;
              are_held = held_more held more _ upon b.is.are_held;
            };
      };
}

pub settled_stays : SettledStays
settled_stays digest hash held more upon clean points s = record {
  known = built_stays digest held more upon points s.known;
  closed = λ size root h p m. s.closed size root h p
      (slice_stays digest held more upon hash clean size root p (s.known.built size root h) m);
}

pub marks_are_slices : MarksAreSlices
marks_are_slices digest v point = (
  λ m. record {
    size = m.size;
    root = m.root;
    head = m.complete.head;
    slice = record {
      entries =
          m.entries;
      tree = m.complete.tree;
      node = m.node;
      is = m.is;
      len_is = m.len_is;
      hash_is = m.hash_is;
    };
  },
  λ m. record {
    size = m.size;
    root = m.root;
    entries = m.slice.entries;
    complete = record { head = m.head; tree = m.slice.tree };
    node = m.slice.node;
    is = m.slice.is;
    len_is = m.slice.len_is;
    hash_is = m.slice.hash_is;
  },
)
