-- A checkpoint is served exactly if some tree head is complete.
use Rattle.std.proofs.Common.{zero, suc, ◌≡◌, ℕ, ◌+◌, ◌-◌, ◌≤◌, ◌^◌, List, [], ◌∷◌, ◌++◌, length, take, drop, replicate}
use Rattle.std.proofs.Common.{true, false, sym, refl, ap, ◌∙◌, subst, ◌⊎◌, inl, inr, arith, length-take, length-drop}
use Rattle.std.specs.List.{Contains}
use Rattle.std.specs.FinSet as set
use Rattle.std.specs.FinSet.{slice_cmp-IsAntisymmetric, nat_cmp-IsAntisymmetric}
use Rattle.std.specs.Ordering.{nat_cmp, is_le, ordering_reverse}
use Rattle.std.specs.declared.cmp.Ordering.{Ordering}
use Rattle.std.specs.declared.cmp.Ordering.TheVariants.{Less, Equal, Greater}
use Rattle.std.specs.Cmp.{tied_itself}
use Rattle.std.specs.Cmp.Lexicographic.{slice_cmp, nat_list_cmp_total}
use Rattle.std.specs.BTreeMap.Comparable.{le_lt_trans}
use Rattle.std.proofs.lemmas.List.{length-replicate}
use Rattle.tlog_shape.specs.Split.{split_of}
use Rattle.tlog_shape.proofs.Splits.{split_of-below, split_of-positive}
use Rattle.tlog_hash.specs.Tree.{Tree, One, Join, tree_of, size_of}
use Rattle.tlog_hash.specs.Shape.{shape}
use Rattle.tlog_hash.proofs.Trees.{tree_of-one, tree_of-join, induction}
use Rattle.node_store.specs.Strings.{Strings, Has}
use Rattle.mirror_model.specs.View.{View}
use Rattle.mirror_model.specs.Strings.{IsDigest}
use Rattle.mirror_model.specs.Heads.{HoldsHead}
use Rattle.mirror_model.specs.Complete.{IsBuilt, IsLawful}
use Rattle.mirror_model.specs.Served.{IsAtMost, IsCompleteNote}
use Rattle.mirror_model.specs.Walk.{WalkFails, IsPairHeld}
use Rattle.mirror_model.specs.ReplyLaws.{ServesSome, CompletesSome, ServedWhereComplete}
use Rattle.node_store.proofs.Sets.{decide}
use Rattle.mirror_model.proofs.StringSets.{in_items, has_item}
use Rattle.mirror_model.proofs.HeadNotes.{head_once}
use Rattle.mirror_model.proofs.Steps.{same_number}
use Rattle.mirror_model.proofs.OneLists.{at_most_both}
use Rattle.mirror_model.proofs.Missing.{built-none, built-one, built-join, search_set, IsLeafOf, IsPairOf, is_leaf}
use Rattle.mirror_model.proofs.Missing.{is_pair, none_fails, built_none, none_root}

-- ---- all strings of a list are held, or the walk fails somewhere

module _ (digest : List ℕ → List ℕ) (held : Strings) where
  record FailsSomewhere (t : Tree ℕ) (start : ℕ) (hash : List ℕ) : Type 0 where
    at : ℕ
    many : ℕ
    fails : WalkFails digest held t start hash at many

  abbrev Decides : List ℕ → Type 0
  Decides xs =
      1 ≤ length xs → (start : ℕ) (hash : List ℕ) →
      IsBuilt digest held (length xs) hash ⊎ FailsSomewhere (tree_of xs) start hash

  decides-one : (x : ℕ) → Decides (x ∷ [])
  decides-one x some start hash =
      elim (search_set (IsLeafOf digest hash) (is_leaf digest hash) held) [
        | inl f ↦
            let l = f.meets in
            inl (built-one digest held hash l.entry (subst (Has held) l.is f.has) (ap digest (sym l.is) ∙ l.digest_is))
        | inr none ↦
            let here : FailsSomewhere (One x) start hash = record {
              at = start;
              many = 1;
              fails = (
                record { at_is = refl; many_is = refl },
                λ e h. none (0 ∷ e) h.is_held (record { entry = e; is = refl; digest_is = h.digest_is }),
              );
            } in
            inr (subst (λ t. FailsSomewhere t start hash) (sym (tree_of-one x)) here)
      ]

  decides-join : (xs : List ℕ) → 2 ≤ length xs → Decides (take (split_of (length xs)) xs) →
      Decides (drop (split_of (length xs)) xs) → Decides xs
  decides-join xs two left right some start hash =
      let n = length xs in
      let k = split_of n in
      let below = split_of-below n two in
      let positive = split_of-positive n two in
      let a = take k xs in
      let b = drop k xs in
      let la : length a ≡ k = length-take k xs ∙ omega arith in
      let lb : length b ≡ n - k = length-drop k xs in
      let total : length a + length b ≡ n = omega (arith, la, lb) in
      let tl = tree_of a in
      let tr = tree_of b in
      let somewhere : FailsSomewhere (Join tl tr) start hash → FailsSomewhere (tree_of xs) start hash =
      (λ f. subst (λ t. FailsSomewhere t start hash) (sym (tree_of-join xs two)) f) in
      elim (search_set (IsPairOf digest hash) (is_pair digest hash) held) [
        | inr none ↦ inr (somewhere (record {
          at = start;
          many = size_of tl + size_of tr;
          fails = inl (
            record { at_is = refl; many_is = refl },
            λ x y q. none (1 ∷ x ++ y) q.is.is_held
                (record {
                  left =
                      x;
                  right = y;
                  left_len = q.left_len;
                  right_len = q.right_len;
                  is = refl;
                  digest_is = q.is.digest_is;
                }),
          );
        }))
        | inl f ↦
            let p = f.meets in
            let h : Has held (1 ∷ p.left ++ p.right) = subst (Has held) p.is f.has in
            let is : digest (1 ∷ p.left ++ p.right) ≡ hash = ap digest (sym p.is) ∙ p.digest_is in
            let pair : IsPairHeld digest held hash p.left p.right =
            record {
              left_len =
                  p.left_len;
              right_len = p.right_len;
              is = record { is_held = h; digest_is = is };
            } in
            elim (left (omega (arith, la, positive)) start p.left) [
              | inr l ↦ inr
                  (somewhere (record { at = l.at; many = l.many; fails = inr (p.left, p.right, pair, inl l.fails) }))
              | inl l ↦ elim (right (omega (arith, lb, below)) (start + size_of tl) p.right) [
                | inr r ↦ inr
                    (somewhere (record { at = r.at; many = r.many; fails = inr (p.left, p.right, pair, inr r.fails) }))
                | inl r ↦ inl
                    (subst (λ m. IsBuilt digest held m hash) total
                    (built-join digest held (length a) (length b) hash p.left p.right (omega (arith, total, two))
                    (la ∙ ap split_of (sym total)) h is l r))
              ]
            ]
      ]

  decides-all : (xs : List ℕ) → Decides xs
  decides-all xs = induction Decides (λ some. absurd (omega arith)) decides-one decides-join xs

  decided : (size : ℕ) (hash : List ℕ) → 1 ≤ size → IsBuilt digest held size hash ⊎ FailsSomewhere (shape size) 0 hash
  unfolding shape
  decided size hash some =
      let len : length (replicate size 0) ≡ size = length-replicate size 0 in
      subst (λ m. IsBuilt digest held m hash ⊎ FailsSomewhere (shape size) 0 hash) len
      (decides-all (replicate size 0) (omega (arith, len)) 0 hash)

-- ---- the order of notes

itself : (s : List ℕ) → IsAtMost s s
itself s = ap is_le (tied_itself nat_list_cmp_total s)

at_most_trans : (x y z : List ℕ) → IsAtMost x y → IsAtMost y z → IsAtMost x z
at_most_trans x y z a b = at (slice_cmp nat_cmp y z) refl
  where
    at : (o : Ordering) → slice_cmp nat_cmp y z ≡ o → IsAtMost x z
    at Less e = ap is_le (le_lt_trans nat_list_cmp_total x y z a e)
    at Equal e = subst (IsAtMost x) (slice_cmp-IsAntisymmetric nat_cmp-IsAntisymmetric y z e) a
    at Greater e = absurd (let wrong : false ≡ true = sym (ap is_le e) ∙ b in cc wrong)

at_most_total : (x y : List ℕ) → IsAtMost x y ⊎ IsAtMost y x
at_most_total x y = at (slice_cmp nat_cmp x y) refl
  where
    at : (o : Ordering) → slice_cmp nat_cmp x y ≡ o → IsAtMost x y ⊎ IsAtMost y x
    at Less e = inl (ap is_le e)
    at Equal e = inl (ap is_le e)
    at Greater e = inr (ap is_le (nat_list_cmp_total.antisymm y x ∙ ap ordering_reverse e))

le_total : (a b : ℕ) → (a ≤ b) ⊎ (b ≤ a)
le_total zero b = inl (omega arith)
le_total (suc a) zero = inr (omega arith)
le_total (suc a) (suc b) = elim (le_total a b) [ inl h ↦ inl (omega (arith, h)) | inr h ↦ inr (omega (arith, h)) ]

-- the first note does not come before the second in the order of serving
record IsNoBetter (other : List ℕ) (n : ℕ) (r : List ℕ) (note : List ℕ) (size : ℕ) (root : List ℕ) : Type 0 where
  size_le : n ≤ size
  root_le : n ≡ size → IsAtMost root r
  note_le : n ≡ size → r ≡ root → IsAtMost note other

no_better_itself : (note : List ℕ) (size : ℕ) (root : List ℕ) → IsNoBetter note size root note size root
no_better_itself note size root =
    record { size_le = omega arith; root_le = λ e. itself root; note_le = λ e f. itself note }

no_better_trans : (a b c : List ℕ) (n m k : ℕ) (r s t : List ℕ) → IsNoBetter a n r b m s → IsNoBetter b m s c k t →
    IsNoBetter a n r c k t
no_better_trans a b c n m k r s t p q = record {
  size_le = omega (arith, p.size_le, q.size_le);
  root_le = λ e.
      let first : n ≡ m = omega (arith, p.size_le, q.size_le, e) in
      let second : m ≡ k = omega (arith, p.size_le, q.size_le, e) in
      at_most_trans t s r (q.root_le second) (p.root_le first);
  note_le = λ e f.
      let first : n ≡ m = omega (arith, p.size_le, q.size_le, e) in
      let second : m ≡ k = omega (arith, p.size_le, q.size_le, e) in
      let same : s ≡ t = at_most_both s t (subst (IsAtMost s) f (p.root_le first)) (q.root_le second) in
      at_most_trans c b a (q.note_le second same) (p.note_le first (f ∙ sym same));
}

no_better_total : (a b : List ℕ) (n m : ℕ) (r s : List ℕ) → IsNoBetter a n r b m s ⊎ IsNoBetter b m s a n r
no_better_total a b n m r s = elim (same_number n m) [
  | inr ne ↦ elim (le_total n m) [
    | inl h ↦ inl (record { size_le = h; root_le = λ e. absurd (ne e); note_le = λ e f. absurd (ne e) })
    | inr h ↦ inr (record { size_le = h; root_le = λ e. absurd (ne (sym e)); note_le = λ e f. absurd (ne (sym e)) })
  ]
  | inl same ↦ elim (decide r s) [
    | inr ne ↦ elim (at_most_total r s) [
      | inl h ↦ inr (record { size_le = omega (arith, same); root_le = λ e. h; note_le = λ e f. absurd (ne (sym f)) })
      | inr h ↦ inl (record { size_le = omega (arith, same); root_le = λ e. h; note_le = λ e f. absurd (ne f) })
    ]
    | inl root_is ↦ elim (at_most_total a b) [
      | inl h ↦ inr
          (record {
            size_le =
                omega (arith, same);
            root_le = λ e. subst (IsAtMost r) root_is (itself r);
            note_le = λ e f. h;
          })
      | inr h ↦ inl
          (record {
            size_le =
                omega (arith, same);
            root_le = λ e. subst (IsAtMost s) (sym root_is) (itself s);
            note_le = λ e f. h;
          })
    ]
  ]
]

-- ---- the served note

in_cons : (x : List ℕ) (xs : List (List ℕ)) (y : List ℕ) → Contains (x ∷ xs) y → (x ≡ y) ⊎ Contains xs y
in_cons x xs y (zero, lt, is) = inl is
in_cons x xs y (suc k, lt, is) = inr (k, omega (arith, lt), is)

module _ (digest : List ℕ → List ℕ) (hash : IsDigest digest) (v : View) (lawful : IsLawful digest v) where
  built_or_not : (note : List ℕ) (size : ℕ) (root : List ℕ) → HoldsHead v note size root →
      IsBuilt digest v.strings size root ⊎ (IsBuilt digest v.strings size root → ⊥)
  built_or_not note size root holds = at size refl
    where
      small : size ≤ 256 ^ 8
      small = omega (arith, holds.is_head.is_checkpoint.in_range)

      at : (n : ℕ) → size ≡ n → IsBuilt digest v.strings size root ⊎ (IsBuilt digest v.strings size root → ⊥)
      at zero z =
          let e = lawful.edges note holds.is_held in
          let same = head_once note v.origin v.origin size e.size root e.root holds.is_head e.is_head in
          let is : digest [] ≡ root =
          none_root digest e.size e.root e.edge.rows (sym same.size_is ∙ z) e.edge.has_edge ∙ sym same.root_is in
          inl (subst (λ n. IsBuilt digest v.strings n root) (sym z) (built-none digest v.strings root is))
      at (suc n) z = elim (decided digest v.strings size root (omega arith)) [
        | inl b ↦ inl b
        | inr f ↦ inr
            (λ b. none_fails digest v.strings size root small
            (built_none digest v.strings hash lawful.no_clash size root small b) f.at f.many f.fails)
      ]

  record Chosen (ns : List (List ℕ)) : Type 0 where
    note : List ℕ
    size : ℕ
    root : List ℕ
    is : IsCompleteNote digest v note size root
    best : (other : List ℕ) (n : ℕ) (r : List ℕ) → Contains ns other → IsCompleteNote digest v other n r →
        IsNoBetter other n r note size root

  abbrev NoneOf : List (List ℕ) → Type 0
  NoneOf ns = (other : List ℕ) (n : ℕ) (r : List ℕ) → Contains ns other → IsCompleteNote digest v other n r → ⊥

  -- a property of a note's size and root holds for each complete reading of the same note
  as_head : (P : List ℕ → ℕ → List ℕ → Type 0) (x : List ℕ) (size : ℕ) (root : List ℕ) → HoldsHead v x size root →
      P x size root → (other : List ℕ) (n : ℕ) (r : List ℕ) → x ≡ other → IsCompleteNote digest v other n r →
      P other n r
  as_head P x size root holds p other n r same c =
      let d = subst (λ m. IsCompleteNote digest v m n r) (sym same) c in
      let s = head_once x v.origin v.origin size n root r holds.is_head d.holds.is_head in
      subst (λ m. P m n r) same (subst (λ k. P x k r) s.size_is (subst (λ h. P x size h) s.root_is p))

  choose : (ns : List (List ℕ)) → ((m : List ℕ) → Contains ns m → Has v.notes m) → Chosen ns ⊎ NoneOf ns
  choose [] held = inr (λ other n r c d. absurd (omega (arith, c.1)))
  choose (x ∷ ns) held =
      let e = lawful.edges x (held x (zero, omega arith, refl)) in
      let holds : HoldsHead v x e.size e.root =
      record { is_held = held x (zero, omega arith, refl); is_head = e.is_head } in
      let rest = choose ns (λ m c. held m (suc c.0, omega (arith, c.1), c.2)) in
      elim (built_or_not x e.size e.root holds) [
        | inr bare ↦
            let not_x : (other : List ℕ) (n : ℕ) (r : List ℕ) → x ≡ other → IsCompleteNote digest v other n r → ⊥ =
            (λ other n r same d. as_head
            (λ m k h. IsBuilt digest v.strings k h → ⊥) x e.size e.root holds bare other n r same d d.built) in
            elim rest [
              | inl b ↦ inl
                  (record {
                    note =
                        b.note;
                    size =
                        b.size;
                    root =
                        b.root;
                    is =
                        b.is;
                    best =
                        λ other n r c d. elim
                        (in_cons x ns other c) [
                          | inl same ↦ absurd
                              (not_x other n r same d)
                          | inr more ↦ b.best other n r more d
                        ];
                  })
              | inr none ↦ inr
                  (λ other n r c d. elim
                  (in_cons x ns other c) [ inl same ↦ not_x other n r same d | inr more ↦ none other n r more d ])
            ]
        | inl built ↦
            let own : IsCompleteNote digest v x e.size e.root = record { holds = holds; built = built } in
            let as_x : (other : List ℕ) (n : ℕ) (r : List ℕ) → x ≡ other → IsCompleteNote digest v other n r →
            IsNoBetter other n r x e.size e.root =
            (λ other n r same d. as_head (λ m k h. IsNoBetter m k h x e.size e.root) x e.size e.root holds
            (no_better_itself x e.size e.root) other n r same d) in
            elim rest [
              | inr none ↦ inl
                  (record {
                    note =
                        x;
                    size =
                        e.size;
                    root =
                        e.root;
                    is =
                        own;
                    best =
                        λ other n r c d. elim
                        (in_cons x ns other c) [
                          | inl same ↦ as_x other n r same d
                          | inr more ↦ absurd
                              (none other n r more d)
                        ];
                  })
              | inl b ↦ elim (no_better_total x b.note e.size b.size e.root b.root) [
                | inl worse ↦ inl (record {
                  note = b.note;
                  size = b.size;
                  root = b.root;
                  is = b.is;
                  best = λ other n r c d. elim (in_cons x ns other c) [
                    | inl same ↦ as_head
                        (λ m k h. IsNoBetter m k h b.note b.size b.root) x e.size e.root holds worse other n r same d
                    | inr more ↦ b.best other n r more d
                  ];
                })
                | inr better ↦ inl (record {
                  note = x;
                  size = e.size;
                  root = e.root;
                  is = own;
                  best = λ other n r c d. elim (in_cons x ns other c) [
                    | inl same ↦ as_x other n r same d
                    | inr more ↦ no_better_trans other b.note x n b.size e.size r b.root e.root
                        (b.best other n r more d) better
                  ];
                })
              ]
            ]
      ]

  serves_some : CompletesSome digest v → ServesSome digest v
  serves_some c = elim (choose (set.items v.notes) (λ m listed. has_item v.notes m listed)) [
    | inl b ↦ record {
      entries = b.is.built.entries;
      is = record {
        note = b.note;
        size = b.size;
        root = b.root;
        served = record {
          holds = b.is.holds;
          tree = b.is.built.is;
          greatest_size = λ other n r d. (b.best other n r (in_items v.notes other d.holds.is_held) d).size_le;
          least_root = λ other r d. (b.best other b.size r (in_items v.notes other d.holds.is_held) d).root_le refl;
          least_note =
              λ other d. (b.best other b.size b.root (in_items v.notes other d.holds.is_held) d).note_le refl refl;
        };
      };
    }
    | inr none ↦
        let head = c.is.complete.head in
        absurd (none head.note c.size c.root (in_items v.notes head.note head.holds.is_held)
        (record { holds = head.holds; built = record { entries = c.is.entries; is = c.is.complete.tree } }))
  ]

completes_some : (digest : List ℕ → List ℕ) (v : View) → ServesSome digest v → CompletesSome digest v
completes_some digest v s = record {
  size = s.is.size;
  root = s.is.root;
  is = record {
    entries =
        s.entries;
    complete =
        record { head = record { note = s.is.note; holds = s.is.served.holds }; tree = s.is.served.tree };
  };
}

pub served_where_complete : ServedWhereComplete
served_where_complete digest hash v lawful = (completes_some digest v, serves_some digest hash v lawful)
