-- Small views and plays.
use Rattle.std.proofs.Common.{◌≡◌, ℕ, List, [], ◌∷◌, length, sym, refl, ap, ◌∙◌, subst, inl, inr, arith}
use Rattle.std.specs.Prelude.{Some, slice_get, replicate, map}
use Rattle.std.specs.FinSet as set
use Rattle.std.specs.List.{Contains}
use Rattle.std.specs.Ordering.{is_le}
use Rattle.std.specs.Cmp.Lexicographic.{nat_list_cmp_total}
use Rattle.std.specs.Cmp.{tied_itself}
use Rattle.tlog_hash.specs.Tree.{tree_of, tree_within, fold_of, pairs_of, mth, joins, strings}
use Rattle.tlog_hash.specs.Sum.{sum_digest}
use Rattle.tlog_shape.specs.Split.{split_of, power_within}
use Rattle.node_store.specs.Strings.{Strings, Has, HasAll, IsTagged, OfEntry}
use Rattle.mirror_model.specs.View.{View, nothing}
use Rattle.mirror_model.specs.Heads.{IsHead}
use Rattle.mirror_model.specs.Edge.{edge_levels, edge_strings}
use Rattle.mirror_model.specs.Item.{HasEdgeRows, row_of}
use Rattle.mirror_model.specs.Complete.{IsTreeOf}
use Rattle.mirror_model.specs.Served.{IsAtMost, IsCompleteNote}
use Rattle.mirror_model.specs.declared.events.Event.{Event}
use Rattle.mirror_model.specs.declared.events.Event.TheVariants.{Merge}
use Rattle.mirror_model.specs.Events.{Reaches, OpeningReaches}
use Rattle.mirror_model.specs.Reached.{OpensWith}
use Rattle.mirror_model.specs.ViewExamples.{EmptyCountsForNothing, OneEntryIsServed, one_entry}
use Rattle.mirror_model.proofs.Reaching.{open_none, open_itself, open_first, open_by, item_none, item_first}
use Rattle.mirror_model.proofs.StringSets.{has_empty, has_from_listed, only_listed}
use Rattle.mirror_model.specs.HeadLaws.{IsSameHead}
use Rattle.mirror_model.proofs.HeadNotes.{head_once}

-- ---- a mirror that opened empty

abbrev one_merge : List Event
one_merge = Merge 0 1 ∷ []

-- only the opening view of mirror 1 reaches it
own : (number : ℕ) → OpeningReaches number 1 one_merge → number ≡ 1
own number h = elim (open_first (Merge 0 1) [] number 1 h) [
  | inl a ↦ open_none number 1 a
  | inr b ↦
      let m : Merge 0 1 ≡ Merge b.target number = b.is in
      let t : 0 ≡ b.target = cc m in
      let wrong : b.target ≡ 1 = open_none b.target 1 b.on in
      absurd (omega (arith, t, wrong))
]

-- no item was taken, so none reaches a mirror
no_item : {X : Type 0} (item : _) (mirror : ℕ) → Reaches item mirror one_merge → X
no_item item mirror h = elim (item_first (Merge 0 1) [] item mirror h) [
  | inl a ↦ absurd (item_none item mirror a)
  | inr b ↦ absurd (cc b.is)
]

module _ (origin : List ℕ) (v : View) where
  abbrev opened : List View
  opened = nothing origin ∷ v ∷ []

  there : (part : View → Strings) (q : List ℕ) → (Has (part (nothing origin)) q → ⊥) →
      OpensWith opened part one_merge 0 q → OpensWith opened part one_merge 1 q
  there part q none o = elim (open_first (Merge 0 1) [] o.number 0 o.reaches) [
    | inl a ↦
        let zero_is : o.number ≡ 0 = open_none o.number 0 a in
        let at : Some (nothing origin) ≡ Some o.view = ap (slice_get opened) (sym zero_is) ∙ o.is in
        let same : o.view ≡ nothing origin = sym (cc at) in
        absurd (none (subst (λ w. Has (part w) q) same o.has))
    | inr b ↦
        let m : Merge 0 1 ≡ Merge b.target o.number = b.is in
        let one_is : 1 ≡ o.number = cc m in
        let at : slice_get opened 1 ≡ Some o.view = ap (slice_get opened) one_is ∙ o.is in
        record { number = 1; view = o.view; is = at; reaches = open_itself 1 one_merge; has = o.has }
  ]

  back : (part : View → Strings) (q : List ℕ) → OpensWith opened part one_merge 1 q →
      OpensWith opened part one_merge 0 q
  back part q o =
      let at : slice_get opened 1 ≡ Some o.view = ap (slice_get opened) (sym (own o.number o.reaches)) ∙ o.is in
      record { number = 1; view = o.view; is = at; reaches = open_by [] 0 1 0 (open_itself 0 []); has = o.has }

pub empty_counts_for_nothing : EmptyCountsForNothing
empty_counts_for_nothing digest origin keys v = record {
  there = record {
    items = λ item good h. no_item item 0 h;
    strings = λ q o. there origin v (λ w. w.strings) q (has_empty q) o;
    notes = λ q o. there origin v (λ w. w.notes) q (has_empty q) o;
  };
  back = record {
    items = λ item good h. no_item item 1 h;
    strings = λ q o. back origin v (λ w. w.strings) q o;
    notes = λ q o. back origin v (λ w. w.notes) q o;
  };
}

-- ---- a view that serves one entry

first_listed : (x : List ℕ) → Contains (x ∷ []) x
first_listed x = (0, omega arith, refl)

rows_lead : HasEdgeRows sum_digest 1 (mth sum_digest one_entry) ((1 ∷ replicate 31 0) ∷ [])
unfolding mth fold_of tree_of tree_within split_of power_within sum_digest edge_levels
rows_lead = record { widths = refl; root_is = refl }

no_strings : (held : Strings) → HasAll held (edge_strings sum_digest (map row_of ((1 ∷ replicate 31 0) ∷ [])))
unfolding pairs_of joins tree_of tree_within fold_of
no_strings held = tt

is_tree : (held : Strings) → Has held (0 ∷ 1 ∷ []) → IsTreeOf sum_digest held 1 (mth sum_digest one_entry) one_entry
unfolding strings joins pairs_of tree_of tree_within
is_tree held h = record { size_is = refl; root_is = refl; are_held = (h, tt) }

abbrev the_view : (note origin : List ℕ) → View
the_view note origin =
    record { origin = origin; notes = set.from_list (note ∷ []); strings = set.from_list ((0 ∷ 1 ∷ []) ∷ []) }

itself : (s : List ℕ) → IsAtMost s s
itself s = ap is_le (tied_itself nat_list_cmp_total s)

pub one_entry_is_served : OneEntryIsServed
one_entry_is_served note origin head = record {
  view = the_view note origin;
  lawful = record {
    no_clash = record { same = λ x y hx hy e. only_listed _ x hx ∙ sym (only_listed _ y hy) };
    are_strings = λ s h. subst IsTagged (sym (only_listed _ s h)) (OfEntry (1 ∷ []));
    leaves_short =
        λ e h. let is : 0 ∷ e ≡ 0 ∷ 1 ∷ [] =
        only_listed _ (0 ∷ e) h in let len : length (0 ∷ e) ≡ 2 = ap length is in omega (arith, len);
    edges = λ other h. record {
      size = 1;
      root = mth sum_digest one_entry;
      is_head = subst (λ n. IsHead n origin 1 (mth sum_digest one_entry)) (sym (only_listed note other h)) head;
      edge = record {
        rows = (1 ∷ replicate 31 0) ∷ [];
        has_edge =
            rows_lead;
        are_held = no_strings (set.from_list ((0 ∷ 1 ∷ []) ∷ []));
      };
    };
  };
  served = record {
    holds = record { is_held = has_from_listed (note ∷ []) note (first_listed note); is_head = head };
    tree = is_tree (set.from_list ((0 ∷ 1 ∷ []) ∷ []))
        (has_from_listed ((0 ∷ 1 ∷ []) ∷ []) (0 ∷ 1 ∷ []) (first_listed (0 ∷ 1 ∷ [])));
    greatest_size = λ other n r c. let s = once other n r c in omega (arith, s.size_is);
    least_root =
        λ other r c. let s =
        once other 1 r c in subst (IsAtMost (mth sum_digest one_entry)) (s.root_is) (itself (mth sum_digest one_entry));
    least_note = λ other c. subst (IsAtMost note) (sym (only_listed note other c.holds.is_held)) (itself note);
  };
}
  where
    once : (other : List ℕ) (n : ℕ) (r : List ℕ) → IsCompleteNote sum_digest (the_view note origin) other n r →
        IsSameHead origin origin 1 n (mth sum_digest one_entry) r
    once other n r c =
        head_once note origin origin 1 n (mth sum_digest one_entry) r head
        (subst (λ k. IsHead k origin n r) (only_listed note other c.holds.is_held) c.holds.is_head)
