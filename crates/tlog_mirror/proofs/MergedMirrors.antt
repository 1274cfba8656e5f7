-- The result of a merge for a view: all strings of the other, and then its notes, one by one.
use Rattle.std.proofs.Common.{◌≡◌, ℕ, ◌+◌, ◌<◌, List, [], ◌∷◌, ◌++◌, length, map, take, drop, get_or, All, inl, inr}
use Rattle.std.proofs.Common.{refl, sym, ap, subst, ◌∙◌, arith}
use Rattle.std.specs.FinSet as set
use Rattle.std.specs.List.{Contains}
use Rattle.std.proofs.lemmas.List.{map-append, take_more, take-append-drop, get_or-map, length-map}
use Rattle.std.proofs.lemmas.List.Elements.{All-contains, Contains-append_left}
use Rattle.node_store.specs.Strings.{Strings, Has, NoClash}
use Rattle.mirror_model.specs.View.{View, union}
use Rattle.mirror_model.specs.Complete.{HasEdge}
use Rattle.mirror_model.specs.Heads.{IsHead}
use Rattle.mirror_model.specs.Marks.{Points}
use Rattle.mirror_model.specs.Steps.{Exhausted, Answers, IsBetween}
use Rattle.mirror_model.proofs.StringSets.{has_left, has_right, has_cases, has_from_listed, listed_from_has, held_more}
use Rattle.mirror_trees.proofs.BuiltTrees.{added_both, added_none}
use Rattle.tlog_mirror.specs.Adding.{with_note, with_notes, with_strings}
use Rattle.tlog_mirror.specs.Kept.{state_of, note_bytes, IsKeptWell}
use Rattle.mirror_trees.specs.declared.held_note.HeldNote.{HeldNote}

-- the bytes of the first notes
abbrev pub first_notes : ℕ → List HeldNote → List (List ℕ)
first_notes n kept = map note_bytes (take n kept)

-- the right edge of a note is held if its strings are
edge_moves :
    (digest : List ℕ → List ℕ) (v w : View) (note : List ℕ) → v.origin ≡ w.origin →
    ((q : List ℕ) → Has v.strings q → Has w.strings q) → HasEdge digest v note → HasEdge digest w note
edge_moves digest v w note same more e = record {
  size = e.size;
  root = e.root;
  is_head = subst (λ o. IsHead note o e.size e.root) same e.is_head;
  edge = record {
    rows = e.edge.rows;
    has_edge = e.edge.has_edge;
    are_held = held_more v.strings w.strings _ more e.edge.are_held;
  };
}

-- ---- notes, in order

-- no note yet
pub noted_none : (v : View) (kept : List HeldNote) → v ≡ with_notes v (first_notes 0 kept)
noted_none v kept i = record { origin = v.origin; notes = added_none v.notes i; strings = v.strings }

module _ (v : View) (kept : List HeldNote) (i : ℕ) (k : HeldNote) (lt : i < length kept)
    (at : k ≡ get_or kept i k) where
  -- one more note
  pub noted_more :
      (between new : View) → between ≡ with_notes v (first_notes i kept) → new ≡ with_note between (note_bytes k) →
      new ≡ with_notes v (first_notes (i + 1) kept)
  noted_more between new before is =
      let more : first_notes (i + 1) kept ≡ first_notes i kept ++ note_bytes k ∷ [] =
      ap (map note_bytes) (take_more kept i k lt) ∙ map-append note_bytes (take i kept) (get_or kept i k ∷ []) ∙
      ap (λ (x : HeldNote). first_notes i kept ++ note_bytes x ∷ []) (sym at) in
      is ∙ ap (λ w. with_note w (note_bytes k)) before
      ∙ (λ t. record {
        origin =
            v.origin;
        notes = added_both v.notes (first_notes i kept) (note_bytes k ∷ []) t;
        strings = v.strings;
      })
      ∙ ap (with_notes v) (sym more)

  is_listed : Contains kept k
  is_listed = (i, lt, sym at)

  -- the note is a tree head, and its right edge is held
  module _ (between : View) (before : between ≡ with_notes v (first_notes i kept)) where
    pub note_said : All (λ x. IsHead (note_bytes x) v.origin x.size x.root) kept →
        IsHead (note_bytes k) between.origin k.size k.root
    note_said said =
        subst (λ (w : View). IsHead (note_bytes k) w.origin k.size k.root) (sym before)
        (All-contains (λ (x : HeldNote). IsHead (note_bytes x) v.origin x.size x.root) kept k said is_listed)

    pub note_edge : (digest : List ℕ → List ℕ) → All (λ x. HasEdge digest v (note_bytes x)) kept →
        HasEdge digest between (note_bytes k)
    note_edge digest edges =
        subst (λ (w : View). HasEdge digest w (note_bytes k)) (sym before)
        (edge_moves digest v (with_notes v (first_notes i kept)) (note_bytes k) refl (λ q h. h)
        (All-contains (λ (x : HeldNote). HasEdge digest v (note_bytes x)) kept k edges is_listed))

-- ---- the merge

module _ (digest : List ℕ → List ℕ) (old : View) (origin : List ℕ) (kept : List HeldNote) (strings : Strings)
    (remembered : Points) where
  abbrev other : View
  other = (state_of origin kept strings remembered).view

  -- the right edges of its notes are held if its strings are
  pub others_edges :
      IsKeptWell digest origin kept strings remembered → old.origin ≡ origin → (between : View) →
      between ≡ with_strings old strings → (notes : List HeldNote) → notes ≡ kept →
      All (λ k. HasEdge digest between (note_bytes k)) notes
  others_edges ok same between is notes all =
      subst (λ (v : View). All (λ (k : HeldNote). HasEdge digest v (note_bytes k)) notes) (sym is)
      (subst (λ (xs : List HeldNote). All
      (λ (k : HeldNote). HasEdge digest (with_strings old strings) (note_bytes k)) xs) (sym all)
      (λ i k lt.
      let note = note_bytes (get_or kept i k) in
      edge_moves digest other (with_strings old strings) note (sym same) (λ q h. has_right old.strings strings q h)
      (ok.sound.lawful.edges note
      (has_from_listed (map note_bytes kept) note
      (i, omega (arith, length-map kept note_bytes, lt), get_or-map note_bytes kept i k note lt)))))

  -- OutOfMemory among the notes
  pub merged_part :
      (i : ℕ) (new : View) → old.origin ≡ origin → NoClash digest (set.union old.strings strings) →
      new ≡ with_notes (with_strings old strings) (first_notes i kept) →
      Answers digest old (old.origin ≡ origin) (union old other) Exhausted new
  merged_part i new same clean is = inr (
    same,
    clean,
    subst (IsBetween old (union old other)) (sym is) (record {
      grows = record {
        origin_is =
            refl;
        notes_are =
            λ n h. has_left old.notes (set.from_list (first_notes i kept)) n h;
        strings_are =
            λ s h. has_left old.strings strings s h;
      };
      within = record {
        origin_is = refl;
        notes_are = λ n h. elim (has_cases old.notes (set.from_list (first_notes i kept)) n h) [
          | inl a ↦ has_left old.notes other.notes n a
          | inr b ↦ has_right old.notes other.notes n
              (has_from_listed (map note_bytes kept) n (some_first n (listed_from_has (first_notes i kept) n b)))
        ];
        strings_are = λ s h. h;
      };
      notes_last = λ n h. inr (λ s held. held);
    }),
  )
    where
      some_first : (n : List ℕ) → Contains (first_notes i kept) n → Contains (map note_bytes kept) n
      some_first n c =
          subst (λ xs. Contains xs n)
          (sym (map-append note_bytes (take i kept) (drop i kept)) ∙ ap (map note_bytes) (take-append-drop i kept))
          (Contains-append_left (first_notes i kept) (map note_bytes (drop i kept)) n c)

  -- OutOfMemory among the strings
  pub strings_part :
      (new : View) → old.origin ≡ origin → Answers digest old (Unit {0}) (with_strings old strings) Exhausted new →
      Answers digest old (old.origin ≡ origin) (union old other) Exhausted new
  strings_part new same h = elim h [
    | inl is ↦ inl is
    | inr m ↦ inr (
      same,
      m.1,
      record {
        grows = m.2.grows;
        within = record {
          origin_is =
              m.2.within.origin_is;
          notes_are =
              λ n held. has_left old.notes other.notes n (m.2.within.notes_are n held);
          strings_are =
              m.2.within.strings_are;
        };
        notes_last = m.2.notes_last;
      },
    )
  ]
