-- Kept notes in rising order of bytes: the place of a note, and the change by one more.
use Rattle.std.proofs.Common.{◌≡◌, ℕ, ◌+◌, ◌-◌, ◌<◌, ◌≤◌, false, List, [], ◌∷◌, length}
use Rattle.std.proofs.Common.{map, get_or, Ok, Err, inl, inr, refl, sym, ap, subst, ◌∙◌, arith}
use Rattle.std.specs.FinSet as set
use Rattle.std.specs.FinSet.{slice_cmp-IsAntisymmetric, nat_cmp-IsAntisymmetric}
use Rattle.std.specs.List.{insert}
use Rattle.std.specs.List.Sorted.{IsStrictlySortedBy, IsSortedBy, IsBinarySearchResult, IsNonDecreasingBy}
use Rattle.std.specs.List.Sorted.{IsPermutation}
use Rattle.std.specs.Ordering.{nat_cmp, is_lt, ordering_index, ordering_reverse}
use Rattle.std.specs.declared.cmp.Ordering.{Ordering}
use Rattle.std.specs.declared.cmp.Ordering.TheVariants.{Less}
use Rattle.std.specs.Cmp.Lexicographic.{slice_cmp, nat_list_cmp_total}
use Rattle.std.proofs.Math.ListN.{get_or-map}
use Rattle.std.proofs.lemmas.Bool.{cases_lt}
use Rattle.std.proofs.lemmas.List.{length-map}
use Rattle.std.proofs.lemmas.List as lists
use Rattle.std.proofs.lemmas.List.Edits.{length-insert, get_or-insert_below, get_or-insert_at, get_or-insert_above}
use Rattle.std.proofs.lemmas.List.Elements.{All-cons, Contains-append_cases}
use Rattle.std.proofs.lemmas.List.Elements.{Contains-append_left, Contains-append_right}
use Rattle.std.proofs.lemmas.List.Sorted.{searchable_from_sorted, IsPermutation-insert, IsPermutation-map}
use Rattle.std.proofs.lemmas.List.Sorted.{IsPermutation-sym, Contains-permutation, All-permutation}
use Rattle.std.proofs.lemmas.Map.Keys.{Less-from_sorted, sorted_from_all_adjacent}
use Rattle.node_store.specs.Strings.{Strings, Has}
use Rattle.mirror_model.specs.View.{View, IsSubview}
use Rattle.mirror_model.specs.Complete.{HasEdge}
use Rattle.mirror_model.specs.Heads.{IsHead}
use Rattle.mirror_model.specs.Marks.{Points}
use Rattle.mirror_model.proofs.StringSets.{has_left, has_right, has_cases, same_strings, listed_from_has, only_listed}
use Rattle.mirror_model.proofs.StringSets.{has_from_listed}
use Rattle.mirror_model.proofs.Views.{edge_stays, marks_stay}
use Rattle.tlog_mirror.specs.Adding.{with_note}
use Rattle.tlog_mirror.specs.Kept.{state_of, note_bytes, IsKeptWell}
use Rattle.mirror_trees.specs.declared.held_note.HeldNote.{HeldNote}

abbrev pub by_bytes : List ℕ → List ℕ → Ordering
by_bytes = slice_cmp nat_cmp

-- ---- the place of a note

is_lt_after : (a b : List ℕ) → by_bytes a b ≡ Less → is_lt (by_bytes b a) ≡ false
is_lt_after a b e = ap is_lt (nat_list_cmp_total.antisymm b a) ∙ ap (λ o. is_lt (ordering_reverse o)) e

module _ (kept : List HeldNote) (rising : IsStrictlySortedBy by_bytes (map note_bytes kept)) where
  less_at : (d : HeldNote) (i j : ℕ) → i < j → j < length kept →
      by_bytes (note_bytes (get_or kept i d)) (note_bytes (get_or kept j d)) ≡ Less
  less_at d i j lt in_range =
      sym (λ t. by_bytes (get_or-map note_bytes kept i d t) (get_or-map note_bytes kept j d t))
      ∙ Less-from_sorted by_bytes (map note_bytes kept) i j (note_bytes d) rising lt
      (omega (arith, length-map kept note_bytes, in_range))

  rises : IsSortedBy (λ a b. is_lt (by_bytes (note_bytes a) (note_bytes b))) kept
  rises k d low high =
      is_lt_after (note_bytes (get_or kept k d)) (note_bytes (get_or kept (k + 1) d))
      (less_at d k (k + 1) (omega arith) high)

  comparisons_rise : (bytes : List ℕ) → IsNonDecreasingBy (λ k. ordering_index (by_bytes (note_bytes k) bytes)) kept
  comparisons_rise bytes = searchable_from_sorted nat_list_cmp_total note_bytes kept bytes rises

  -- a note that is not found goes between the lesser notes and the greater ones
  module _ (k : HeldNote) (at : ℕ) (within : at ≤ length kept)
      (gap : IsBinarySearchResult (λ x. by_bytes (note_bytes x) (note_bytes k)) kept (Err at)) where
    below : (j : ℕ) → j < at → by_bytes (note_bytes (get_or kept j k)) (note_bytes k) ≡ Less
    below j lt = (gap (comparisons_rise (note_bytes k))).0 j k (omega arith) lt

    above : (j : ℕ) → at ≤ j → j < length kept → by_bytes (note_bytes k) (note_bytes (get_or kept j k)) ≡ Less
    above j le lt =
        nat_list_cmp_total.antisymm (note_bytes k) (note_bytes (get_or kept j k))
        ∙ ap ordering_reverse ((gap (comparisons_rise (note_bytes k))).1 j k le lt)

    abbrev new : List HeldNote
    new = insert kept at k

    rises_at : (j : ℕ) → j + 1 < length new →
        by_bytes (note_bytes (get_or new j k)) (note_bytes (get_or new (j + 1) k)) ≡ Less
    rises_at j lt =
        let len : length new ≡ length kept + 1 = length-insert kept at k within in
        elim (cases_lt (j + 1) at) [
          | inl a ↦
              (λ t. by_bytes (note_bytes (get_or-insert_below kept at k k j (omega arith) within t))
              (note_bytes (get_or-insert_below kept at k k (j + 1) a within t)))
              ∙ less_at k j (j + 1) (omega arith) (omega arith)
          | inr b ↦ elim (cases_lt j at) [
            | inl a ↦
                let here : j + 1 ≡ at = omega arith in
                (λ t. by_bytes (note_bytes (get_or-insert_below kept at k k j a within t))
                (note_bytes ((ap (λ n. get_or new n k) here ∙ get_or-insert_at kept at k k within) t)))
                ∙ below j a
            | inr c ↦ elim (cases_lt at j) [
              | inl a ↦
                  let before : j ≡ j - 1 + 1 = omega arith in
                  (λ t. by_bytes
                  (note_bytes
                  ((ap (λ n. get_or new n k) before ∙
                  get_or-insert_above kept at k k (j - 1) (omega arith) within) t))
                  (note_bytes (get_or-insert_above kept at k k j c within t)))
                  ∙ less_at k (j - 1) j (omega arith) (omega arith)
              | inr a ↦
                  let here : j ≡ at = omega arith in
                  (λ t. by_bytes (note_bytes ((ap (λ n. get_or new n k) here ∙ get_or-insert_at kept at k k within) t))
                  (note_bytes (get_or-insert_above kept at k k j c within t)))
                  ∙ above j c (omega arith)
            ]
          ]
        ]

    pub inserted_rises : IsStrictlySortedBy by_bytes (map note_bytes new)
    inserted_rises = sorted_from_all_adjacent nat_list_cmp_total (map note_bytes new) (note_bytes k)
        (λ j lt. (λ t. by_bytes (get_or-map note_bytes new j k t) (get_or-map note_bytes new (j + 1) k t)) ∙
        rises_at j (omega (arith, length-map new note_bytes, lt)))

-- a note that is found is kept
pub found_is_kept :
    (kept : List HeldNote) (bytes : List ℕ) (at : ℕ) → at < length kept →
    IsBinarySearchResult (λ k. by_bytes (note_bytes k) bytes) kept (Ok at) →
    Has (set.from_list (map note_bytes kept)) bytes
found_is_kept [] bytes at lt found = absurd (omega arith)
found_is_kept (x ∷ xs) bytes at lt found =
    let same : note_bytes (get_or (x ∷ xs) at x) ≡ bytes =
    slice_cmp-IsAntisymmetric nat_cmp-IsAntisymmetric (note_bytes (get_or (x ∷ xs) at x)) bytes (found x) in
    let within : at < length (map note_bytes (x ∷ xs)) = omega (arith, length-map (x ∷ xs) note_bytes, lt) in
    has_from_listed (map note_bytes (x ∷ xs)) bytes
    (at, within, lists.get_or-map note_bytes (x ∷ xs) at x bytes lt ∙ same)

-- ---- one more note

module _ (kept : List HeldNote) (at : ℕ) (k : HeldNote) where
  same_notes : IsPermutation (map note_bytes (k ∷ kept)) (map note_bytes (insert kept at k))
  same_notes = IsPermutation-map note_bytes (k ∷ kept) (insert kept at k) (IsPermutation-insert kept at k)

  abbrev notes_of : List HeldNote → Strings
  notes_of notes = set.from_list (map note_bytes notes)

  pub notes_inserted : notes_of (insert kept at k) ≡ set.union (notes_of kept) (set.from_list (note_bytes k ∷ []))
  notes_inserted = same_strings _ _
      (λ q h. elim
      (Contains-append_cases (note_bytes k ∷ []) (map note_bytes kept) q
      (Contains-permutation (map note_bytes (insert kept at k)) (map note_bytes (k ∷ kept)) q
      (IsPermutation-sym _ _ same_notes) (listed_from_has (map note_bytes (insert kept at k)) q h))) [
        | inl a ↦ has_right (set.from_list (map note_bytes kept)) (set.from_list (note_bytes k ∷ [])) q
            (has_from_listed (note_bytes k ∷ []) q a)
        | inr b ↦ has_left (set.from_list (map note_bytes kept)) (set.from_list (note_bytes k ∷ [])) q
            (has_from_listed (map note_bytes kept) q b)
      ])
      (λ q h. has_from_listed (map note_bytes (insert kept at k)) q
      (Contains-permutation (map note_bytes (k ∷ kept)) (map note_bytes (insert kept at k)) q same_notes
      (elim (has_cases (set.from_list (map note_bytes kept)) (set.from_list (note_bytes k ∷ [])) q h) [
        | inl a ↦ Contains-append_right (note_bytes k ∷ []) (map note_bytes kept) q
            (listed_from_has (map note_bytes kept) q a)
        | inr b ↦ Contains-append_left (note_bytes k ∷ []) (map note_bytes kept) q
            (listed_from_has (note_bytes k ∷ []) q b)
      ])))

-- adding a note that is kept changes nothing
pub kept_already : (notes : Strings) (note : List ℕ) → Has notes note →
    notes ≡ set.union notes (set.from_list (note ∷ []))
kept_already notes note held = same_strings _ _
    (λ q h. has_left notes (set.from_list (note ∷ [])) q h)
    (λ q h. elim
    (has_cases notes (set.from_list (note ∷ [])) q h) [
      | inl a ↦ a
      | inr b ↦ subst (Has notes)
          (sym (only_listed note q b)) held
    ])

module _ (digest : List ℕ → List ℕ) (origin : List ℕ) (kept : List HeldNote) (strings : Strings) (remembered : Points)
    (ok : IsKeptWell digest origin kept strings remembered) (k : HeldNote) (at : ℕ) where
  abbrev before : View
  before = (state_of origin kept strings remembered).view

  abbrev after : View
  after = (state_of origin (insert kept at k) strings remembered).view

  more_notes : IsSubview before after
  more_notes = record {
    origin_is = refl;
    notes_are =
        λ note h. subst (λ s. Has s note) (sym (notes_inserted kept at k))
        (has_left before.notes (set.from_list (note_bytes k ∷ [])) note h);
    strings_are = λ s h. h;
  }

  pub inserted_well :
      at ≤ length kept → IsBinarySearchResult (λ x. by_bytes (note_bytes x) (note_bytes k)) kept (Err at) →
      IsHead (note_bytes k) origin k.size k.root → HasEdge digest before (note_bytes k) →
      IsKeptWell digest origin (insert kept at k) strings remembered
  inserted_well within gap said edge = record {
    sound = record {
      origin = ok.sound.origin;
      lawful = record {
        no_clash = ok.sound.lawful.no_clash;
        are_strings = ok.sound.lawful.are_strings;
        leaves_short = ok.sound.lawful.leaves_short;
        edges = λ note h. edge_stays digest before after more_notes note
            (elim (has_cases before.notes (set.from_list (note_bytes k ∷ [])) note
            (subst (λ s. Has s note) (notes_inserted kept at k) h)) [
              | inl a ↦ ok.sound.lawful.edges note a
              | inr b ↦ subst (HasEdge digest before) (sym (only_listed (note_bytes k) note b)) edge
            ]);
      };
      marks = λ point h. marks_stay digest before after more_notes point (ok.sound.marks point h);
    };
    settled = ok.settled;
    rising = inserted_rises kept ok.rising k at within gap;
    said = All-permutation (λ (x : HeldNote). IsHead (note_bytes x) origin x.size x.root) (k ∷ kept) (insert kept at k)
        (IsPermutation-insert kept at k)
        (All-cons (λ (x : HeldNote). IsHead (note_bytes x) origin x.size x.root) k kept said ok.said);
  }

  pub inserted_view : (state_of origin (insert kept at k) strings remembered).view ≡ with_note before (note_bytes k)
  inserted_view i = record { origin = origin; notes = notes_inserted kept at k i; strings = strings }

pub kept_view : (v : View) (note : List ℕ) → Has v.notes note → v ≡ with_note v note
kept_view v note held i = record { origin = v.origin; notes = kept_already v.notes note held i; strings = v.strings }
