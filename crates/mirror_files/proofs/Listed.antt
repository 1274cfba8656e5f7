-- The content of a state text, as a view.
use Rattle.std.proofs.Common.{◌≡◌, ◌⊎◌, inl, inr, ℕ, ◌≤◌, List, [], ◌∷◌, ◌++◌, length, map, All, refl, sym}
use Rattle.std.proofs.Common.{ap, subst, arith, length-append}
use Rattle.std.specs.FinSet as set
use Rattle.std.specs.List.{Contains}
use Rattle.std.proofs.lemmas.List.Elements.{All-contains_itself, All-weaker}
use Rattle.std.proofs.lemmas.List.Elements.{Contains-append_left, Contains-append_right, Contains-append_cases}
use Rattle.signed_note.specs.Keys.{Key}
use Rattle.node_store.specs.Strings.{Has, AllTagged, NoClash, IsTagged}
use Rattle.node_store.specs.Strings as string
use Rattle.mirror_model.specs.View.{View}
use Rattle.mirror_model.specs.Complete.{HasEdge}
use Rattle.mirror_model.proofs.StringSets.{same_strings, listed_from_has, has_from_listed}
use Rattle.tlog_mirror.specs.Restored.{IsOpenNote}
use Rattle.mirror_files.specs.StateText.{Parts, VersionTwo, VersionOne, StateText, OldStateText}
use Rattle.mirror_files.specs.Content.{listed_notes, listed_view, IsStateString, HasStrings}
use Rattle.mirror_files.specs.Loading.{HasState, HasNoCollision}
use Rattle.mirror_files.proofs.Mapped.{IsMapped, from_mapped, mapped}

-- ---- the strings of version 2

abbrev pub entry_strings : List (List ℕ) → List (List ℕ)
entry_strings entries = map (λ (entry : List ℕ). 0 ∷ entry) entries

abbrev pub pair_strings : List (List ℕ) → List (List ℕ)
pair_strings pairs = map (λ (pair : List ℕ). 1 ∷ pair) pairs

tail_of : List ℕ → List ℕ
tail_of [] = []
tail_of (x ∷ xs) = xs

module _ (entries pairs : List (List ℕ)) where
  abbrev pub both : List (List ℕ)
  both = entry_strings entries ++ pair_strings pairs

  pub has_entry : (entry : List ℕ) → Contains entries entry → Contains both (0 ∷ entry)
  has_entry entry c = Contains-append_left (entry_strings entries) (pair_strings pairs) (0 ∷ entry)
      (mapped (λ (e : List ℕ). 0 ∷ e) entries entry c)

  pub has_pair : (pair : List ℕ) → Contains pairs pair → Contains both (1 ∷ pair)
  has_pair pair c = Contains-append_right (entry_strings entries) (pair_strings pairs) (1 ∷ pair)
      (mapped (λ (e : List ℕ). 1 ∷ e) pairs pair c)

  pub either : (string : List ℕ) → Contains both string →
      IsMapped (λ (e : List ℕ). 0 ∷ e) entries string ⊎ IsMapped (λ (e : List ℕ). 1 ∷ e) pairs string
  either string c = elim (Contains-append_cases (entry_strings entries) (pair_strings pairs) string c) [
    | inl a ↦ inl (from_mapped (λ (e : List ℕ). 0 ∷ e) entries string a)
    | inr b ↦ inr (from_mapped (λ (e : List ℕ). 1 ∷ e) pairs string b)
  ]

  pub entry_in : (entry : List ℕ) → Contains both (0 ∷ entry) → Contains entries entry
  unfolding tail_of
  entry_in entry c = elim (either (0 ∷ entry) c) [
    | inl m ↦ subst (Contains entries) (ap tail_of m.is) m.is_in
    | inr m ↦ absurd (let e = m.is in cc e)
  ]

  pub pair_in : (pair : List ℕ) → Contains both (1 ∷ pair) → Contains pairs pair
  unfolding tail_of
  pair_in pair c = elim (either (1 ∷ pair) c) [
    | inl m ↦ absurd (let e = m.is in cc e)
    | inr m ↦ subst (Contains pairs) (ap tail_of m.is) m.is_in
  ]

-- ---- the view of a text

same_view : (v : View) (notes strings : List (List ℕ)) →
    ((q : List ℕ) → Contains notes q → Has v.notes q) → ((q : List ℕ) → Has v.notes q → Contains notes q) →
    ((q : List ℕ) → Contains strings q → Has v.strings q) → ((q : List ℕ) → Has v.strings q → Contains strings q) →
    record { origin = v.origin; notes = set.from_list notes; strings = set.from_list strings } ≡ v
same_view v notes strings n_to n_from s_to s_from =
    let n : set.from_list notes ≡ v.notes = same_strings (set.from_list notes) v.notes
    (λ q h. n_to q (listed_from_has notes q h)) (λ q h. has_from_listed notes q (n_from q h)) in
    let s : set.from_list strings ≡ v.strings = same_strings (set.from_list strings) v.strings
    (λ q h. s_to q (listed_from_has strings q h)) (λ q h. has_from_listed strings q (s_from q h)) in
    λ i. record { origin = v.origin; notes = n i; strings = s i }

pub new_view : (v : View) (bytes : List ℕ) (t : StateText v bytes) → AllTagged v.strings →
    listed_view (VersionTwo v.origin t.notes t.pairs t.entries) ≡ v
new_view v bytes t tagged =
    same_view v t.notes (both t.entries t.pairs) (λ q c. (t.notes_are.exact q).0 c)
    (λ q h. (t.notes_are.exact q).1 h) to from
  where
    to : (q : List ℕ) → Contains (both t.entries t.pairs) q → Has v.strings q
    to q c = elim (either t.entries t.pairs q c) [
      | inl m ↦ subst (Has v.strings) m.is ((t.entries_are m.from).0 m.is_in)
      | inr m ↦ subst (Has v.strings) m.is ((t.pairs_are m.from).0 m.is_in)
    ]

    by_tag : (q : List ℕ) → IsTagged q → Has v.strings q → Contains (both t.entries t.pairs) q
    by_tag q (string.OfEntry entry) h = has_entry t.entries t.pairs entry ((t.entries_are entry).1 h)
    by_tag q (string.OfPair left right l r) h =
        has_pair t.entries t.pairs (left ++ right) ((t.pairs_are (left ++ right)).1 h)

    from : (q : List ℕ) → Has v.strings q → Contains (both t.entries t.pairs) q
    from q h = by_tag q (tagged q h) h

pub old_view : (v : View) (bytes : List ℕ) (t : OldStateText v bytes) →
    listed_view (VersionOne v.origin t.notes t.strings) ≡ v
old_view v bytes t =
    same_view v t.notes t.strings (λ q c. (t.notes_are.exact q).0 c) (λ q h. (t.notes_are.exact q).1 h)
    (λ q c. (t.strings_are q).0 c) (λ q h. (t.strings_are q).1 h)

-- ---- a loaded text is in order

pub state_string : (q : List ℕ) (v : View) → ((entry : List ℕ) → Has v.strings (0 ∷ entry) → length entry ≤ 65535) →
    IsTagged q → Has v.strings q → IsStateString q
state_string q v short (string.OfEntry entry) h = inl (refl, short entry h)
state_string q v short (string.OfPair left right l r) h =
    inr (refl, let n = length-append left right in omega (arith, n, l, r))

module _ (digest : List ℕ → List ℕ) (origin : List ℕ) (keys : List Key) (bytes : List ℕ) (v : View) where
  -- no refusal applies to it, and the view is the listed one
  pub record IsInOrder : Type 0 where
    pub parts : Parts
    pub has_no_collision : HasNoCollision digest origin keys bytes parts
    pub edges : All (HasEdge digest (listed_view parts)) (listed_notes parts)
    pub view_is : listed_view parts ≡ v

  from_parts :
      HasState digest origin keys bytes v → (parts : Parts) → HasStrings origin bytes parts → listed_view parts ≡ v →
      IsInOrder
  from_parts state parts has_strings is = record {
    parts = parts;
    has_no_collision = record {
      has_open_notes = record {
        has_strings = has_strings;
        opened = All-weaker (Contains (listed_notes parts)) (IsOpenNote origin keys) (λ q c. state.opened q (held q c))
            (listed_notes parts) (All-contains_itself (listed_notes parts));
      };
      no_clash = subst (λ (w : View). NoClash digest w.strings) (sym is) state.lawful.no_clash;
    };
    edges = All-weaker (Contains (listed_notes parts)) (HasEdge digest (listed_view parts))
        (λ q c. subst (λ (w : View). HasEdge digest w q) (sym is) (state.lawful.edges q (held q c)))
        (listed_notes parts) (All-contains_itself (listed_notes parts));
    view_is = is;
  }
    where
      held : (q : List ℕ) → Contains (listed_notes parts) q → Has v.notes q
      held q c = subst (λ (w : View). Has w.notes q) is (has_from_listed (listed_notes parts) q c)

  pub in_order : HasState digest origin keys bytes v → IsInOrder
  in_order state = elim state.text [
    | inl t ↦ from_parts state (VersionTwo v.origin t.notes t.pairs t.entries)
        (record {
          has_order = record {
            has_origin = record { is_text = t.is_text; origin_is = state.origin_is };
            all_rise = (t.notes_are.sorted, t.pairs_rise, t.entries_rise);
          };
          tagged = tt;
        })
        (new_view v bytes t state.lawful.are_strings)
    | inr t ↦ from_parts state (VersionOne v.origin t.notes t.strings)
        (record {
          has_order = record {
            has_origin = record { is_text = t.is_text; origin_is = state.origin_is };
            all_rise = (t.notes_are.sorted, t.strings_rise);
          };
          tagged = All-weaker (Contains t.strings) IsStateString (λ q c. let h = (t.strings_are q).0 c in
              state_string q v state.lawful.leaves_short (state.lawful.are_strings q h) h) t.strings
              (All-contains_itself t.strings);
        })
        (old_view v bytes t)
  ]
