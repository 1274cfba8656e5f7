-- The loaded view: for lists that are in order, the view that they list.
use Rattle.std.proofs.Common.{◌≡◌, ◌⊎◌, inl, inr, ℕ, ◌≤◌, List, [], ◌∷◌, length, map, take, drop, All, Err, sym, ap}
use Rattle.std.proofs.Common.{refl, subst, ◌∙◌, arith}
use Rattle.std.specs.FinSet as set
use Rattle.std.proofs.lemmas.List.{take-append-drop, length-take-le, length-drop}
use Rattle.std.proofs.lemmas.List.Elements.{All-contains, All-weaker}
use Rattle.signed_note.specs.Keys.{Key}
use Rattle.node_store.specs.Strings.{Strings, Has, HasAll, AllTagged, NoClash, IsTagged}
use Rattle.node_store.specs.Strings as string
use Rattle.mirror_model.specs.View.{View}
use Rattle.mirror_model.specs.Complete.{HasEdge}
use Rattle.mirror_model.specs.Strings.{HasClash}
use Rattle.mirror_model.specs.Edge.{edge_strings}
use Rattle.mirror_model.specs.Heads.{IsHead}
use Rattle.mirror_model.specs.Item.{row_of}
use Rattle.mirror_model.proofs.StringSets.{listed_from_has, has_from_listed}
use Rattle.tlog_mirror.specs.Adding.{with_notes}
use Rattle.tlog_mirror.specs.Restored.{IsOpenNote, strings_alone}
use Rattle.mirror_files.specs.Items.{IsItem}
use Rattle.mirror_files.specs.declared.items.Form.TheVariants.{Short, Hashes}
use Rattle.mirror_files.specs.StateText.{Parts, VersionTwo, VersionOne, StateText, OldStateText}
use Rattle.mirror_files.specs.Content.{listed_origin, listed_notes, listed_strings, listed_view, IsStateString}
use Rattle.mirror_files.specs.Loading.{HasState, HasOpenNotes, HasNoCollision, Loads}
use Rattle.mirror_files.specs.Content.{HasStrings}
use Rattle.mirror_files.specs.Storing.{AreListable}
use Rattle.mirror_files.specs.Checking.{ChecksLists}
use Rattle.mirror_files.specs.LoadSteps.{KeepsNotes}
use Rattle.mirror_files.specs.Refused.{RefusesUnheld}
use Rattle.mirror_files.specs.Opening.{FailsToOpen, HasUnopened, IsFirstNot}
use Rattle.mirror_files.proofs.LoadedNotes.{as_head}
use Rattle.mirror_files.specs.declared.load_fault.LoadFault.{LoadFault}
use Rattle.mirror_files.specs.declared.load_fault.LoadFault.TheVariants.{StateMagic, StateShort, StateLong, StateDigest}
use Rattle.mirror_files.specs.declared.load_fault.LoadFault.TheVariants.{OtherOrigin, StateOrder, StateString, StateHead}
use Rattle.mirror_files.specs.declared.load_fault.LoadFault.TheVariants.{Collision, StateEdge, ReadFault, OutOfMemory}
use Rattle.mirror_files.proofs.Listed.{both, has_entry, has_pair, either, entry_in, pair_in}
use Rattle.mirror_files.proofs.ListedItems.{union_none}

-- ---- the listed strings

pair_tagged : (pair : List ℕ) → length pair ≡ 64 → IsTagged (1 ∷ pair)
pair_tagged pair len =
    subst (λ (p : List ℕ). IsTagged (1 ∷ p)) (take-append-drop 32 pair)
    (string.OfPair (take 32 pair) (drop 32 pair) (length-take-le 32 pair (omega (arith, len)))
    (let n = length-drop 32 pair in omega (arith, n, len)))

string_tagged : (q : List ℕ) → IsStateString q → IsTagged q
string_tagged [] h = absurd h
string_tagged (tag ∷ rest) (inl e) = subst (λ (t : ℕ). IsTagged (t ∷ rest)) (sym e.0) (string.OfEntry rest)
string_tagged (tag ∷ rest) (inr p) = subst (λ (t : ℕ). IsTagged (t ∷ rest)) (sym p.0) (pair_tagged rest p.1)

entry_short : (entry : List ℕ) → IsStateString (0 ∷ entry) → length entry ≤ 65535
entry_short entry (inl e) = e.1
entry_short entry (inr p) = absurd (let e = p.0 in omega (arith, e))

-- if the strings can be listed, entries are short
pub listed_short : (parts : Parts) → AreListable parts → (entry : List ℕ) →
    Has (set.from_list (listed_strings parts)) (0 ∷ entry) → length entry ≤ 65535
listed_short (VersionTwo o notes pairs entries) l = λ entry held.
    All-contains (λ (e : List ℕ). length e ≤ 65535) entries entry l.0
    (entry_in entries pairs entry (listed_from_has (both entries pairs) (0 ∷ entry) held))
listed_short (VersionOne o notes strings) l = λ entry held. entry_short entry
    (All-contains IsStateString strings (0 ∷ entry) l (listed_from_has strings (0 ∷ entry) held))

module _ (origin bytes : List ℕ) where
  -- the strings can be listed
  pub listable : (parts : Parts) → HasStrings origin bytes parts → AreListable parts
  listable (VersionTwo o notes pairs entries) h =
      let fit = h.has_order.has_origin.is_text.are_parts in (
        All-weaker (IsItem Short) (λ (e : List ℕ). length e ≤ 65535) (λ e lt. omega (arith, lt))
            entries fit.entries_fit.fits,
        fit.pairs_fit.fits,
      )
  listable (VersionOne o notes strings) h = h.tagged

  all_tagged : (parts : Parts) → HasStrings origin bytes parts → AllTagged (set.from_list (listed_strings parts))
  all_tagged (VersionTwo o notes pairs entries) h = λ q held.
      let fit = h.has_order.has_origin.is_text.are_parts in
      elim (either entries pairs q (listed_from_has (both entries pairs) q held)) [
        | inl m ↦ subst IsTagged m.is (string.OfEntry m.from)
        | inr m ↦ subst IsTagged m.is
            (pair_tagged m.from (All-contains (IsItem Hashes) pairs m.from fit.pairs_fit.fits m.is_in))
      ]
  all_tagged (VersionOne o notes strings) h =
      λ q held. string_tagged q (All-contains IsStateString strings q h.tagged (listed_from_has strings q held))

  all_short : (parts : Parts) → HasStrings origin bytes parts → (entry : List ℕ) →
      Has (set.from_list (listed_strings parts)) (0 ∷ entry) → length entry ≤ 65535
  all_short parts h = listed_short parts (listable parts h)

  -- ---- the text of the view

  listed_text : (parts : Parts) → HasStrings origin bytes parts →
      StateText (listed_view parts) bytes ⊎ OldStateText (listed_view parts) bytes
  listed_text (VersionTwo o notes pairs entries) h = inl (record {
    notes = notes;
    pairs = pairs;
    entries = entries;
    is_text = h.has_order.has_origin.is_text;
    notes_are =
        record { sorted = h.has_order.all_rise.0; exact = λ n. (has_from_listed notes n, listed_from_has notes n) };
    pairs_rise = h.has_order.all_rise.1;
    pairs_are = λ p. (
      λ c. has_from_listed (both entries pairs) (1 ∷ p) (has_pair entries pairs p c),
      λ held. pair_in entries pairs p (listed_from_has (both entries pairs) (1 ∷ p) held),
    );
    entries_rise = h.has_order.all_rise.2;
    entries_are = λ e. (
      λ c. has_from_listed (both entries pairs) (0 ∷ e) (has_entry entries pairs e c),
      λ held. entry_in entries pairs e (listed_from_has (both entries pairs) (0 ∷ e) held),
    );
  })
  listed_text (VersionOne o notes strings) h = inr (record {
    notes = notes;
    strings = strings;
    is_text = h.has_order.has_origin.is_text;
    notes_are =
        record { sorted = h.has_order.all_rise.0; exact = λ n. (has_from_listed notes n, listed_from_has notes n) };
    strings_rise = h.has_order.all_rise.1;
    strings_are = λ s. (has_from_listed strings s, listed_from_has strings s);
  })

module _ (digest : List ℕ → List ℕ) (origin : List ℕ) (keys : List Key) (bytes : List ℕ) (parts : Parts) where
  pub has_state : HasNoCollision digest origin keys bytes parts →
      All (HasEdge digest (listed_view parts)) (listed_notes parts) →
      HasState digest origin keys bytes (listed_view parts)
  has_state h edges =
      let s : HasStrings origin bytes parts = h.has_open_notes.has_strings in
      record {
        text = listed_text origin bytes parts s;
        lawful = record {
          no_clash = h.no_clash;
          are_strings = all_tagged origin bytes parts s;
          leaves_short = all_short origin bytes parts s;
          edges = λ n held. All-contains (HasEdge digest (listed_view parts)) (listed_notes parts) n edges
              (listed_from_has (listed_notes parts) n held);
        };
        origin_is = s.has_order.has_origin.origin_is;
        opened = λ n held. All-contains (IsOpenNote origin keys) (listed_notes parts) n h.has_open_notes.opened
            (listed_from_has (listed_notes parts) n held);
      }

-- ---- the steps

-- the answer for the lists is the answer for the bytes
pub lists_refused : (digest : List ℕ → List ℕ) (origin : List ℕ) (keys : List Key) (bytes : List ℕ)
    (fault : LoadFault) → ChecksLists origin bytes (Err fault) → Loads digest origin keys bytes (Err fault)
lists_refused digest origin keys bytes StateMagic h = h
lists_refused digest origin keys bytes StateShort h = h
lists_refused digest origin keys bytes StateLong h = h
lists_refused digest origin keys bytes StateDigest h = h
lists_refused digest origin keys bytes OtherOrigin h = h
lists_refused digest origin keys bytes StateOrder h = h
lists_refused digest origin keys bytes StateString h = h
lists_refused digest origin keys bytes StateHead h = absurd h
lists_refused digest origin keys bytes Collision h = absurd h
lists_refused digest origin keys bytes StateEdge h = absurd h
lists_refused digest origin keys bytes ReadFault h = absurd h
lists_refused digest origin keys bytes OutOfMemory h = tt

module _ (digest : List ℕ → List ℕ) (origin : List ℕ) (keys : List Key) (bytes : List ℕ) (parts : Parts)
    (listed : HasStrings origin bytes parts) where
  -- the answer for the notes is the answer for the bytes
  notes_refused : (fault : LoadFault) → FailsToOpen (HasUnopened origin keys (listed_notes parts)) fault →
      Loads digest origin keys bytes (Err fault)
  notes_refused StateMagic h = absurd h
  notes_refused StateShort h = absurd h
  notes_refused StateLong h = absurd h
  notes_refused StateDigest h = absurd h
  notes_refused OtherOrigin h = absurd h
  notes_refused StateOrder h = absurd h
  notes_refused StateString h = absurd h
  notes_refused StateHead h = record {
    parts = parts;
    has_strings = listed;
    has_closed = record {
      note = h.note;
      is_listed = h.is_listed;
      closed = λ o. h.closed (as_head origin keys h.note o);
    };
  }
  notes_refused Collision h = absurd h
  notes_refused StateEdge h = absurd h
  notes_refused ReadFault h = absurd h
  notes_refused OutOfMemory h = tt

  module _ (opened : All (IsOpenNote origin keys) (listed_notes parts)) where
    has_open : HasOpenNotes origin keys bytes parts
    has_open = record { has_strings = listed; opened = opened }

    pub strings_clash : HasClash digest (set.from_list (listed_strings parts)) →
        Loads digest origin keys bytes (Err Collision)
    strings_clash clash = record { parts = parts; has_open_notes = has_open; clash = clash }

    module _ (strings : Strings) (strings_are : strings ≡ set.from_list (listed_strings parts))
        (clean : NoClash digest strings) where
      has_no_collision : HasNoCollision digest origin keys bytes parts
      has_no_collision = record { has_open_notes = has_open; no_clash = subst (NoClash digest) strings_are clean }

      module _ (old : View) (old_is : old ≡ strings_alone origin strings) where
        -- a right edge that is held in one view is held in the other
        edge_over : (note : List ℕ) → HasEdge digest old note → HasEdge digest (listed_view parts) note
        edge_over note e =
            let there : HasEdge digest (strings_alone origin strings) note =
            subst (λ (v : View). HasEdge digest v note) old_is e in
            record {
              size = there.size;
              root = there.root;
              is_head = subst (λ o. IsHead note o there.size there.root) (sym listed.has_order.has_origin.origin_is)
                  there.is_head;
              edge = record {
                rows = there.edge.rows;
                has_edge = there.edge.has_edge;
                are_held = subst (λ (s : Strings). HasAll s (edge_strings digest (map row_of there.edge.rows)))
                    strings_are there.edge.are_held;
              };
            }

        edge_under : (note : List ℕ) → HasEdge digest (listed_view parts) note → HasEdge digest old note
        edge_under note e = subst (λ (v : View). HasEdge digest v note) (sym old_is) (record {
          size = e.size;
          root = e.root;
          is_head = subst (λ o. IsHead note o e.size e.root) listed.has_order.has_origin.origin_is e.is_head;
          edge = record {
            rows = e.edge.rows;
            has_edge = e.edge.has_edge;
            are_held = subst (λ (s : Strings). HasAll s (edge_strings digest (map row_of e.edge.rows)))
                (sym strings_are) e.edge.are_held;
          };
        })

        view_is : (new : View) → new ≡ with_notes old (listed_notes parts) → new ≡ listed_view parts
        view_is new is =
            let o : origin ≡ listed_origin parts = sym listed.has_order.has_origin.origin_is in
            let n : set.union set.empty (set.from_list (listed_notes parts)) ≡ set.from_list (listed_notes parts) =
            union_none (set.from_list (listed_notes parts)) in
            is ∙ ap (λ (v : View). with_notes v (listed_notes parts)) old_is
            ∙ (λ i. record { origin = o i; notes = n i; strings = strings_are i })

        -- all notes are kept
        pub all_kept : (new : View) → new ≡ with_notes old (listed_notes parts) →
            All (HasEdge digest old) (listed_notes parts) → HasState digest origin keys bytes new
        all_kept new is edges =
            subst (HasState digest origin keys bytes) (sym (view_is new is))
            (has_state digest origin keys bytes parts has_no_collision (All-weaker (HasEdge digest old)
            (HasEdge digest (listed_view parts)) edge_over (listed_notes parts) edges))

        -- one note is not kept
        pub not_kept : (new : View) (fault : LoadFault) → KeepsNotes digest old (listed_notes parts) (Err fault) new →
            Loads digest origin keys bytes (Err fault)
        not_kept new StateMagic h = absurd h
        not_kept new StateShort h = absurd h
        not_kept new StateLong h = absurd h
        not_kept new StateDigest h = absurd h
        not_kept new OtherOrigin h = absurd h
        not_kept new StateOrder h = absurd h
        not_kept new StateString h = absurd h
        not_kept new StateHead h = absurd h
        not_kept new Collision h = absurd h
        not_kept new StateEdge h = record {
          parts = parts;
          has_no_collision = has_no_collision;
          has_unheld = record { note = h.note; is_listed = h.is_listed; lacks = λ e. h.lacks (edge_under h.note e) };
        }
        not_kept new ReadFault h = absurd h
        not_kept new OutOfMemory h = tt

-- ---- all steps

module _ (digest : List ℕ → List ℕ) (origin : List ℕ) (keys : List Key) (bytes : List ℕ) (parts : Parts)
    (listed : HasStrings origin bytes parts) (notes : List (List ℕ)) (notes_are : notes ≡ listed_notes parts) where
  pub notes_recorded : (fault : LoadFault) → FailsToOpen (HasUnopened origin keys notes) fault →
      Loads digest origin keys bytes (Err fault)
  notes_recorded fault h = notes_refused digest origin keys bytes parts listed fault
      (subst (λ ns. FailsToOpen (HasUnopened origin keys ns) fault) notes_are h)

  module _ (opened : All (IsOpenNote origin keys) notes) where
    opened_here : All (IsOpenNote origin keys) (listed_notes parts)
    opened_here = subst (All (IsOpenNote origin keys)) notes_are opened

    pub clash_recorded : HasClash digest (set.from_list (listed_strings parts)) →
        Loads digest origin keys bytes (Err Collision)
    clash_recorded clash = strings_clash digest origin keys bytes parts listed opened_here clash

    module _ (old : View) (made : (old ≡ strings_alone origin (set.from_list (listed_strings parts)))
        × NoClash digest (set.from_list (listed_strings parts))) (later : List (List ℕ))
        (later_are : later ≡ listed_notes parts) (new : View) where
      pub loaded : (new ≡ with_notes old later) × All (HasEdge digest old) later → HasState digest origin keys bytes new
      loaded h = all_kept digest origin keys bytes parts listed opened_here _ refl made.1 old made.0 new
          (subst (λ ns. new ≡ with_notes old ns) later_are h.0) (subst (All (HasEdge digest old)) later_are h.1)

      pub not_loaded : (fault : LoadFault) → KeepsNotes digest old later (Err fault) new →
          Loads digest origin keys bytes (Err fault)
      not_loaded fault h = not_kept digest origin keys bytes parts listed opened_here _ refl made.1 old made.0 new fault
          (subst (λ ns. KeepsNotes digest old ns (Err fault) new) later_are h)

      -- the first note that is not kept
      pub unheld_first : (index : ℕ) (note : List ℕ) → IsFirstNot (HasEdge digest old) later index note →
          RefusesUnheld digest origin keys bytes index note
      unheld_first index note h =
          let first : IsFirstNot (HasEdge digest old) (listed_notes parts) index note =
          subst (λ ns. IsFirstNot (HasEdge digest old) ns index note) later_are h in
          record {
            parts = parts;
            has_no_collision = has_no_collision digest origin keys bytes parts listed opened_here _ refl made.1;
            is_first = record {
              passed = All-weaker (HasEdge digest old) (HasEdge digest (listed_view parts))
                  (edge_over digest origin keys bytes parts listed opened_here _ refl made.1 old made.0)
                  (take index (listed_notes parts)) first.passed;
              is_there = first.is_there;
              fails = λ e. first.fails
                  (edge_under digest origin keys bytes parts listed opened_here _ refl made.1 old made.0 note e);
            };
          }
