-- Adding the strings of an item to a mirror: the state afterwards, and the answer.
use Rattle.std.proofs.Common.{◌≡◌, ℕ, ◌*◌, ◌≤◌, List, [], ◌∷◌, length, sym, refl, ap, subst, ◌∙◌}
use Rattle.std.proofs.Common.{inl, inr, Ok, Err}
use Rattle.std.specs.Prelude.{OnErr, OnOk, Result}
use Rattle.std.specs.FinSet as set
use Rattle.tlog_hash.specs.Tree.{joins}
use Rattle.tlog_tiles.specs.Row.{IsRow}
use Rattle.tlog_tiles.specs.Bundle.{IsBundle}
use Rattle.tlog_tiles.proofs.RowLemmas.{length-row_text}
use Rattle.signed_note.specs.Keys.{Key}
use Rattle.node_store.specs.declared.store.AddFault.{AddFault}
use Rattle.node_store.specs.declared.store.AddFault.TheVariants.{Collision, OutOfMemory}
use Rattle.mirror_model.specs.Answered.{answer_of}
use Rattle.mirror_model.specs.Refusals.{JudgesTile, JudgesBundle}
use Rattle.mirror_model.specs.declared.fault.TakeFault.{TakeFault}
use Rattle.node_store.specs.Strings.{Strings, Has, NoClash, ClashesWith, AllTagged, IsTagged, OfEntry, OfPair}
use Rattle.mirror_model.specs.Strings.{HasClash}
use Rattle.mirror_model.specs.View.{View, IsSubview}
use Rattle.mirror_model.specs.Item.{IsWidth, IsGoodTile, IsGoodBundle, IsGood, strings_of, notes_of, plus, row_of}
use Rattle.mirror_model.specs.Item.{entries_of}
use Rattle.mirror_model.specs.declared.items.Item.{Item}
use Rattle.mirror_model.specs.Steps.{Answer, Done, Refused, Clashed, Exhausted, Answers, Takes}
use Rattle.mirror_model.specs.Marks.{Points, State}
use Rattle.tlog_mirror.specs.Kept.{state_of, IsKeptWell}
use Rattle.tlog_mirror.specs.Adding.{with_strings, tree_strings, added, taken_of}
use Rattle.mirror_model.specs.Strings.{IsDigest}
use Rattle.mirror_trees.specs.declared.held_note.HeldNote.{HeldNote}
use Rattle.node_store.proofs.Sets.{decide}
use Rattle.mirror_model.proofs.StringSets.{has_left, has_right, has_cases, has_empty, same_strings, listed_from_has}
use Rattle.mirror_model.proofs.Views.{edge_stays, marks_stay}
use Rattle.mirror_model.proofs.ItemBytes.{row_is_one, bundle_is_one}
use Rattle.mirror_model.proofs.ItemStrings.{IsItemString, item_strings, is_short}
use Rattle.mirror_model.proofs.StringSets.{clash_within, union_clash}
use Rattle.mirror_trees.proofs.Settles.{settled_stays}
use Rattle.mirror_trees.proofs.BuiltTrees.{added_none}

-- ---- the union of two sets

module _ (digest : List ℕ → List ℕ) (v w : Strings) where
  pub union_no_clash : NoClash digest v → NoClash digest w → (ClashesWith digest v w → ⊥) →
      NoClash digest (set.union v w)
  union_no_clash p q apart = record {
    same = λ x y hx hy e.
        elim (has_cases v w x hx) [
          | inl a ↦ elim (has_cases v w y hy) [
            | inl b ↦ p.same x y a b e
            | inr b ↦ elim
                (decide x y) [
                  | inl is ↦ is
                  | inr not ↦ absurd
                      (apart (record
                      { first = x; second = y; first_held = a; second_held = b; same_digest = e; differ = not }))
                ]
          ]
          | inr a ↦ elim (has_cases v w y hy) [
            | inl b ↦ elim
                (decide y x) [
                  | inl is ↦ sym is
                  | inr not ↦ absurd
                      (apart (record
                      { first = y; second = x; first_held = b; second_held = a; same_digest = sym e; differ = not }))
                ]
            | inr b ↦ q.same x y a b e
          ]
        ];
  }

-- ---- more strings are added to a mirror

module _ (digest : List ℕ → List ℕ) (origin : List ℕ) (kept : List HeldNote) (strings more now : Strings)
    (remembered : Points) (ok : IsKeptWell digest origin kept strings remembered) where
  abbrev before : View
  before = (state_of origin kept strings remembered).view

  abbrev after : View
  after = (state_of origin kept now remembered).view

  grown_within : ((s : List ℕ) → Has strings s → Has now s) → IsSubview before after
  grown_within grows = record { origin_is = refl; notes_are = λ note h. h; strings_are = grows }

  pub stays_well :
      IsDigest digest → ((s : List ℕ) → Has strings s → Has now s) →
      ((s : List ℕ) → Has now s → Has (set.union strings more) s) →
      NoClash digest now → AllTagged now → ((entry : List ℕ) → Has more (0 ∷ entry) → length entry ≤ 65535) →
      IsKeptWell digest origin kept now remembered
  stays_well hash grows within clean tagged short = record {
    sound = record {
      origin = ok.sound.origin;
      lawful = record {
        no_clash = clean;
        are_strings = tagged;
        leaves_short =
            λ e h. elim
            (has_cases strings more (0 ∷ e)
            (within (0 ∷ e) h)) [ inl a ↦ ok.sound.lawful.leaves_short e a | inr b ↦ short e b ];
        edges = λ note h. edge_stays digest before after (grown_within grows) note (ok.sound.lawful.edges note h);
      };
      marks = λ point h. marks_stay digest before after (grown_within grows) point (ok.sound.marks point h);
    };
    settled = settled_stays digest hash strings now grows clean remembered ok.settled;
    rising = ok.rising;
    said = ok.said;
  }

  joined_grows : now ≡ set.union strings more → (s : List ℕ) → Has strings s → Has now s
  joined_grows is s h = subst (λ v. Has v s) (sym is) (has_left strings more s h)

  -- all of them were added
  joined_well :
      IsDigest digest → now ≡ set.union strings more → NoClash digest now → AllTagged more →
      ((entry : List ℕ) → Has more (0 ∷ entry) → length entry ≤ 65535) →
      IsKeptWell digest origin kept now remembered
  joined_well hash is clean tagged short =
      let within : (s : List ℕ) → Has now s → Has (set.union strings more) s =
      λ s h. subst (λ v. Has v s) is h in
      stays_well hash (joined_grows is) within clean
      (λ s h. elim (has_cases strings more s (within s h)) [
        | inl a ↦ ok.sound.lawful.are_strings s a
        | inr b ↦ tagged s b
      ]) short

  -- all of them were added, or none
  pub tried_grows : {X : Type 0} (r : Result X AddFault) → OnOk r (now ≡ set.union strings more) →
      OnErr r (now ≡ strings) → (s : List ℕ) → Has strings s → Has now s
  tried_grows (Ok x) is same = joined_grows is
  tried_grows (Err e) is same = λ s h. subst (λ v. Has v s) (sym same) h

  pub tried_well :
      {X : Type 0} (r : Result X AddFault) → OnOk r (now ≡ set.union strings more) → OnErr r (now ≡ strings) →
      IsDigest digest → NoClash digest now → AllTagged more →
      ((entry : List ℕ) → Has more (0 ∷ entry) → length entry ≤ 65535) →
      IsKeptWell digest origin kept now remembered
  tried_well (Ok x) is same hash clean tagged short = joined_well hash is clean tagged short
  tried_well (Err e) is same hash clean tagged short =
      subst (λ (v : Strings). IsKeptWell digest origin kept v remembered) (sym same) ok

  module _ (old : State) (old_is : state_of origin kept strings remembered ≡ old) where
    abbrev Adds : Answer → Type 0
    Adds answer = Answers digest old.view (Unit {0}) (with_strings old.view more) answer after

    at_old : (answer : Answer) → Answers digest before (Unit {0}) (with_strings before more) answer after → Adds answer
    at_old answer h =
        subst (λ (o : State). Answers digest o.view (Unit {0}) (with_strings o.view more) answer after) old_is h

    pub adds_done : now ≡ set.union strings more → NoClash digest now → Adds Done
    adds_done is clean =
        at_old Done
        (tt, subst (NoClash digest) is clean, λ i. record { origin = origin; notes = before.notes; strings = is i })

    pub adds_clashed : now ≡ strings → ClashesWith digest strings more → Adds Clashed
    adds_clashed is c =
        at_old Clashed
        (tt, union_clash digest strings more c, λ i. record { origin = origin; notes = before.notes; strings = is i })

    -- none of them was added
    pub adds_none : (fault : AddFault) → now ≡ strings →
        (fault ≡ Collision → HasClash digest (set.union strings more)) → Adds (added (Err fault))
    adds_none Collision is c =
        at_old Clashed (tt, c refl, λ i. record { origin = origin; notes = before.notes; strings = is i })
    adds_none OutOfMemory is c =
        at_old Exhausted (inl (λ i. record { origin = origin; notes = before.notes; strings = is i }))

    pub adds_exhausted :
        NoClash digest more → (ClashesWith digest strings more → ⊥) → ((s : List ℕ) → Has strings s → Has now s) →
        ((s : List ℕ) → Has now s → Has (set.union strings more) s) → Adds Exhausted
    adds_exhausted clean apart grows within = at_old Exhausted (inr (
      tt,
      union_no_clash digest strings more ok.sound.lawful.no_clash clean apart,
      record {
        grows = grown_within grows;
        within = record { origin_is = refl; notes_are = λ note h. h; strings_are = within };
        notes_last = λ note h. inl h;
      },
    ))

-- ---- the take of an item

-- an answer without a condition is an answer under a condition that is true
pub allowed : (digest : List ℕ → List ℕ) (Allowed : Type 0) (full old : View) (answer : Answer) (new : View) → Allowed →
    Answers digest old (Unit {0}) full answer new → Answers digest old Allowed full answer new
allowed digest Allowed full old Done new good h = (good, h.1, h.2)
allowed digest Allowed full old Refused new good h = absurd (h.0 tt)
allowed digest Allowed full old Clashed new good h = (good, h.1, h.2)
allowed digest Allowed full old Exhausted new good h = elim h [ inl e ↦ inl e | inr m ↦ inr (good, m.1, m.2) ]

-- an answer of the store and the answer of the take have one kind
pub same_kind : (answer : Result (Unit {0}) AddFault) → answer_of (taken_of answer) ≡ added answer
same_kind (Ok done) = refl
same_kind (Err Collision) = refl
same_kind (Err OutOfMemory) = refl

-- the strings that were added to an empty set
pub gathered : (none strings : Strings) (xs ys : List (List ℕ)) → none ≡ set.empty →
    strings ≡ set.union none (set.from_list xs) → xs ≡ ys → strings ≡ set.from_list ys
gathered none strings xs ys empty is same =
    is ∙ ap (λ v. set.union v (set.from_list xs)) empty
    ∙ same_strings _ _
    (λ q h. elim (has_cases set.empty (set.from_list xs) q h) [ inl a ↦ absurd (has_empty q a) | inr b ↦ b ])
    (λ q h. has_right set.empty (set.from_list xs) q h)
    ∙ ap set.from_list same

tagged_string : (s : List ℕ) → IsItemString s → IsTagged s
tagged_string s (inl l) = subst IsTagged (sym l.is) (OfEntry l.entry)
tagged_string s (inr p) = subst IsTagged (sym p.is) (OfPair p.left p.right p.left_len p.right_len)

module _ (digest : List ℕ → List ℕ) (item : Item) where
  pub gathered_short : IsDigest digest → (origin : List ℕ) (keys : List Key) → IsGood digest origin keys item →
      (strings : Strings) → strings ≡ set.from_list (strings_of digest item) → (entry : List ℕ) →
      Has strings (0 ∷ entry) → length entry ≤ 65535
  gathered_short hash origin keys good strings is entry h =
      is_short entry
      (item_strings digest hash origin keys item good (0 ∷ entry)
      (listed_from_has (strings_of digest item) (0 ∷ entry) (subst (λ v. Has v (0 ∷ entry)) is h)))

  pub gathered_tagged : IsDigest digest → (origin : List ℕ) (keys : List Key) → IsGood digest origin keys item →
      (strings : Strings) → strings ≡ set.from_list (strings_of digest item) → AllTagged strings
  gathered_tagged hash origin keys good strings is s h =
      tagged_string s
      (item_strings digest hash origin keys item good s
      (listed_from_has (strings_of digest item) s (subst (λ v. Has v s) is h)))

  module _ (keys : List Key) (old : View) (good : IsGood digest old.origin keys item) where
    pub takes_added :
        (strings : Strings) → strings ≡ set.from_list (strings_of digest item) → notes_of item ≡ [] →
        (answer : Result (Unit {0}) AddFault) (result : Result (Unit {0}) TakeFault) → result ≡ taken_of answer →
        (new : View) → Answers digest old (Unit {0}) (with_strings old strings) (added answer) new →
        Takes digest keys old item (answer_of result) new
    takes_added strings is none answer result taken new h =
        let notes : old.notes ≡ set.union old.notes (set.from_list (notes_of item)) =
        added_none old.notes ∙ ap (λ xs. set.union old.notes (set.from_list xs)) (sym none) in
        let full : with_strings old strings ≡ plus digest old item =
        λ i. record { origin = old.origin; notes = notes i; strings = set.union old.strings (is i) } in
        let kind : answer_of result ≡ added answer = ap answer_of taken ∙ same_kind answer in
        subst (λ a. Takes digest keys old item a new) (sym kind)
        (allowed digest (IsGood digest old.origin keys item) (plus digest old item) old (added answer) new good
        (subst (λ v. Answers digest old (Unit {0}) v (added answer) new) full h))

    pub takes_clashed : (none : Strings) (xs : List (List ℕ)) → none ≡ set.empty → xs ≡ strings_of digest item →
        HasClash digest (set.union none (set.from_list xs)) → Takes digest keys old item Clashed old
    takes_clashed none xs empty same c =
        let is = gathered none (set.union none (set.from_list xs)) xs (strings_of digest item) empty refl same in (
          good,
          clash_within digest (set.union none (set.from_list xs)) (plus digest old item).strings
              (λ q h. has_right old.strings (set.from_list (strings_of digest item)) q (subst (λ v. Has v q) is h)) c,
          refl,
        )

-- ---- tiles and bundles

module _ (width : ℕ) (bytes : List ℕ) (wide : IsWidth width) where
  pub tile_good : (row : List (List ℕ)) → IsRow width bytes row → IsGoodTile width bytes
  tile_good row r =
      record { is_width = wide; length_is = ap length r.text ∙ length-row_text row r.sizes ∙ ap (λ n. 32 * n) r.count }

  pub tile_joins : (digest : List ℕ → List ℕ) (row : List (List ℕ)) → IsRow width bytes row →
      joins digest row ≡ joins digest (row_of bytes)
  tile_joins digest row r = ap (joins digest) (row_is_one width bytes row r)

  pub bundle_good : (entries : List (List ℕ)) → IsBundle width bytes entries → IsGoodBundle width bytes
  bundle_good entries b = record { is_width = wide; entries = entries; is_bundle = b }

-- the take of a valid tile fails only by a collision or OutOfMemory
pub tile_judged :
    (width : ℕ) (bytes : List ℕ) → IsGoodTile width bytes → (answer : Result (Unit {0}) AddFault)
    (result : Result (Unit {0}) TakeFault) → result ≡ taken_of answer → JudgesTile width bytes result
tile_judged width bytes good answer result is = subst (JudgesTile width bytes) (sym is) (at answer)
  where
    at : (answer : Result (Unit {0}) AddFault) → JudgesTile width bytes (taken_of answer)
    at (Ok done) = good
    at (Err Collision) = good
    at (Err OutOfMemory) = tt

-- the take of a valid bundle fails only by a collision or OutOfMemory
pub bundle_judged :
    (width : ℕ) (bytes : List ℕ) → IsGoodBundle width bytes → (answer : Result (Unit {0}) AddFault)
    (result : Result (Unit {0}) TakeFault) → result ≡ taken_of answer → JudgesBundle width bytes result
bundle_judged width bytes good answer result is = subst (JudgesBundle width bytes) (sym is) (at answer)
  where
    at : (answer : Result (Unit {0}) AddFault) → JudgesBundle width bytes (taken_of answer)
    at (Ok done) = good
    at (Err Collision) = good
    at (Err OutOfMemory) = tt

pub bundle_strings_are : (digest : List ℕ → List ℕ) (width : ℕ) (bytes : List ℕ) (entries : List (List ℕ)) →
    IsBundle width bytes entries → tree_strings digest entries ≡ tree_strings digest (entries_of width bytes)
bundle_strings_are digest width bytes entries b = ap (tree_strings digest) (bundle_is_one width bytes entries b)
