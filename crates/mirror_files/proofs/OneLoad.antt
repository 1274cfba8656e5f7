-- All the bytes have one answer of a loader.
use Rattle.std.proofs.Common.{◌≡◌, ◌≢◌, ◌⊎◌, inl, inr, ℕ, zero, suc, ◌<◌, List, All, Result, Ok, Err, refl, sym}
use Rattle.std.proofs.Common.{ap, subst, ◌∙◌, arith}
use Rattle.std.proofs.lemmas.Bool.{cases_lt}
use Rattle.std.proofs.lemmas.List.Elements.{All-contains}
use Rattle.signed_note.specs.Keys.{Key}
use Rattle.node_store.specs.Strings.{NoClash}
use Rattle.mirror_model.specs.View.{View}
use Rattle.mirror_model.specs.Complete.{HasEdge}
use Rattle.mirror_model.proofs.StringSets.{clash_contradicts}
use Rattle.tlog_mirror.specs.Restored.{IsOpenNote}
use Rattle.mirror_files.specs.StateText.{Parts, IsText, StateText}
use Rattle.mirror_files.specs.Reading.{ReadsParts}
use Rattle.mirror_files.specs.declared.parts.PartsFault.{PartsFault}
use Rattle.mirror_files.specs.declared.parts.PartsFault.TheVariants as reading
use Rattle.mirror_files.specs.Content.{listed_origin, listed_notes, listed_view, AllRise, AllTaggedWell, HasOrigin}
use Rattle.mirror_files.specs.Content.{HasOrder, HasStrings}
use Rattle.mirror_files.specs.Loading.{HasOpenNotes, HasNoCollision, Loads}
use Rattle.mirror_files.specs.LoadLaws.{IsOfBytes, LoadsHaveOneAnswer, TextsAreLoaded, SavedIsLoaded}
use Rattle.mirror_files.specs.LoadLaws.{OldIsSavedAsNew}
use Rattle.mirror_files.specs.declared.load_fault.LoadFault.{LoadFault}
use Rattle.mirror_files.specs.declared.load_fault.LoadFault.TheVariants.{StateMagic, StateShort, StateLong, StateDigest}
use Rattle.mirror_files.specs.declared.load_fault.LoadFault.TheVariants.{OtherOrigin, StateOrder, StateString, StateHead}
use Rattle.mirror_files.specs.declared.load_fault.LoadFault.TheVariants.{Collision, StateEdge, ReadFault, OutOfMemory}
use Rattle.mirror_files.proofs.Listed.{in_order}
use Rattle.mirror_files.proofs.OneText.{text_one, text_has_one_answer}
use Rattle.mirror_files.proofs.OneText.{text_is_one}

renamed : PartsFault → LoadFault
renamed reading.StateMagic = StateMagic
renamed reading.StateShort = StateShort
renamed reading.StateLong = StateLong
renamed reading.StateDigest = StateDigest
renamed reading.OutOfMemory = OutOfMemory

fault_of : Result Parts PartsFault → LoadFault
fault_of (Ok parts) = OutOfMemory
fault_of (Err fault) = renamed fault

module _ (digest : List ℕ → List ℕ) (origin : List ℕ) (keys : List Key) where
  -- ---- the tests of the content, in their order

  test : ℕ → Parts → Type 0
  test zero parts = listed_origin parts ≡ origin
  test (suc zero) parts = AllRise parts
  test (suc (suc zero)) parts = AllTaggedWell parts
  test (suc (suc (suc zero))) parts = All (IsOpenNote origin keys) (listed_notes parts)
  test (suc (suc (suc (suc zero)))) parts = NoClash digest (listed_view parts).strings
  test (suc (suc (suc (suc (suc zero))))) parts = All (HasEdge digest (listed_view parts)) (listed_notes parts)
  test (suc (suc (suc (suc (suc (suc n)))))) parts = ⊥

  -- the answer if that number of tests pass, and the next one fails
  answer_at : ℕ → View → Result View LoadFault
  answer_at zero v = Err OtherOrigin
  answer_at (suc zero) v = Err StateOrder
  answer_at (suc (suc zero)) v = Err StateString
  answer_at (suc (suc (suc zero))) v = Err StateHead
  answer_at (suc (suc (suc (suc zero)))) v = Err Collision
  answer_at (suc (suc (suc (suc (suc zero))))) v = Err StateEdge
  answer_at (suc (suc (suc (suc (suc (suc n)))))) v = Ok v

  -- the first n tests pass
  passes : ℕ → Parts → Type 0
  passes zero parts = Unit {0}
  passes (suc n) parts = passes n parts × test n parts

  passed : (n : ℕ) (parts : Parts) → passes n parts → (k : ℕ) → k < n → test k parts
  unfolding passes
  passed zero parts p k lt = absurd (omega (arith, lt))
  passed (suc n) parts p k lt = elim (cases_lt k n) [
    | inl below ↦ passed n parts p.0 k below
    | inr above ↦ subst (λ i. test i parts) (let e : n ≡ k = omega (arith, lt, above) in e) p.1
  ]

  module _ (bytes : List ℕ) where
    -- an answer that depends on the content
    record IsLate (a : Result View LoadFault) : Type 0 where
      parts : Parts
      is_text : IsText bytes parts
      count : ℕ
      passes_all : passes count parts
      fails : test count parts → ⊥
      answer_is : a ≡ answer_at count (listed_view parts)

    -- an answer that depends on the text alone
    record IsEarly (a : Result View LoadFault) : Type 0 where
      fault : PartsFault
      reads : ReadsParts bytes (Err fault)
      has_memory : fault ≢ reading.OutOfMemory
      is : a ≡ Err (renamed fault)

    late : (parts : Parts) → IsText bytes parts → (count : ℕ) → passes count parts → (test count parts → ⊥) →
        IsLate (answer_at count (listed_view parts))
    late parts is_text count p f =
        record { parts = parts; is_text = is_text; count = count; passes_all = p; fails = f; answer_is = refl }

    -- the tests that pass on the way
    nothing_passed : (parts : Parts) → passes 0 parts
    unfolding passes
    nothing_passed parts = tt

    origin_passed : (parts : Parts) → HasOrigin origin bytes parts → passes 1 parts
    unfolding passes test
    origin_passed parts h = (tt, h.origin_is)

    order_passed : (parts : Parts) → HasOrder origin bytes parts → passes 2 parts
    unfolding passes test
    order_passed parts h = (origin_passed parts h.has_origin, h.all_rise)

    strings_passed : (parts : Parts) → HasStrings origin bytes parts → passes 3 parts
    unfolding passes test
    strings_passed parts h = (order_passed parts h.has_order, h.tagged)

    notes_passed : (parts : Parts) → HasOpenNotes origin keys bytes parts → passes 4 parts
    unfolding passes test
    notes_passed parts h = (strings_passed parts h.has_strings, h.opened)

    clash_passed : (parts : Parts) → HasNoCollision digest origin keys bytes parts → passes 5 parts
    unfolding passes test
    clash_passed parts h = (notes_passed parts h.has_open_notes, h.no_clash)

    all_passed : (parts : Parts) → HasNoCollision digest origin keys bytes parts →
        All (HasEdge digest (listed_view parts)) (listed_notes parts) → passes 6 parts
    unfolding passes test
    all_passed parts h edges = (clash_passed parts h, edges)

    judged : (a : Result View LoadFault) → IsOfBytes a → Loads digest origin keys bytes a → IsEarly a ⊎ IsLate a
    unfolding test answer_at renamed
    judged (Ok v) m h =
        let o = in_order digest origin keys bytes v h in
        inr (record {
          parts = o.parts;
          is_text = o.has_no_collision.has_open_notes.has_strings.has_order.has_origin.is_text;
          count = 6;
          passes_all = all_passed o.parts o.has_no_collision o.edges;
          fails = λ x. x;
          answer_is = ap (λ (w : View). Ok w) (sym o.view_is);
        })
    judged (Err StateMagic) m h =
        inl (record { fault = reading.StateMagic; reads = h; has_memory = λ e. cc e; is = refl })
    judged (Err StateShort) m h =
        inl (record { fault = reading.StateShort; reads = h; has_memory = λ e. cc e; is = refl })
    judged (Err StateLong) m h =
        inl (record { fault = reading.StateLong; reads = h; has_memory = λ e. cc e; is = refl })
    judged (Err StateDigest) m h =
        inl (record { fault = reading.StateDigest; reads = h; has_memory = λ e. cc e; is = refl })
    judged (Err OtherOrigin) m h = inr (late h.parts h.is_text 0 (nothing_passed h.parts) h.differs)
    judged (Err StateOrder) m h = inr (late h.parts h.has_origin.is_text 1 (origin_passed h.parts h.has_origin) h.falls)
    judged (Err StateString) m h =
        inr (late h.parts h.has_order.has_origin.is_text 2 (order_passed h.parts h.has_order) h.bad)
    judged (Err StateHead) m h =
        inr (late h.parts h.has_strings.has_order.has_origin.is_text 3 (strings_passed h.parts h.has_strings)
        (λ all. h.has_closed.closed (All-contains (IsOpenNote origin keys) (listed_notes h.parts)
        h.has_closed.note all h.has_closed.is_listed)))
    judged (Err Collision) m h =
        inr (late h.parts h.has_open_notes.has_strings.has_order.has_origin.is_text 4
        (notes_passed h.parts h.has_open_notes)
        (λ clean. clash_contradicts digest (listed_view h.parts).strings clean h.clash))
    judged (Err StateEdge) m h =
        inr (late h.parts h.has_no_collision.has_open_notes.has_strings.has_order.has_origin.is_text 5
        (clash_passed h.parts h.has_no_collision)
        (λ all. h.has_unheld.lacks (All-contains (HasEdge digest (listed_view h.parts)) (listed_notes h.parts)
        h.has_unheld.note all h.has_unheld.is_listed)))
    judged (Err ReadFault) m h = absurd (m.was_read refl)
    judged (Err OutOfMemory) m h = absurd (m.has_memory refl)

    -- ---- one answer

    both_early : (a b : Result View LoadFault) → IsEarly a → IsEarly b → a ≡ b
    unfolding fault_of
    both_early a b p q =
        let same : ◌≡◌ {A = Result Parts PartsFault} (Err p.fault) (Err q.fault) = text_has_one_answer bytes
        (Err p.fault) (Err q.fault) (λ e. p.has_memory (cc e)) (λ e. q.has_memory (cc e)) p.reads q.reads in
        p.is ∙ ap (λ r. Err (fault_of r)) same ∙ sym q.is

    not_both : (a b : Result View LoadFault) → IsEarly a → IsLate b → ⊥
    not_both a b p q =
        let same : ◌≡◌ {A = Result Parts PartsFault} (Err p.fault) (Ok q.parts) = text_has_one_answer bytes
        (Err p.fault) (Ok q.parts) (λ e. p.has_memory (cc e)) (λ e. cc e) p.reads q.is_text in
        cc same

    not_before : (a b : Result View LoadFault) (p : IsLate a) (q : IsLate b) → p.count < q.count → ⊥
    not_before a b p q lt = p.fails (subst (test p.count) (text_one bytes q.parts p.parts q.is_text p.is_text)
        (passed q.count q.parts q.passes_all p.count lt))

    both_late : (a b : Result View LoadFault) → IsLate a → IsLate b → a ≡ b
    both_late a b p q = elim (cases_lt p.count q.count) [
      | inl lt ↦ absurd (not_before a b p q lt)
      | inr le ↦ elim (cases_lt q.count p.count) [
        | inl lt ↦ absurd (not_before b a q p lt)
        | inr ge ↦
            let n : p.count ≡ q.count = omega (arith, le, ge) in
            let parts : p.parts ≡ q.parts = text_one bytes p.parts q.parts p.is_text q.is_text in
            p.answer_is ∙ (λ i. answer_at (n i) (listed_view (parts i))) ∙ sym q.answer_is
      ]
    ]

pub one_load : LoadsHaveOneAnswer
one_load digest origin keys bytes a b m n p q = elim (judged digest origin keys bytes a m p) [
  | inl x ↦ elim (judged digest origin keys bytes b n q) [
    | inl y ↦ both_early digest origin keys bytes a b x y
    | inr y ↦ absurd (not_both digest origin keys bytes a b x y)
  ]
  | inr x ↦ elim (judged digest origin keys bytes b n q) [
    | inl y ↦ absurd (not_both digest origin keys bytes b a y x)
    | inr y ↦ both_late digest origin keys bytes a b x y
  ]
]

of_bytes : (v : View) → IsOfBytes (Ok v)
of_bytes v = record { was_read = λ e. cc e; has_memory = λ e. cc e }

pub texts_are_loaded : TextsAreLoaded
texts_are_loaded digest origin keys bytes v h a m p = one_load digest origin keys bytes a (Ok v) m (of_bytes v) p h

pub saved_is_loaded : SavedIsLoaded
saved_is_loaded digest keys v bytes lawful opened text a m p =
    texts_are_loaded digest v.origin keys bytes v
    (record { text = inl text; lawful = lawful; origin_is = refl; opened = opened }) a m p

pub old_is_saved_as_new : OldIsSavedAsNew
old_is_saved_as_new digest origin keys v loaded old new saved h text loads s t =
    let same : ◌≡◌ {A = Result View LoadFault} (Ok loaded) (Ok v) =
    texts_are_loaded digest origin keys old v h (Ok loaded) (of_bytes loaded) loads in
    let is : loaded ≡ v = cc same in
    text_is_one v saved new (subst (λ w. StateText w saved) is s) t
