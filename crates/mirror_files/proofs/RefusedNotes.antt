-- The note of a state text for which the text is not loaded.
use Rattle.std.proofs.Common.{◌≡◌, ◌≢◌, inl, inr, ℕ, ◌<◌, ◌^◌, List, length, take, All}
use Rattle.std.proofs.Common.{get_or, Option, Some, None, Result, Ok, Err, Bor, refl, subst, arith}
use Rattle.std.specs.Prelude.{IfOk, IfSome, IfNone, option_map}
use Rattle.std.specs.FinSet as set
use Rattle.std.proofs.lemmas.Option.{slice_get_within}
use Rattle.tlog_text.specs.Answers.{seen}
use Rattle.node_store.specs.Strings.{NoClash}
use Rattle.signed_note.specs.Keys.{Key}
use Rattle.mirror_model.specs.Complete.{HasEdge}
use Rattle.mirror_model.specs.View.{View}
use Rattle.tlog_mirror.specs.Adding.{with_notes}
use Rattle.tlog_mirror.specs.Restored.{IsOpenNote, KeepsHeld, strings_alone}
use Rattle.tlog_mirror.specs.declared.fault.RestoreFault.{RestoreFault}
use Rattle.tlog_mirror.specs.declared.fault.RestoreFault.TheVariants as restoring
use Rattle.mirror_files.specs.StateText.{Parts, VersionTwo, VersionOne, AreParts}
use Rattle.mirror_files.specs.Content.{listed_notes, listed_strings, listed_view, HasStrings}
use Rattle.mirror_files.specs.Loading.{Loads}
use Rattle.mirror_files.specs.LoadLaws.{IsOfBytes}
use Rattle.mirror_files.specs.Checking.{ChecksLists}
use Rattle.mirror_files.specs.Refused.{FindsAt, Refuses, RefusesNone}
use Rattle.mirror_files.specs.Opening.{IsFirstNot, OpensAsHead}
use Rattle.mirror_files.proofs.LoadedNotes.{first_closed}
use Rattle.mirror_files.specs.declared.load_fault.LoadFault.{LoadFault}
use Rattle.mirror_files.specs.declared.load_fault.LoadFault.TheVariants.{StateMagic, StateShort, StateLong, StateDigest}
use Rattle.mirror_files.specs.declared.load_fault.LoadFault.TheVariants.{OtherOrigin, StateOrder, StateString, StateHead}
use Rattle.mirror_files.specs.declared.load_fault.LoadFault.TheVariants.{Collision, StateEdge, ReadFault, OutOfMemory}
use Rattle.mirror_files.proofs.ListedItems.{bytes_of}
use Rattle.mirror_files.proofs.KeptNotes.{edge_moves_back, never_bad}
use Rattle.mirror_files.proofs.Loaded.{loaded, unheld_first}
use Rattle.mirror_files.proofs.OneLoad.{one_load}

-- ---- held right edges

module _ (digest : List ℕ → List ℕ) (old current new : View) (keys : List Key) (items : List (Bor (List ℕ))) (i : ℕ)
    (d : Bor (List ℕ)) (lt : i < length items) (view_is : current ≡ with_notes old (take i (bytes_of items))) where
  pub stays_unheld : All (IsOpenNote old.origin keys) (bytes_of items) → (fault : RestoreFault) →
      fault ≢ restoring.OutOfMemory → KeepsHeld digest current keys (get_or items i d).now (Err fault) new →
      HasEdge digest old (get_or items i d).now → ⊥
  stays_unheld opened restoring.BadHead memory h e =
      never_bad digest old current new keys items i d lt view_is opened restoring.BadHead h refl
  stays_unheld opened restoring.UnheldEdge memory h e =
      h.1 (edge_moves_back digest old current (get_or items i d).now (take i (bytes_of items)) view_is e)
  stays_unheld opened restoring.OutOfMemory memory h e = absurd (memory refl)

-- ---- bytes that are not refused for a note

module _ (digest : List ℕ → List ℕ) (origin : List ℕ) (keys : List Key) (bytes : List ℕ) where
  of_fault : (fault : LoadFault) → fault ≢ ReadFault → fault ≢ OutOfMemory →
      IsOfBytes (Err fault)
  of_fault fault read memory = record { was_read = λ e. read (cc e); has_memory = λ e. memory (cc e) }

  other_answer : (a : Result View LoadFault) → IsOfBytes a → Loads digest origin keys bytes a → a ≢ Err StateHead →
      a ≢ Err StateEdge → RefusesNone digest origin keys bytes
  other_answer a m h no_head no_edge = record {
    no_closed = λ bad. no_head (one_load digest origin keys bytes a (Err StateHead) m
        (of_fault StateHead (λ e. cc e) (λ e. cc e)) h bad);
    no_unheld = λ lacks. no_edge (one_load digest origin keys bytes a (Err StateEdge) m
        (of_fault StateEdge (λ e. cc e) (λ e. cc e)) h lacks);
  }

  other_fault : (fault : LoadFault) → fault ≢ ReadFault → fault ≢ OutOfMemory → fault ≢ StateHead →
      fault ≢ StateEdge → Loads digest origin keys bytes (Err fault) → RefusesNone digest origin keys bytes
  other_fault fault read memory head edge h =
      other_answer (Err fault) (of_fault fault read memory) h (λ e. head (cc e)) (λ e. edge (cc e))

  pub lists_refused : (fault : LoadFault) → fault ≢ OutOfMemory → ChecksLists origin bytes (Err fault) →
      RefusesNone digest origin keys bytes
  lists_refused StateMagic m h = other_fault StateMagic (λ e. cc e) m (λ e. cc e) (λ e. cc e) h
  lists_refused StateShort m h = other_fault StateShort (λ e. cc e) m (λ e. cc e) (λ e. cc e) h
  lists_refused StateLong m h = other_fault StateLong (λ e. cc e) m (λ e. cc e) (λ e. cc e) h
  lists_refused StateDigest m h = other_fault StateDigest (λ e. cc e) m (λ e. cc e) (λ e. cc e) h
  lists_refused OtherOrigin m h = other_fault OtherOrigin (λ e. cc e) m (λ e. cc e) (λ e. cc e) h
  lists_refused StateOrder m h = other_fault StateOrder (λ e. cc e) m (λ e. cc e) (λ e. cc e) h
  lists_refused StateString m h = other_fault StateString (λ e. cc e) m (λ e. cc e) (λ e. cc e) h
  lists_refused StateHead m h = absurd h
  lists_refused Collision m h = absurd h
  lists_refused StateEdge m h = absurd h
  lists_refused ReadFault m h = absurd h
  lists_refused OutOfMemory m h = absurd (m refl)

  pub strings_clash : Loads digest origin keys bytes (Err Collision) → RefusesNone digest origin keys bytes
  strings_clash h = other_fault Collision (λ e. cc e) (λ e. cc e) (λ e. cc e) (λ e. cc e) h

  pub all_kept : (v : View) → Loads digest origin keys bytes (Ok v) → RefusesNone digest origin keys bytes
  all_kept v h =
      other_answer (Ok v) (record { was_read = λ e. cc e; has_memory = λ e. cc e }) h (λ e. cc e) (λ e. cc e)

-- the first note that does not open
pub closed_recorded : (digest : List ℕ → List ℕ) (origin : List ℕ) (keys : List Key) (bytes : List ℕ) (parts : Parts)
    (listed : HasStrings origin bytes parts) (notes : List (List ℕ)) → notes ≡ listed_notes parts → (index : ℕ)
    (note : List ℕ) → IsFirstNot (OpensAsHead origin keys) notes index note → Refuses digest origin keys bytes index note
closed_recorded digest origin keys bytes parts listed notes notes_are index note first = inl (record {
  parts = parts;
  has_strings = listed;
  is_first = subst (λ ns. IsFirstNot (IsOpenNote origin keys) ns index note) notes_are
      (first_closed origin keys notes index note first);
})

-- the first note whose right edge is not held, or none
module _ (digest : List ℕ → List ℕ) (origin : List ℕ) (keys : List Key) (bytes : List ℕ) (parts : Parts)
    (listed : HasStrings origin bytes parts) (notes : List (List ℕ)) (notes_are : notes ≡ listed_notes parts)
    (opened : All (IsOpenNote origin keys) notes) (old : View)
    (made : (old ≡ strings_alone origin (set.from_list (listed_strings parts)))
    × NoClash digest (set.from_list (listed_strings parts))) (later : List (List ℕ))
    (later_are : later ≡ listed_notes parts) where
  pub edges_judged : {E : Type 0} (result : Result (Option (ℕ × Bor (List ℕ))) E) →
      IfOk result (λ a. IfSome a (λ x. IsFirstNot (HasEdge digest old) later x.0 x.1.now)) →
      IfOk result (λ a. IfNone a (All (HasEdge digest old) later)) →
      FindsAt digest origin keys bytes (seen (option_map (λ x. (x.0, x.1.now))) result)
  edges_judged (Ok (Some x)) found none =
      inr (unheld_first digest origin keys bytes parts listed notes notes_are opened old made later later_are
      (with_notes old later) x.0 x.1.now found)
  edges_judged (Ok None) found none =
      all_kept digest origin keys bytes (with_notes old later)
      (loaded digest origin keys bytes parts listed notes notes_are opened old made later later_are
      (with_notes old later) (refl, none))
  edges_judged (Err e) found none = tt

-- ---- numbers

-- a number of 64 bits can count the notes
few_notes : (parts : Parts) → AreParts parts → length (listed_notes parts) < 2 ^ 64
few_notes (VersionTwo o notes pairs entries) fit = fit.notes_fit.count
few_notes (VersionOne o notes strings) fit = fit.notes_fit.count

index_within : (P : List ℕ → Type 0) (parts : Parts) (index : ℕ) (note : List ℕ) → AreParts parts →
    IsFirstNot P (listed_notes parts) index note → index < 18446744073709551615
index_within P parts index note fit first =
    let within = slice_get_within (listed_notes parts) index note first.is_there in
    omega (arith, few_notes parts fit, within)

pub index_fits : (digest : List ℕ → List ℕ) (origin : List ℕ) (keys : List Key) (bytes : List ℕ) (index : ℕ)
    (note : List ℕ) → Refuses digest origin keys bytes index note → index < 18446744073709551615
index_fits digest origin keys bytes index note (inl closed) =
    index_within (IsOpenNote origin keys) closed.parts index note
    closed.has_strings.has_order.has_origin.is_text.are_parts closed.is_first
index_fits digest origin keys bytes index note (inr unheld) =
    index_within (HasEdge digest (listed_view unheld.parts)) unheld.parts index note
    unheld.has_no_collision.has_open_notes.has_strings.has_order.has_origin.is_text.are_parts unheld.is_first
