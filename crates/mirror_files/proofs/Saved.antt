-- A complete state is written.
use Rattle.std.proofs.Common.{◌≡◌, inl, inr, ℕ, ◌<◌, ◌≤◌, ◌^◌, List, ◌∷◌, length, map, Ok}
use Rattle.std.specs.Borrow.{Bor}
use Rattle.std.proofs.Common.{Err, Option, Some, None, refl, subst, arith}
use Rattle.std.specs.declared.vec.Vec.{Vec}
use Rattle.std.proofs.lemmas.List.{length-map}
use Rattle.std.proofs.lemmas.List.Elements.{All-contains_itself, All-weaker}
use Rattle.std.specs.Io.KnownBytes.{Appends, Keeps}
use Rattle.std.specs.List.{Contains}
use Rattle.byte_streams.specs.Streams.{AppendsPrefix}
use Rattle.byte_streams.specs.declared.fault.StreamFault.{StreamFault}
use Rattle.mirror_model.specs.Listed.{ListsNotes}
use Rattle.mirror_model.specs.Marks.{IsSound, State}
use Rattle.mirror_files.specs.declared.items.Form.TheVariants.{Short, Long, Hashes}
use Rattle.mirror_files.specs.Items.{IsItem}
use Rattle.mirror_files.specs.Listing.{ListsEach, ListsStrings}
use Rattle.mirror_files.specs.declared.listing.Sorted.{Sorted}
use Rattle.mirror_files.specs.declared.save_fault.SaveFault.TheVariants.{WriteFault}
use Rattle.mirror_files.specs.Saving.{Saves}
use Rattle.mirror_files.specs.Content.{IsStateString}
use Rattle.mirror_files.specs.Putting.{WritesText, pair_bytes, state_text}
use Rattle.mirror_files.specs.StateText.{AreParted, AreParts, VersionTwo, Parts, StateText}
use Rattle.mirror_files.proofs.Listed.{state_string}
use Rattle.mirror_files.proofs.Gathered.{lent_bytes}

pub keeps_itself : (now : Option (List ℕ)) → Keeps now now
keeps_itself None = tt
keeps_itself (Some bytes) = refl

-- ---- the lists are those of the view

pair_len : (pair : List ℕ) → IsStateString (1 ∷ pair) → length pair ≡ 64
pair_len pair (inl h) = absurd (let e = h.0 in cc e)
pair_len pair (inr h) = h.1

module _ (digest : List ℕ → List ℕ) (state : State) (sound : IsSound digest state) (notes pairs entries : List (List ℕ))
    (notes_are : ListsNotes state.view notes) (pairs_are : ListsEach 1 state.view.strings pairs)
    (entries_are : ListsEach 0 state.view.strings entries) where
  note_fits : (note : List ℕ) → Contains notes note → length note < 2 ^ 32
  note_fits note c =
      let edge = sound.lawful.edges note ((notes_are.exact note).0 c) in
      let short : length note ≤ 1000000 = edge.is_head.is_note.short in
      omega (arith, short)

  entry_fits : (entry : List ℕ) → Contains entries entry → length entry < 2 ^ 16
  entry_fits entry c = omega (arith, sound.lawful.leaves_short entry ((entries_are.exact entry).0 c))

  pair_fits : (pair : List ℕ) → Contains pairs pair → length pair ≡ 64
  pair_fits pair c =
      let held = (pairs_are.exact pair).0 c in
      pair_len pair
      (state_string (1 ∷ pair) state.view sound.lawful.leaves_short (sound.lawful.are_strings (1 ∷ pair) held) held)

  pub are_parted : length notes < 2 ^ 64 → length pairs < 2 ^ 64 → length entries < 2 ^ 64 →
      AreParted state.view.origin notes pairs entries
  are_parted few_notes few_pairs few_entries = record {
    origin_fits = omega (arith, sound.origin.most);
    notes_fit = record {
      count = few_notes;
      fits = All-weaker (Contains notes) (IsItem Long) note_fits notes (All-contains_itself notes);
    };
    pairs_fit = record {
      count = few_pairs;
      fits = All-weaker (Contains pairs) (IsItem Hashes) pair_fits pairs (All-contains_itself pairs);
    };
    entries_fit = record {
      count = few_entries;
      fits = All-weaker (Contains entries) (IsItem Short) entry_fits entries (All-contains_itself entries);
    };
  }

  pub is_state_text : AreParted state.view.origin notes pairs entries →
      StateText state.view (state_text (VersionTwo state.view.origin notes pairs entries))
  is_state_text are = record {
    notes = notes;
    pairs = pairs;
    entries = entries;
    is_text = record { are_parts = are; text = refl };
    notes_are = notes_are;
    pairs_rise = pairs_are.rises;
    pairs_are = pairs_are.exact;
    entries_rise = entries_are.rises;
    entries_are = entries_are.exact;
  }

-- eight bytes can count the items of a vector
pub few : {X Z : Type 0} (v : Vec X Z) → length v.items < 2 ^ 64
few v = let len = v.ok.0 in let most = v.ok.1 in let small = v.small in omega (arith, len, most, small)

pub few_mapped : {X Z : Type 0} (f : X → List ℕ) (v : Vec X Z) → length (map f v.items) < 2 ^ 64
few_mapped f v = omega (arith, few v, length-map v.items f)

-- ---- the answers of a saver

module _ (digest : List ℕ → List ℕ) (state : State) (sound : IsSound digest state) {Z : Type 0}
    (notes : Vec (Bor (List ℕ)) Z) (held : Sorted) (notes_are : ListsNotes state.view (map lent_bytes notes.items))
    (strings_are : ListsStrings state.view.strings held) where
  abbrev own : Parts
  own = VersionTwo state.view.origin (map lent_bytes notes.items) (map pair_bytes held.pairs.items)
      (map lent_bytes held.entries.items)

  pub own_parts : AreParts own
  own_parts =
      are_parted digest state sound (map lent_bytes notes.items) (map pair_bytes held.pairs.items)
      (map lent_bytes held.entries.items) notes_are strings_are.pairs_are strings_are.entries_are
      (few_mapped lent_bytes notes) (few_mapped pair_bytes held.pairs) (few_mapped lent_bytes held.entries)

  own_text : StateText state.view (state_text own)
  own_text = is_state_text digest state sound (map lent_bytes notes.items) (map pair_bytes held.pairs.items)
      (map lent_bytes held.entries.items) notes_are strings_are.pairs_are strings_are.entries_are own_parts

  module _ (old new : Option (List ℕ)) (parts : Parts) (is : parts ≡ own) where
    pub saved_whole : WritesText old new (state_text parts) (Ok tt) → Saves state.view old new (Ok tt)
    saved_whole w = (state_text own, own_text, subst (λ (p : Parts). Appends old new (state_text p)) is w)

    pub saved_front : (fault : StreamFault) → WritesText old new (state_text parts) (Err fault) →
        Saves state.view old new (Err WriteFault)
    saved_front fault w = (state_text own, own_text, subst (λ (p : Parts). AppendsPrefix old new (state_text p)) is w)
