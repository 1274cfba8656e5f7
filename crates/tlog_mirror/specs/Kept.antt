-- The parts of a mirror, and their invariant.
use Rattle.std.specs.Prelude.{ℕ, List, map, All}
use Rattle.std.specs.Ordering.{nat_cmp}
use Rattle.std.specs.Cmp.Lexicographic.{slice_cmp}
use Rattle.std.specs.List.Sorted.{IsStrictlySortedBy}
use Rattle.std.specs.FinSet as set
use Rattle.node_store.specs.Strings.{Strings}
use Rattle.mirror_model.specs.Heads.{IsHead}
use Rattle.mirror_model.specs.Marks.{Points, State, IsSound}
use Rattle.mirror_trees.specs.Slices.{AreSettled}
use Rattle.mirror_trees.specs.declared.held_note.HeldNote.{HeldNote}

-- the bytes of a kept note
abbrev pub note_bytes : HeldNote → List ℕ
note_bytes kept = kept.note.bytes

-- the state of a mirror with these parts
abbrev pub state_of : List ℕ → List HeldNote → Strings → Points → State
state_of origin kept strings remembered =
    record {
      view =
          record {
            origin = origin;
            notes = set.from_list (map note_bytes kept);
            strings = strings;
          };
      remembered = remembered;
    }

-- the invariant of a mirror's parts. Their state is sound. For each remembered tree all slices are remembered. The kept
-- notes rise by their bytes, and each is kept with the size and root of its text
pub record IsKeptWell
    (digest : List ℕ → List ℕ) (origin : List ℕ) (kept : List HeldNote) (strings : Strings)
    (remembered : Points) : Type 0 where
  pub sound : IsSound digest (state_of origin kept strings remembered)
  pub settled : AreSettled digest strings remembered
  pub rising : IsStrictlySortedBy (slice_cmp nat_cmp) (map note_bytes kept)
  pub said : All (λ k. IsHead (note_bytes k) origin k.size k.root) kept
