-- The state of a mirror after a pull loads again.
use Rattle.std.proofs.Common.{◌≡◌, ◌∙◌, ℕ, List, Option, Some, None, Result, Ok, Err, refl, sym, subst, inl, inr}
use Rattle.std.proofs.lemmas.Bool.{false≢true}
use Rattle.std.specs.FinSet.{contains-empty}
use Rattle.std.specs.Ordering.{nat_cmp}
use Rattle.std.specs.Cmp.Lexicographic.{slice_cmp}
use Rattle.signed_note.specs.Keys.{Key}
use Rattle.node_store.specs.Strings.{Has}
use Rattle.mirror_model.specs.View.{View}
use Rattle.mirror_model.proofs.StringSets.{decide_has}
use Rattle.tlog_mirror.specs.Restored.{IsOpenNote}
use Rattle.mirror_pull.proofs.Gains.{grows_same}
use Rattle.mirror_pull.specs.Taking.{Grows, PullsTo}
use Rattle.mirror_pull.specs.declared.fault.PullFault.{PullFault}
use Rattle.mirror_pull.specs.declared.fault.PullFault.TheVariants as pull
use Rattle.mirror_pull.specs.declared.pulling.Pulled.{Pulled}
use Rattle.program_io.specs.Named.{NamedFile}
use Rattle.program_io.specs.States.{BeginsWith}
use Rattle.program_library.specs.RunLaws.{PulledStatesAreLoaded}

module _ (digest : List ℕ → List ℕ) (origin : List ℕ) (keys : List Key) where
  -- the view has this origin, and its notes open under the keys
  record IsOpen (v : View) : Type 0 where
    origin_is : v.origin ≡ origin
    opened : (note : List ℕ) → Has v.notes note → IsOpenNote origin keys note

  -- the view of a state file is such a view, and so is that of an empty mirror
  begins_open : (printed : Option (List NamedFile)) (state : Option (List ℕ)) (start : View) →
      BeginsWith digest origin keys printed state (Ok start) → IsOpen start
  begins_open printed (Some name) start begun =
      let loaded = begun.1.2 in record { origin_is = loaded.origin_is; opened = loaded.opened }
  begins_open printed None start begun = subst IsOpen (sym begun.1) record {
    origin_is = refl;
    opened = λ note has. absurd (let none = contains-empty (slice_cmp nat_cmp) note in false≢true (sym none ∙ has));
  }

  -- all notes that a pull gains are such notes
  grown_open : (start v : View) → IsOpen start → Grows keys start v → IsOpen v
  grown_open start v begun grown = record {
    origin_is = sym grown.grows.origin_is ∙ begun.origin_is;
    opened = λ note has. elim (decide_has start.notes note) [
      | inl old ↦ begun.opened note old
      | inr new ↦
          let head = grown.good note has new in
          let there : IsOpenNote start.origin keys note =
          record { size = head.0; root = head.1; is_head = head.2 } in
          subst (λ (o : List ℕ). IsOpenNote o keys note) begun.origin_is there
    ];
  }

  pulls_grow : (start v : View) (answer : Result Pulled PullFault) → PullsTo digest keys start v answer →
      Grows keys start v
  pulls_grow start v (Ok p) h = h.0
  pulls_grow start v (Err pull.NoCheckpoint) h = grows_same keys start v h
  pulls_grow start v (Err pull.NoEdge) h = grows_same keys start v h
  pulls_grow start v (Err (pull.Head f)) h = grows_same keys start v h.1
  pulls_grow start v (Err pull.Source) h = h
  pulls_grow start v (Err pull.Collision) h = h
  pulls_grow start v (Err pull.OutOfMemory) h = h

pub pulled_states_are_loaded : PulledStatesAreLoaded
pulled_states_are_loaded digest origin keys state place printed v answer text pulls is =
    let begun = begins_open digest origin keys printed state pulls.start pulls.begun in
    let grown = grown_open digest origin keys pulls.start v begun
    (pulls_grow digest origin keys pulls.start v answer pulls.pulls) in
    record { text = inl is; lawful = pulls.lawful; origin_is = grown.origin_is; opened = grown.opened }
