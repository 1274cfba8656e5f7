-- Additions to a view, and the answers to them. Only the contracts of private functions cite these words, apart from
-- `with_note`.
use Rattle.std.specs.Prelude.{ℕ, List, [], ◌∷◌, Result, Ok, Err}
use Rattle.std.specs.FinSet as set
use Rattle.tlog_hash.specs.Tree as tree
use Rattle.node_store.specs.Strings.{Strings}
use Rattle.node_store.specs.declared.store.AddFault.{AddFault}
use Rattle.node_store.specs.declared.store.AddFault.TheVariants as adding
use Rattle.mirror_model.specs.View.{View}
use Rattle.mirror_model.specs.Steps.{Answer, Done, Clashed, Exhausted}
use Rattle.mirror_model.specs.declared.fault.TakeFault.{TakeFault}
use Rattle.mirror_model.specs.declared.fault.TakeFault.TheVariants as taking

-- the view with these strings added
abbrev pub with_strings : View → Strings → View
with_strings v strings =
    record { origin = v.origin; notes = v.notes; strings = set.union v.strings strings }

-- the strings that the tree hash of the entries hashes, as a set
abbrev pub tree_strings : (List ℕ → List ℕ) → List (List ℕ) → Strings
tree_strings digest entries = set.from_list (tree.strings digest entries)

-- the view with that note added
abbrev pub with_note : View → List ℕ → View
with_note v note =
    record {
      origin = v.origin;
      notes = set.union v.notes (set.from_list (note ∷ []));
      strings = v.strings;
    }

-- the view with these notes added
abbrev pub with_notes : View → List (List ℕ) → View
with_notes v notes =
    record {
      origin = v.origin;
      notes = set.union v.notes (set.from_list notes);
      strings = v.strings;
    }

-- the kind of an answer to adding strings: done, clashed, or out of memory
abbrev pub added : Result (Unit {0}) AddFault → Answer
added (Ok done) = Done
added (Err adding.Collision) = Clashed
added (Err adding.OutOfMemory) = Exhausted

-- an answer to adding strings, as the answer of a take
abbrev pub taken_of : Result (Unit {0}) AddFault → Result (Unit {0}) TakeFault
taken_of (Ok done) = Ok done
taken_of (Err adding.Collision) = Err taking.Collision
taken_of (Err adding.OutOfMemory) = Err taking.OutOfMemory
