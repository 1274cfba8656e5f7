-- The trees that a mirror knows as held are held.
use Rattle.std.proofs.Common.{ℕ, List}
use Rattle.node_store.specs.Strings.{Strings}
use Rattle.mirror_trees.specs.HeldTrees.{AreBuilt, AreKnown}
use Rattle.mirror_trees.specs.declared.known.HeldTrees.{HeldTrees}
use Rattle.tlog_mirror.specs.Kept.{IsKeptWell}
use Rattle.mirror_trees.specs.declared.held_note.HeldNote.{HeldNote}

pub all_known : {A : Type 0} (digest : List ℕ → List ℕ) (origin : List ℕ) (kept : List HeldNote) (strings : Strings)
    (known : HeldTrees) →
    IsKeptWell digest origin kept strings known.remembered × (AreBuilt digest strings known.built × A) →
    AreKnown digest strings known
all_known digest origin kept strings known ok = record { remembered = ok.0.settled.known; built = ok.1.0 }
