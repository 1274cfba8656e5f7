-- The files after a pull that ended early.
use Rattle.std.proofs.Common.{◌≡◌, ℕ, List, Option, Result, Ok, Err, inl, subst, sym}
use Rattle.signed_note.specs.Keys.{Key}
use Rattle.mirror_model.specs.View.{View, IsSubview}
use Rattle.mirror_model.proofs.Views.{within_itself}
use Rattle.mirror_pull.specs.Taking.{PullsTo}
use Rattle.mirror_pull.specs.declared.fault.PullFault.{PullFault}
use Rattle.mirror_pull.specs.declared.fault.PullFault.TheVariants as pull
use Rattle.mirror_pull.specs.declared.pulling.Pulled.{Pulled}
use Rattle.program_io.specs.Named.{NamedFile}
use Rattle.program_io.specs.declared.file_fault.NamedFault.{NamedFault}
use Rattle.program_io.specs.Saved.{IsSaved}
use Rattle.program_io.specs.States.{SavesFile}
use Rattle.state_commands.specs.Pulls.{IsHeld, SavesPulled}

-- a mirror loses nothing in a pull that ends early
pub pulled_within : (digest : List ℕ → List ℕ) (keys : List Key) (old new : View) (fault : PullFault) →
    PullsTo digest keys old new (Err fault) → IsSubview old new
pulled_within digest keys old new pull.NoCheckpoint same = rw same (within_itself old)
pulled_within digest keys old new pull.NoEdge same = rw same (within_itself old)
pulled_within digest keys old new (pull.Head f) h = rw h.1 (within_itself old)
pulled_within digest keys old new pull.Source grown = grown.grows
pulled_within digest keys old new pull.Collision grown = grown.grows
pulled_within digest keys old new pull.OutOfMemory grown = grown.grows

pub pulled_on : (digest : List ℕ → List ℕ) (keys : List Key) (old new : View) (pulled : Pulled) →
    PullsTo digest keys old new (Ok pulled) → IsSubview old new
pulled_on digest keys old new pulled h = h.0.grows

-- after the pull, the state of the mirror was written or could not be written
pub saves_pulled : {T : Type 0} (state : Option (List ℕ)) (start v : View) (out : List ℕ)
    (recorded left : Option (List NamedFile)) (answer : Result T NamedFault) → SavesFile v out recorded left answer →
    SavesPulled state start v out recorded left answer
saves_pulled state start v out recorded left (Ok x) h = inl h
saves_pulled state start v out recorded left (Err fault) h = h

-- the file still has the bytes that it had when the pull began
pub held_still : (state : Option (List ℕ)) (start v : View) (out : List ℕ) (recorded later : Option (List NamedFile)) →
    later ≡ recorded → IsSaved state start out recorded → v ≡ start → IsHeld state start v out later
held_still state start v out recorded later same saved nothing =
    record { saved = subst (IsSaved state start out) (sym same) saved; nothing = nothing }
