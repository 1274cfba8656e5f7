-- The greatest candidate is a checkpoint of the log, beside places that lie about files but cannot sign notes.
use Rattle.std.specs.Prelude.{◌≡◌, ℕ, ◌<◌, ◌≤◌, List, get_or, length, take, Option, Some, None}
use Rattle.std.specs.List.Sorted.{IsSorted}
use Rattle.signed_note.specs.Keys.{Key}
use Rattle.tlog_hash.specs.Tree.{mth}
use Rattle.tlog_tiles.specs.declared.paths.Path.{Path}
use Rattle.tlog_tiles.specs.declared.paths.Path.TheVariants.{Checkpoint}
use Rattle.mirror_model.specs.Heads.{IsOpenHead}
use Rattle.mirror_model.specs.TrueLaws.{AreShort}
use Rattle.mirror_sources.specs.Source.{File}
use Rattle.mirror_folders.specs.Shelf.{Put}
use Rattle.copy_places.specs.Candidates.{turn_cmp}
use Rattle.copy_places.specs.GatheredFrom.{AreCandidates}
use Rattle.copy_places.specs.Requests.{MayGiveNote}
use Rattle.copy_places.specs.TruePlaces.{HasTruePlace}
use Rattle.copy_places.specs.declared.candidate.Candidate.{Candidate}
use Rattle.copy_places.specs.declared.place.Place.{Place}
use Rattle.copy_places.specs.declared.places.Places.{Places}
use Rattle.copy_follow.specs.OneHonestRun.{HoldsPartOrNone, IsFirstPoint, IsHonestRun}
use Rattle.copy_follow.specs.Scripted.{AnswerFromScripts, AreFilesClear, all_files}

module _ {S : Type 0} (may : S → Path → Option (List ℕ) → Type 0) (old new : Places S) where
  -- one of the places may give nothing but the note for its checkpoint. It did not fail, and was not given up
  pub record HasNotedPlace (note : List ℕ) : Type 0 where
    pub none : Place S
    pub index : ℕ
    pub listed : index < length old.list.items
    pub gives : (answer : Option (List ℕ)) → may (get_or old.list.items index none).source Checkpoint answer → answer ≡ Some note
    pub asked : (get_or old.list.items index none).failures < 8
    pub answers : (get_or new.list.items index none).failures ≡ (get_or old.list.items index none).failures

-- each note that a place may give, and that opens, is a checkpoint of the first entries of the log, and of no more than "size"
pub record AreNotesTrue (digest : List ℕ → List ℕ) (origin : List ℕ) (keys : List Key) {S : Type 0}
    (may : S → Path → Option (List ℕ) → Type 0) (places : Places S) (entries : List (List ℕ)) (size : ℕ) : Type 0 where
  pub each : (note : List ℕ) → MayGiveNote may places note → (n : ℕ) (root : List ℕ) → IsOpenHead note origin keys n root →
      (n ≤ size) × (root ≡ mth digest (take n entries))

-- if one place may give nothing but its note, the greatest candidate is that checkpoint, as `follow` wants it. The others may give any notes
-- that do not open, and older notes of the log
abbrev pub NotedPlacesLead : {S : Type 0} → (S → Path → Option (List ℕ) → Type 0) → Type 0
NotedPlacesLead {S} may =
    (digest : List ℕ → List ℕ) (origin : List ℕ) (keys : List Key) (old new : Places S) (note : List ℕ) (entries : List (List ℕ))
    (size : ℕ) → IsOpenHead note origin keys size (mth digest (take size entries)) → HasNotedPlace may old new note →
    AreNotesTrue digest origin keys may old entries size → (candidates : List Candidate) →
    AreCandidates may origin keys old new None candidates → IsSorted turn_cmp candidates →
    IsFirstPoint candidates size (mth digest (take size entries))

-- so nothing that `follow` wants for an honest run fails because the others lie. They give any files of their scripts
abbrev pub ScriptsMakeHonestRuns : {S : Type 0} → (S → Path → Option (List ℕ) → Type 0) → Type 0
ScriptsMakeHonestRuns {S} may =
    (digest : List ℕ → List ℕ) (entries : List (List ℕ)) → AreShort entries → (size : ℕ) → size ≤ length entries →
    (old new : Places S) → HasTruePlace digest entries may old new → (scripts : List (List File)) → AnswerFromScripts may old scripts →
    (held : List Put) → AreFilesClear digest (take size entries) (all_files held scripts) →
    (origin : List ℕ) (keys : List Key) (note : List ℕ) → IsOpenHead note origin keys size (mth digest (take size entries)) →
    HasNotedPlace may old new note → AreNotesTrue digest origin keys may old entries size →
    ((candidates : List Candidate) × AreCandidates may origin keys old new None candidates) →
    HoldsPartOrNone digest origin entries (Some held) →
    IsHonestRun digest may (Some held) old new origin (AreCandidates may origin keys old new None)
