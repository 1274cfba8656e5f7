-- The requests to the places when a copy is brought to a checkpoint, and the fault if no place gave a file.
use Rattle.std.specs.Prelude.{◌≡◌, ◌≤◌, ℕ, List, get_or, Option, Some, IsSome}
use Rattle.tlog_tiles.specs.declared.paths.Path.{Path}
use Rattle.tlog_tiles.specs.declared.paths.Path.TheVariants.{Checkpoint}
use Rattle.mirror_folders.specs.Shelf.{HasPut, Put}
use Rattle.mirror_model.specs.Heads.{IsHead}
use Rattle.copy_follow.specs.Asked.{MayBeAsked}
use Rattle.copy_follow.specs.Copies.{IsCopy}
use Rattle.copy_follow.specs.Pruned.{HadSize, IsPrunedCopy}
use Rattle.copy_places.specs.PlaceGets.{APlaceFailed, AsksEach}
use Rattle.copy_places.specs.declared.place.Place.{Place}
use Rattle.copy_places.specs.declared.places.Places.{Places}
use Rattle.copy_follow.specs.declared.bring_fault.BringFault.{BringFault}
use Rattle.copy_follow.specs.declared.bring_fault.BringFault.TheVariants.{BadCheckpoint, CopyDamaged, NotLarger}
use Rattle.copy_follow.specs.declared.bring_fault.BringFault.TheVariants.{Contradiction, Collision, NoFile, Source, CopyInUse}
use Rattle.copy_follow.specs.declared.bring_fault.BringFault.TheVariants.{ShelfFault, OutOfMemory}

module _ (digest : List ℕ → List ℕ) {S : Type 0} (may : S → Path → Option (List ℕ) → Type 0) (failed : S → ℕ)
    (asked : S → Option (List Path)) where
  -- the places got no request, or requests that a call may make from the size of the old copy to the size of the note
  pub data AsksForCopy (origin note : List ℕ) (puts : Option (List Put)) (old new : Places S) : Type 0 where
    AsksNothing : AsksEach may failed asked (λ path. ⊥) old new → AsksForCopy origin note puts old new
    AsksFiles :
        (had size : ℕ) (root : List ℕ) → HadSize digest origin puts had → IsHead note origin size root →
        AsksEach may failed asked (MayBeAsked had size) old new → AsksForCopy origin note puts old new

module _ {S : Type 0} (may : S → Path → Option (List ℕ) → Type 0) (failed : S → ℕ) (asked : S → Option (List Path)) where
  -- neither the shelf nor a place gave a file, and its path is recorded. The fault is Source if a place failed in this call,
  -- and NoFile if no place did
  abbrev pub BlamesFailed : Places S → Places S → BringFault → Type 0
  BlamesFailed old new BadCheckpoint = Unit {0}
  BlamesFailed old new CopyDamaged = Unit {0}
  BlamesFailed old new NotLarger = Unit {0}
  BlamesFailed old new Contradiction = Unit {0}
  BlamesFailed old new Collision = Unit {0}
  BlamesFailed old new NoFile =
      ((k : ℕ) (d : Place S) → (get_or new.list.items k d).failures ≡ (get_or old.list.items k d).failures)
      × IsSome new.lacked
  BlamesFailed old new Source = APlaceFailed may failed asked old new × IsSome new.lacked
  BlamesFailed old new CopyInUse = Unit {0}
  BlamesFailed old new ShelfFault = Unit {0}
  BlamesFailed old new OutOfMemory = Unit {0}

module _ (digest : List ℕ → List ℕ) (origin note : List ℕ) (puts : Option (List Put)) where
  -- the note is not larger than the old copy. The shelf does not record that it had no checkpoint
  pub record IsNotLarger : Type 0 where
    pub had : ℕ
    pub size : ℕ
    pub root : List ℕ
    pub had_is : HadSize digest origin puts had
    pub is_head : IsHead note origin size root
    pub upto : size ≤ had
    pub not_none : (held : List Put) → puts ≡ Some held → ¬ ¬ HasPut held Checkpoint

  -- BadCheckpoint: the bytes are not a note of a checkpoint of the origin. NotLarger: the note is not larger than the copy
  abbrev pub RefusesNote : BringFault → Type 0
  RefusesNote BadCheckpoint = (size : ℕ) (root : List ℕ) → ¬ IsHead note origin size root
  RefusesNote CopyDamaged = Unit {0}
  RefusesNote NotLarger = IsNotLarger
  RefusesNote Contradiction = Unit {0}
  RefusesNote Collision = Unit {0}
  RefusesNote NoFile = Unit {0}
  RefusesNote Source = Unit {0}
  RefusesNote CopyInUse = Unit {0}
  RefusesNote ShelfFault = Unit {0}
  RefusesNote OutOfMemory = Unit {0}

-- a shelf that records its puts has neither a copy, nor no checkpoint
pub record IsInUse (digest : List ℕ → List ℕ) (origin : List ℕ) (old : Option (List Put)) : Type 0 where
  pub no_copy : (held : List Put) → old ≡ Some held → (note : List ℕ) (entries : List (List ℕ)) →
      ¬ IsCopy digest origin note entries held
  pub no_pruned : (held : List Put) → old ≡ Some held → (note : List ℕ) (entries : List (List ℕ)) →
      ¬ IsPrunedCopy digest origin note entries held
  pub not_none : (held : List Put) → old ≡ Some held → ¬ ¬ HasPut held Checkpoint

-- the two sizes are those of the old copy, which is 0 if there was no checkpoint, and of the note
pub record AreEnds (digest : List ℕ → List ℕ) (origin note : List ℕ) (puts : Option (List Put)) (sizes : ℕ × ℕ) : Type 0 where
  pub root : List ℕ
  pub had_is : HadSize digest origin puts sizes.0
  pub is_head : IsHead note origin sizes.1 root
