-- The command `follow`: the meaning of each answer for the places, the given note, the folder of the copy, the output and the evidence.
use Rattle.std.specs.Prelude.{◌≡◌, ◌⊎◌, ℕ, List, [], Option, Result, Ok, Err, IsFalse, IsTrue, option_map}
use Rattle.signed_note.specs.Keys.{Key}
use Rattle.tlog_tiles.specs.declared.paths.Path.{Path}
use Rattle.copy_places.specs.declared.places.Places.{Places}
use Rattle.copy_follow.specs.declared.repaired.Repaired.{Repaired}
use Rattle.program_words.specs.declared.commands.follow.Follow.{Follow as FollowWords}
use Rattle.program_copies.specs.Following.{RunsFollow}
use Rattle.program_copies.specs.Repairing.{RunsRepair}
use Rattle.program_copies.specs.declared.follow_fault.FollowRunFault.{FollowRunFault}
use Rattle.program_copies.specs.declared.repair_fault.RepairRunFault.{RepairRunFault}
use Rattle.program_io.specs.Moment.{Moment}
use Rattle.program_io.specs.Origins.{RefusesOrigin}
use Rattle.program_io.specs.Performing.{DoesNothing}
use Rattle.program_io.specs.Places.{World}
use Rattle.copy_commands.specs.Places.{ArePlacesOf}
use Rattle.copy_commands.specs.declared.place_fault.PlaceRunFault.{PlaceRunFault}
use Rattle.copy_commands.specs.declared.place_fault.PlaceRunFault.TheVariants.{Follow, OutOfMemory, Origin, Repair}

module _ (digest : List ℕ → List ℕ) {S : Type 0} (may : S → Path → Option (List ℕ) → Type 0) (failed : S → ℕ)
    (asked : S → Option (List Path)) (keys : List Key) (old new : Moment) (places : Places S) where
  -- these places were followed with this answer. A moment has no count of the folder's failures, so that is some number
  pub record FollowsAmong (c : FollowWords) (answer : Result ℕ FollowRunFault) : Type 0 where
    pub left : Places S
    pub failures : ℕ
    pub more_failures : ℕ
    pub runs :
        RunsFollow digest may failed asked c.copy.log.origin.now keys places left (option_map (λ name. name.now) c.checkpoint)
        (option_map (λ name. name.now) c.forks) (old.held c.copy.folder.now) old.puts new.puts failures more_failures
        old.files new.files old.output new.output answer

  -- the same after a repair, which began with nothing done
  pub record RepairsAmong (c : FollowWords) (answer : Result ℕ RepairRunFault) : Type 0 where
    pub left : Places S
    pub failures : ℕ
    pub more_failures : ℕ
    pub begun : Repaired
    pub nothing : (begun.put ≡ 0) × (begun.damaged.items ≡ [])
    pub done : Repaired
    pub runs :
        RunsRepair digest may failed asked c.copy.log.origin.now keys places left (option_map (λ name. name.now) c.checkpoint)
        (option_map (λ name. name.now) c.forks) (old.held c.copy.folder.now) old.puts new.puts failures more_failures
        old.files new.files old.output new.output begun done answer

  -- the meaning of each answer for these places, whose words are right: the copy is repaired first if the words ask for it
  abbrev pub AnswersAmong : FollowWords → Result ℕ PlaceRunFault → Type 0
  AnswersAmong c (Ok status) = (IsFalse c.repair × FollowsAmong c (Ok status)) ⊎ (IsTrue c.repair × RepairsAmong c (Ok status))
  AnswersAmong c (Err (Follow fault)) = IsFalse c.repair × FollowsAmong c (Err fault)
  AnswersAmong c (Err (Repair fault)) = IsTrue c.repair × RepairsAmong c (Err fault)
  AnswersAmong c (Err other) = ⊥

module _ (world : World) (digest : List ℕ → List ℕ) (keys : List Key) (old new : Moment) where
  -- the places that the words name, each of them and in order, were followed with this answer
  pub record FollowsOne (c : FollowWords) (answer : Result ℕ PlaceRunFault) : Type 0 where
    pub places : Places world.Place
    pub are : ArePlacesOf world.at c.places.items places.list.items
    pub among : AnswersAmong digest world.may world.failed world.asked keys old new places c answer

  abbrev pub DoesFollow : FollowWords → Result ℕ PlaceRunFault → Type 0
  DoesFollow c (Ok status) = FollowsOne c (Ok status)
  DoesFollow c (Err (Follow fault)) = FollowsOne c (Err (Follow fault))
  DoesFollow c (Err (Repair fault)) = FollowsOne c (Err (Repair fault))
  DoesFollow c (Err (Origin fault)) = RefusesOrigin c.copy.log.origin.now fault × DoesNothing old new
  DoesFollow c (Err OutOfMemory) = DoesNothing old new
  DoesFollow c (Err other) = ⊥
