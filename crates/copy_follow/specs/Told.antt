-- Why a candidate that is larger than the copy is in no fork line.
use Rattle.std.specs.Prelude.{◌≡◌, ◌⊎◌, ℕ, ◌<◌, ◌≤◌, List, All, get_or, length, IfSome, Option, Some, None, Result, Ok, Err, ⊤}
use Rattle.tlog_tiles.specs.declared.paths.Path.{Path}
use Rattle.tlog_proof.specs.declared.proof.Proof.{Proof}
use Rattle.mirror_model.specs.Forks.{Point}
use Rattle.mirror_model.specs.Heads.{IsHead}
use Rattle.mirror_folders.specs.Shelf.{Put}
use Rattle.copy_places.specs.Agreeing.{Agrees}
use Rattle.copy_places.specs.Answered.{AreAnswered}
use Rattle.copy_places.specs.Candidates.{IsOnePoint, point_of}
use Rattle.copy_places.specs.Lines.{IsInSomeLine}
use Rattle.copy_places.specs.Nobodys.{CannotBeHad}
use Rattle.copy_places.specs.Requests.{AsksAny}
use Rattle.copy_places.specs.declared.ask_fault.AskFault.{AskFault}
use Rattle.copy_places.specs.declared.ask_fault.AskFault.TheVariants as ask
use Rattle.copy_places.specs.declared.candidate.Candidate.{Candidate}
use Rattle.copy_places.specs.declared.fork_line.ForkLine.{ForkLine}
use Rattle.copy_places.specs.declared.places.Places.{Places}
use Rattle.copy_follow.specs.TurnsTaken.{IsLargerThan}
use Rattle.copy_follow.specs.declared.bring_fault.BringFault.{BringFault}
use Rattle.copy_follow.specs.declared.bring_fault.BringFault.TheVariants as bring
use Rattle.copy_follow.specs.declared.follow_fault.FollowFault.{FollowFault}
use Rattle.copy_follow.specs.declared.follow_fault.FollowFault.TheVariants.{ShelfFault, OutOfMemory}
use Rattle.copy_follow.specs.declared.report.Followed.{Followed}
use Rattle.copy_follow.specs.declared.run.Outcome.{Outcome}
use Rattle.copy_follow.specs.declared.run.Outcome.TheVariants as turn
use Rattle.copy_follow.specs.declared.run.Run.{Run}

module _ (digest : List ℕ → List ℕ) {S : Type 0} (may : S → Path → Option (List ℕ) → Type 0) (failed : S → ℕ)
    (asked : S → Option (List Path)) (old new : Places S) where
  -- at some moment of a call, by the answers that were kept then, a proof from the first entries to the larger point could not be had.
  -- Each of these answers was given in this call
  pub record CouldNotBeHad (first : ℕ) (large : Point) : Type 0 where
    pub moment : Places S
    pub before : AsksAny may failed asked old moment
    pub after : AsksAny may failed asked moment new
    pub answered : AreAnswered may old moment
    pub puts : Option (List Put)
    pub why : CannotBeHad digest puts moment.ends.tiles.items (length old.list.items) first large

  -- why no fork of a point that has entries and a larger one is told: the two agree, or the proof could not be had
  abbrev pub IsUntold : Point → Point → Type 0
  IsUntold small large = 0 < small.size → Agrees digest small large ⊎ CouldNotBeHad small.size large

  -- each of the larger ones has a reason, for a copy of that size and root
  abbrev pub TellsAbove : ℕ × List ℕ → Followed → Type 0
  TellsAbove copy followed =
      All (λ point. IsUntold (record { size = copy.0; root = copy.1 }) (record { size = point.0; root = point.1 }))
      followed.larger.items

  -- the same for the copy of the answer, if there is one
  abbrev pub TellsLarger : Followed → Type 0
  TellsLarger followed = IfSome followed.copy (λ copy. TellsAbove copy followed)

-- the size in the text of a note, which is a checkpoint of the origin. It is 0 without a note
abbrev pub IsSizeIn : List ℕ → Option (List ℕ) → ℕ → Type 0
IsSizeIn origin None size = size ≡ 0
IsSizeIn origin (Some note) size = (root : List ℕ) × IsHead note origin size root

-- the sizes are those of the note that was found, and of the other one
abbrev pub AreSizesIn : List ℕ → Option (List ℕ) → List ℕ → ℕ × ℕ → Type 0
AreSizesIn origin found note sizes = IsSizeIn origin found sizes.0 × IsSizeIn origin (Some note) sizes.1

-- the copy was not brought to a larger note, since a file is missing, or one contradicts it
abbrev pub IsOfFiles : BringFault → Type 0
IsOfFiles bring.BadCheckpoint = ⊥
IsOfFiles bring.CopyDamaged = ⊥
IsOfFiles bring.NotLarger = ⊥
IsOfFiles bring.Contradiction = ⊤
IsOfFiles bring.Collision = ⊤
IsOfFiles bring.NoFile = ⊤
IsOfFiles bring.Source = ⊤
IsOfFiles bring.CopyInUse = ⊥
IsOfFiles bring.ShelfFault = ⊥
IsOfFiles bring.OutOfMemory = ⊥

-- ---- only contracts of private functions cite what follows

-- the outcome for a larger candidate, by what came of the request for its proof
abbrev pub outcome_by : Result (Option Proof) AskFault → Result Outcome FollowFault
outcome_by (Ok (Some proof)) = Ok (turn.Forks (Some proof))
outcome_by (Ok None) = Ok turn.Contradicts
outcome_by (Err ask.NoFile) = Ok turn.Contradicts
outcome_by (Err ask.OtherFiles) = Ok turn.Contradicts
outcome_by (Err ask.ShelfFault) = Err ShelfFault
outcome_by (Err ask.OutOfMemory) = Err OutOfMemory

-- the turn is a fork, or else this holds
abbrev pub IsForkOr : Type 0 → Outcome → Type 0
IsForkOr so turn.Agrees = so
IsForkOr so turn.Brought = so
IsForkOr so (turn.Forks proof) = ⊤
IsForkOr so turn.Contradicts = so
IsForkOr so (turn.NotHad fault) = so

-- a turn ended, with no fork
abbrev pub IsNoFork : Result Outcome FollowFault → Type 0
IsNoFork (Ok turn.Agrees) = ⊤
IsNoFork (Ok turn.Brought) = ⊤
IsNoFork (Ok (turn.Forks proof)) = ⊥
IsNoFork (Ok turn.Contradicts) = ⊤
IsNoFork (Ok (turn.NotHad fault)) = ⊤
IsNoFork (Err fault) = ⊥

-- the run counts the candidates that were not had before a turn that brought the copy to a larger one
abbrev pub CountsAgain : Candidate → Outcome → Run → Run → Type 0
CountsAgain candidate turn.Agrees old new = new.again ≡ old.again
CountsAgain candidate turn.Brought old new =
    (IsLargerThan old.copy candidate → new.again ≡ length old.not_had.items)
    × (¬ IsLargerThan old.copy candidate → new.again ≡ old.again)
CountsAgain candidate (turn.Forks proof) old new = new.again ≡ old.again
CountsAgain candidate turn.Contradicts old new = new.again ≡ old.again
CountsAgain candidate (turn.NotHad fault) old new = new.again ≡ old.again

-- one of the candidates has the size and root of that one
pub record IsLacked (lacked : List Candidate) (candidate : Candidate) : Type 0 where
  pub at : ℕ
  pub listed : at < length lacked
  pub one : (d : Candidate) → IsOnePoint candidate (get_or lacked at d)

module _ (digest : List ℕ → List ℕ) {S : Type 0} (may : S → Path → Option (List ℕ) → Type 0) (failed : S → ℕ)
    (asked : S → Option (List Path)) (old new : Places S) where
  -- why no fork of the copy, if there is one, and a larger candidate is told
  abbrev pub HasReason : Option Candidate → Candidate → Type 0
  HasReason None candidate = ⊤
  HasReason (Some copy) candidate =
      IsUntold digest may failed asked old new (point_of copy) (point_of candidate)

  -- if a turn did not bring the copy to a larger candidate, and is no fork, there is a reason
  abbrev pub TellsTurn : Option Candidate → Candidate → Outcome → Type 0
  TellsTurn copy candidate turn.Agrees = ⊤
  TellsTurn copy candidate turn.Brought = ⊤
  TellsTurn copy candidate (turn.Forks proof) = ⊤
  TellsTurn copy candidate turn.Contradicts = HasReason copy candidate
  TellsTurn copy candidate (turn.NotHad fault) = HasReason copy candidate

  -- a candidate that is larger than the copy is in a line, or there is a reason
  abbrev pub IsTold : Option Candidate → List ForkLine → Candidate → Type 0
  IsTold copy lines candidate =
      IsLargerThan copy candidate → IsInSomeLine lines candidate ⊎ HasReason copy candidate

  -- the same of the first of some candidates
  abbrev pub AreToldFirst : Option Candidate → List ForkLine → List Candidate → ℕ → Type 0
  AreToldFirst copy lines lacked again =
      (k : ℕ) (d : Candidate) → k < again → k < length lacked → IsTold copy lines (get_or lacked k d)

  -- each candidate that is larger than the copy is in a line, or it was not had. There is a reason for those that were not had since
  -- the copy grew: all but the first ones, as many as "again"
  pub record AreTold (done : List Candidate) (copy : Option Candidate) (lines : List ForkLine) (lacked : List Candidate)
      (again : ℕ) : Type 0 where
    pub each : All (λ c. IsLargerThan copy c → IsInSomeLine lines c ⊎ IsLacked lacked c) done
    pub later : (k : ℕ) (d : Candidate) → again ≤ k → k < length lacked →
        HasReason copy (get_or lacked k d)

  -- the same for a run
  abbrev pub AreToldIn : List Candidate → Run → Type 0
  AreToldIn done run = AreTold done run.copy run.forks.items run.not_had.items run.again
