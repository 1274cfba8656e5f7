-- The candidates of the places of a run, or the reason why there are none.
use Rattle.std.specs.Prelude.{◌≡◌, ◌≢◌, ℕ, ◌<◌, List, [], ◌∷◌, Contains, get_or, length, Option, Some, None, Err, ⊤}
use Rattle.tlog_tiles.specs.declared.paths.Path.{Path}
use Rattle.tlog_tiles.specs.declared.paths.Path.TheVariants.{Checkpoint}
use Rattle.signed_note.specs.Keys.{Key}
use Rattle.mirror_model.specs.Refusals.{ReadsHead}
use Rattle.mirror_model.specs.declared.fault.TakeFault.{TakeFault}
use Rattle.mirror_model.specs.declared.fault.TakeFault.TheVariants as take
use Rattle.copy_places.specs.PlaceGets.{AnswersGet}
use Rattle.copy_places.specs.declared.place.Place.{Place}
use Rattle.copy_places.specs.declared.places.Places.{Places}
use Rattle.copy_places.specs.declared.place.PlaceAnswer.{PlaceAnswer}
use Rattle.copy_places.specs.declared.place.PlaceAnswer.TheVariants.{Failed}
use Rattle.copy_places.specs.AskedOnce.{AsksEachOnce}
use Rattle.copy_places.specs.Requests.{AsksAny, MayGiveNote, PlaceFails}
use Rattle.copy_places.specs.Candidates.{IsCandidateOf}
use Rattle.copy_places.specs.Gathering.{AreCandidatesOf, Gathers, Gave, IsFirstReason, option_or}
use Rattle.copy_places.specs.declared.candidate.Candidate.{Candidate}
use Rattle.copy_places.specs.declared.candidate_fault.CandidateFault.{CandidateFault}
use Rattle.copy_places.specs.declared.candidate_fault.CandidateFault.TheVariants as candidate
use Rattle.copy_places.specs.declared.gather.Gathered.{Gathered}

-- the note is no candidate, for that reason
abbrev pub IsRefused : List ℕ → List Key → List ℕ → TakeFault → Type 0
IsRefused origin keys note fault = (fault ≢ take.OutOfMemory) × ReadsHead note origin keys (Err fault)

-- the reason why the given note is no candidate, by the fault
abbrev pub RefusesGiven : List ℕ → List Key → List ℕ → CandidateFault → Type 0
RefusesGiven origin keys note candidate.NoCheckpoint = ⊥
RefusesGiven origin keys note (candidate.Head fault) = IsRefused origin keys note fault
RefusesGiven origin keys note candidate.Source = ⊥
RefusesGiven origin keys note candidate.OutOfMemory = ⊤

-- the note is the only candidate
pub record IsOnly (origin : List ℕ) (keys : List Key) (note : List ℕ) (candidates : List Candidate) : Type 0 where
  pub candidate : Candidate
  pub is : candidates ≡ candidate ∷ []
  pub opens : IsCandidateOf note origin keys candidate

module _ {S : Type 0} (may : S → Path → Option (List ℕ) → Type 0) where
  -- a place gives a possible answer for its checkpoint. Or it failed, or it had failed 8 times before
  abbrev pub MayAnswer : Place S → Place S → PlaceAnswer → Type 0
  MayAnswer old new answer = AnswersGet (may old.source) Checkpoint old.failures new.failures answer

  -- each of the first "count" places gave its answer, in order
  pub record AnswerEach (old new : Places S) (answers : List PlaceAnswer) (count : ℕ) : Type 0 where
    pub count_is : length answers ≡ count
    pub each : (k : ℕ) (place : Place S) (answer : PlaceAnswer) → k < count →
        MayAnswer (get_or old.list.items k place) (get_or new.list.items k place) (get_or answers k answer)

  module _ (origin : List ℕ) (keys : List Key) (old new : Places S) where
    -- the gathered candidates come from the answers of the first places. Each note is one that a place may give. If an answer is
    -- Failed, that place failed
    pub record GathersFrom (count : ℕ) (gathered : Gathered) : Type 0 where
      pub answers : List PlaceAnswer
      pub gathers : Gathers origin keys answers gathered.candidates.items gathered.first
      pub answer_each : AnswerEach old new answers count
      pub gave : (note : List ℕ) → Gave answers note → MayGiveNote may old note
      pub failed : Contains answers Failed → PlaceFails old new

    -- each place answered, failed or had been given up. No answer is a note that opens, and the fault is the reason of the first
    -- place. For an empty list of places it is NoCheckpoint
    pub record GiveNone (fault : CandidateFault) : Type 0 where
      pub answers : List PlaceAnswer
      pub answer_each : AnswerEach old new answers (length old.list.items)
      pub are_of : AreCandidatesOf origin keys answers []
      pub reason : (first : Option CandidateFault) × IsFirstReason origin keys answers first
          × (fault ≡ option_or first candidate.NoCheckpoint)

    -- each place answered, failed or had been given up, and the candidates are exactly the notes of the answers that open
    pub record GiveCandidates (candidates : List Candidate) : Type 0 where
      pub answers : List PlaceAnswer
      pub answer_each : AnswerEach old new answers (length old.list.items)
      pub are_of : AreCandidatesOf origin keys answers candidates

    -- the candidates: the given note, or else those of the places
    abbrev pub AreCandidates : Option (List ℕ) → List Candidate → Type 0
    AreCandidates None candidates = GiveCandidates candidates
    AreCandidates (Some note) candidates = IsOnly origin keys note candidates

    -- the reason why the places give no candidate, by the fault. At Source a place failed
    abbrev pub GiveNoneFor : CandidateFault → Type 0
    GiveNoneFor candidate.NoCheckpoint = GiveNone candidate.NoCheckpoint
    GiveNoneFor (candidate.Head fault) = GiveNone (candidate.Head fault)
    GiveNoneFor candidate.Source = PlaceFails old new × GiveNone candidate.Source
    GiveNoneFor candidate.OutOfMemory = ⊤

    -- the reason why there is no candidate, with the given note or without one
    abbrev pub LacksCandidates : Option (List ℕ) → CandidateFault → Type 0
    LacksCandidates None fault = GiveNoneFor fault
    LacksCandidates (Some note) fault = RefusesGiven origin keys note fault

-- the candidates of a call: those of its beginning, in which each place was asked for its checkpoint once at most, and for no other
-- file. So a later failure of a place changes nothing of them
pub record AreFirstCandidates {S : Type 0} (may : S → Path → Option (List ℕ) → Type 0) (failed : S → ℕ)
    (asked : S → Option (List Path)) (origin : List ℕ) (keys : List Key) (old new : Places S) (given : Option (List ℕ))
    (candidates : List Candidate) : Type 0 where
  pub moment : Places S
  pub before : AsksAny may failed asked old moment
  pub once : AsksEachOnce asked (λ k path. path ≡ Checkpoint) old moment
  pub after : AsksAny may failed asked moment new
  pub are : AreCandidates may origin keys old moment given candidates
