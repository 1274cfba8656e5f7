-- The candidates of places, gathered answer after answer.
use Rattle.std.specs.Prelude.{◌≡◌, ◌≢◌, ℕ, List, [], ◌∷◌, map, All, Contains, Option, Some, None, Err}
use Rattle.signed_note.specs.Keys.{Key}
use Rattle.mirror_model.specs.Heads.{IsOpenHead}
use Rattle.mirror_model.specs.Refusals.{ReadsHead}
use Rattle.mirror_model.specs.declared.fault.TakeFault.{TakeFault}
use Rattle.mirror_model.specs.declared.fault.TakeFault.TheVariants.{OutOfMemory}
use Rattle.copy_places.specs.declared.place.PlaceAnswer.{PlaceAnswer}
use Rattle.copy_places.specs.declared.place.PlaceAnswer.TheVariants.{File, NotFound, Failed}
use Rattle.copy_places.specs.Candidates.{IsCandidateOf, note_of}
use Rattle.copy_places.specs.declared.candidate.Candidate.{Candidate}
use Rattle.copy_places.specs.declared.candidate_fault.CandidateFault.{CandidateFault}
use Rattle.copy_places.specs.declared.candidate_fault.CandidateFault.TheVariants as follow

-- an answer is that note
abbrev pub IsNote : List ℕ → PlaceAnswer → Type 0
IsNote note (File bytes) = bytes.items ≡ note
IsNote note NotFound = ⊥
IsNote note Failed = ⊥

-- some answer is that note
pub record Gave (answers : List PlaceAnswer) (note : List ℕ) : Type 0 where
  pub answer : PlaceAnswer
  pub among : Contains answers answer
  pub is_note : IsNote note answer

-- the value, or "other" if there is none
abbrev pub option_or : {X : Type 0} → Option X → X → X
option_or None other = other
option_or (Some x) other = x

-- the kept reason, after one more reason
abbrev pub or_first : Option CandidateFault → CandidateFault → Option CandidateFault
or_first None fault = Some fault
or_first (Some first) fault = Some first

module _ (origin : List ℕ) (keys : List Key) where
  -- the reason why an answer gives no candidate
  abbrev pub IsReason : PlaceAnswer → CandidateFault → Type 0
  IsReason (File bytes) fault =
      (head : TakeFault) × (head ≢ OutOfMemory) × (fault ≡ follow.Head head) × ReadsHead bytes.items origin keys (Err head)
  IsReason NotFound fault = fault ≡ follow.NoCheckpoint
  IsReason Failed fault = fault ≡ follow.Source

  -- the reason of the first answer
  abbrev pub IsFirstReason : List PlaceAnswer → Option CandidateFault → Type 0
  IsFirstReason [] fault = fault ≡ None
  IsFirstReason (answer ∷ answers) None = ⊥
  IsFirstReason (answer ∷ answers) (Some fault) = IsReason answer fault

  -- the candidate is one of the given notes
  pub record IsGiven (answers : List PlaceAnswer) (candidate : Candidate) : Type 0 where
    pub gave : Gave answers (note_of candidate)
    pub is_candidate : IsCandidateOf (note_of candidate) origin keys candidate

  -- the candidates are exactly the notes of the answers that open
  pub record AreCandidatesOf (answers : List PlaceAnswer) (candidates : List Candidate) : Type 0 where
    pub each : All (IsGiven answers) candidates
    pub every : (note : List ℕ) (size : ℕ) (root : List ℕ) → Gave answers note →
        IsOpenHead note origin keys size root → Contains (map note_of candidates) note

  -- so far: the candidates of the answers. If there are none, the reason why the first answer gives none
  pub record Gathers (answers : List PlaceAnswer) (candidates : List Candidate) (first : Option CandidateFault)
      : Type 0 where
    pub are_of : AreCandidatesOf answers candidates
    pub none : candidates ≡ [] → IsFirstReason answers first
