-- Candidates that open.
use Rattle.std.proofs.Common.{◌≡◌, ℕ, List, [], ◌∷◌, ◌++◌, All, Option, sym, ◌∙◌, ap, subst, arith, Global, Vec, Result, Ok, Err}
use Rattle.std.specs.List.Sorted.{IsPermutation, IsSorted}
use Rattle.std.specs.Prelude.{IfOk}
use Rattle.std.proofs.lemmas.List.Elements.{All-nil, All-push, All-weaker}
use Rattle.std.proofs.lemmas.List.Sorted.{All-permutation}
use Rattle.signed_note.specs.Keys.{Key}
use Rattle.copy_places.specs.declared.place.PlaceAnswer.{PlaceAnswer}
use Rattle.copy_places.specs.Candidates.{IsCandidate, IsCandidateOf, note_of, turn_cmp}
use Rattle.copy_places.specs.GatheredFrom.{IsOnly}
use Rattle.copy_places.specs.Gathering.{Gathers, IsGiven}
use Rattle.copy_places.specs.declared.candidate.Candidate.{Candidate}
use Rattle.copy_places.specs.declared.candidate_fault.CandidateFault.{CandidateFault}

-- the candidates that were gathered open
pub all_open : (origin : List ℕ) (keys : List Key) (answers : List PlaceAnswer) (gathered candidates : List Candidate)
    (first : Option CandidateFault) → Gathers origin keys answers gathered first →
    IsPermutation gathered candidates → All (IsCandidate origin keys) candidates
all_open origin keys answers gathered candidates first g same =
    All-permutation (IsCandidate origin keys) gathered candidates same
    (All-weaker (IsGiven origin keys answers) (IsCandidate origin keys) (λ c is. is.is_candidate) gathered g.are_of.each)

-- the candidates in the order of turns open
pub turns_open : (origin : List ℕ) (keys : List Key) (answers : List PlaceAnswer) (gathered : List Candidate)
    (first : Option CandidateFault) (r : Result (Vec Candidate Global) CandidateFault) →
    Gathers origin keys answers gathered first → IfOk r (λ c. IsPermutation gathered c.items) →
    IfOk r (λ c. All (IsCandidate origin keys) c.items)
turns_open origin keys answers gathered first (Ok c) g same = all_open origin keys answers gathered c.items first g same
turns_open origin keys answers gathered first (Err e) g same = tt

-- the only candidate opens
pub one_open : (origin : List ℕ) (keys : List Key) (note : List ℕ) (candidate : Candidate)
    (none candidates : List Candidate) → IsCandidateOf note origin keys candidate → none ≡ [] →
    candidates ≡ none ++ candidate ∷ [] → All (IsCandidate origin keys) candidates
one_open origin keys note candidate none candidates is empty one =
    subst (All (IsCandidate origin keys)) (sym (one ∙ ap (λ l. l ++ candidate ∷ []) empty))
    (All-push (IsCandidate origin keys) [] candidate (All-nil (IsCandidate origin keys))
    (subst (λ n. IsCandidateOf n origin keys candidate) (sym is.note_is) is))

-- the note of the only candidate is the given one
pub one_given : (origin : List ℕ) (keys : List Key) (note : List ℕ) (candidate : Candidate)
    (none candidates : List Candidate) → IsCandidateOf note origin keys candidate → none ≡ [] →
    candidates ≡ none ++ candidate ∷ [] → All (λ c. note_of c ≡ note) candidates
one_given origin keys note candidate none candidates is empty one =
    subst (All (λ c. note_of c ≡ note)) (sym (one ∙ ap (λ l. l ++ candidate ∷ []) empty))
    (All-push (λ c. note_of c ≡ note) [] candidate (All-nil (λ c. note_of c ≡ note)) is.note_is)

-- the given note is the only candidate
pub only_open : (origin : List ℕ) (keys : List Key) (note : List ℕ) (candidate : Candidate)
    (none candidates : List Candidate) → IsCandidateOf note origin keys candidate → none ≡ [] →
    candidates ≡ none ++ candidate ∷ [] → IsOnly origin keys note candidates
only_open origin keys note candidate none candidates is empty one =
    record { candidate = candidate; is = one ∙ ap (λ l. l ++ candidate ∷ []) empty; opens = is }

-- a single candidate is in order
pub one_rises : (candidate : Candidate) (none candidates : List Candidate) → none ≡ [] →
    candidates ≡ none ++ candidate ∷ [] → IsSorted turn_cmp candidates
one_rises candidate none candidates empty one =
    subst (IsSorted turn_cmp) (sym (one ∙ ap (λ l. l ++ candidate ∷ []) empty))
    (λ k d low lt. absurd (omega (arith, lt)))
