-- Candidates: notes that open, with checkpoints and the order of their turns.
use Rattle.std.specs.Prelude.{◌≡◌, ℕ, List, Result, Ok, Err}
use Rattle.std.specs.Cmp.Lexicographic.{slice_cmp}
use Rattle.std.specs.Ordering.{nat_cmp, ordering_then}
use Rattle.std.specs.declared.cmp.Ordering.{Ordering}
use Rattle.signed_note.specs.Keys.{Key}
use Rattle.mirror_model.specs.Forks.{Point}
use Rattle.mirror_model.specs.Heads.{IsOpenHead}
use Rattle.mirror_model.specs.Refusals.{ReadsHead}
use Rattle.mirror_model.specs.declared.fault.TakeFault.{TakeFault}
use Rattle.copy_places.specs.declared.candidate.Candidate.{Candidate}

-- the candidate is that note. It opens under the keys, and its text is a checkpoint of the origin, with that size and root
pub record IsCandidateOf (note origin : List ℕ) (keys : List Key) (candidate : Candidate) : Type 0 where
  pub note_is : candidate.note.items ≡ note
  pub is_open : IsOpenHead note origin keys candidate.size.0 candidate.root

-- the candidate's own note opens, with its size and root
abbrev pub IsCandidate : List ℕ → List Key → Candidate → Type 0
IsCandidate origin keys candidate = IsCandidateOf candidate.note.items origin keys candidate

-- the meaning of an answer about a note. Ok: the note is this candidate. A fault: the note is no candidate, for this reason
abbrev pub JudgesNote : List ℕ → List ℕ → List Key → Result Candidate TakeFault → Type 0
JudgesNote note origin keys (Ok candidate) = IsCandidateOf note origin keys candidate
JudgesNote note origin keys (Err fault) = ReadsHead note origin keys (Err fault)

-- the order of turns: the greater size first, then the lesser root, then the lesser note
abbrev pub turn_cmp : Candidate → Candidate → Ordering
turn_cmp a b =
    ordering_then (nat_cmp b.size.0 a.size.0)
    (ordering_then (slice_cmp nat_cmp a.root b.root) (slice_cmp nat_cmp a.note.items b.note.items))

-- the note of a candidate
abbrev pub note_of : Candidate → List ℕ
note_of candidate = candidate.note.items

-- the size and root of a candidate
abbrev pub point_of : Candidate → Point
point_of candidate = record { size = candidate.size.0; root = candidate.root }

-- two candidates have one size and root
abbrev pub IsOnePoint : Candidate → Candidate → Type 0
IsOnePoint first second = (first.size.0 ≡ second.size.0) × (first.root ≡ second.root)

-- two candidates have the same note, size and root
pub record IsSame (first second : Candidate) : Type 0 where
  pub size_is : second.size.0 ≡ first.size.0
  pub root_is : second.root ≡ first.root
  pub note_is : note_of second ≡ note_of first
