use Rattle.std.proofs.Common.{◌≢◌, ℕ, ◌<◌, get_or}
use Rattle.copy_places.specs.declared.candidate.Candidate.{Candidate}
use Rattle.copy_follow.proofs.lines.least_of.Given as goal

-- no earlier candidate has the size
abbrev pub invariant-loop-other : goal.invariant-loop-other
invariant-loop-other l =
    (k : ℕ) (d : Candidate) → k < l.other-index → (get_or l.candidates k d).size.0 ≢ l.candidate.size.0
