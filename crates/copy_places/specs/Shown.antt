-- Proofs that show a fork, and the lines that report forks.
use Rattle.std.specs.Prelude.{◌≡◌, ◌≢◌, ◌⊎◌, ℕ, ◌<◌, List, All, Option, None}
use Rattle.tlog_proof.specs.declared.proof.Proof.{Proof}
use Rattle.copy_places.specs.Forks.{ShowsFork}
use Rattle.copy_places.specs.Candidates.{IsSame, point_of}
use Rattle.copy_places.specs.declared.candidate.Candidate.{Candidate}
use Rattle.copy_places.specs.declared.fork_line.ForkLine.{ForkLine}

-- the line has these two checkpoints and that proof
pub record IsLine (small large : Candidate) (proof : Option Proof) (line : ForkLine) : Type 0 where
  pub small_is : IsSame small line.small
  pub large_is : IsSame large line.large
  pub proof_is : line.proof ≡ proof

module _ (digest : List ℕ → List ℕ) where
  -- the proof shows a fork of a candidate and a larger one
  abbrev pub ShowsLarger : Candidate → Candidate → Option Proof → Type 0
  ShowsLarger small large proof =
      (small.size.0 < large.size.0) × ShowsFork digest (point_of small) (point_of large) proof

  -- the proof shows a fork of two candidates: one is larger, or both have one size and different roots
  abbrev pub AreFork : Candidate → Candidate → Option Proof → Type 0
  AreFork first second proof =
      ShowsLarger first second proof
      ⊎ (ShowsLarger second first proof
      ⊎ ((proof ≡ None) × (first.size.0 ≡ second.size.0) × (first.root ≢ second.root)))

  -- a fork line shows that no log has both of its checkpoints
  abbrev pub ShowsLine : ForkLine → Type 0
  ShowsLine line = ShowsFork digest (point_of line.small) (point_of line.large) line.proof

  -- each of the lines shows this
  abbrev pub ShowsEach : List ForkLine → Type 0
  ShowsEach lines = All ShowsLine lines
