-- A candidate that is not larger than the copy is in a fork line with it exactly if its root is not that of the copy's first entries.
use Rattle.std.specs.Prelude.{◌≡◌, ◌≢◌, ◌⊎◌, ◌↔◌, ℕ, ◌<◌, ◌≤◌, List, length, take, get_or, All, Contains, IfSome, Option, Some, None, ⊤}
use Rattle.std.proofs.Common.{inl, inr}
use Rattle.tlog_hash.specs.Tree.{mth}
use Rattle.mirror_model.specs.Strings.{IsDigest}
use Rattle.copy_places.specs.Candidates.{IsOnePoint, point_of}
use Rattle.copy_places.specs.Forks.{HasPoint, LacksForkClash}
use Rattle.copy_places.specs.Lines.{AreLines, IsFirst}
use Rattle.copy_places.specs.Shown.{ShowsLine}
use Rattle.copy_places.specs.declared.candidate.Candidate.{Candidate}
use Rattle.copy_places.specs.declared.fork_line.ForkLine.{ForkLine}
use Rattle.copy_follow.specs.Rule.{IsCopyAt, IsOfCopy}
use Rattle.copy_follow.specs.Says.{AgreesWithCopy, IsSettled, SettlesEach}
use Rattle.copy_follow.specs.declared.report.Followed.{Followed}

-- the smaller checkpoint of the line is that of the copy, or of the first copy, while the larger one is not smaller than the copy
abbrev pub IsFromCopy : Option Candidate → ℕ × List ℕ → ForkLine → Type 0
IsFromCopy first copy line =
    IsCopyAt (Some copy) line.small ⊎ (IsFirst first line.small × (copy.0 ≤ line.large.size.0))

-- one of the lines is of the copy, or the first copy, and the candidate's size and root
pub record IsForkOfCopy (first : Option Candidate) (copy : ℕ × List ℕ) (lines : List ForkLine) (candidate : Candidate)
    : Type 0 where
  pub line : ForkLine
  pub listed : Contains lines line
  pub is : (IsOnePoint candidate line.small × IsCopyAt (Some copy) line.large)
      ⊎ (IsOnePoint candidate line.large × IsFromCopy first copy line)

module _ (digest : List ℕ → List ℕ) where
  -- the copy has these entries, and the first copy had the first of them
  pub record HasEntriesOf (first : Option Candidate) (copy : ℕ × List ℕ) (entries : List (List ℕ)) : Type 0 where
    pub point : HasPoint digest (record { size = copy.0; root = copy.1 }) entries
    pub first_point : IfSome first (λ c. HasPoint digest (point_of c) (take c.size.0 entries))

  -- no two different strings of the entries' tree, and of the check of the proof that a candidate agrees, share a digest
  abbrev pub IsAgreementClear : (copy : Option (ℕ × List ℕ)) (candidate : Candidate) → AgreesWithCopy digest copy candidate →
      List (List ℕ) → Type 0
  IsAgreementClear None candidate agrees entries = ⊤
  IsAgreementClear (Some copy) candidate agrees entries = LacksForkClash digest agrees.1.proof entries

  abbrev pub IsSettledClear : (followed : Followed) (candidate : Candidate) → IsSettled digest followed candidate →
      List (List ℕ) → Type 0
  IsSettledClear followed candidate (inl agrees) entries = IsAgreementClear followed.copy candidate agrees entries
  IsSettledClear followed candidate (inr reported) entries = ⊤

-- a candidate that is not larger than the copy of an answer is in a fork line with it exactly if its root is not that of the copy's first
-- entries, as many as it has. Premise: no two different strings of the copy's tree, and of the check of the proof that the candidate
-- agrees, or of a line that is not above the copy, share a digest
abbrev pub CopyForksAreContradictions : Type 0
CopyForksAreContradictions =
    (digest : List ℕ → List ℕ) → IsDigest digest → (followed : Followed) (first : Option Candidate) (candidates : List Candidate)
    (settles : SettlesEach digest candidates followed) → AreLines first candidates followed.forks.items →
    All (IsOfCopy first candidates followed.copy) followed.forks.items → All (ShowsLine digest) followed.forks.items →
    (copy : ℕ × List ℕ) → followed.copy ≡ Some copy → (entries : List (List ℕ)) → HasEntriesOf digest first copy entries →
    All (λ line. line.large.size.0 ≤ copy.0 → LacksForkClash digest line.proof entries) followed.forks.items →
    (k : ℕ) (d : Candidate) (listed : k < length candidates) → (get_or candidates k d).size.0 ≤ copy.0 →
    IsSettledClear digest followed (get_or candidates k d) (settles.each k d listed) entries →
    IsForkOfCopy first copy followed.forks.items (get_or candidates k d)
    ↔ ((get_or candidates k d).root ≢ mth digest (take (get_or candidates k d).size.0 entries))
