-- Laws of reports: a view has one report and one text of each kind.
use Rattle.std.specs.Prelude.{◌≡◌, ℕ, List, Option}
use Rattle.mirror_model.specs.View.{View}
use Rattle.mirror_model.specs.Complete.{IsLawful}
use Rattle.mirror_model.specs.Forks.{Point}
use Rattle.mirror_model.specs.Reports.{ReportsHeads, ReportsForks, SaysServed}
use Rattle.mirror_model.specs.Texts.{IsStatusText, IsForksText, IsMissingText}
use Rattle.mirror_model.specs.Strings.{IsDigest}
use Rattle.mirror_model.specs.declared.reports.Head.{Head}
use Rattle.mirror_model.specs.declared.reports.Fork.{Fork}

-- a view has only one report of its tree heads
abbrev pub HeadsAreReportedOnce : Type 0
HeadsAreReportedOnce =
    (digest : List ℕ → List ℕ) (v : View) (first second : List Head) → ReportsHeads digest v first →
    ReportsHeads digest v second → first ≡ second

-- a view has only one report of its forks
abbrev pub ForksAreReportedOnce : Type 0
ForksAreReportedOnce =
    (digest : List ℕ → List ℕ) (v : View) (first second : List Fork) → ReportsForks digest v first →
    ReportsForks digest v second → first ≡ second

-- a lawful view has only one served size and root, or none, under a digest of 32 bytes
abbrev pub ServedIsSaidOnce : Type 0
ServedIsSaidOnce =
    (digest : List ℕ → List ℕ) → IsDigest digest → (v : View) → IsLawful digest v →
    (first second : Option Point) →
    SaysServed digest v first → SaysServed digest v second → first ≡ second

-- a lawful view has only one status text, under a digest of 32 bytes
abbrev pub StatusIsOneText : Type 0
StatusIsOneText =
    (digest : List ℕ → List ℕ) → IsDigest digest → (v : View) → IsLawful digest v →
    (first second : List ℕ) →
    IsStatusText digest v first → IsStatusText digest v second → first ≡ second

-- a view has only one text of its forks
abbrev pub ForksAreOneText : Type 0
ForksAreOneText =
    (digest : List ℕ → List ℕ) (v : View) (first second : List ℕ) → IsForksText digest v first →
    IsForksText digest v second → first ≡ second

-- a tree head has only one text of its missing paths
abbrev pub MissingIsOneText : Type 0
MissingIsOneText =
    (digest : List ℕ → List ℕ) (v : View) (size : ℕ) (root first second : List ℕ) →
    IsMissingText digest v size root first → IsMissingText digest v size root second →
    first ≡ second
