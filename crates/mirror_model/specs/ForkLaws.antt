-- Laws of forks: their meaning, and that they remain.
use Rattle.std.specs.Prelude.{◌≢◌, ◌↔◌, ℕ, List}
use Rattle.mirror_model.specs.View.{View, IsSubview}
use Rattle.mirror_model.specs.Strings.{IsDigest}
use Rattle.mirror_model.specs.Complete.{Complete, IsLawful}
use Rattle.mirror_model.specs.Forks.{Point, IsPrefix, IsFork}

-- two tree heads that are a fork in a view are a fork in each larger view
abbrev pub ForksStay : Type 0
ForksStay =
    (digest : List ℕ → List ℕ) (v w : View) → IsSubview v w → (a b : Point) → IsFork digest v a b →
    IsFork digest w a b

-- two tree heads that are a fork are a fork in the other order too
abbrev pub ForkIsUnordered : Type 0
ForkIsUnordered =
    (digest : List ℕ → List ℕ) (v : View) (a b : Point) → IsFork digest v a b → IsFork digest v b a

-- two different complete tree heads are a fork exactly if neither list of entries is a prefix of
-- the other
abbrev pub ForkMeansNoPrefix : Type 0
ForkMeansNoPrefix =
    (digest : List ℕ → List ℕ) → IsDigest digest → (v : View) → IsLawful digest v →
    (a b : Point) (first second : List (List ℕ)) → a ≢ b → Complete digest v a.size a.root first →
    Complete digest v b.size b.root second →
    IsFork digest v a b ↔ ((¬ IsPrefix first second) × (¬ IsPrefix second first))
