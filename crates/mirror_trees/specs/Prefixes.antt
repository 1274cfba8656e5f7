-- Prefixes of lists of entries, and the forks that follow from them.
use Rattle.std.specs.Prelude.{◌≤◌, ◌↔◌, List, ℕ, length}
use Rattle.mirror_model.specs.View.{View}
use Rattle.mirror_model.specs.Complete.{Complete, IsLawful}
use Rattle.mirror_model.specs.Forks.{IsPrefix, Point, IsFork}
use Rattle.mirror_model.specs.Strings.{IsDigest}

-- if a list is no longer than a prefix of another list, it is a prefix of that list exactly if it is a prefix of that
-- prefix
abbrev pub PrefixOfPrefix : Type 0
PrefixOfPrefix =
    (first second third : List (List ℕ)) → IsPrefix second third → length first ≤ length second →
    IsPrefix first third ↔ IsPrefix first second

-- for complete tree heads by rising size: if the second's list is a prefix of the third's, the third is a fork of the
-- first exactly if the second is
abbrev pub ForksGoOn : Type 0
ForksGoOn =
    (digest : List ℕ → List ℕ) → IsDigest digest → (v : View) → IsLawful digest v →
    (a b c : Point) →
    (first second third : List (List ℕ)) →
    Complete digest v a.size a.root first →
    Complete digest v b.size b.root second →
    Complete digest v c.size c.root third →
    a.size ≤ b.size → IsPrefix second third →
    IsFork digest v a c ↔ IsFork digest v a b
