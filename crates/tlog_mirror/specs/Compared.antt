-- Tree heads compared with the served entries. The comparison needs no entries of the tree head itself. So it also
-- finds a fork if the log withdrew the entries of a checkpoint.
use Rattle.std.specs.Prelude.{◌≡◌, ◌≢◌, ℕ, ◌<◌, ◌≤◌, List, [], ◌∷◌, ◌++◌, length, map, take, All, codes}
use Rattle.std.specs.FinSet.{from_list}
use Rattle.std.specs.List.{flat_map}
use Rattle.tlog_text.specs.Hash.{base64_of}
use Rattle.tlog_hash.specs.Tree.{mth, strings}
use Rattle.tlog_hash.specs.Sum.{sum_digest}
use Rattle.node_store.specs.Strings.{Strings, HasAll, NoClash}
use Rattle.mirror_model.specs.View.{View}
use Rattle.mirror_model.specs.Complete.{IsLawful, IsTreeOf}
use Rattle.mirror_model.specs.Examples.{large_list, small_list, sum_hash}
use Rattle.mirror_model.specs.Forks.{IsPrefix, Point}
use Rattle.mirror_model.specs.Listed.{ListsHeads}
use Rattle.mirror_model.specs.Served.{IsServedList}
use Rattle.mirror_model.specs.Strings.{IsDigest}
use Rattle.mirror_model.specs.Texts.{point_text}
use Rattle.tlog_mirror.specs.declared.compared.Compared.{Compared}
use Rattle.tlog_mirror.specs.declared.compared.Compared.TheVariants.{Same, Fork, Larger}

-- the size and root that were compared
abbrev pub compared_point : Compared → Point
compared_point (Same size root) = record { size = size; root = root }
compared_point (Fork size root own) = record { size = size; root = root }
compared_point (Larger size root) = record { size = size; root = root }

module _ (digest : List ℕ → List ℕ) where
  -- the comparison of a tree head with the entries is right. `Same`: the first `size` entries have its root. `Fork`:
  -- they have another root, `own`. `Larger`: there are fewer entries
  abbrev pub IsCompared : List (List ℕ) → Compared → Type 0
  IsCompared entries (Same size root) =
      (size ≤ length entries) × (mth digest (take size entries) ≡ root)
  IsCompared entries (Fork size root own) =
      (size ≤ length entries) × (mth digest (take size entries) ≡ own) × (own ≢ root)
  IsCompared entries (Larger size root) = length entries < size

  -- the comparisons are those of the tree heads with the served entries, in order
  pub record ReportsCompared (v : View) (heads : List Point) (compared : List Compared) : Type 0 where
    pub entries : List (List ℕ)
    pub served : IsServedList digest v entries
    pub heads_are : map compared_point compared ≡ heads
    pub each : All (IsCompared entries) compared

  -- the tree heads of the view, by size and then by root, compared with the served entries
  pub record ReportsHeld (v : View) (compared : List Compared) : Type 0 where
    pub heads : List Point
    pub are_heads : ListsHeads v heads
    pub reports : ReportsCompared v heads compared

-- ---- the text

-- `same SIZE ROOT`, `fork SIZE ROOT OWN` or `larger SIZE ROOT`
abbrev pub compared_line : Compared → List ℕ
compared_line (Same size root) = codes "same " ++ point_text size root ++ 10 ∷ []
compared_line (Fork size root own) =
    codes "fork " ++ point_text size root ++ 32 ∷ base64_of own ++ 10 ∷ []
compared_line (Larger size root) = codes "larger " ++ point_text size root ++ 10 ∷ []

-- a line for each tree head
abbrev pub compared_text : List Compared → List ℕ
compared_text compared = flat_map compared_line compared

-- ---- laws: the evidence that a line gives

-- a list with the size and root of a tree head that is reported as a fork is no prefix of the entries, whatever
-- collides
abbrev pub ForkIsNoPrefix : Type 0
ForkIsNoPrefix =
    (digest : List ℕ → List ℕ) (entries other : List (List ℕ)) (size : ℕ) (root own : List ℕ) →
    IsCompared digest entries (Fork size root own) → length other ≡ size → mth digest other ≡ root →
    ¬ IsPrefix other entries

-- a tree head is reported as the same. A list with its size and root is a prefix of the entries, if the strings of its
-- tree and of that prefix do not collide together. It is not enough that the strings of its tree and of all entries do
-- not collide: see `ComparesLarge`
abbrev pub SameIsPrefix : Type 0
SameIsPrefix =
    (digest : List ℕ → List ℕ) → IsDigest digest → (held : Strings) → NoClash digest held →
    (entries other : List (List ℕ)) (size : ℕ) (root : List ℕ) →
    IsCompared digest entries (Same size root) → IsTreeOf digest held size root other →
    HasAll held (strings digest (take size entries)) → other ≡ take size entries

-- a lawful view has one answer for the same tree heads
abbrev pub HeadsAreComparedOnce : Type 0
HeadsAreComparedOnce =
    (digest : List ℕ → List ℕ) → IsDigest digest → (v : View) → IsLawful digest v →
    (heads : List Point) (first second : List Compared) → ReportsCompared digest v heads first →
    ReportsCompared digest v heads second → first ≡ second

-- ---- a case with numbers

-- tree heads compared with the four entries of large_list, under the test digest. A root of the first three is the
-- same, though three other entries have it too. Another root of size two is a fork, and the root of the first two is
-- reported beside it. The root of all four is neither a fork nor
-- larger. A size of five is larger
pub record ComparesLarge : Type 0 where
  pub same : IsCompared sum_digest large_list (Same 3 (sum_hash 62))
  pub same_of_others : mth sum_digest small_list ≡ sum_hash 62
  pub fork : IsCompared sum_digest large_list (Fork 2 (sum_hash 9) (sum_hash 51))
  pub not_larger : ¬ IsCompared sum_digest large_list (Larger 4 (sum_hash 163))
  pub not_fork :
      (own : List ℕ) → ¬ IsCompared sum_digest large_list (Fork 4 (sum_hash 163) own)
  pub not_other : ¬ IsCompared sum_digest large_list (Fork 2 (sum_hash 9) (sum_hash 163))
  pub larger : IsCompared sum_digest large_list (Larger 5 (sum_hash 9))
  -- small_list has the size and root of that `same`, and is no prefix of large_list, though no two strings of their
  -- trees collide. The strings of the prefix's right edge are in neither tree
  pub not_prefix : ¬ IsPrefix small_list large_list
  pub no_clash :
      NoClash sum_digest
      (from_list (strings sum_digest small_list ++ strings sum_digest large_list))
