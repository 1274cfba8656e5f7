-- Laws of the served checkpoint and entries: there is at most one of each, and they agree.
use Rattle.std.specs.Prelude.{◌≡◌, ◌↔◌, ℕ, List, length}
use Rattle.tlog_hash.specs.Tree.{mth}
use Rattle.tlog_tiles.specs.declared.paths.Path.{Path}
use Rattle.node_store.specs.Strings.{Has}
use Rattle.mirror_model.specs.View.{View}
use Rattle.mirror_model.specs.Strings.{IsDigest}
use Rattle.mirror_model.specs.Heads.{IsHead}
use Rattle.mirror_model.specs.Complete.{IsComplete, IsLawful}
use Rattle.mirror_model.specs.Served.{Served, IsServedList, Replies, IsRangeHash}

-- the two served checkpoints with their entries are the same: note, size, root and entries
pub record IsSameServed (digest : List ℕ → List ℕ) (note other : List ℕ) (size n : ℕ)
    (root r : List ℕ) (first second : List (List ℕ)) : Type 0 where
  pub note_is : note ≡ other
  pub size_is : size ≡ n
  pub root_is : root ≡ r
  pub entries_are : first ≡ second

-- a lawful view serves at most one checkpoint with its entries
abbrev pub ServedIsOne : Type 0
ServedIsOne =
    (digest : List ℕ → List ℕ) → IsDigest digest → (v : View) → IsLawful digest v →
    (note other : List ℕ) (size n : ℕ) (root r : List ℕ) (first second : List (List ℕ)) →
    Served digest v note size root first → Served digest v other n r second →
    IsSameServed digest note other size n root r first second

-- the served note has the length and the tree hash of the served entries
pub record IsTruth (digest : List ℕ → List ℕ) (v : View) (note : List ℕ)
    (entries : List (List ℕ)) : Type 0 where
  pub is_held : Has v.notes note
  pub is_head : IsHead note v.origin (length entries) (mth digest entries)

-- the served checkpoint has the length and the tree hash of exactly the served entries
abbrev pub ServedRootIsTreeHash : Type 0
ServedRootIsTreeHash =
    (digest : List ℕ → List ℕ) (v : View) (note : List ℕ) (size : ℕ) (root : List ℕ)
    (entries : List (List ℕ)) →
    Served digest v note size root entries → IsTruth digest v note entries

-- a path has at most one reply
abbrev pub ReplyIsOne : Type 0
ReplyIsOne =
    (digest : List ℕ → List ℕ) → IsDigest digest → (v : View) → IsLawful digest v →
    (path : Path) (first second : List ℕ) → Replies digest v path first →
    Replies digest v path second →
    first ≡ second

-- a range has at most one hash
abbrev pub RangeHashIsOne : Type 0
RangeHashIsOne =
    (digest : List ℕ → List ℕ) → IsDigest digest → (v : View) → IsLawful digest v →
    (start len : ℕ) (first second : List ℕ) → IsRangeHash digest v start len first →
    IsRangeHash digest v start len second → first ≡ second

-- the view serves a checkpoint
pub record ServesSome (digest : List ℕ → List ℕ) (v : View) : Type 0 where
  pub entries : List (List ℕ)
  pub is : IsServedList digest v entries

-- some tree head of the view is complete
pub record CompletesSome (digest : List ℕ → List ℕ) (v : View) : Type 0 where
  pub size : ℕ
  pub root : List ℕ
  pub is : IsComplete digest v size root

-- a lawful view serves a checkpoint exactly if some tree head is complete
abbrev pub ServedWhereComplete : Type 0
ServedWhereComplete =
    (digest : List ℕ → List ℕ) →
    IsDigest digest →
    (v : View) →
    IsLawful digest v →
    ServesSome digest v ↔ CompletesSome digest v
