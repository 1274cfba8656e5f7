-- The lists that calls return: each item once, in order, and nothing else.
use Rattle.std.specs.Prelude.{◌≡◌, ◌↔◌, ℕ, List}
use Rattle.std.specs.Ordering.{nat_cmp, ordering_then}
use Rattle.std.specs.Cmp.Lexicographic.{slice_cmp}
use Rattle.std.specs.declared.cmp.Ordering.{Ordering}
use Rattle.std.specs.declared.cmp.Ordering.TheVariants.{Less}
use Rattle.std.specs.List.{Contains}
use Rattle.std.specs.List.Sorted.{IsStrictlySortedBy}
use Rattle.tlog_tiles.specs.declared.paths.Path.{Path}
use Rattle.node_store.specs.Strings.{Has}
use Rattle.mirror_model.specs.View.{View}
use Rattle.mirror_model.specs.Heads.{HasHead}
use Rattle.mirror_model.specs.Forks.{Point, point_cmp, IsFork}
use Rattle.mirror_model.specs.Front.{path_cmp, IsFront}
use Rattle.mirror_model.specs.Walk.{IsMissing}

-- the list has the notes of a view, each once, ordered by their bytes
pub record ListsNotes (v : View) (notes : List (List ℕ)) : Type 0 where
  pub sorted : IsStrictlySortedBy (slice_cmp nat_cmp) notes
  pub exact : (note : List ℕ) → Contains notes note ↔ Has v.notes note

-- the list has the tree heads of a view, each size and root once, ordered by size and then by root
pub record ListsHeads (v : View) (points : List Point) : Type 0 where
  pub sorted : IsStrictlySortedBy point_cmp points
  pub exact : (point : Point) → Contains points point ↔ HasHead v point.size point.root

-- the two tree heads of a fork, the smaller first
pub record PointPair : Type 0 where
  pub small : Point
  pub large : Point

-- the order of forks: by the smaller tree head, and then by the larger
abbrev pub pair_cmp : PointPair → PointPair → Ordering
pair_cmp a b = ordering_then (point_cmp a.small b.small) (point_cmp a.large b.large)

module _ (digest : List ℕ → List ℕ) where
  -- the list has the forks of a view, each once, with its smaller tree head first
  pub record ListsForks (v : View) (pairs : List PointPair) : Type 0 where
    pub sorted : IsStrictlySortedBy pair_cmp pairs
    pub exact :
        (pair : PointPair) →
        Contains pairs pair
        ↔ (IsFork digest v pair.small pair.large × (point_cmp pair.small pair.large ≡ Less))

  -- the list has the missing paths of a tree head, each once: tiles by falling level and rising
  -- index, then bundles by rising index
  pub record ListsMissing (v : View) (size : ℕ) (root : List ℕ) (paths : List Path) : Type 0 where
    pub sorted : IsStrictlySortedBy path_cmp paths
    pub exact : (path : Path) → Contains paths path ↔ IsMissing digest v.strings size root path

  -- the list has the paths of the front of a list of entries, each once, in the order of missing
  -- paths
  pub record ListsFront (v : View) (entries : List (List ℕ)) (paths : List Path) : Type 0 where
    pub sorted : IsStrictlySortedBy path_cmp paths
    pub exact : (path : Path) → Contains paths path ↔ IsFront digest v.strings entries path

-- a view has only one list of its notes
abbrev pub NotesAreListedOnce : Type 0
NotesAreListedOnce =
    (v : View) (first second : List (List ℕ)) → ListsNotes v first → ListsNotes v second →
    first ≡ second

-- a view has only one list of its tree heads
abbrev pub HeadsAreListedOnce : Type 0
HeadsAreListedOnce =
    (v : View) (first second : List Point) → ListsHeads v first → ListsHeads v second →
    first ≡ second

-- a view has only one list of its forks
abbrev pub ForksAreListedOnce : Type 0
ForksAreListedOnce =
    (digest : List ℕ → List ℕ) (v : View) (first second : List PointPair) →
    ListsForks digest v first →
    ListsForks digest v second → first ≡ second

-- a tree head has only one list of its missing paths
abbrev pub MissingIsListedOnce : Type 0
MissingIsListedOnce =
    (digest : List ℕ → List ℕ) (v : View) (size : ℕ) (root : List ℕ) (first second : List Path) →
    ListsMissing digest v size root first → ListsMissing digest v size root second → first ≡ second

-- a list of entries has only one list of its front
abbrev pub FrontIsListedOnce : Type 0
FrontIsListedOnce =
    (digest : List ℕ → List ℕ) (v : View) (entries : List (List ℕ)) (first second : List Path) →
    ListsFront digest v entries first → ListsFront digest v entries second → first ≡ second
