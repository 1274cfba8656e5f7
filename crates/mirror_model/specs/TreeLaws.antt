-- Laws that relate edges, tiles, bundles, fronts and walks to the tree of a list of entries.
use Rattle.std.specs.Prelude.{max, ◌≡◌, ◌↔◌, ℕ, ◌+◌, ◌-◌, ◌*◌, ◌^◌, ◌≤◌, ◌<◌, List, length, map}
use Rattle.std.specs.Prelude.{min}
use Rattle.std.specs.List.{Contains}
use Rattle.tlog_shape.specs.Edge.{IsTop}
use Rattle.tlog_hash.specs.Tree.{tree_of, mth, strings, joins}
use Rattle.tlog_hash.specs.Nodes.{Node, IsNode}
use Rattle.tlog_hash.specs.Shape.{shape}
use Rattle.tlog_hash.specs.Rows.{part, level_row}
use Rattle.mirror_model.specs.Edge.{edge_widths, edge_rows, edge_root, edge_strings}
use Rattle.tlog_tiles.specs.declared.paths.Path.{Path}
use Rattle.tlog_tiles.specs.declared.paths.Path.TheVariants.{Checkpoint, Tile, Entries}
use Rattle.mirror_model.specs.Front.{InFront, IsFront}
use Rattle.mirror_model.specs.Rounds.{IsRound, AsksUpTo, AsksBundlesAlone, AreRounds, last_held}
use Rattle.node_store.specs.Strings.{Strings, Has, HasAll}
use Rattle.mirror_model.specs.Strings.{IsDigest}
use Rattle.mirror_model.specs.Walk.{WalkFails, NoClashWith, IsMissing}

-- the true edge rows have the widths of the right edge
abbrev pub EdgeRowsAreWide : Type 0
EdgeRowsAreWide =
    (digest : List ℕ → List ℕ) (entries : List (List ℕ)) →
    map length (edge_rows digest entries) ≡ edge_widths (length entries)

-- the true edge rows of a list of entries lead to its tree hash
abbrev pub EdgeRootIsRoot : Type 0
EdgeRootIsRoot =
    (digest : List ℕ → List ℕ) (entries : List (List ℕ)) → length entries < 256 ^ 8 →
    edge_root digest (edge_rows digest entries) ≡ mth digest entries

-- the strings of the true edge rows are strings of the tree of the entries
abbrev pub EdgeStringsAreOfTree : Type 0
EdgeStringsAreOfTree =
    (digest : List ℕ → List ℕ) (entries : List (List ℕ)) (y : List ℕ) →
    Contains (edge_strings digest (edge_rows digest entries)) y →
    Contains (strings digest entries) y

-- y is the string of a node of the entries' tree; the node has more than `above` entries, all among
-- the `len` entries from `start` on
pub record HasNodeWithin (digest : List ℕ → List ℕ) (entries : List (List ℕ))
    (start len above : ℕ) (y : List ℕ) : Type 0 where
  pub node : Node
  pub is : IsNode digest (tree_of entries) 0 node
  pub start_in : start ≤ node.start
  pub end_in : node.start + node.len ≤ start + len
  pub long : above < node.len
  pub string_is : node.string ≡ y

-- the joins of a true full row of level L are the strings of the nodes in the row's range with more
-- than 256^L entries
abbrev pub FullRowJoinsAreNodes : Type 0
FullRowJoinsAreNodes =
    (digest : List ℕ → List ℕ) (entries : List (List ℕ)) (level index : ℕ) →
    (index + 1) * 256 ^ (level + 1) ≤ length entries → (y : List ℕ) →
    Contains (joins digest (level_row digest entries level (256 * index) 256)) y
    ↔ HasNodeWithin digest entries (index * 256 ^ (level + 1)) (256 ^ (level + 1)) (256 ^ level) y

-- the strings of a bundle, as wide as the entries allow, are the strings of the nodes in its range
abbrev pub BundleStringsAreNodes : Type 0
BundleStringsAreNodes =
    (digest : List ℕ → List ℕ) (entries : List (List ℕ)) (index : ℕ) →
    256 * index < length entries →
    let width = min 256 (length entries - 256 * index) in (y : List ℕ) →
    Contains (strings digest (part (256 * index) width entries)) y
    ↔ HasNodeWithin digest entries (256 * index) width 0 y

-- the front is empty exactly if all strings of the tree are held
abbrev pub FrontIsEmpty : Type 0
FrontIsEmpty =
    (digest : List ℕ → List ℕ) (held : Strings) (entries : List (List ℕ)) →
    length entries ≤ 256 ^ 8 →
    ((path : Path) → ¬ IsFront digest held entries path) ↔ HasAll held (strings digest entries)

-- after a round that requests no tile above level L, a node that is not held has at most 256^L
-- entries
abbrev pub RoundLeavesSmallNodes : Type 0
RoundLeavesSmallNodes =
    (digest : List ℕ → List ℕ) (held after : Strings) (entries : List (List ℕ)) →
    length entries ≤ 256 ^ 8 → IsRound digest entries held after → (top : ℕ) →
    AsksUpTo digest entries held top → (x : Node) →
    IsNode digest (tree_of entries) 0 x → (¬ Has after x.string) → x.len ≤ 256 ^ top

-- the next round requests only tiles of lower levels
abbrev pub RoundGoesDown : Type 0
RoundGoesDown =
    (digest : List ℕ → List ℕ) (held after : Strings) (entries : List (List ℕ)) →
    length entries ≤ 256 ^ 8 → IsRound digest entries held after → (top : ℕ) →
    AsksUpTo digest entries held top → (level index width : ℕ) →
    IsFront digest after entries (Tile level index width) → level < top

-- after a round that requests only bundles, the whole tree is held
abbrev pub BundleRoundCompletes : Type 0
BundleRoundCompletes =
    (digest : List ℕ → List ℕ) (held after : Strings) (entries : List (List ℕ)) →
    length entries ≤ 256 ^ 8 → IsRound digest entries held after →
    AsksBundlesAlone digest entries held →
    HasAll after (strings digest entries)

-- if the right edge is held, all tiles of the front are below the greatest level with a partial
-- tile
abbrev pub FrontIsBelowTop : Type 0
FrontIsBelowTop =
    (digest : List ℕ → List ℕ) (held : Strings) (entries : List (List ℕ)) (top : ℕ) →
    length entries < 256 ^ 8 → IsTop (length entries) top →
    HasAll held (edge_strings digest (edge_rows digest entries)) → (level index width : ℕ) →
    IsFront digest held entries (Tile level index width) → level < top

-- with top as the greatest level with a partial tile, the whole tree is held after max(1, top)
-- rounds or more
abbrev pub EnoughRoundsComplete : Type 0
EnoughRoundsComplete =
    (digest : List ℕ → List ℕ) (held : Strings) (entries : List (List ℕ)) (top : ℕ)
    (afters : List Strings) →
    length entries < 256 ^ 8 → IsTop (length entries) top → AreRounds digest entries held afters →
    max 1 top ≤ length afters → HasAll (last_held held afters) (strings digest entries)

-- the path may be requested for a tree head of that size: a full tile of level 1 to 7, or a bundle
-- as wide as the size allows; its range begins within the size
abbrev pub IsOfSize : ℕ → Path → Type 0
IsOfSize size Checkpoint = ⊥
IsOfSize size (Tile level index width) =
    (1 ≤ level) × (level ≤ 7) × (width ≡ 256) × (index * 256 ^ (level + 1) < size)
IsOfSize size (Entries index width) =
    (1 ≤ width) × (width ≡ min 256 (size - 256 * index)) × (256 * index < size)

-- each missing path of a tree head may be requested at its size, even if no list of entries fits
abbrev pub MissingIsOfSize : Type 0
MissingIsOfSize =
    (digest : List ℕ → List ℕ) (held : Strings) (size : ℕ) (root : List ℕ) → size ≤ 256 ^ 8 →
    (path : Path) →
    IsMissing digest held size root path → IsOfSize size path

-- the front of the entries has the node of many entries from the entry at on
abbrev pub HasFrontAt : (List ℕ → List ℕ) → Strings → List (List ℕ) → ℕ → ℕ → Type 0
HasFrontAt digest held entries at many =
    (x : Node) × InFront digest held (tree_of entries) 0 x × (x.start ≡ at) × (x.len ≡ many)

-- if the list of entries fits, the walk from its root fails exactly at the front
abbrev pub WalkIsFront : Type 0
WalkIsFront =
    (digest : List ℕ → List ℕ) → IsDigest digest →
    (held : Strings) (entries : List (List ℕ)) → NoClashWith digest held entries → (at many : ℕ) →
    WalkFails digest held (shape (length entries)) 0 (mth digest entries) at many
    ↔ HasFrontAt digest held entries at many

-- if the list of entries fits the root, the missing paths are its front
abbrev pub MissingIsFront : Type 0
MissingIsFront =
    (digest : List ℕ → List ℕ) → IsDigest digest →
    (held : Strings) (entries : List (List ℕ)) → NoClashWith digest held entries → (path : Path) →
    IsMissing digest held (length entries) (mth digest entries) path
    ↔ IsFront digest held entries path
