-- Complete tree heads, and lawful views.
use Rattle.std.specs.Prelude.{◌≡◌, ℕ, ◌≤◌, List, ◌∷◌, length, map}
use Rattle.tlog_hash.specs.Tree.{mth, strings}
use Rattle.node_store.specs.Strings.{Strings, Has, HasAll, AllTagged, NoClash}
use Rattle.mirror_model.specs.View.{View}
use Rattle.mirror_model.specs.Edge.{edge_strings}
use Rattle.mirror_model.specs.Heads.{IsHead, HasHead}
use Rattle.mirror_model.specs.Item.{row_of, HasEdgeRows}

module _ (digest : List ℕ → List ℕ) where
  -- the entries have that size and tree hash, and all strings of their tree are held
  pub record IsTreeOf (held : Strings) (size : ℕ) (root : List ℕ) (entries : List (List ℕ))
      : Type 0 where
    pub size_is : length entries ≡ size
    pub root_is : mth digest entries ≡ root
    pub are_held : HasAll held (strings digest entries)

  -- some entries have that size and tree hash, and all strings of their tree are held
  pub record IsBuilt (held : Strings) (size : ℕ) (root : List ℕ) : Type 0 where
    pub entries : List (List ℕ)
    pub is : IsTreeOf held size root entries

  -- the tree head of that size and root is complete, with these entries: a note of the view has the
  -- size and the root, and the view holds all strings of the entries' tree
  pub record Complete (v : View) (size : ℕ) (root : List ℕ) (entries : List (List ℕ)) : Type 0 where
    pub head : HasHead v size root
    pub tree : IsTreeOf v.strings size root entries

  -- the tree head of that size and root is complete, with some entries
  pub record IsComplete (v : View) (size : ℕ) (root : List ℕ) : Type 0 where
    pub entries : List (List ℕ)
    pub complete : Complete v size root entries

  -- the right edge of that size and root is held: some edge rows, lowest level first, lead to the
  -- root, and the strings that they hash are held
  pub record HoldsEdge (held : Strings) (size : ℕ) (root : List ℕ) : Type 0 where
    pub rows : List (List ℕ)
    pub has_edge : HasEdgeRows digest size root rows
    pub are_held : HasAll held (edge_strings digest (map row_of rows))

  -- the note is a tree head of the view's origin, and its right edge is held
  pub record HasEdge (v : View) (note : List ℕ) : Type 0 where
    pub size : ℕ
    pub root : List ℕ
    pub is_head : IsHead note v.origin size root
    pub edge : HoldsEdge v.strings size root

  -- a lawful view: no two of its strings share a digest, its entries have at most 65,535 bytes, and
  -- the right edge of each note is held
  pub record IsLawful (v : View) : Type 0 where
    pub no_clash : NoClash digest v.strings
    pub are_strings : AllTagged v.strings
    pub leaves_short : (entry : List ℕ) → Has v.strings (0 ∷ entry) → length entry ≤ 65535
    pub edges : (note : List ℕ) → Has v.notes note → HasEdge v note
