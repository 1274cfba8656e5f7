-- Marks of complete tree heads, and a mirror with the marks that it remembers.
use Rattle.std.specs.Prelude.{◌≡◌, ℕ, List, IsTrue, refl}
use Rattle.std.specs.Coded.{Coded, code_by, coded×, coded_ℕ, coded_list}
use Rattle.std.specs.FinSet as set
use Rattle.std.specs.FinSet.{FinSet, contains}
use Rattle.tlog_hash.specs.Tree.{tree_of, mth}
use Rattle.tlog_hash.specs.Nodes.{Node, IsNode}
use Rattle.tlog_hash.specs.Rows.{part}
use Rattle.mirror_model.specs.Origin.{IsOrigin}
use Rattle.mirror_model.specs.View.{View, view_code}
use Rattle.mirror_model.specs.Complete.{Complete, IsLawful}
use Rattle.mirror_model.specs.Forks.{Point, point_cmp}

-- a size and a hash are a mark: they are the number of entries and the tree hash of a slice in the
-- recursion of MTH (RFC 6962, section 2.1) over the list of a complete tree head. The whole list is
-- such a slice
pub record IsMark (digest : List ℕ → List ℕ) (v : View) (point : Point) : Type 0 where
  pub size : ℕ
  pub root : List ℕ
  pub entries : List (List ℕ)
  pub complete : Complete digest v size root entries
  pub node : Node
  pub is : IsNode digest (tree_of entries) 0 node
  pub len_is : point.size ≡ node.len
  pub hash_is : point.root ≡ mth digest (part node.start node.len entries)

-- a set of sizes with hashes
abbrev pub Points : Type 0
Points = FinSet point_cmp

-- an order of sizes with hashes by codes, which a set of them needs; it has no meaning for a log
abbrev pub point_code : Coded Point
point_code =
    code_by (ℕ × List ℕ) (coded× coded_ℕ (coded_list coded_ℕ)) (λ p. (p.size, p.root))
    (λ p. record { size = p.0; root = p.1 }) (λ _. refl)

-- a mirror: its view, and the marks that it remembers, which change no answer
pub record State : Type 0 where
  pub view : View
  pub remembered : Points

-- an order of states by codes, which a model of the mirror needs; it has no meaning for a log
abbrev pub state_code : Coded State
state_code =
    code_by (View × Points) (coded× view_code (set.code point_code)) (λ s. (s.view, s.remembered))
    (λ p. record { view = p.0; remembered = p.1 }) (λ _. refl)

-- the view is lawful, its origin is possible for a log, and only marks of the view are remembered
pub record IsSound (digest : List ℕ → List ℕ) (state : State) : Type 0 where
  pub origin : IsOrigin state.view.origin
  pub lawful : IsLawful digest state.view
  pub marks :
      (point : Point) → IsTrue (contains state.remembered point) → IsMark digest state.view point
