-- Each tree head has at most one right edge, and a complete tree head has the true one.
use Rattle.std.specs.Prelude.{◌≡◌, ℕ, List, map}
use Rattle.node_store.specs.Strings.{Strings, HasAll, NoClash}
use Rattle.mirror_model.specs.View.{View}
use Rattle.mirror_model.specs.Edge.{edge_strings}
use Rattle.mirror_model.specs.Item.{row_of, HasEdgeRows}
use Rattle.mirror_model.specs.Complete.{Complete, IsLawful}
use Rattle.mirror_model.specs.TrueLaws.{edge_bytes}
use Rattle.mirror_model.specs.Strings.{IsDigest}

-- a size and a root have at most one right edge whose strings are held, as long as the held strings
-- do not collide
abbrev pub EdgeIsOne : Type 0
EdgeIsOne =
    (digest : List ℕ → List ℕ) →
    IsDigest digest →
    (held : Strings) →
    NoClash digest held →
    (size : ℕ) (root : List ℕ) (rows others : List (List ℕ)) →
    HasEdgeRows digest size root rows →
    HasEdgeRows digest size root others →
    HasAll held (edge_strings digest (map row_of rows)) →
    HasAll held (edge_strings digest (map row_of others)) →
    rows ≡ others

-- if the strings of edge rows of a complete tree head are held in a lawful view, they are the true
-- rows of its entries
abbrev pub LawfulEdgeIsTrue : Type 0
LawfulEdgeIsTrue =
    (digest : List ℕ → List ℕ) →
    IsDigest digest →
    (v : View) →
    IsLawful digest v →
    (size : ℕ) (root : List ℕ) (entries : List (List ℕ)) →
    Complete digest v size root entries →
    (rows : List (List ℕ)) →
    HasEdgeRows digest size root rows →
    HasAll v.strings (edge_strings digest (map row_of rows)) →
    rows ≡ edge_bytes digest entries
