-- The status of a copy: the text of a mirror with only the checkpoint's tree head, which is complete.
use Rattle.std.specs.Prelude.{ℕ, List, [], ◌∷◌, Option, Some, None, true}
use Rattle.mirror_model.specs.Forks.{Point}
use Rattle.mirror_model.specs.Texts.{status_text}
use Rattle.mirror_model.specs.declared.reports.Head.{Head}

-- a size and a hash, from a pair of the code
abbrev pub point_of : ℕ × List ℕ → Point
point_of p = record { size = p.0; root = p.1 }

-- the tree heads of a mirror that has only this one, complete, or none
abbrev pub copy_heads : Option Point → List Head
copy_heads None = []
copy_heads (Some point) = record { size = point.size; root = point.root; complete = true } ∷ []

-- the text of its status
abbrev pub copy_status : List ℕ → Option Point → List ℕ
copy_status origin point = status_text origin (copy_heads point) point
