-- Laws of tree heads: a note has at most one.
use Rattle.std.specs.Prelude.{◌≡◌, ℕ, List}
use Rattle.mirror_model.specs.Heads.{IsHead}

-- two tree heads have the same origin, size and root
pub record IsSameHead (origin origin' : List ℕ) (size size' : ℕ) (root root' : List ℕ)
    : Type 0 where
  pub origin_is : origin ≡ origin'
  pub size_is : size ≡ size'
  pub root_is : root ≡ root'

-- a note is a tree head of at most one origin, size and root
abbrev pub NoteIsOneHead : Type 0
NoteIsOneHead =
    (note origin origin' : List ℕ) (size size' : ℕ) (root root' : List ℕ) →
    IsHead note origin size root →
    IsHead note origin' size' root' →
    IsSameHead origin origin' size size' root root'
