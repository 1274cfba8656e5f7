-- Forks: two checkpoints that no single append-only log can have made.
use Rattle.std.specs.Prelude.{◌≡◌, ◌≢◌, ◌⊎◌, ℕ, List, ◌++◌}
use Rattle.std.specs.Ordering.{nat_cmp, ordering_then}
use Rattle.std.specs.declared.cmp.Ordering.{Ordering}
use Rattle.std.specs.Cmp.Lexicographic.{slice_cmp}
use Rattle.mirror_model.specs.View.{View}
use Rattle.mirror_model.specs.Heads.{HasHead}
use Rattle.mirror_model.specs.Complete.{Complete}

-- the second list of entries begins with the first
pub record IsPrefix (first second : List (List ℕ)) : Type 0 where
  pub rest : List (List ℕ)
  pub is : first ++ rest ≡ second

-- a tree head without its note: a size and a root
pub record Point : Type 0 where
  pub size : ℕ
  pub root : List ℕ

-- the order of tree heads: by size, then by the bytes of the root
abbrev pub point_cmp : Point → Point → Ordering
point_cmp a b = ordering_then (nat_cmp a.size b.size) (slice_cmp nat_cmp a.root b.root)

module _ (digest : List ℕ → List ℕ) where
  -- two tree heads are complete, and neither list of entries is a prefix of the other
  pub record Disagree (v : View) (a b : Point) : Type 0 where
    pub first : List (List ℕ)
    pub second : List (List ℕ)
    pub first_complete : Complete digest v a.size a.root first
    pub second_complete : Complete digest v b.size b.root second
    pub not_prefix : ¬ IsPrefix first second
    pub not_extension : ¬ IsPrefix second first

  -- two tree heads of the view are a fork: they differ, and have the same size or disagree in their
  -- entries
  pub record IsFork (v : View) (a b : Point) : Type 0 where
    pub first_held : HasHead v a.size a.root
    pub second_held : HasHead v b.size b.root
    pub differ : a ≢ b
    pub conflict : (a.size ≡ b.size) ⊎ Disagree v a b
