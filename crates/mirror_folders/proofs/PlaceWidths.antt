-- The width at a level and index of a tree, by the tiles that the tree has.
use Rattle.std.proofs.Common.{◌≡◌, ℕ, ◌+◌, ◌*◌, ◌^◌, ◌<◌, ◌≤◌, Bool, false, Option, Some, None}
use Rattle.std.proofs.Common.{cond, nat_eq, refl, sym, ap, ◌∙◌, inl, inr, arith}
use Rattle.std.specs.Option.{unwrap_or}
use Rattle.std.specs.Prelude.{IfSome, IfNone}
use Rattle.std.proofs.Math.Nat.{le-div_iff_mul-le}
use Rattle.std.proofs.lemmas.Bool.{cases_lt, eq-eqb, lt-ltb, le-ltb}
use Rattle.std.proofs.lemmas.Bool.Decides.{eqb_tells}
use Rattle.tlog_shape.specs.Edge.{width_of, edge_index_of, IsTile}
use Rattle.tlog_shape.proofs.Levels.{level_positive}
use Rattle.mirror_folders.specs.Since.{width_at}

pub width_full : (m level index : ℕ) → index < edge_index_of m level → width_at m level index ≡ 256
width_full m level index lt =
    ap (λ (b : Bool). cond b 256 (cond (nat_eq index (edge_index_of m level)) (width_of m level) 0))
    (lt-ltb index (edge_index_of m level) lt)

pub width_last : (m level index : ℕ) → edge_index_of m level ≤ index →
    width_at m level index ≡ cond (nat_eq index (edge_index_of m level)) (width_of m level) 0
width_last m level index ge =
    ap (λ (b : Bool). cond b 256 (cond (nat_eq index (edge_index_of m level)) (width_of m level) 0))
    (le-ltb index (edge_index_of m level) ge)

pub width_edge : (m level index : ℕ) → index ≡ edge_index_of m level → width_at m level index ≡ width_of m level
width_edge m level index e =
    width_last m level index (omega (arith, e))
    ∙ ap (λ (b : Bool). cond b (width_of m level) 0) (eq-eqb index (edge_index_of m level) e)

pub width_none : (m level index : ℕ) → edge_index_of m level ≤ index → nat_eq index (edge_index_of m level) ≡ false →
    width_at m level index ≡ 0
width_none m level index ge other =
    width_last m level index ge ∙ ap (λ (b : Bool). cond b (width_of m level) 0) other

-- if the tree has a tile with that level and index, its width is `width_at`
pub width_found : (m level index : ℕ) (found : Option ℕ) → IfSome found (λ width. IsTile m level index width) →
    IfNone found ((width : ℕ) → IsTile m level index width → ⊥) → unwrap_or found 0 ≡ width_at m level index
width_found m level index (Some width) (inl full) none =
    let before : index + 1 ≤ edge_index_of m level = (le-div_iff_mul-le (level_positive (level + 1))).1 full.fits in
    full.width_is ∙ sym (width_full m level index (omega (arith, before)))
width_found m level index (Some width) (inr partial) none =
    partial.width_is ∙ sym (width_edge m level index partial.index_is)
width_found m level index None some none = elim (cases_lt index (edge_index_of m level)) [
  | inl before ↦ (let fits : (index + 1) * 256 ^ (level + 1) ≤ m =
      (le-div_iff_mul-le (level_positive (level + 1))).0 (omega (arith, before)) in
      absurd (none 256 (inl (record { fits = fits; width_is = refl }))))
  | inr after ↦ elim (eqb_tells index (edge_index_of m level)) [
    | inl same ↦ elim (cases_lt 0 (width_of m level)) [
      | inl wide ↦ absurd (none (width_of m level) (inr (record {
        index_is = same.1;
        width_is = refl;
        some = wide;
      })))
      | inr empty ↦ (let is : width_at m level index ≡ width_of m level = width_edge m level index same.1 in
          omega (arith, is, empty))
    ]
    | inr other ↦ sym (width_none m level index after other.0)
  ]
]
