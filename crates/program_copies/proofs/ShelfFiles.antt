-- The content of a shelf: one file at a path.
use Rattle.std.proofs.Common.{◌≡◌, ℕ, suc, ◌+◌, ◌-◌, ◌<◌, List, ◌∷◌, ◌++◌, length, get_or, refl, sym, ap, ◌∙◌, inl, inr, arith}
use Rattle.std.specs.List.{Contains}
use Rattle.std.proofs.Math.Seq.{get_or-append_seam}
use Rattle.std.proofs.lemmas.Bool.{cases_lt}
use Rattle.std.proofs.lemmas.List.{get_or-append_right, length-append}
use Rattle.tlog_tiles.specs.declared.paths.Path.{Path}
use Rattle.mirror_folders.specs.Shelf.{HasPut, Put, Stands}
use Rattle.mirror_folders.proofs.Standing.{put_has}

module _ (puts : List Put) (path : Path) (a b : List ℕ) where
  later_put : (p : Stands puts path a) (q : Stands puts path b) → length p.before < length q.before →
      Contains p.after (path, b)
  later_put p q lt =
      let d : Put = (path, b) in
      let k = length p.before in
      let k' = length q.before in
      let i = k' - suc k in
      let longs : suc (length p.after) + k ≡ suc (length q.after) + k' = omega (
        arith,
        ap length (sym p.puts_are ∙ q.puts_are),
        length-append p.before ((path, a) ∷ p.after),
        length-append q.before ((path, b) ∷ q.after),
      ) in
      let gap : k' - k ≡ suc i = omega arith in
      let there : get_or ((path, a) ∷ p.after) (k' - k) d ≡ d =
      sym (get_or-append_right p.before ((path, a) ∷ p.after) k k' d refl (omega arith))
      ∙ (ap (λ (l : List Put). get_or l k' d) (sym p.puts_are ∙ q.puts_are)
      ∙ get_or-append_seam q.before d q.after d) in
      (i, omega (arith, longs, lt), ap (λ (j : ℕ). get_or ((path, a) ∷ p.after) j d) (sym gap) ∙ there)

pub stands_one : (puts : List Put) (path : Path) (a b : List ℕ) → Stands puts path a → Stands puts path b → a ≡ b
stands_one puts path a b p q = elim (cases_lt (length p.before) (length q.before)) [
  | inl first ↦ sym (p.kept b (later_put puts path a b p q first))
  | inr upto ↦ elim (cases_lt (length q.before) (length p.before)) [
    | inl second ↦ q.kept a (later_put puts path b a q p second)
    | inr from ↦
        let d : Put = (path, b) in
        let k = length p.before in
        let same : k ≡ length q.before = omega arith in
        let pair : (path, a) ≡ d =
        sym (get_or-append_seam p.before (path, a) p.after d)
        ∙ (ap (λ (l : List Put). get_or l k d) (sym p.puts_are ∙ q.puts_are)
        ∙ (ap (λ (j : ℕ). get_or (q.before ++ d ∷ q.after) j d) same ∙ get_or-append_seam q.before d q.after d)) in
        ap (λ (put : Put). put.1) pair
  ]
]

-- a file on the shelf was put there
pub stands_has : (puts : List Put) (path : Path) (bytes : List ℕ) → Stands puts path bytes → HasPut puts path
stands_has puts path bytes s = put_has puts path bytes (
  length s.before,
  omega (arith, ap length s.puts_are, length-append s.before ((path, bytes) ∷ s.after)),
  ap (λ (l : List Put). get_or l (length s.before) (path, bytes)) s.puts_are
      ∙ get_or-append_seam s.before (path, bytes) s.after (path, bytes),
)
