-- Rounds until everything is held.
use Rattle.std.proofs.Common.{zero, suc, ◌≡◌, ℕ, ◌+◌, ◌-◌, ◌*◌, ◌/◌, ◌^◌, ◌<◌, ◌≤◌, List, [], ◌∷◌, length, sym, refl}
use Rattle.std.proofs.Common.{ap, ◌∙◌, subst, inl, inr, arith}
use Rattle.std.proofs.lemmas.Bool.{cases_lt}
use Rattle.std.proofs.Math.Nat.{pow-succ', div-mul-le_self, lt-div-mul-add}
use Rattle.tlog_shape.specs.Edge.{width_of, IsTop}
use Rattle.tlog_hash.specs.Tree.{strings}
use Rattle.tlog_shape.proofs.Levels.{level_positive, level_mono}
use Rattle.tlog_tiles.specs.declared.paths.Path.TheVariants.{Tile}
use Rattle.mirror_model.specs.Front.{IsFront}
use Rattle.node_store.specs.Strings.{Strings, Has, HasAll}
use Rattle.mirror_model.specs.Rounds.{AreRounds, last_held}
use Rattle.mirror_model.specs.TreeLaws.{FrontIsBelowTop, EnoughRoundsComplete}
use Rattle.mirror_model.proofs.StringSets.{holds_from_held, held_more}
use Rattle.mirror_model.proofs.TreeLaws.{round_goes_down, bundles_complete}
use Rattle.mirror_model.proofs.TrueItems.{front_tile}
use Rattle.mirror_model.proofs.RowLaws.{from_products}

-- a size below 256^(level + 1) with width 0 at the level is below 256^level
pub one_lower : (n level : ℕ) → n < 256 ^ (level + 1) → width_of n level ≡ 0 → n < 256 ^ level
one_lower n level below none =
    let b = 256 ^ level in
    let q = n / b in
    let one : level + 1 ≡ suc level = omega arith in
    let next : 256 ^ (level + 1) ≡ 256 * b = ap (λ m. 256 ^ m) one ∙ pow-succ' 256 level in
    let upto : q * b ≤ n = div-mul-le_self n b in
    let above : n < q * b + b = lt-div-mul-add (level_positive level) in
    let small : q < 256 = from_products q 256 b (omega (arith, next, upto, below)) in
    let z : q ≡ 0 = omega (arith, small, none) in
    let zb : q * b ≡ 0 = ap (λ m. m * b) z ∙ omega arith in
    omega (arith, above, zb)

-- so a size is below the next power after its greatest level
below_top : (n top : ℕ) → n < 256 ^ 8 → IsTop n top → n < 256 ^ (top + 1)
below_top n top small t =
    down (7 - top)
    (let e : (top + 1) + (7 - top) ≡ 8 = omega (arith, t.within) in subst (λ m. n < 256 ^ m) (sym e) small)
    (omega (arith, t.within))
  where
    down : (d : ℕ) → n < 256 ^ ((top + 1) + d) → top + d ≤ 7 → n < 256 ^ (top + 1)
    down zero h within = let e : (top + 1) + 0 ≡ top + 1 = omega arith in subst (λ m. n < 256 ^ m) e h
    down (suc d) h within =
        let level = (top + 1) + d in
        let e : (top + 1) + suc d ≡ level + 1 = omega arith in
        let none : width_of n level ≡ 0 =
        zero_or (width_of n level) (λ some. omega (arith, t.greatest level (omega (arith, within)) some)) in
        down d (one_lower n level (subst (λ m. n < 256 ^ m) e h) none) (omega (arith, within))
      where
        zero_or : (w : ℕ) → (0 < w → ⊥) → w ≡ 0
        zero_or zero h = refl
        zero_or (suc w) h = absurd (h (omega arith))

pub front_is_below_top : FrontIsBelowTop
front_is_below_top digest held entries top small t edge level index width f =
    let full =
    (front_tile digest held entries (omega (arith, small)) (holds_from_held held _ edge) level index width f).2 in
    let below = below_top (length entries) top small t in
    elim (cases_lt level top) [
      | inl lt ↦ lt
      | inr le ↦ absurd
          (let more = level_mono (top + 1) (level + 1) (omega (arith, le)) in
          let c = 256 ^ (level + 1) in
          let one : (index + 1) * c ≡ index * c + c = omega arith in
          omega (arith, full, one, more, below))
    ]

module _ (digest : List ℕ → List ℕ) (entries : List (List ℕ)) (small : length entries ≤ 256 ^ 8) where
  -- held strings stay held
  held_on : (held : Strings) (afters : List Strings) → AreRounds digest entries held afters → (y : List ℕ) →
      Has held y → Has (last_held held afters) y
  held_on held [] rounds y h = h
  held_on held (after ∷ afters) rounds y h = held_on after afters rounds.1 y (rounds.0.grows y h)

  -- a front with tiles only below level 1 has no tile
  no_tile : (held : Strings) (level index width : ℕ) → IsFront digest held entries (Tile level index width) →
      level < 1 → ⊥
  no_tile held zero index width f lt =
      let p = f.path_is in let one : 256 ^ (0 + 1) ≡ 256 = refl in omega (arith, p.many, p.tile.upto, one)
  no_tile held (suc level) index width f lt = omega arith

  -- rounds from a front with tiles only below a level
  rounds_from : (k : ℕ) (held : Strings) (afters : List Strings) → AreRounds digest entries held afters →
      ((level index width : ℕ) → IsFront digest held entries (Tile level index width) → level < k) → 1 ≤ length afters →
      k ≤ length afters → HasAll (last_held held afters) (strings digest entries)
  rounds_from k held [] rounds low some enough = absurd (omega arith)
  rounds_from zero held (after ∷ afters) rounds low some enough =
      held_more after (last_held after afters) (strings digest entries) (held_on after afters rounds.1)
      (bundles_complete digest held after entries small rounds.0
      (λ level index width f. let lt = low level index width f in omega (arith, lt)))
  rounds_from (suc zero) held (after ∷ afters) rounds low some enough =
      held_more after (last_held after afters) (strings digest entries) (held_on after afters rounds.1)
      (bundles_complete digest held after entries small rounds.0
      (λ level index width f. no_tile held level index width f (low level index width f)))
  rounds_from (suc (suc k)) held (after ∷ afters) rounds low some enough =
      rounds_from (suc k) after afters rounds.1
      (λ level index width f. round_goes_down digest held after entries small rounds.0 (suc k)
      (λ l i w g. let lt = low l i w g in omega (arith, lt)) level index width f)
      (omega arith) (omega arith)

pub rounds_complete : EnoughRoundsComplete
rounds_complete digest held entries top [] small t rounds enough = absurd (omega arith)
rounds_complete digest held entries top (after ∷ afters) small t rounds enough =
    rounds_from digest entries (omega (arith, small)) top held (after ∷ afters) rounds
    (λ level index width f. front_is_below_top digest held entries top small t rounds.0.edge level index width f)
    (omega arith) (omega arith)
