-- The bytes at a path are unique, and stay while nothing is put there.
use Rattle.std.proofs.Common.{◌≡◌, ℕ, suc, ◌<◌, List, [], ◌∷◌, ◌++◌, length, drop, get_or, Option, Some, None, refl, sym, ap}
use Rattle.std.proofs.Common.{subst, ◌∙◌, length-append, inl, inr, arith}
use Rattle.std.specs.List.{Contains}
use Rattle.std.proofs.lemmas.Bool.{cases_lt}
use Rattle.tlog_tiles.specs.declared.paths.Path.{Path}
use Rattle.mirror_folders.specs.Shelf.{Put, HasPut, Stands, RecordsRead}
use Rattle.mirror_folders.proofs.Standing.{at_middle, has_after, put_has, stands_more}

middle : (before after : List Put) (x : Put) → Contains (before ++ x ∷ after) x
middle before after x = (
  length before,
  omega (arith, length-append before (x ∷ after)),
  at_middle before after x,
)

-- one list is split at two items: the later item is behind the earlier one
later_has : (before after front back : List Put) (x y : Put) → before ++ x ∷ after ≡ front ++ y ∷ back →
    length before < length front → Contains after y
later_has before after [] back x y e lt = absurd (omega (arith, lt))
later_has [] after (z ∷ front) back x y e lt =
    subst (λ (l : List Put). Contains l y) (sym (ap (λ (l : List Put). drop (suc 0) l) e)) (middle front back y)
later_has (w ∷ before) after (z ∷ front) back x y e lt =
    later_has before after front back x y (ap (λ (l : List Put). drop (suc 0) l) e) (omega (arith, lt))

-- a list that is split twice at one place has one item there
same_at : (before after front back : List Put) (x y : Put) → before ++ x ∷ after ≡ front ++ y ∷ back →
    length before ≡ length front → x ≡ y
same_at [] after [] back x y e same = ap (λ (l : List Put). get_or l 0 x) e
same_at [] after (z ∷ front) back x y e same = absurd (omega (arith, same))
same_at (w ∷ before) after [] back x y e same = absurd (omega (arith, same))
same_at (w ∷ before) after (z ∷ front) back x y e same =
    same_at before after front back x y (ap (λ (l : List Put). drop (suc 0) l) e) (omega (arith, same))

module _ (puts : List Put) (path : Path) where
  stands_once : (a b : List ℕ) → Stands puts path a → Stands puts path b → a ≡ b
  stands_once a b p q =
      let e : p.before ++ (path, a) ∷ p.after ≡ q.before ++ (path, b) ∷ q.after = sym p.puts_are ∙ q.puts_are in
      elim (cases_lt (length p.before) (length q.before)) [
        | inl less ↦ sym (p.kept b (later_has p.before p.after q.before q.after (path, a) (path, b) e less))
        | inr upto ↦ elim (cases_lt (length q.before) (length p.before)) [
          | inl more ↦ q.kept a (later_has q.before q.after p.before p.after (path, b) (path, a) (sym e) more)
          | inr other ↦ ap (λ (put : Put). put.1)
              (same_at p.before p.after q.before q.after (path, a) (path, b) e (omega arith))
        ]
      ]

  stands_has : (bytes : List ℕ) → Stands puts path bytes → HasPut puts path
  stands_has bytes p =
      put_has puts path bytes (subst (λ (l : List Put). Contains l (path, bytes)) (sym p.puts_are)
      (middle p.before p.after (path, bytes)))

  pub read_once : (a b : Option (List ℕ)) → RecordsRead (Some puts) path a → RecordsRead (Some puts) path b → a ≡ b
  read_once None None p q = refl
  read_once None (Some b) p q = absurd (p (stands_has b q))
  read_once (Some a) None p q = absurd (q (stands_has a p))
  read_once (Some a) (Some b) p q = ap (λ (l : List ℕ). Some l) (stands_once a b p q)

  -- nothing is put at the path
  pub read_more : (more : List Put) (found : Option (List ℕ)) → (HasPut more path → ⊥) →
      RecordsRead (Some puts) path found → RecordsRead (Some (puts ++ more)) path found
  read_more more None none p = λ has. none (has_after puts more path p has)
  read_more more (Some bytes) none p =
      stands_more puts more path bytes p (λ other has. absurd (none (put_has more path other has)))
