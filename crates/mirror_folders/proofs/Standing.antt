-- The files on a shelf, while more are put.
use Rattle.std.proofs.Common.{◌≡◌, ℕ, suc, ◌-◌, ◌<◌, ◌≤◌, List, [], ◌∷◌, ◌++◌, length, map, take, drop, get_or}
use Rattle.std.proofs.Common.{refl, sym, ap, subst, ◌∙◌, append_assoc, length-append, inl, inr, arith}
use Rattle.std.specs.List.{Contains}
use Rattle.std.proofs.Math.ListN.{get_or-append}
use Rattle.std.proofs.Math.Seq.{drop-cons}
use Rattle.std.proofs.lemmas.Bool.{cases_lt}
use Rattle.std.proofs.lemmas.List.{drop-append-le, get_or-append_right, get_or-map, length-map, map-append, take-append-drop}
use Rattle.std.proofs.lemmas.List.Elements.{Contains-append_cases, Contains-append_left}
use Rattle.tlog_tiles.specs.declared.paths.Path.{Path}
use Rattle.mirror_folders.specs.Shelf.{Put, HasPut, Stands}

pub at_middle : {X : Type 0} (before after : List X) (x : X) → get_or (before ++ x ∷ after) (length before) x ≡ x
at_middle [] after x = refl
at_middle (y ∷ before) after x = at_middle before after x

past_middle : {X : Type 0} (before after : List X) (x : X) →
    drop (suc (length before)) (before ++ x ∷ after) ≡ after
past_middle [] after x = refl
past_middle (y ∷ before) after x = past_middle before after x

pub put_has : (puts : List Put) (path : Path) (bytes : List ℕ) → Contains puts (path, bytes) → HasPut puts path
put_has puts path bytes h = (
  h.0,
  omega (arith, h.1, length-map puts (λ (put : Put). put.0)),
  get_or-map (λ (put : Put). put.0) puts h.0 (path, bytes) path h.1 ∙ ap (λ (put : Put). put.0) h.2,
)

module _ (old more : List Put) (path : Path) (bytes : List ℕ) where
  abbrev put : Put
  put = (path, bytes)

  -- later puts at the path have the same bytes
  pub stands_more : Stands old path bytes → ((other : List ℕ) → Contains more (path, other) → other ≡ bytes) →
      Stands (old ++ more) path bytes
  stands_more h same = record {
    before = h.before;
    after = h.after ++ more;
    puts_are = ap (λ (l : List Put). l ++ more) h.puts_are ∙ append_assoc h.before (put ∷ h.after) more;
    kept = λ other has. elim (Contains-append_cases h.after more (path, other) has)
        [ inl before ↦ h.kept other before | inr after ↦ same other after ];
  }

  stands_within : (h : Stands (old ++ more) path bytes) → length h.before < length old → Stands old path bytes
  stands_within h lt =
      let k = length h.before in
      let upto : suc k ≤ length old = omega arith in
      let at : get_or old k put ≡ put = sym (get_or-append old more put k lt)
      ∙ (ap (λ (l : List Put). get_or l k put) h.puts_are ∙ at_middle h.before h.after put) in
      let rest : drop k old ≡ put ∷ drop (suc k) old =
      drop-cons old k put lt ∙ ap (λ (x : Put). x ∷ drop (suc k) old) at in
      let later : drop (suc k) old ++ more ≡ h.after = sym (drop-append-le (suc k) old more upto)
      ∙ (ap (drop (suc k)) h.puts_are ∙ past_middle h.before h.after put) in
      record {
        before = take k old;
        after = drop (suc k) old;
        puts_are = sym (take-append-drop k old) ∙ ap (λ (l : List Put). take k old ++ l) rest;
        kept = λ other has. h.kept other (subst (λ (l : List Put). Contains l (path, other)) later
            (Contains-append_left (drop (suc k) old) more (path, other) has));
      }

  put_later : (h : Stands (old ++ more) path bytes) → length old ≤ length h.before → HasPut more path
  put_later h ge =
      let k = length h.before in
      let sizes = length-append old more in
      let whole = length-append h.before (put ∷ h.after) in
      let same = ap length h.puts_are in
      let at : get_or more (k - length old) put ≡ put = sym (get_or-append_right old more (length old) k put refl ge)
      ∙ (ap (λ (l : List Put). get_or l k put) h.puts_are ∙ at_middle h.before h.after put) in
      put_has more path bytes (k - length old, omega (arith, sizes, whole, same, ge), at)

  -- the bytes at the path were there before, if nothing was put at the path since
  pub stands_before : Stands (old ++ more) path bytes → (HasPut more path → ⊥) → Stands old path bytes
  stands_before h none = elim (cases_lt (length h.before) (length old)) [
    | inl within ↦ stands_within h within
    | inr later ↦ absurd (none (put_later h later))
  ]

pub has_after : (old so_far : List Put) (path : Path) → (HasPut old path → ⊥) → HasPut (old ++ so_far) path →
    HasPut so_far path
has_after old so_far path none h =
    elim (Contains-append_cases (map (λ (put : Put). put.0) old) (map (λ (put : Put). put.0) so_far) path
    (subst (λ (l : List Path). Contains l path) (map-append (λ (put : Put). put.0) old so_far) h)) [
      | inl before ↦ absurd (none before)
      | inr after ↦ after
    ]
