-- The served note, found among the kept notes.
use Rattle.std.proofs.Common.{◌≡◌, ℕ, zero, suc, ◌<◌, ◌≤◌, List, [], ◌∷◌, length, map, get_or, slice_index_or}
use Rattle.std.proofs.Common.{Option, Some, None, Bool, true, false, Bor, sym, refl, ap, subst, ◌∙◌, inl, inr}
use Rattle.std.proofs.Common.{arith}
use Rattle.std.specs.Prelude.{IsTrue, IfSome, IfNone, is_some, not, ◌↔◌}
use Rattle.std.specs.Ordering.{nat_cmp, ordering_then, is_gt, is_le}
use Rattle.std.specs.declared.cmp.Ordering.{Ordering}
use Rattle.std.specs.declared.cmp.Ordering.TheVariants.{Less, Equal, Greater}
use Rattle.std.specs.Cmp.{nat_cmp_total}
use Rattle.std.specs.Cmp.Lexicographic.{slice_cmp, nat_list_cmp_total}
use Rattle.std.specs.List.{Contains}
use Rattle.std.specs.List.Sorted.{IsStrictlySortedBy}
use Rattle.std.proofs.lemmas.Bool.{cases_lt}
use Rattle.std.proofs.lemmas.Cmp.{tied_itself}
use Rattle.std.proofs.lemmas.List.{get_or-map, length-map}
use Rattle.std.proofs.lemmas.List.Elements.{All-contains, All-from_recursion, Contains-get_or}
use Rattle.node_store.specs.Strings.{Strings}
use Rattle.mirror_model.specs.View.{View}
use Rattle.mirror_model.specs.Heads.{IsHead, HoldsHead, HasHead}
use Rattle.mirror_model.specs.Complete.{IsBuilt, IsComplete}
use Rattle.mirror_model.specs.Served.{IsCompleteNote, IsAtMost}
use Rattle.mirror_model.specs.Forks.{Point}
use Rattle.mirror_model.specs.Front.{path_cmp}
use Rattle.mirror_model.specs.Walk.{IsMissing}
use Rattle.mirror_model.specs.Listed.{ListsMissing}
use Rattle.tlog_tiles.specs.declared.paths.Path.{Path}
use Rattle.mirror_model.specs.Marks.{Points, State}
use Rattle.mirror_model.proofs.StringSets.{listed_from_has, has_from_listed}
use Rattle.mirror_model.proofs.HeadNotes.{head_once}
use Rattle.tlog_mirror.specs.Kept.{state_of, note_bytes, IsKeptWell}
use Rattle.mirror_trees.specs.Marked.{point_of}
use Rattle.mirror_trees.specs.Best.{served_cmp, kept_point, HasKept, IsBuiltAt, IsBest, IsBestOf}
use Rattle.mirror_trees.specs.Best.{IsFirstWith}
use Rattle.mirror_model.specs.Reports.{SaysServed}
use Rattle.mirror_trees.specs.Tops.{IsServedAs}
use Rattle.mirror_trees.specs.declared.held_note.HeldNote.{HeldNote}
use Rattle.std.proofs.lemmas.List.{get_or_default}
use Rattle.tlog_mirror.proofs.PointLists.{size_at_most, unmapped}

-- ---- lists and orders

sorted_at : {K : Type 0} (cmp : K → K → Ordering) (xs : List K) → IsStrictlySortedBy cmp xs → (i j : ℕ) (d : K) →
    i < j → j < length xs → cmp (get_or xs i d) (get_or xs j d) ≡ Less
unfolding IsStrictlySortedBy
sorted_at cmp [] s i j d lt fits = absurd (omega (arith, fits))
sorted_at cmp (x ∷ xs) s zero zero d lt fits = absurd (omega (arith, lt))
sorted_at {K} cmp (x ∷ xs) s zero (suc j) d lt fits =
    let above : K → Type 0 = λ y. cmp x y ≡ Less in
    All-contains above xs (get_or xs j d) (All-from_recursion above xs s.0)
    (Contains-get_or xs j d (omega (arith, fits)))
sorted_at cmp (x ∷ xs) s (suc i) zero d lt fits = absurd (omega (arith, lt))
sorted_at cmp (x ∷ xs) s (suc i) (suc j) d lt fits =
    sorted_at cmp xs s.1 i j d (omega (arith, lt)) (omega (arith, fits))

le_from : (o : Ordering) → is_gt o ≡ false → is_le o ≡ true
le_from Less h = refl
le_from Equal h = refl
le_from Greater h = absurd (let wrong : true ≡ false = h in cc wrong)

root_at_most : (n : ℕ) (root r : List ℕ) → is_gt (ordering_then (nat_cmp n n) (slice_cmp nat_cmp root r)) ≡ false →
    IsAtMost root r
root_at_most n root r h =
    le_from (slice_cmp nat_cmp root r)
    (ap (λ (x : Ordering). is_gt (ordering_then x (slice_cmp nat_cmp root r))) (sym (tied_itself nat_cmp_total n)) ∙
    h)

less_at_most : (a b : List ℕ) → slice_cmp nat_cmp a b ≡ Less → IsAtMost a b
less_at_most a b e = ap is_le e

same_at_most : (a b : List ℕ) → a ≡ b → IsAtMost a b
same_at_most a b e = subst (IsAtMost a) e (ap is_le (tied_itself nat_list_cmp_total a))

-- ---- the kept notes

module _ (digest : List ℕ → List ℕ) (origin : List ℕ) (kept : List HeldNote) (strings : Strings) (remembered : Points)
    (ok : IsKeptWell digest origin kept strings remembered) where
  abbrev v : View
  v = (state_of origin kept strings remembered).view

  abbrev says : HeldNote → Type 0
  says k = IsHead (note_bytes k) origin k.size k.root

  -- the kept note of a held tree head
  record KeptOf (note : List ℕ) (point : Point) : Type 0 where
    at : ℕ
    one : HeldNote
    within : at < length kept
    is_there : slice_index_or kept at one ≡ one
    bytes_are : note_bytes one ≡ note
    is : kept_point one ≡ point

  kept_of : (note : List ℕ) (size : ℕ) (root : List ℕ) → HoldsHead v note size root →
      KeptOf note (record { size = size; root = root })
  kept_of note size root h =
      let found = listed_from_has (map note_bytes kept) note h.is_held in
      let u = unmapped note_bytes kept found.0 note found.1 found.2 in
      let said = All-contains says kept u.one ok.said (found.0, u.within, u.is_there) in
      let same =
      head_once note origin origin u.one.size size u.one.root root
      (subst (λ bytes. IsHead bytes origin u.one.size u.one.root) u.is said) h.is_head in
      record {
        at =
            found.0;
        one =
            u.one;
        within =
            u.within;
        is_there =
            u.is_there;
        bytes_are = u.is;
        is = λ i. record { size = same.size_is i; root = same.root_is i };
      }

  holds_at : (at : ℕ) (one : HeldNote) → at < length kept → slice_index_or kept at one ≡ one →
      HoldsHead v (note_bytes one) one.size one.root
  holds_at at one fits there =
      let within : at < length (map note_bytes kept) = subst (λ n. at < n) (sym (length-map kept note_bytes)) fits in
      let read : get_or (map note_bytes kept) at (note_bytes one) ≡ note_bytes one =
      get_or-map note_bytes kept at one (note_bytes one) fits ∙ ap note_bytes there in
      record {
        is_held = has_from_listed (map note_bytes kept) (note_bytes one) (at, within, read);
        is_head = All-contains says kept one ok.said (at, fits, there);
      }

  -- a later kept note is not less
  later_note : (i j : ℕ) (a b : HeldNote) → i ≤ j → j < length kept → slice_index_or kept i a ≡ a →
      slice_index_or kept j b ≡ b → IsAtMost (note_bytes a) (note_bytes b)
  later_note i j a b upto fits at_a at_b =
      elim (cases_lt i j) [
        | inl lt ↦
            let i_fits : i < length kept = omega (arith, lt, fits) in
            let all_fit : j < length (map note_bytes kept) =
            subst (λ n. j < n) (sym (length-map kept note_bytes)) fits in
            let less = sorted_at (slice_cmp nat_cmp) (map note_bytes kept) ok.rising i j (note_bytes a) lt all_fit in
            let first : get_or (map note_bytes kept) i (note_bytes a) ≡ note_bytes a =
            get_or-map note_bytes kept i a (note_bytes a) i_fits ∙ ap note_bytes at_a in
            let second : get_or (map note_bytes kept) j (note_bytes a) ≡ note_bytes b =
            get_or-map note_bytes kept j b (note_bytes a) fits ∙ ap note_bytes at_b in
            less_at_most (note_bytes a) (note_bytes b)
            (subst (λ y. slice_cmp nat_cmp (note_bytes a) y ≡ Less) second
            (subst (λ x. slice_cmp nat_cmp x (get_or (map note_bytes kept) j (note_bytes a)) ≡ Less) first less))
        | inr ge ↦
            let same : i ≡ j = omega (arith, upto, ge) in
            let read : slice_index_or kept j a ≡ a = subst (λ n. slice_index_or kept n a ≡ a) same at_a in
            same_at_most (note_bytes a) (note_bytes b) (ap note_bytes (sym read ∙ get_or_default kept j a b fits ∙ at_b))
      ]

  -- ---- the served note

  module _ (point : Point) (one : HeldNote) (best : IsBest digest strings kept point)
      (f : IsFirstWith kept point one) where
    own : IsBest digest strings kept (kept_point one)
    own = subst (IsBest digest strings kept) (sym f.is) best

    no_better : (other : List ℕ) (n : ℕ) (r : List ℕ) → IsCompleteNote digest v other n r →
        is_gt (served_cmp (kept_point one) (record { size = n; root = r })) ≡ false
    no_better other n r h =
        let k = kept_of other n r h.holds in
        let built : IsBuiltAt digest strings (kept_point k.one) = subst (IsBuiltAt digest strings) (sym k.is) h.built in
        subst (λ p. is_gt (served_cmp (kept_point one) p) ≡ false) k.is
        (own.first k.one (k.at, k.within, k.is_there) built)

    least : (other : List ℕ) → IsCompleteNote digest v other one.size one.root → IsAtMost (note_bytes one) other
    least other h =
        let k = kept_of other one.size one.root h.holds in
        elim (cases_lt k.at f.at) [
          | inl before ↦ absurd (f.none k.at k.one before k.is_there (k.is ∙ f.is))
          | inr upto ↦ subst (IsAtMost (note_bytes one)) k.bytes_are
              (later_note f.at k.at one k.one upto k.within f.is_there k.is_there)
        ]

    pub is_served : IsServedAs digest v (note_bytes one) one.size one.root
    is_served = record {
      entries = own.built.entries;
      served = record {
        holds = holds_at f.at one f.within f.is_there;
        tree = own.built.is;
        greatest_size = λ other n r h. size_at_most n one.size (slice_cmp nat_cmp one.root r) (no_better other n r h);
        least_root = λ other r h. root_at_most one.size one.root r (no_better other one.size r h);
        least_note = least;
      };
    }

  pub nothing_served : IsBestOf digest strings kept None → SaysServed digest v None
  nothing_served none note size root entries served =
      let k = kept_of note size root served.holds in
      none k.one (k.at, k.within, k.is_there)
      (subst (IsBuiltAt digest strings) (sym k.is) (record { entries = entries; is = served.tree }))

  -- ---- complete tree heads

  pub head_of : (size : ℕ) (root : List ℕ) (one : HeldNote) →
      IsFirstWith kept (record { size = size; root = root }) one → HasHead v size root
  head_of size root one f =
      let h = holds_at f.at one f.within f.is_there in
      record {
        note = note_bytes one;
        holds = subst (λ (p : Point). HoldsHead v (note_bytes one) p.size p.root) f.is h;
      }

  pub head_from_kept : (size : ℕ) (root : List ℕ) → HasKept kept (record { size = size; root = root }) →
      HasHead v size root
  head_from_kept size root k =
      let h = holds_at k.is_kept.0 k.one k.is_kept.1 k.is_kept.2 in
      record {
        note = note_bytes k.one;
        holds = subst (λ (p : Point). HoldsHead v (note_bytes k.one) p.size p.root) k.is h;
      }

  pub kept_head : (size : ℕ) (root : List ℕ) → HasHead v size root → HasKept kept (record { size = size; root = root })
  kept_head size root h =
      let k = kept_of h.note size root h.holds in
      record { one = k.one; is_kept = (k.at, k.within, k.is_there); is = k.is }

-- ---- as the calls state it

module _ (digest : List ℕ → List ℕ) (origin : List ℕ) (kept : List HeldNote) (strings : Strings) (remembered : Points)
    (ok : IsKeptWell digest origin kept strings remembered) (old : State)
    (old_is : state_of origin kept strings remembered ≡ old) where
  pub first_served : (p : ℕ × List ℕ) (r : Option (Bor HeldNote)) → IsBestOf digest strings kept (Some p) →
      IfSome r (λ one. IsFirstWith kept (point_of p) one.now) →
      IfSome r (λ one. IsServedAs digest old.view one.now.note.bytes one.now.size one.now.root)
  first_served p None best f = f
  first_served p (Some one) best f =
      subst (λ (o : State). IsServedAs digest o.view one.now.note.bytes one.now.size one.now.root) old_is
      (is_served digest origin kept strings remembered ok (point_of p) one.now best f)

  pub none_served : IsBestOf digest strings kept None → SaysServed digest old.view None
  none_served none =
      subst (λ (o : State). SaysServed digest o.view None) old_is
      (nothing_served digest origin kept strings remembered ok none)

  module _ (size : ℕ) (root : List ℕ) where
    abbrev at : Point
    at = record { size = size; root = root }

    pub with_head : (b : Bool) → HasHead (state_of origin kept strings remembered).view size root →
        IsTrue b ↔ IsBuilt digest strings size root → IsTrue b ↔ IsComplete digest old.view size root
    with_head b head tells =
        subst (λ (o : State). IsTrue b ↔ IsComplete digest o.view size root) old_is (
          λ t. let is = tells.0 t in record { entries = is.entries; complete = record { head = head; tree = is.is } },
          λ c. tells.1 (record { entries = c.entries; is = c.complete.tree }),
        )

    pub found_complete : (r : Option (Bor HeldNote)) (b : Bool) → is_some r ≡ true →
        IfSome r (λ one. IsFirstWith kept at one.now) → IsTrue b ↔ IsBuilt digest strings size root →
        IsTrue b ↔ IsComplete digest old.view size root
    found_complete None b some f tells = absurd (let wrong : false ≡ true = some in cc wrong)
    found_complete (Some one) b some f tells =
        with_head b (head_of digest origin kept strings remembered ok size root one.now f) tells

    pub no_head : (r : Option (Bor HeldNote)) (b : Bool) → b ≡ is_some r → b ≡ false → IfNone r (HasKept kept at → ⊥) →
        IsTrue b ↔ IsComplete digest old.view size root
    no_head (Some one) b is not_found none = absurd (let wrong : true ≡ false = sym is ∙ not_found in cc wrong)
    no_head None b is not_found none =
        subst (λ (o : State). IsTrue b ↔ IsComplete digest o.view size root) old_is (
          λ t. absurd (let wrong : false ≡ true = sym not_found ∙ t in cc wrong),
          λ c. absurd (none (kept_head digest origin kept strings remembered ok size root c.complete.head)),
        )

    pub no_head_held : (r : Option (Bor HeldNote)) (b : Bool) → is_some r ≡ not b → b ≡ true →
        IfNone r (HasKept kept at → ⊥) → HasHead old.view size root → ⊥
    no_head_held (Some one) b is none_found none h =
        absurd (let wrong : true ≡ false = is ∙ ap not none_found in cc wrong)
    no_head_held None b is none_found none h =
        none (kept_head digest origin kept strings remembered ok size root
        (subst (λ (o : State). HasHead o.view size root) (sym old_is) h))

    pub head_held : (r : Option (Bor HeldNote)) (b : Bool) → is_some r ≡ not b → b ≡ false →
        IfSome r (λ one. IsFirstWith kept at one.now) → HasHead old.view size root
    head_held None b is found f = absurd (let wrong : false ≡ true = is ∙ ap not found in cc wrong)
    head_held (Some one) b is found f =
        subst (λ (o : State). HasHead o.view size root) old_is
        (head_of digest origin kept strings remembered ok size root one.now f)

    pub lists_missing :
        (paths : List Path) → IsStrictlySortedBy path_cmp paths →
        ((path : Path) → Contains paths path ↔ IsMissing digest strings size root path) →
        ListsMissing digest old.view size root paths
    lists_missing paths sorted exact =
        subst (λ (o : State). ListsMissing digest o.view size root paths) old_is
        (record { sorted = sorted; exact = exact })
