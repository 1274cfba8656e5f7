-- The keys of boxed verifiers of two types, from how the boxes were made.
use Rattle.std.proofs.Common.{◌≡◌, ◌⊎◌, inl, inr, List, [], ◌∷◌, ◌++◌, length, map, append_assoc, refl, sym, ap, subst}
use Rattle.std.proofs.Common.{◌∙◌, arith}
use Rattle.std.proofs.lemmas.List.{map-append, append-nil}
use base.Stored.{Coded, Gv}
use denote.Param.Object.{Made}
use Rattle.std.specs.DynBox.{dyn_box_with}
use Rattle.std.specs.declared.dyn_box.DynBox.{DynBox}
use Rattle.signed_note.specs.Keys.{Key}

-- the index of one of two types
abbrev pub Two : Type 0
Two = Unit {0} ⊎ (Unit {0} ⊎ ⊥)

abbrev IsFirst : Two → Type 0
IsFirst (inl u) = Unit {0}
IsFirst (inr u) = ⊥

-- the key of a value, from its type
pub key_at : (F : Two → Type 0) → (F (inl tt) → Key) → (F (inr (inl tt)) → Key) → (i : Two) → F i → Key
key_at F first second (inl u) x = first x
key_at F first second (inr (inl u)) x = second x
key_at F first second (inr (inr e)) x = absurd e

module _ {F : Two → Type 0} (first : F (inl tt) → Key) (second : F (inr (inl tt)) → Key) where
  -- the key of a box
  abbrev pub key_in : {Z : Type 0} → DynBox Two Z F → Key
  key_in b = key_at F first second b.vtable b.value

  pub made_first :
      {codes : (i : Two) → F i → Gv} (row : Coded (F (inl tt))) → ((y : F (inl tt)) → codes (inl tt) y ≡ row.code y) →
      (i : Two) (y : F i) (x : F (inl tt)) → Made codes row.code (inl tt) i y x → key_at F first second i y ≡ first x
  unfolding key_at
  made_first row same (inl u) y x h = ap first (row.inj y x (sym (same y) ∙ h.codes))
  made_first row same (inr e) y x h = absurd (subst IsFirst (sym h.index) tt)

  pub made_second :
      {codes : (i : Two) → F i → Gv} (row : Coded (F (inr (inl tt)))) →
      ((y : F (inr (inl tt))) → codes (inr (inl tt)) y ≡ row.code y) →
      (i : Two) (y : F i) (x : F (inr (inl tt))) → Made codes row.code (inr (inl tt)) i y x →
      key_at F first second i y ≡ second x
  unfolding key_at
  made_second row same (inl u) y x h = absurd (subst IsFirst h.index tt)
  made_second row same (inr (inl u)) y x h = ap second (row.inj y x (sym (same y) ∙ h.codes))
  made_second row same (inr (inr e)) y x h = absurd e

  -- the same for any function that reads the keys of both types in this way
  module _ {Z : Type 0} (read : DynBox Two Z F → Key)
      (firsts : (b : DynBox Two Z F) (x : F (inl tt)) → read (dyn_box_with b (inl tt) x) ≡ first x)
      (seconds : (b : DynBox Two Z F) (x : F (inr (inl tt))) → read (dyn_box_with b (inr (inl tt)) x) ≡ second x) where
    one_box : (b : DynBox Two Z F) (i : Two) (x : F i) → read (dyn_box_with b i x) ≡ key_at F first second i x
    unfolding key_at
    one_box b (inl u) x = firsts b x
    one_box b (inr (inl u)) x = seconds b x
    one_box b (inr (inr e)) x = absurd e

    pub all_boxes : (bs : List (DynBox Two Z F)) → map read bs ≡ map key_in bs
    all_boxes [] = refl
    all_boxes (b ∷ bs) =
        ap (λ k. k ∷ map read bs) (one_box b b.vtable b.value) ∙ ap (λ ks. key_in b ∷ ks) (all_boxes bs)

-- one more key was made, and one line fewer is left
pub one_more : {A B : Type 0} (f : A → Key) (g : B → Key) (xs ys : List A) (x : A) (line : B) (lines rest : List B)
    (all : List Key) → ys ≡ xs ++ x ∷ [] → lines ≡ line ∷ rest → f x ≡ g line → map f xs ++ map g lines ≡ all →
    map f ys ++ map g rest ≡ all
one_more f g xs ys x line lines rest all grown is same before =
    ap (λ l. map f l ++ map g rest) grown
    ∙ (ap (λ l. l ++ map g rest) (map-append f xs (x ∷ []))
    ∙ (append_assoc (map f xs) (f x ∷ []) (map g rest)
    ∙ (ap (λ k. map f xs ++ k ∷ map g rest) same ∙ (ap (λ l. map f xs ++ map g l) (sym is) ∙ before))))

-- no line is left
pub none_left : {B : Type 0} (keys : List Key) (g : B → Key) (lines : List B) → length lines ≡ 0 → (all : List Key) →
    keys ++ map g lines ≡ all → keys ≡ all
none_left keys g [] none all is = sym (append-nil keys) ∙ is
none_left keys g (line ∷ lines) none all is = absurd (omega arith)
