-- Texts cut at a slash.
use Rattle.std.proofs.Common.{◌≡◌, ◌≢◌, ℕ, nat_eq, true, false, ◌+◌, ◌-◌, ◌<◌, ◌≤◌, List, [], ◌∷◌, ◌++◌, length, take}
use Rattle.std.proofs.Common.{drop, get_or, reverse, Option, Some, None, MatchOption, IfSome, IfNone, codes, inl, inr}
use Rattle.std.proofs.Common.{refl, sym, ap, subst, ◌∙◌, append_assoc, arith}
use Rattle.std.proofs.lemmas.List.{take-append-drop, drop_more, reverse-append, reverse-reverse, append_cancel_left}
use Rattle.std.proofs.lemmas.List.{get_or-take, get_or-drop, length-take, length-drop, length-append, length-reverse}
use Rattle.std.proofs.lemmas.List.{get_or_at, get_or-reverse, nil_from_length}
use Rattle.std.proofs.lemmas.Bool.{true≢false}
use Rattle.std.proofs.lemmas.Bool.Decides.{eqb_tells}
use Rattle.std.proofs.lemmas.List.Elements.{All-head, All-tail, All-from_get_or}
use Rattle.std.specs.Option.{SomeIff}
use Rattle.tlog_tiles.specs.Path.{HasNoSlash, IsBelowTile}

-- the clause for Some, from a match on an option
pub found_only : {X : Type 0} (P : Type 0) (Q : X → Type 0) (r : Option X) → MatchOption r P Q → IfSome r Q
found_only P Q None h = tt
found_only P Q (Some x) h = h

pub none_only : {X : Type 0} (P : Type 0) (Q : X → Type 0) (r : Option X) → MatchOption r P Q → IfNone r P
none_only P Q None h = h
none_only P Q (Some x) h = tt

-- a text is cut at one of its slashes
pub cut_at : (text : List ℕ) (at : ℕ) → at < length text → get_or text at 0 ≡ 47 →
    text ≡ take at text ++ 47 ∷ drop (at + 1) text
cut_at text at h e =
    sym (take-append-drop at text) ∙
    ap (λ (x : List ℕ). take at text ++ x) (drop_more text at 0 h ∙ ap (λ c. c ∷ drop (at + 1) text) e)

-- the bytes before a position contain no slash
pub no_slash-take : (text : List ℕ) (at : ℕ) → ((k : ℕ) → k < at → get_or text k 0 ≢ 47) → HasNoSlash (take at text)
no_slash-take text at h =
    All-from_get_or (λ (c : ℕ). c ≢ 47) (take at text) 0
    (λ i p e. let n =
    length-take at text in let within : i < at = omega arith in h i within (sym (get_or-take at text i 0 within) ∙ e))

-- the bytes from a position on contain no slash
pub no_slash-drop : (text : List ℕ) (at : ℕ) → ((k : ℕ) → at ≤ k → k < length text → get_or text k 0 ≢ 47) →
    HasNoSlash (drop at text)
no_slash-drop text at h =
    All-from_get_or (λ (c : ℕ). c ≢ 47) (drop at text) 0
    (λ i p e. let n = length-drop at text in h (at + i) (omega arith) (omega arith) (sym (get_or-drop at text i 0) ∙ e))

-- the text determines the position of its first slash
pub first_cut : (a b x y : List ℕ) → HasNoSlash a → HasNoSlash b → a ++ 47 ∷ x ≡ b ++ 47 ∷ y → (a ≡ b) × (x ≡ y)
first_cut [] [] x y p q e = (refl, cc)
first_cut [] (c ∷ b) x y p q e = let h : 47 ≡ c = cc in absurd (All-head (λ (c : ℕ). c ≢ 47) c b q (sym h))
first_cut (c ∷ a) [] x y p q e = let h : c ≡ 47 = cc in absurd (All-head (λ (c : ℕ). c ≢ 47) c a p h)
first_cut (c ∷ a) (d ∷ b) x y p q e =
    let h : c ≡ d = cc in
    let rest : a ++ 47 ∷ x ≡ b ++ 47 ∷ y = cc in
    let others = first_cut a b x y (All-tail (λ (c : ℕ). c ≢ 47) c a p) (All-tail (λ (c : ℕ). c ≢ 47) d b q) rest in
    (ap (λ e. e ∷ a) h ∙ ap (λ (xs : List ℕ). d ∷ xs) others.0, others.1)

-- a reversed text has no slash if the text has none
no_slash-reverse : (a : List ℕ) → HasNoSlash a → HasNoSlash (reverse a)
no_slash-reverse a h =
    All-from_get_or (λ (c : ℕ). c ≢ 47) (reverse a) 0
    (λ i p e. let n =
    length-reverse a in let within : i < length a =
    omega arith in h (length a - 1 - i) 0 (omega arith) (sym (get_or-reverse a i 0 within) ∙ e))

reverse-cut : (x a : List ℕ) → reverse (x ++ 47 ∷ a) ≡ reverse a ++ 47 ∷ reverse x
reverse-cut x a =
    reverse-append x (47 ∷ a) ∙
    (ap (λ (y : List ℕ). y ++ reverse x) (reverse-append (47 ∷ []) a) ∙
    append_assoc (reverse a) (47 ∷ []) (reverse x))

-- the text determines the position of its last slash
pub last_cut : (x y a b : List ℕ) → HasNoSlash a → HasNoSlash b → x ++ 47 ∷ a ≡ y ++ 47 ∷ b → (x ≡ y) × (a ≡ b)
last_cut x y a b p q e =
    let back : reverse a ++ 47 ∷ reverse x ≡ reverse b ++ 47 ∷ reverse y =
    sym (reverse-cut x a) ∙ (ap (λ (t : List ℕ). reverse t) e ∙ reverse-cut y b) in
    let one =
    first_cut (reverse a) (reverse b) (reverse x) (reverse y) (no_slash-reverse a p) (no_slash-reverse b q) back in (
      sym (reverse-reverse x) ∙ (ap (λ (t : List ℕ). reverse t) one.1 ∙ reverse-reverse y),
      sym (reverse-reverse a) ∙ (ap (λ (t : List ℕ). reverse t) one.0 ∙ reverse-reverse b),
    )

-- a text with a slash contains a slash
pub some_slash : (a b : List ℕ) → HasNoSlash (a ++ 47 ∷ b) → ⊥
some_slash a b h = h (length a) 0 (omega (arith, length-append a (47 ∷ b))) (get_or_at a 47 b 0 (length a) refl)

-- the slash before a width
pub width_cut : (front last : List ℕ) → front ++ codes ".p/" ++ last ≡ (front ++ codes ".p") ++ 47 ∷ last
width_cut front last = append_assoc front (codes ".p/") last ∙ sym (append_assoc front (codes ".p") (47 ∷ last))

-- the clause for None, from the property for None
pub if_none : {X : Type 0} (P : Type 0) (r : Option X) → P → IfNone r P
if_none P None h = h
if_none P (Some x) h = tt

pub none_then : {X : Type 0} (P Q : Type 0) (r : Option X) → IfNone r P → (P → Q) → IfNone r Q
none_then P Q None h f = f h
none_then P Q (Some x) h f = tt

pub some_iff_found : {X : Type 0} (P : Type 0) (v : X) (Q : X → Type 0) (r : Option X) → SomeIff r P v → (P → Q v) →
    IfSome r Q
some_iff_found P v Q None h f = tt
some_iff_found P v Q (Some x) h f = subst Q (sym h.1) (f h.0)

pub some_iff_none : {X : Type 0} (P : Type 0) (v : X) (Q : Type 0) (r : Option X) → SomeIff r P v → ((P → ⊥) → Q) →
    IfNone r Q
some_iff_none P v Q None h f = f h
some_iff_none P v Q (Some x) h f = tt

-- a text that begins with tile/ and has no other slash has no second segment with a slash after it
pub not_below : (text rest second tail : List ℕ) → text ≡ codes "tile/" ++ rest → HasNoSlash rest →
    IsBelowTile text second tail → ⊥
not_below text rest second tail e none h =
    let whole : codes "tile/" ++ rest ≡ codes "tile/" ++ (second ++ 47 ∷ tail) =
    sym e ∙ (h.text_is ∙ append_assoc (codes "tile/") second (47 ∷ tail)) in
    let same : rest ≡ second ++ 47 ∷ tail = append_cancel_left (codes "tile/") rest (second ++ 47 ∷ tail) whole in
    some_slash second tail (subst HasNoSlash same none)

-- a text that does not end in a width has no width
pub no_width : (tail x a : List ℕ) → tail ≡ x ++ 47 ∷ a → HasNoSlash a →
    ((front : List ℕ) → x ≡ front ++ codes ".p" → ⊥) → (front last : List ℕ) → HasNoSlash last →
    tail ≡ front ++ codes ".p/" ++ last → ⊥
no_width tail x a e p bad front last q h =
    bad front (last_cut x (front ++ codes ".p") a last p q (sym e ∙ (h ∙ width_cut front last))).0

-- a text of length 0
pub empty_text : (s : List ℕ) → nat_eq (length s) 0 ≡ true → s ≡ []
empty_text s e =
    elim (eqb_tells (length s) 0) [ inl h ↦ nil_from_length s h.1 | inr h ↦ absurd (true≢false (sym e ∙ h.0)) ]

pub not_empty : (s : List ℕ) → nat_eq (length s) 0 ≡ false → [] ≡ s → ⊥
not_empty [] e h = cc
not_empty (c ∷ s) e h = cc
