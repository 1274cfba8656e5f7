-- The last blank line of a note splits it in only one way.
use Rattle.std.proofs.Common.{◌≡◌, ◌⊎◌, inl, inr, ℕ, suc, ◌+◌, ◌<◌, List, [], ◌∷◌, ◌++◌, length, take, drop, get_or}
use Rattle.std.proofs.Common.{refl, sym, ap, ◌∙◌, subst, arith, append_assoc, length-append, drop-cons}
use Rattle.std.proofs.lemmas.List.{append-nil, take_more, take-append-drop, get_or-append-add, length-take-le}
use Rattle.std.proofs.Math.Seq.{take-append_seam}
use Rattle.signed_note.specs.Names.{newline, EndsInNewline}
use Rattle.signed_note.specs.Notes.{IsNoteSplit, IsBlank}

-- a blank line within a list
blank_in : (front after : List ℕ) → IsBlank (front ++ newline ∷ (newline ∷ after)) (length front)
blank_in front after =
    let rest : List ℕ = newline ∷ (newline ∷ after) in
    let here : get_or (front ++ rest) (length front + 0) 0 ≡ newline = get_or-append-add front rest 0 0 in
    let next : get_or (front ++ rest) (length front + 1) 0 ≡ newline = get_or-append-add front rest 1 0 in
    let at : length front + 0 ≡ length front = omega arith in
    record {
      within = omega (arith, length-append front rest);
      first = rw at at here;
      second = next;
    }

-- the last blank line splits the bytes
pub split_at_blank : (bytes : List ℕ) (at : ℕ) → IsBlank bytes at → ((j : ℕ) → at < j → IsBlank bytes j → ⊥) →
    IsNoteSplit bytes (take (at + 1) bytes) (drop (at + 2) bytes)
split_at_blank bytes at blank last =
    let within : at + 1 < length bytes = blank.within in
    let here : at < length bytes = omega arith in
    let text : List ℕ = take (at + 1) bytes in
    let signed : List ℕ = drop (at + 2) bytes in
    let two : suc (at + 1) ≡ at + 2 = omega arith in
    let after : drop (at + 1) bytes ≡ newline ∷ signed =
    drop-cons bytes (at + 1) 0 within ∙ (rw (two, blank.second) refl) in
    let whole : bytes ≡ text ++ newline ∷ signed =
    sym (take-append-drop (at + 1) bytes) ∙ ap (λ (x : List ℕ). text ++ x) after in
    record {
      whole = whole;
      ended = (take at bytes, take_more bytes at 0 here ∙ ap (λ (b : ℕ). take at bytes ++ b ∷ []) blank.first);
      last = λ before more e.
          let longer : bytes ≡ (text ++ before) ++ newline ∷ (newline ∷ more) =
          whole ∙ (ap (λ (x : List ℕ). text ++ x) e ∙
          sym (append_assoc text before (newline ∷ (newline ∷ more)))) in
          let size : length text ≡ at + 1 = length-take-le (at + 1) bytes (omega arith) in
          last (length (text ++ before)) (omega (arith, length-append text before, size))
          (subst (λ b. IsBlank b (length (text ++ before))) (sym longer) (blank_in (text ++ before) more));
    }

-- if two lists begin the same list, one of them begins with the other
overlap : (t x u y : List ℕ) → t ++ x ≡ u ++ y →
    ((w : List ℕ) × (u ≡ t ++ w) × (x ≡ w ++ y)) ⊎ ((w : List ℕ) × (t ≡ u ++ w) × (y ≡ w ++ x))
overlap [] x u y e = inl (u, refl, e)
overlap (a ∷ t) x [] y e = inr (a ∷ t, refl, sym e)
overlap (a ∷ t) x (b ∷ u) y e =
    let heads : a ≡ b = cc in
    let tails : t ++ x ≡ u ++ y = cc in
    elim (overlap t x u y tails) [
      | inl h ↦ inl (h.0, rw heads (ap (λ (z : List ℕ). b ∷ z) h.1), h.2)
      | inr h ↦ inr (h.0, rw heads (ap (λ (z : List ℕ). b ∷ z) h.1), h.2)
    ]

-- a list that ends in a newline still does without a part of its start, unless nothing is left
ends_still : (t w front : List ℕ) (z : ℕ) (v : List ℕ) → w ≡ z ∷ v → t ++ w ≡ front ++ newline ∷ [] → EndsInNewline w
ends_still [] w front z v is e = (front, e)
ends_still (a ∷ t) w [] z v is e =
    let nothing : t ++ w ≡ [] = cc in absurd (omega (arith, ap length nothing, length-append t w, ap length is))
ends_still (a ∷ t) w (b ∷ front) z v is e =
    let tails : t ++ w ≡ front ++ newline ∷ [] = cc in ends_still t w front z v is tails

-- the text of a split cannot be longer
no_later : (bytes text signed other more w : List ℕ) → IsNoteSplit bytes text signed → IsNoteSplit bytes other more →
    other ≡ text ++ w → newline ∷ signed ≡ w ++ newline ∷ more → w ≡ []
no_later bytes text signed other more [] s r longer e = refl
no_later bytes text signed other more (z ∷ v) s r longer e =
    let ends = ends_still text (z ∷ v) r.ended.0 z v refl (sym longer ∙ r.ended.1) in
    absurd (s.last ends.0 more
    (e ∙ (ap (λ (x : List ℕ). x ++ newline ∷ more) ends.1 ∙ append_assoc ends.0 (newline ∷ []) (newline ∷ more))))

pub split_once : (bytes text signed other more : List ℕ) → IsNoteSplit bytes text signed →
    IsNoteSplit bytes other more → (text ≡ other) × (signed ≡ more)
split_once bytes text signed other more s r =
    elim (overlap text (newline ∷ signed) other (newline ∷ more) (sym s.whole ∙ r.whole)) [
      | inl h ↦
          let none : h.0 ≡ [] = no_later bytes text signed other more h.0 s r h.1 h.2 in
          let rest : newline ∷ signed ≡ newline ∷ more = h.2 ∙ ap (λ (x : List ℕ). x ++ newline ∷ more) none in
          (sym (h.1 ∙ (ap (λ (x : List ℕ). text ++ x) none ∙ append-nil text)), cc rest)
      | inr h ↦
          let none : h.0 ≡ [] = no_later bytes other more text signed h.0 r s h.1 h.2 in
          let rest : newline ∷ more ≡ newline ∷ signed = h.2 ∙ ap (λ (x : List ℕ). x ++ newline ∷ signed) none in
          (h.1 ∙ (ap (λ (x : List ℕ). other ++ x) none ∙ append-nil other), sym (cc rest))
    ]

-- the text begins the bytes
pub text_front : (bytes text signed : List ℕ) → IsNoteSplit bytes text signed → take (length text) bytes ≡ text
text_front bytes text signed s = ap (take (length text)) s.whole ∙ take-append_seam text (newline ∷ signed)
