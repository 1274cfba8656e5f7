-- Cutting a text at its newlines is the reverse of ending each line with a newline.
use Rattle.std.proofs.Common.{◌≡◌, ◌≢◌, ℕ, Bool, true, false, not, List, [], ◌∷◌, ◌++◌, refl, sym, ◌∙◌, ap}
use Rattle.std.proofs.Common.{append_assoc, inl, inr}
use Rattle.std.specs.List.{list_all, AllByRecursion, slice_split, onto_first}
use Rattle.std.proofs.lemmas.List.{append_cancel_right}
use Rattle.std.proofs.lemmas.Bool.{cases_Bool, eqb-true, and_parts}
use Rattle.tlog_checkpoint.specs.Lines.{is_newline, ended, text_of, IsTextLine, HasLines}

-- the byte is not a newline
not_true : (b : Bool) → not b ≡ true → b ≡ false
not_true true h = absurd cc
not_true false h = refl

-- a cut at the newline splits off the first line
split_first : (line rest : List ℕ) → IsTextLine line →
    slice_split is_newline (line ++ 10 ∷ rest) ≡ line ∷ slice_split is_newline rest
split_first [] rest h = refl
split_first (b ∷ bs) rest h =
    let parts = and_parts (not (is_newline b)) (list_all (λ byte. not (is_newline byte)) bs) h in
    let here : is_newline b ≡ false = not_true (is_newline b) parts.0 in
    let later : slice_split is_newline (bs ++ 10 ∷ rest) ≡ bs ∷ slice_split is_newline rest =
    split_first bs rest parts.1 in
    rw (here, later) refl

-- the parts of a text of lines are the lines, and an empty part after the last newline
pub split-text_of : (lines : List (List ℕ)) → AllByRecursion IsTextLine lines →
    slice_split is_newline (text_of lines) ≡ lines ++ [] ∷ []
split-text_of [] h = refl
split-text_of (line ∷ lines) h =
    rw (append_assoc line (10 ∷ []) (text_of lines))
    (split_first line (text_of lines) h.0 ∙ ap (λ (x : List (List ℕ)). line ∷ x) (split-text_of lines h.1))

-- a text has at most one list of lines
pub one_lines : (text : List ℕ) (a b : List (List ℕ)) → HasLines text a → HasLines text b → a ≡ b
one_lines text a b p q =
    append_cancel_right a b ([] ∷ [])
    (sym (split-text_of a p.are_lines) ∙ ap (slice_split is_newline) (sym p.is_text ∙ q.is_text) ∙
    split-text_of b q.are_lines)

-- the first part gains a byte at its start
text_of-onto_first : (b : ℕ) (parts : List (List ℕ)) (body : List ℕ) → text_of parts ≡ body ++ 10 ∷ [] →
    text_of (onto_first b parts) ≡ b ∷ body ++ 10 ∷ []
text_of-onto_first b [] [] h = absurd cc
text_of-onto_first b [] (x ∷ body) h = absurd cc
text_of-onto_first b (part ∷ parts) body h = ap (λ (x : List ℕ). b ∷ x) h

are_lines-onto_first : (b : ℕ) (parts : List (List ℕ)) → is_newline b ≡ false → AllByRecursion IsTextLine parts →
    AllByRecursion IsTextLine (onto_first b parts)
are_lines-onto_first b [] h p = (rw h refl, tt)
are_lines-onto_first b (part ∷ parts) h p = (rw h p.0, p.1)

-- the parts of a text are the lines of that text with a newline added
pub text_of-split : (body : List ℕ) → text_of (slice_split is_newline body) ≡ body ++ 10 ∷ []
text_of-split [] = refl
text_of-split (b ∷ bs) = elim (cases_Bool (is_newline b)) [
  | inl cut ↦
      let ten : b ≡ 10 = eqb-true b 10 cut in
      rw cut (rw ten (ap (λ (x : List ℕ). 10 ∷ x) (text_of-split bs)))
  | inr kept ↦ rw kept (text_of-onto_first b (slice_split is_newline bs) bs (text_of-split bs))
]

pub are_lines-split : (body : List ℕ) → AllByRecursion IsTextLine (slice_split is_newline body)
are_lines-split [] = (refl, tt)
are_lines-split (b ∷ bs) = elim (cases_Bool (is_newline b)) [
  | inl cut ↦ rw cut (refl, are_lines-split bs)
  | inr kept ↦ rw kept (are_lines-onto_first b (slice_split is_newline bs) kept (are_lines-split bs))
]

-- a text that ends in a newline has lines
pub lines_of_body : (text body : List ℕ) → text ≡ body ++ 10 ∷ [] → HasLines text (slice_split is_newline body)
lines_of_body text body h = record { is_text = h ∙ sym (text_of-split body); are_lines = are_lines-split body }

-- a text of one or more lines ends in a newline
ends_in_newline : (line : List ℕ) (lines : List (List ℕ)) →
    (front : List ℕ) × (text_of (line ∷ lines) ≡ front ++ 10 ∷ [])
ends_in_newline line [] = (line, rw (append_assoc line (10 ∷ []) []) refl)
ends_in_newline line (next ∷ lines) =
    let more = ends_in_newline next lines in (
      ended line ++ more.0,
      ap (λ (x : List ℕ). ended line ++ x) more.1 ∙ sym (append_assoc (ended line) more.0 (10 ∷ [])),
    )

-- a text that does not end in a newline has no lines
pub no_lines : (text : List ℕ) → ((front : List ℕ) → text ≢ front ++ 10 ∷ []) → (lines : List (List ℕ)) →
    HasLines text lines → lines ≡ []
no_lines text none [] h = refl
no_lines text none (line ∷ lines) h =
    let end = ends_in_newline line lines in
    absurd (none end.0 (h.is_text ∙ end.1))
