-- The count of lines of a signature part is the number of its lines, if they are well formed.
use Rattle.std.proofs.Common.{◌≡◌, ◌≢◌, ℕ, ◌+◌, ◌-◌, Bool, true, false, cond, nat_eq, List, [], ◌∷◌, ◌++◌, length, refl}
use Rattle.std.proofs.Common.{sym, ap, ◌∙◌, arith, append_assoc, length-append, add-zero, zero-add}
use Rattle.std.specs.Prelude.{All, count_by, slice_index}
use Rattle.std.specs.List.{flat_map}
use Rattle.std.proofs.lemmas.List.{append-nil, get_or_push}
use Rattle.std.proofs.lemmas.List.Elements.{All-head, All-tail}
use Rattle.std.proofs.lemmas.List.Sums.{sum_by-append}
use Rattle.std.proofs.lemmas.Bool.Decides.{Decides-eqb}
use Rattle.signed_note.specs.Names.{newline}
use Rattle.signed_note.specs.Notes.{SignatureParts, line_body, line_text, IsSignatureLine}
use Rattle.signed_note.specs.Reading.{line_count}
use Rattle.signed_note.proofs.Lacking.{Lacks}
use Rattle.signed_note.proofs.LineTexts.{body_lacks_newline}

-- 1 for a newline, and 0 for another byte
abbrev one_at : ℕ → ℕ
one_at b = cond (nat_eq b newline) 1 0

abbrev newlines : List ℕ → ℕ
newlines xs = count_by (λ b. nat_eq b newline) xs

none_at : (b : ℕ) (t : Bool) → nat_eq b newline ≡ t → b ≢ newline → ◌≡◌ {A = ℕ} (cond t 1 0) 0
none_at b true h ne = absurd (ne ((Decides-eqb b newline).0 h))
none_at b false h ne = refl

newlines-lacking : (xs : List ℕ) → Lacks newline xs → newlines xs ≡ 0
newlines-lacking [] p = refl
newlines-lacking (x ∷ xs) p =
    let head : newlines (x ∷ []) ≡ 0 = zero-add (one_at x) ∙ none_at x (nat_eq x newline) refl p.0 in
    sum_by-append one_at (x ∷ []) xs ∙ omega (arith, head, newlines-lacking xs p.1)

newlines-line : (line : SignatureParts) → IsSignatureLine line → newlines (line_text line) ≡ 1
newlines-line line h =
    sum_by-append one_at (line_body line) (newline ∷ []) ∙
    omega (arith, newlines-lacking (line_body line) (body_lacks_newline line h))

newlines-lines : (lines : List SignatureParts) → All IsSignatureLine lines → newlines (flat_map line_text lines) ≡
    length lines
newlines-lines [] h = refl
newlines-lines (line ∷ lines) h =
    sum_by-append one_at (line_text line) (flat_map line_text lines)
    ∙ omega (
      arith,
      newlines-line line (All-head IsSignatureLine line lines h),
      newlines-lines lines (All-tail IsSignatureLine line lines h),
    )

-- one or more lines end in a newline
lines_end : (line : SignatureParts) (lines : List SignatureParts) →
    (front : List ℕ) × (flat_map line_text (line ∷ lines) ≡ front ++ newline ∷ [])
lines_end line [] = (line_body line, append-nil (line_text line))
lines_end line (next ∷ lines) =
    let rest = lines_end next lines in (
      line_text line ++ rest.0,
      ap (λ (x : List ℕ). line_text line ++ x) rest.1 ∙ sym (append_assoc (line_text line) rest.0 (newline ∷ [])),
    )

-- no line lacks its newline
none_open : (b d : Bool) → d ≡ true → ◌≡◌ {A = ℕ} (cond b 0 (cond d 0 1)) 0
none_open true d h = refl
none_open false true h = refl
none_open false false h = absurd cc

-- a part that ends in a newline has one line for each newline
ended_count : (front : List ℕ) → line_count (front ++ newline ∷ []) ≡ newlines (front ++ newline ∷ [])
ended_count front =
    let xs : List ℕ = front ++ newline ∷ [] in
    let place : length xs - 1 ≡ length front = omega (arith, length-append front (newline ∷ [])) in
    let last : slice_index xs (length xs - 1) ≡ newline =
    ap (slice_index xs) place ∙ get_or_push front newline 0 (length front) refl in
    let closed : nat_eq (slice_index xs (length xs - 1)) newline ≡ true =
    (Decides-eqb (slice_index xs (length xs - 1)) newline).1 last in
    ap (λ (n : ℕ). newlines xs + n)
    (none_open (nat_eq (length xs) 0) (nat_eq (slice_index xs (length xs - 1)) newline) closed) ∙
    add-zero (newlines xs)

pub line_count-lines : (lines : List SignatureParts) → All IsSignatureLine lines →
    line_count (flat_map line_text lines) ≡ length lines
line_count-lines [] h = refl
line_count-lines (line ∷ lines) h =
    let end = lines_end line lines in
    (ap line_count end.1 ∙ (ended_count end.0 ∙ sym (ap newlines end.1))) ∙ newlines-lines (line ∷ lines) h
