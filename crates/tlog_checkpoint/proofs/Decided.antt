-- Each text is a checkpoint, or one of the refusals applies to it.
use Rattle.std.proofs.Common.{◌≡◌, ◌≢◌, ℕ, ◌+◌, ◌-◌, ◌==◌, ◌⊎◌, List, [], ◌∷◌, ◌++◌, length, map, take, drop, get_or}
use Rattle.std.proofs.Common.{Result, Ok, Err, refl, ap, arith, inl, inr, lit<}
use Rattle.std.specs.List.{list_any}
use Rattle.std.specs.Str.Parse.{digits_value}
use Rattle.std.proofs.lemmas.Bool.{cases_Bool, cases_lt, cases_eq}
use Rattle.tlog_checkpoint.specs.declared.Checkpoint.{Checkpoint}
use Rattle.tlog_checkpoint.specs.declared.fault.CheckpointFault.{CheckpointFault}
use Rattle.tlog_checkpoint.specs.declared.fault.CheckpointFault.TheVariants.{TooFewLines, EmptyLine, BadSize}
use Rattle.tlog_checkpoint.specs.declared.fault.CheckpointFault.TheVariants.{SizeTooLarge, BadRoot, OutOfMemory}
use Rattle.tlog_checkpoint.specs.Lines.{HasLines}
use Rattle.tlog_checkpoint.specs.Parts.{ReadsFields}
use Rattle.tlog_checkpoint.specs.Reading.{ReadsCheckpoint}
use Rattle.tlog_checkpoint.specs.Laws.{EachTextHasAnswer}
use Rattle.tlog_checkpoint.proofs.LineLemmas.{lines_of_body, no_lines}
use Rattle.tlog_text.proofs.Decided.{number_decided, hash_decided}
use Rattle.tlog_shape.specs.declared.TheConstants.{MAX_SIZE}
use Rattle.tlog_checkpoint.proofs.Answered.{few_lines, empty_line, no_empty_line}

-- the text ends in a newline
EndsInNewline : List ℕ → Type 0
EndsInNewline text = (body : List ℕ) × (text ≡ body ++ 10 ∷ [])

newline_more : (b : ℕ) (rest : List ℕ) → rest ≢ [] → (EndsInNewline rest → ⊥) → EndsInNewline (b ∷ rest) → ⊥
unfolding EndsInNewline
newline_more b rest some none ([], is) = some (cc is)
newline_more b rest some none (x ∷ body, is) = none (body, cc is)

nothing_ends : EndsInNewline [] → ⊥
unfolding EndsInNewline
nothing_ends ([], is) = cc is
nothing_ends (x ∷ body, is) = cc is

other_ends : (b : ℕ) → b ≢ 10 → EndsInNewline (b ∷ []) → ⊥
unfolding EndsInNewline
other_ends b other ([], is) = other (cc is)
other_ends b other (x ∷ [], is) = cc is
other_ends b other (x ∷ y ∷ body, is) = cc is

end_decided : (text : List ℕ) → EndsInNewline text ⊎ (EndsInNewline text → ⊥)
unfolding EndsInNewline
end_decided [] = inr nothing_ends
end_decided (b ∷ []) = elim (cases_eq b 10) [
  | inl newline ↦ inl ([], rw newline refl)
  | inr other ↦ inr (other_ends b other)
]
end_decided (b ∷ c ∷ rest) = elim (end_decided (c ∷ rest)) [
  | inl end ↦ inl (b ∷ end.0, ap (λ (x : List ℕ). b ∷ x) end.1)
  | inr none ↦ inr (newline_more b (c ∷ rest) (λ is. cc is) none)
]

-- the fields have an answer other than OutOfMemory
FieldsAnswered : List ℕ → List ℕ → List ℕ → List (List ℕ) → Type 0
FieldsAnswered o s r e = (a : Result Checkpoint CheckpointFault) × (a ≢ Err OutOfMemory) × ReadsFields o s r e a

fields_answered : (o s r : List ℕ) (e : List (List ℕ)) → FieldsAnswered o s r e
unfolding FieldsAnswered
fields_answered o s r e = elim (number_decided s) [
  | inr none ↦ (Err BadSize, λ is. cc is, none)
  | inl size ↦ elim (cases_lt (digits_value 10 s) (MAX_SIZE + 1)) [
    | inr large ↦ (Err SizeTooLarge, λ is. cc is, (digits_value 10 s, size, omega (arith, large)))
    | inl small ↦ elim (hash_decided r) [
      | inr none ↦ (Err BadRoot, λ is. cc is, (digits_value 10 s, (size, omega (arith, small)), none))
      | inl root ↦ (
        Ok (record { origin = o; size = digits_value 10 s; root = root.0; extensions = e }),
        λ is. cc is,
        (refl, (size, omega (arith, small)), root.1, refl),
      )
    ]
  ]
]

map_same : (xs : List (List ℕ)) → map (λ x. x) xs ≡ xs
map_same [] = refl
map_same (x ∷ xs) = ap (λ (rest : List (List ℕ)). x ∷ rest) (map_same xs)

Answered : List ℕ → Type 0
Answered text = (a : Result Checkpoint CheckpointFault) × (a ≢ Err OutOfMemory) × ReadsCheckpoint text a

lines_answered : (text : List ℕ) (lines : List (List ℕ)) → HasLines text lines → Answered text
unfolding Answered FieldsAnswered
lines_answered text lines h = elim (cases_lt (length lines) 3) [
  | inl few ↦ (Err TooFewLines, λ is. cc is, few_lines text lines h few)
  | inr enough ↦
      let here : HasLines text (map (λ x. x) lines) = rw (map_same lines) h in
      elim (cases_Bool (list_any (λ line. length line == 0) lines)) [
        | inl empty ↦ (Err EmptyLine, λ is. cc is, empty_line (λ x. x) text lines here enough empty)
        | inr full ↦
            let fields =
            fields_answered (get_or lines 0 []) (get_or lines 1 []) (get_or lines 2 [])
            (map (λ x. x) (take (length lines - 3) (drop 3 lines))) in
            (fields.0, fields.1, no_empty_line (λ x. x) text lines here enough [] fields.0 full fields.2)
      ]
]

pub each_answered : EachTextHasAnswer
unfolding Answered EndsInNewline
each_answered text = elim (end_decided text) [
  | inl end ↦ lines_answered text _ (lines_of_body text end.0 end.1)
  | inr none ↦ (
    Err TooFewLines,
    λ is. cc is,
    λ lines h. let empty : lines ≡ [] =
        no_lines text (λ front is. none (front, is)) lines h in rw empty (lit< tt),
  )
]
