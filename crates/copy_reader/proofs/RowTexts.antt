-- The bytes of a row, hash by hash.
use Rattle.std.proofs.Common.{◌≡◌, ◌≢◌, ℕ, ◌+◌, ◌<◌, List, [], ◌∷◌, ◌++◌, length, take, drop, get_or, sym, ap, ◌∙◌, append_assoc}
use Rattle.std.proofs.lemmas.List.{append-nil, append_cancel_left, take-append-drop, take_more}
use Rattle.std.proofs.lemmas.List.Concat.{flat_map-append}
use Rattle.tlog_tiles.specs.Row.{row_text}

module _ (row : List (List ℕ)) (i : ℕ) (lt : i < length row) where
  abbrev hash : List ℕ
  hash = get_or row i []

  next_text : row_text (take (i + 1) row) ≡ row_text (take i row) ++ hash
  next_text =
      ap (λ (r : List (List ℕ)). row_text r) (take_more row i [] lt)
      ∙ (flat_map-append (λ (h : List ℕ). h) (take i row) (hash ∷ [])
      ∙ ap (λ (t : List ℕ). row_text (take i row) ++ t) (append-nil hash))

  module _ (bytes rest : List ℕ) (is : bytes ≡ row_text (take i row) ++ rest) where
    pub text_more : (after : List ℕ) → rest ≡ hash ++ after → bytes ≡ row_text (take (i + 1) row) ++ after
    text_more after begins =
        is ∙ (ap (λ (t : List ℕ). row_text (take i row) ++ t) begins
        ∙ (sym (append_assoc (row_text (take i row)) hash after) ∙ ap (λ (t : List ℕ). t ++ after) (sym next_text)))

    pub text_other : ((after : List ℕ) → rest ≢ hash ++ after) → bytes ≡ row_text row → ⊥
    text_other not all =
        let after = row_text (drop (i + 1) row) in
        let parts : row_text row ≡ row_text (take (i + 1) row) ++ after =
        ap (λ (r : List (List ℕ)). row_text r) (sym (take-append-drop (i + 1) row))
        ∙ flat_map-append (λ (h : List ℕ). h) (take (i + 1) row) (drop (i + 1) row) in
        not after (append_cancel_left (row_text (take i row)) rest (hash ++ after)
        (sym is ∙ (all ∙ (parts ∙ (ap (λ (t : List ℕ). t ++ after) next_text
        ∙ append_assoc (row_text (take i row)) hash after)))))
