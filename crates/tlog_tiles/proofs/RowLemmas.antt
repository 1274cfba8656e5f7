-- The hashes of a row, in order.
use Rattle.std.proofs.Common.{◌≡◌, ◌≢◌, ℕ, suc, ◌+◌, ◌-◌, ◌*◌, List, [], ◌∷◌, ◌++◌, length, take, drop, All, Result, Ok}
use Rattle.std.proofs.Common.{Err, refl, sym, ap, ◌∙◌, arith}
use Rattle.std.proofs.Math.Seq.{take-add}
use Rattle.std.proofs.lemmas.List.{take_at, drop_at, length-append, append-nil}
use Rattle.std.proofs.lemmas.List.Concat.{flat_map-append}
use Rattle.std.proofs.lemmas.List.Elements.{All-head, All-tail}
use Rattle.tlog_tiles.specs.declared.row.RowFault.{RowFault}
use Rattle.tlog_tiles.specs.declared.row.RowFault.TheVariants.{RowLength, OutOfMemory}
use Rattle.tlog_tiles.specs.Row.{row_text, ReadsRow}

abbrev is_hash : List ℕ → Type 0
is_hash h = length h ≡ 32

-- a row has 32 bytes for each hash
pub length-row_text : (row : List (List ℕ)) → All (λ h. length h ≡ 32) row → length (row_text row) ≡ 32 * length row
length-row_text [] p = refl
length-row_text (h ∷ row) p =
    let one : length h ≡ 32 = All-head is_hash h row p in
    omega (arith, length-append h (row_text row), one, length-row_text row (All-tail is_hash h row p))

-- the bytes determine the hashes
pub row_one : (a b : List (List ℕ)) → All (λ h. length h ≡ 32) a → All (λ h. length h ≡ 32) b → length a ≡ length b →
    row_text a ≡ row_text b → a ≡ b
row_one [] [] p q n e = refl
row_one [] (h ∷ b) p q n e = absurd cc
row_one (h ∷ a) [] p q n e = absurd cc
row_one (g ∷ a) (h ∷ b) p q n e =
    let left : length g ≡ 32 = All-head is_hash g a p in
    let right : length h ≡ 32 = All-head is_hash h b q in
    let first : g ≡ h =
    sym (take_at g (row_text a) 32 left) ∙ (ap (λ (x : List ℕ). take 32 x) e ∙ take_at h (row_text b) 32 right) in
    let rest : row_text a ≡ row_text b =
    sym (drop_at g (row_text a) 32 left) ∙ (ap (λ (x : List ℕ). drop 32 x) e ∙ drop_at h (row_text b) 32 right) in
    let len : suc (length a) ≡ suc (length b) = n in
    let others = row_one a b (All-tail is_hash g a p) (All-tail is_hash h b q) (omega arith) rest in
    ap (λ (x : List ℕ). x ∷ a) first ∙ ap (λ (xs : List (List ℕ)). h ∷ xs) others

-- there is only one answer other than OutOfMemory
pub row_answer_one : (width : ℕ) (bytes : List ℕ) (a b : Result (List (List ℕ)) RowFault) → a ≢ Err OutOfMemory →
    b ≢ Err OutOfMemory → ReadsRow width bytes a → ReadsRow width bytes b → a ≡ b
row_answer_one width bytes (Ok r) (Ok s) m n p q =
    ap (λ (x : List (List ℕ)). Ok x) (row_one r s p.sizes q.sizes (p.count ∙ sym q.count) (sym p.text ∙ q.text))
row_answer_one width bytes (Ok r) (Err RowLength) m n p q =
    absurd (q (ap length p.text ∙ (length-row_text r p.sizes ∙ ap (λ n. 32 * n) p.count)))
row_answer_one width bytes (Err RowLength) (Ok r) m n p q =
    absurd (p (ap length q.text ∙ (length-row_text r q.sizes ∙ ap (λ n. 32 * n) q.count)))
row_answer_one width bytes (Err RowLength) (Err RowLength) m n p q = refl
row_answer_one width bytes (Err OutOfMemory) b m n p q = absurd (m refl)
row_answer_one width bytes a (Err OutOfMemory) m n p q = absurd (n refl)

-- one more hash from the bytes
pub row_push : (bytes : List ℕ) (i : ℕ) (row : List (List ℕ)) (hash : List ℕ) → take (32 * i) bytes ≡ row_text row →
    hash ≡ take (32 * i + 32 - 32 * i) (drop (32 * i) bytes) → take (32 * (i + 1)) bytes ≡ row_text (row ++ hash ∷ [])
row_push bytes i row hash p q =
    let size : 32 * i + 32 - 32 * i ≡ 32 = omega arith in
    let next : 32 * (i + 1) ≡ 32 * i + 32 = omega arith in
    let split : row_text (row ++ hash ∷ []) ≡ row_text row ++ (hash ++ []) = flat_map-append (λ h. h) row (hash ∷ []) in
    ap (λ n. take n bytes) next
    ∙ (take-add (32 * i) 32 bytes
    ∙ (ap (λ (x : List ℕ). x ++ take 32 (drop (32 * i) bytes)) p
    ∙ (ap (λ (x : List ℕ). row_text row ++ x)
    (sym (q ∙ ap (λ n. take n (drop (32 * i) bytes)) size) ∙ sym (append-nil hash))
    ∙ sym split)))
