-- The bytes determine the items at their start.
use Rattle.std.proofs.Common.{◌≡◌, ℕ, suc, List, [], ◌∷◌, ◌++◌, length, take, drop, All, refl, sym, ap, ◌∙◌}
use Rattle.std.proofs.Common.{append_assoc, arith}
use Rattle.std.specs.Int.{w16, w32, to_be_bytes, from_be_bytes}
use Rattle.std.proofs.lemmas.List.{take_at, drop_at, append-nil}
use Rattle.std.proofs.lemmas.List.Elements.{All-head, All-tail}
use Rattle.std.proofs.lemmas.List.Concat.{flat_map-append}
use Rattle.std.proofs.lemmas.Nat.{from_be_bytes-to_be_bytes_2, from_be_bytes-to_be_bytes_4}
use Rattle.mirror_files.specs.declared.items.Form.{Form}
use Rattle.mirror_files.specs.declared.items.Form.TheVariants.{Short, Long, Hashes}
use Rattle.mirror_files.specs.Items.{item_text, items_text, IsItem}
use Rattle.mirror_files.specs.Stands.{HasItems}

-- two lists of one length at the start of one list
pub fronts_same : (d e a b : List ℕ) → length d ≡ length e → d ++ a ≡ e ++ b → (d ≡ e) × (a ≡ b)
fronts_same d e a b len h = (
  sym (take_at d a (length d) refl) ∙ (ap (λ (x : List ℕ). take (length d) x) h ∙ take_at e b (length d) (sym len)),
  sym (drop_at d a (length d) refl) ∙ (ap (λ (x : List ℕ). drop (length d) x) h ∙ drop_at e b (length d) (sym len)),
)

-- the bytes determine the item at their start
pub item_one : (form : Form) (d e a b : List ℕ) → IsItem form d → IsItem form e →
    item_text form d ++ a ≡ item_text form e ++ b → (d ≡ e) × (a ≡ b)
item_one Short d e a b hd he h =
    let front : to_be_bytes w16 (length d) ≡ to_be_bytes w16 (length e) = ap (λ (x : List ℕ). take 2 x) h in
    let after : d ++ a ≡ e ++ b = ap (λ (x : List ℕ). drop 2 x) h in
    fronts_same d e a b (sym (from_be_bytes-to_be_bytes_2 (length d) hd)
    ∙ (ap (λ (x : List ℕ). from_be_bytes w16 x) front ∙ from_be_bytes-to_be_bytes_2 (length e) he)) after
item_one Long d e a b hd he h =
    let front : to_be_bytes w32 (length d) ≡ to_be_bytes w32 (length e) = ap (λ (x : List ℕ). take 4 x) h in
    let after : d ++ a ≡ e ++ b = ap (λ (x : List ℕ). drop 4 x) h in
    fronts_same d e a b (sym (from_be_bytes-to_be_bytes_4 (length d) hd)
    ∙ (ap (λ (x : List ℕ). from_be_bytes w32 x) front ∙ from_be_bytes-to_be_bytes_4 (length e) he)) after
item_one Hashes d e a b hd he h = fronts_same d e a b (hd ∙ sym he) h

-- the other items follow the first
pub items_rest : (form : Form) (k : ℕ) (e after : List ℕ) (items : List (List ℕ)) (rest : List ℕ) →
    IsItem form e → HasItems form (suc k) (item_text form e ++ after) items rest →
    (others : List (List ℕ)) × HasItems form k after others rest
items_rest form k e after [] rest fits h = let bad : 0 ≡ suc k = h.count_is in absurd (omega arith)
items_rest form k e after (x ∷ xs) rest fits h =
    let q : item_text form e ++ after ≡ item_text form x ++ (items_text form xs ++ rest) =
    h.text ∙ append_assoc (item_text form x) (items_text form xs) rest in
    let one = item_one form e x after (items_text form xs ++ rest) fits (All-head (IsItem form) x xs h.fits) q in
    let count : suc (length xs) ≡ suc k = h.count_is in
    (xs, record { count_is = omega arith; fits = All-tail (IsItem form) x xs h.fits; text = one.1 })

-- one or more items begin with an item
pub items_first : (form : Form) (k : ℕ) (bytes : List ℕ) (items : List (List ℕ)) (rest : List ℕ) →
    HasItems form (suc k) bytes items rest →
    (e : List ℕ) × (after : List ℕ) × IsItem form e × (bytes ≡ item_text form e ++ after)
items_first form k bytes [] rest h = let bad : 0 ≡ suc k = h.count_is in absurd (omega arith)
items_first form k bytes (x ∷ xs) rest h = (
  x,
  items_text form xs ++ rest,
  All-head (IsItem form) x xs h.fits,
  h.text ∙ append_assoc (item_text form x) (items_text form xs) rest,
)

-- one more item
pub items_push : (form : Form) (bytes rest after e : List ℕ) (es : List (List ℕ)) → bytes ≡ items_text form es ++ rest →
    rest ≡ item_text form e ++ after → bytes ≡ items_text form (es ++ e ∷ []) ++ after
items_push form bytes rest after e es p q =
    let split : items_text form (es ++ e ∷ []) ≡ items_text form es ++ (item_text form e ++ []) =
    flat_map-append (item_text form) es (e ∷ []) in
    p ∙ (ap (λ (x : List ℕ). items_text form es ++ x) q
    ∙ (sym (append_assoc (items_text form es) (item_text form e) after) ∙ ap (λ (x : List ℕ). x ++ after)
    (sym (split ∙ ap (λ (x : List ℕ). items_text form es ++ x) (append-nil (item_text form e))))))

-- the bytes determine that number of items at their start
pub items_one : (form : Form) (es fs : List (List ℕ)) (a b : List ℕ) → length es ≡ length fs → All (IsItem form) es →
    All (IsItem form) fs → items_text form es ++ a ≡ items_text form fs ++ b → (es ≡ fs) × (a ≡ b)
items_one form [] [] a b n p q h = (refl, h)
items_one form [] (f ∷ fs) a b n p q h = absurd cc
items_one form (e ∷ es) [] a b n p q h = absurd cc
items_one form (e ∷ es) (f ∷ fs) a b n p q h =
    let h' : item_text form e ++ (items_text form es ++ a) ≡ item_text form f ++ (items_text form fs ++ b) =
    sym (append_assoc (item_text form e) (items_text form es) a)
    ∙ (h ∙ append_assoc (item_text form f) (items_text form fs) b) in
    let one = item_one form e f (items_text form es ++ a) (items_text form fs ++ b) (All-head (IsItem form) e es p)
    (All-head (IsItem form) f fs q) h' in
    let len : suc (length es) ≡ suc (length fs) = n in
    let others = items_one form es fs a b (omega arith) (All-tail (IsItem form) e es p)
    (All-tail (IsItem form) f fs q) one.1 in
    (ap (λ (x : List ℕ). x ∷ es) one.0 ∙ ap (λ (xs : List (List ℕ)). f ∷ xs) others.0, others.1)
