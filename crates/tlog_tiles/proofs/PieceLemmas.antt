-- Pieces of rows and of texts.
use Rattle.std.proofs.Common.{◌≡◌, ℕ, zero, suc, ◌+◌, ◌-◌, ◌*◌, ◌<◌, ◌≤◌, List, [], ◌∷◌, ◌++◌, length, take, drop}
use Rattle.std.proofs.Common.{All, get_or, refl, sym, ap, ◌∙◌, append_assoc, length-append, length-take, arith}
use Rattle.std.proofs.Common.{take-append-drop, Option, Some, None, map}
use Rattle.std.specs.Prelude.{IfSome, IfNone}
use Rattle.std.specs.List.{flat_map}
use Rattle.std.proofs.lemmas.List.{take_at, drop_at, drop-drop, append-nil, map-append, take_more}
use Rattle.std.proofs.lemmas.List.Concat.{flat_map-append}
use Rattle.std.proofs.lemmas.List.Elements.{All-take}
use Rattle.std.proofs.Math.Seq.{take-add}
use Rattle.tlog_hash.specs.Rows.{part}
use Rattle.tlog_tiles.specs.Row.{row_text}
use Rattle.tlog_tiles.specs.Bundle.{bundle_text, entry_text}
use Rattle.tlog_tiles.proofs.RowLemmas.{length-row_text}
use Rattle.tlog_tiles.specs.Layout.{ends_of, entries_in}

-- ---- a property of an answer, moved to another one
pub some_from : {X : Type 0} (o : Option X) (P Q : X → Type 0) → ((x : X) → P x → Q x) → IfSome o P → IfSome o Q
some_from (Some x) P Q f h = f x h
some_from None P Q f h = tt

pub none_from : {X : Type 0} (o : Option X) (P Q : Type 0) → (P → Q) → IfNone o P → IfNone o Q
none_from (Some x) P Q f h = tt
none_from None P Q f h = f h

-- ---- texts, in order

module _ {A : Type 0} (f : A → List ℕ) (a w : ℕ) (es : List A) where
  split_text : flat_map f es ≡
      flat_map f (take a es) ++ (flat_map f (part a w es) ++ flat_map f (drop w (drop a es)))
  split_text =
      ap (flat_map f)
      (sym (take-append-drop a es) ∙ ap (λ xs. take a es ++ xs) (sym (take-append-drop w (drop a es))))
      ∙ flat_map-append f (take a es) (part a w es ++ drop w (drop a es))
      ∙ ap (λ xs. flat_map f (take a es) ++ xs) (flat_map-append f (part a w es) (drop w (drop a es)))

  next_text : length (flat_map f (take (a + w) es)) ≡ length (flat_map f (take a es)) + length (flat_map f (part a w es))
  next_text =
      ap (λ xs. length (flat_map f xs)) (take-add a w es)
      ∙ ap length (flat_map-append f (take a es) (part a w es))
      ∙ length-append (flat_map f (take a es)) (flat_map f (part a w es))

  -- the texts of a part are one piece
  pub piece : (from to : ℕ) → from ≡ length (flat_map f (take a es)) → to ≡ length (flat_map f (take (a + w) es)) →
      take (to - from) (drop from (flat_map f es)) ≡ flat_map f (part a w es)
  piece from to from_is to_is =
      let len : length (flat_map f (part a w es)) ≡ to - from = omega (arith, next_text, from_is, to_is) in
      ap (λ xs. take (to - from) (drop from xs)) split_text
      ∙ ap (take (to - from)) (drop_at (flat_map f (take a es)) _ from (sym from_is))
      ∙ take_at (flat_map f (part a w es)) _ (to - from) len

  pub piece_starts : length (flat_map f (take a es)) ≤ length (flat_map f (take (a + w) es))
  piece_starts = omega (arith, next_text)

  pub piece_ends : length (flat_map f (take (a + w) es)) ≤ length (flat_map f es)
  piece_ends =
      omega (
        arith,
        next_text,
        ap length split_text,
        length-append (flat_map f (take a es)) (flat_map f (part a w es) ++ flat_map f (drop w (drop a es))),
        length-append (flat_map f (part a w es)) (flat_map f (drop w (drop a es))),
      )

-- ---- rows

row_take : (n : ℕ) (hashes : List (List ℕ)) → All (λ hash. length hash ≡ 32) hashes → n ≤ length hashes →
    length (row_text (take n hashes)) ≡ 32 * n
row_take n hashes all le =
    omega (
      arith,
      length-row_text (take n hashes) (All-take (λ (hash : List ℕ). length hash ≡ 32) n hashes all),
      length-take n hashes,
      le,
    )

pub row_part : (first width : ℕ) (hashes : List (List ℕ)) → All (λ hash. length hash ≡ 32) hashes →
    first + width ≤ length hashes →
    take (32 * (first + width) - 32 * first) (drop (32 * first) (row_text hashes)) ≡ row_text (part first width hashes)
row_part first width hashes all le =
    piece (λ hash. hash) first width hashes (32 * first) (32 * (first + width))
    (sym (row_take first hashes all (omega arith))) (sym (row_take (first + width) hashes all le))

-- ---- entries

pub length-entry_text : (e : List ℕ) → length (entry_text e) ≡ 2 + length e
length-entry_text e = omega arith

pub length-ends_of : (from : ℕ) (es : List (List ℕ)) → length (ends_of from es) ≡ length es
length-ends_of from [] = refl
length-ends_of from (e ∷ es) = ap (λ n. suc n) (length-ends_of (from + length (entry_text e)) es)

pub end_of : (from i : ℕ) (es : List (List ℕ)) (d : ℕ) → i < length es →
    get_or (ends_of from es) i d ≡ from + length (bundle_text (take (suc i) es))
end_of from i [] d lt = absurd (omega arith)
end_of from zero (e ∷ es) d lt = sym (ap (λ (xs : List ℕ). from + length xs) (append-nil (entry_text e)))
end_of from (suc i) (e ∷ es) d lt =
    let rest = end_of (from + length (entry_text e)) i es d (omega arith) in
    let len : length (entry_text e ++ bundle_text (take (suc i) es)) ≡
    length (entry_text e) + length (bundle_text (take (suc i) es)) =
    length-append (entry_text e) (bundle_text (take (suc i) es)) in
    omega (arith, rest, len)

-- the start of the entry with that number
pub start_of_entry : (at : ℕ) (es : List (List ℕ)) (d : ℕ) → at ≤ length es → 1 ≤ at →
    get_or (ends_of 0 es) (at - 1) d ≡ length (bundle_text (take at es))
start_of_entry at es d le some =
    let n : suc (at - 1) ≡ at = omega arith in
    let h : get_or (ends_of 0 es) (at - 1) d ≡ 0 + length (bundle_text (take (suc (at - 1)) es)) =
    end_of 0 (at - 1) es d (omega arith) in
    let same : length (bundle_text (take (suc (at - 1)) es)) ≡ length (bundle_text (take at es)) =
    ap (λ m. length (bundle_text (take m es))) n in
    omega (arith, h, same)

pub ends_append : (from : ℕ) (xs ys : List (List ℕ)) →
    ends_of from (xs ++ ys) ≡ ends_of from xs ++ ends_of (from + length (bundle_text xs)) ys
ends_append from [] ys = let z : from ≡ from + 0 = omega arith in ap (λ n. ends_of n ys) z
ends_append from (x ∷ xs) ys =
    let next = from + length (entry_text x) in
    let len : length (entry_text x ++ bundle_text xs) ≡ length (entry_text x) + length (bundle_text xs) =
    length-append (entry_text x) (bundle_text xs) in
    let at : next + length (bundle_text xs) ≡ from + length (entry_text x ++ bundle_text xs) = omega (arith, len) in
    let rest : ends_of next (xs ++ ys) ≡
    ends_of next xs ++ ends_of (from + length (entry_text x ++ bundle_text xs)) ys =
    ends_append next xs ys ∙ ap (λ n. ends_of next xs ++ ends_of n ys) at in
    ap (λ (es : List ℕ). next ∷ es) rest

-- the text and the ends determine the entries
pub entries_back : (from : ℕ) (before : List ℕ) (es : List (List ℕ)) → length before ≡ from →
    entries_in from (ends_of from es) (before ++ bundle_text es) ≡ es
entries_back from before [] len = refl
entries_back from before (e ∷ es) len =
    let next = from + length (entry_text e) in
    let text = before ++ (entry_text e ++ bundle_text es) in
    let count : next - (from + 2) ≡ length e = omega (arith, length-entry_text e) in
    let cut : drop (from + 2) text ≡ e ++ bundle_text es =
    sym (drop-drop 2 from text) ∙
    ap (λ (xs : List ℕ). drop 2 xs) (drop_at before (entry_text e ++ bundle_text es) from len) in
    let first : part (from + 2) (next - (from + 2)) text ≡ e =
    ap (λ n. take n (drop (from + 2) text)) count ∙ ap (λ (xs : List ℕ). take (length e) xs) cut ∙
    take_at e (bundle_text es) (length e) refl in
    let len' : length (before ++ entry_text e) ≡ next = omega (arith, length-append before (entry_text e), len) in
    let rest : entries_in next (ends_of next es) text ≡ es =
    ap (λ (xs : List ℕ). entries_in next (ends_of next es) xs)
    (sym (append_assoc before (entry_text e) (bundle_text es))) ∙
    entries_back next (before ++ entry_text e) es len' in
    λ i. first i ∷ rest i

-- ---- one more entry

module _ {X : Type 0} (f : X → List ℕ) (xs : List X) (i : ℕ) (d : X) (lt : i < length xs) where
  abbrev x : X
  x = get_or xs i d

  one_more : map f (take (i + 1) xs) ≡ map f (take i xs) ++ f x ∷ []
  one_more =
      ap (map f) (take_more xs i d lt) ∙ map-append f (take i xs) (x ∷ [])

  more_text : (old new : List ℕ) → old ≡ bundle_text (map f (take i xs)) → new ≡ old ++ entry_text (f x) →
      new ≡ bundle_text (map f (take (i + 1) xs))
  more_text old new old_is new_is =
      let es = map f (take i xs) in
      new_is
      ∙ ap (λ (text : List ℕ). text ++ entry_text (f x)) old_is
      ∙ ap (λ (text : List ℕ). bundle_text es ++ text) (sym (append-nil (entry_text (f x))))
      ∙ sym (flat_map-append entry_text es (f x ∷ []))
      ∙ ap bundle_text (sym one_more)

  more_ends : (ends text : List ℕ) (end : ℕ) → ends ≡ ends_of 0 (map f (take i xs)) →
      text ≡ bundle_text (map f (take (i + 1) xs)) → end ≡ length text →
      ends ++ end ∷ [] ≡ ends_of 0 (map f (take (i + 1) xs))
  more_ends ends text end ends_are text_is end_is =
      let es = map f (take i xs) in
      let last : bundle_text (map f (take (i + 1) xs)) ≡ bundle_text es ++ entry_text (f x) =
      ap bundle_text one_more ∙ flat_map-append entry_text es (f x ∷ []) ∙
      ap (λ (text : List ℕ). bundle_text es ++ text) (append-nil (entry_text (f x))) in
      let at : end ≡ (0 + length (bundle_text es)) + length (entry_text (f x)) =
      omega (arith, end_is ∙ ap length (text_is ∙ last), length-append (bundle_text es) (entry_text (f x))) in
      ap (λ (xs : List ℕ). xs ++ end ∷ []) ends_are
      ∙ ap (λ n. ends_of 0 es ++ n ∷ []) at
      ∙ sym (ends_append 0 es (f x ∷ []))
      ∙ ap (ends_of 0) (sym one_more)

  -- both at once
  pub more_bundles : (text new_text ends new_ends : List ℕ) → text ≡ bundle_text (map f (take i xs)) →
      ends ≡ ends_of 0 (map f (take i xs)) → new_text ≡ text ++ entry_text (f x) →
      new_ends ≡ ends ++ length new_text ∷ [] →
      (new_text ≡ bundle_text (map f (take (i + 1) xs))) × (new_ends ≡ ends_of 0 (map f (take (i + 1) xs)))
  more_bundles text new_text ends new_ends text_is ends_are new_text_is new_ends_are =
      let more = more_text text new_text text_is new_text_is in
      (more, new_ends_are ∙ more_ends ends new_text (length new_text) ends_are more refl)
