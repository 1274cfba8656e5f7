-- The answer of reading, from the answers of its steps.
use Rattle.std.proofs.Common.{◌≡◌, ◌≢◌, ℕ, suc, ◌-◌, ◌<◌, ◌≤◌, ◌==◌, ◌||◌, Bool, true, false, List, [], ◌∷◌, length}
use Rattle.std.proofs.Common.{map, take, drop, get_or, Result, Ok, Err, refl, sym, ◌∙◌, ap, subst, arith, inl, inr}
use Rattle.std.specs.List.{AllByRecursion, Contains, list_any}
use Rattle.std.proofs.lemmas.List.{take_all, length-map}
use Rattle.std.proofs.lemmas.Bool.{cases_Bool, eqb-true, eq-eqb}
use Rattle.tlog_checkpoint.specs.declared.Checkpoint.{Checkpoint}
use Rattle.tlog_checkpoint.specs.declared.fault.CheckpointFault.{CheckpointFault}
use Rattle.tlog_checkpoint.specs.declared.fault.CheckpointFault.TheVariants.{TooFewLines, EmptyLine, BadSize}
use Rattle.tlog_checkpoint.specs.declared.fault.CheckpointFault.TheVariants.{SizeTooLarge, BadRoot, OutOfMemory}
use Rattle.tlog_checkpoint.specs.Lines.{HasLines, text_of, IsTextLine}
use Rattle.tlog_checkpoint.specs.Grammar.{HasFields, IsFullLine}
use Rattle.tlog_checkpoint.specs.Parts.{ReadsFields}
use Rattle.tlog_checkpoint.specs.Reading.{ReadsCheckpoint, HasTooFewLines, HasEmptyLine}
use Rattle.tlog_checkpoint.proofs.LineLemmas.{one_lines}

-- a list of length 0 is empty
nil_from_test : (line : List ℕ) → (length line == 0) ≡ true → line ≡ []
nil_from_test [] h = refl
nil_from_test (b ∷ bs) h = absurd (omega (arith, eqb-true (length (b ∷ bs)) 0 h))

full : (line : List ℕ) → (length line == 0) ≡ false → line ≢ []
full line h none =
    let empty : (length line == 0) ≡ true = eq-eqb (length line) 0 (ap length none) in
    cc

or_false : (a b : Bool) → (a || b) ≡ false → (a ≡ false) × (b ≡ false)
or_false true b h = absurd cc
or_false false b h = (refl, h)

module _ {R : Type 0} (now : R → List ℕ) where
  -- whether some line is empty
  abbrev has_empty : List R → Bool
  has_empty refs = list_any (λ r. length (now r) == 0) refs

  -- an empty line was found
  empty_among : (refs : List R) → has_empty refs ≡ true → Contains (map now refs) []
  empty_among [] h = absurd cc
  empty_among (r ∷ refs) h = elim (cases_Bool (length (now r) == 0)) [
    | inl here ↦ (0, omega arith, nil_from_test (now r) here)
    | inr there ↦
        let more = empty_among refs (rw there at h) in
        (suc more.0, omega arith, more.2)
  ]

  -- no line is empty if none was found
  all_full : (refs : List R) → has_empty refs ≡ false → AllByRecursion IsTextLine (map now refs) →
      AllByRecursion IsFullLine (map now refs)
  all_full [] h lines = tt
  all_full (r ∷ refs) h lines =
      let parts = or_false (length (now r) == 0) (has_empty refs) h in
      (record { not_empty = λ none. full (now r) parts.0 none; is_line = lines.0 }, all_full refs parts.1 lines.1)

-- the first three items, followed by the others
first_three : {R : Type 0} (d : R) (xs : List R) → 3 ≤ length xs →
    xs ≡ get_or xs 0 d ∷ get_or xs 1 d ∷ get_or xs 2 d ∷ take (length xs - 3) (drop 3 xs)
first_three d [] h = absurd (omega arith)
first_three d (x ∷ []) h = absurd (omega arith)
first_three d (x ∷ y ∷ []) h = absurd (omega arith)
first_three {R = R} d (x ∷ y ∷ z ∷ xs) h =
    ap (λ (rest : List R). x ∷ y ∷ z ∷ rest) (sym (take_all (length (x ∷ y ∷ z ∷ xs) - 3) xs (omega arith)))

-- the answer for the lines of the fields is the answer for the text
from_fields : (text o s r : List ℕ) (e : List (List ℕ)) (a : Result Checkpoint CheckpointFault) →
    HasFields text o s r e → ReadsFields o s r e a → ReadsCheckpoint text a
from_fields text o s r e (Ok c) h is =
    record {
      size_line =
          s;
      root_line = r;
      fields = rw (is.0, is.3) h;
      has_size = is.1.0;
      in_range = is.1.1;
      has_root = is.2;
    }
from_fields text o s r e (Err TooFewLines) h is = absurd is
from_fields text o s r e (Err EmptyLine) h is = absurd is
from_fields text o s r e (Err BadSize) h is =
    record { origin = o; size_line = s; root_line = r; extensions = e; fields = h; no_size = is }
from_fields text o s r e (Err SizeTooLarge) h is =
    record {
      origin =
          o;
      size_line = s;
      root_line = r;
      extensions = e;
      fields = h;
      size = is.0;
      has_size = is.1;
      too_large = is.2;
    }
from_fields text o s r e (Err BadRoot) h is =
    record {
      origin =
          o;
      size_line =
          s;
      root_line = r;
      extensions = e;
      fields = h;
      size = is.0;
      has_size = is.1.0;
      in_range = is.1.1;
      no_root = is.2;
    }
from_fields text o s r e (Err OutOfMemory) h is = tt

-- the text has fewer than three lines
pub few_lines : (text : List ℕ) (found : List (List ℕ)) → HasLines text found → length found < 3 → HasTooFewLines text
few_lines text found h few lines is = let same : lines ≡ found = one_lines text lines found is h in rw same few

module _ {R : Type 0} (now : R → List ℕ) (text : List ℕ) (refs : List R) (lines : HasLines text (map now refs))
    (enough : 3 ≤ length refs) where
  -- the text has an empty line
  pub empty_line : has_empty now refs ≡ true → HasEmptyLine text
  empty_line h =
      record {
        lines =
            map now refs;
        has_lines = lines;
        enough = omega (arith, length-map refs now);
        has_empty = empty_among now refs h;
      }

  -- the text has no empty line
  pub no_empty_line : (d : R) (a : Result Checkpoint CheckpointFault) → has_empty now refs ≡ false
      → ReadsFields (now (get_or refs 0 d)) (now (get_or refs 1 d)) (now (get_or refs 2 d))
      (map now (take (length refs - 3) (drop 3 refs))) a → ReadsCheckpoint text a
  no_empty_line d a none is =
      let split : map now refs
      ≡ now (get_or refs 0 d) ∷ now (get_or refs 1 d) ∷ now (get_or refs 2 d)
      ∷ map now (take (length refs - 3) (drop 3 refs)) = ap (map now) (first_three d refs enough) in
      from_fields text _ _ _ _ a
      (record {
        is_text =
            lines.is_text ∙ ap text_of split;
        are_full =
            subst (AllByRecursion IsFullLine) split (all_full now refs none lines.are_lines);
      }) is
