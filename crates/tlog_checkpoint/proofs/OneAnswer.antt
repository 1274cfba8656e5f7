-- One text has one answer: two different answers never apply to it.
use Rattle.std.proofs.Common.{◌≡◌, ◌≢◌, ℕ, zero, suc, ◌<◌, ◌≤◌, List, [], ◌∷◌, length, Result, IfOk, get_or, Ok, Err}
use Rattle.std.proofs.Common.{refl, sym, ◌∙◌, subst, arith, ◌⊎◌, inl, inr}
use Rattle.std.specs.List.{AllByRecursion, Contains}
use Rattle.tlog_checkpoint.specs.declared.Checkpoint.{Checkpoint}
use Rattle.tlog_checkpoint.specs.declared.fault.CheckpointFault.{CheckpointFault}
use Rattle.tlog_checkpoint.specs.declared.fault.CheckpointFault.TheVariants.{TooFewLines, EmptyLine, BadSize}
use Rattle.tlog_checkpoint.specs.declared.fault.CheckpointFault.TheVariants.{SizeTooLarge, BadRoot, OutOfMemory}
use Rattle.tlog_shape.specs.declared.TheConstants.{MAX_SIZE}
use Rattle.tlog_text.specs.Number.{IsDecimal}
use Rattle.tlog_text.specs.Hash.{IsHashText}
use Rattle.tlog_text.proofs.Decimals.{one_number}
use Rattle.tlog_text.proofs.Hashes.{one_hash}
use Rattle.tlog_checkpoint.specs.Grammar.{IsWritableCheckpoint, HasFields, IsFullLine, IsCheckpoint}
use Rattle.tlog_checkpoint.specs.Reading.{ReadsCheckpoint, HasTooFewLines, HasEmptyLine}
use Rattle.tlog_checkpoint.specs.Laws.{OneCheckpointAnswer, TextIsOneCheckpoint}
use Rattle.tlog_checkpoint.proofs.LineLemmas.{one_lines}
use Rattle.tlog_checkpoint.proofs.Uniqueness.{reads_writable, lines_from_fields, one_fields}

-- full lines include no empty line
none_empty : (lines : List (List ℕ)) → AllByRecursion IsFullLine lines → (k : ℕ) → k < length lines →
    get_or lines k [] ≡ [] → ⊥
none_empty [] h k lt is = omega arith
none_empty (line ∷ lines) h zero lt is = h.0.not_empty is
none_empty (line ∷ lines) h (suc k) lt is = none_empty lines h.1 k (omega arith) is

-- the answer after a test: the refusal if the test fails, or another answer if it holds
abbrev Behind : {Y : Type 0} → Y → Type 0 → (Y → Type 0) → Y → Type 0
Behind refusal Fails Holds a = ((a ≡ refusal) × Fails) ⊎ Holds a

-- two answers after a test are equal, if the answers for which the test holds are equal
one_behind : {Y : Type 0} (refusal : Y) (Fails : Type 0) (Holds : Y → Type 0) →
    ((c : Y) → Fails → Holds c → ⊥) → (a b : Y) → (Holds a → Holds b → a ≡ b) → Behind refusal Fails Holds a →
    Behind refusal Fails Holds b → a ≡ b
one_behind refusal Fails Holds apart a b next (inl p) (inl q) = p.0 ∙ sym q.0
one_behind refusal Fails Holds apart a b next (inl p) (inr q) = absurd (apart b p.1 q)
one_behind refusal Fails Holds apart a b next (inr p) (inl q) = absurd (apart a q.1 p)
one_behind refusal Fails Holds apart a b next (inr p) (inr q) = next p q

abbrev Reading : Type 0
Reading = Result Checkpoint CheckpointFault

-- the answer for the lines of the fields, by tests of the size, its range and the root
module _ (o s r : List ℕ) (e : List (List ℕ)) where
  abbrev Rooted : ℕ → Reading → Type 0
  Rooted n a =
      (root : List ℕ) × IsHashText r root × (a ≡ Ok (record { origin = o; size = n; root = root; extensions = e }))

  abbrev Ranged : ℕ → Reading → Type 0
  Ranged n a = (n ≤ MAX_SIZE) × Behind (Err BadRoot) ((root : List ℕ) → IsHashText r root → ⊥) (Rooted n) a

  abbrev Sized : Reading → Type 0
  Sized a = (n : ℕ) × IsDecimal s n × Behind (Err SizeTooLarge) (MAX_SIZE < n) (Ranged n) a

  abbrev OfFields : Reading → Type 0
  OfFields a = Behind (Err BadSize) ((n : ℕ) → IsDecimal s n → ⊥) Sized a

  one_root : (n : ℕ) (a b : Reading) → Rooted n a → Rooted n b → a ≡ b
  one_root n a b p q =
      let same : q.0 ≡ p.0 = one_hash r q.0 p.0 q.1 p.1 in p.2 ∙ sym (rw same at q.2)

  one_range : (n : ℕ) (a b : Reading) → Ranged n a → Ranged n b → a ≡ b
  one_range n a b p q =
      one_behind (Err BadRoot) _ (Rooted n) (λ c none is. none is.0 is.1) a b (one_root n a b) p.1 q.1

  one_size : (a b : Reading) → Sized a → Sized b → a ≡ b
  one_size a b p q =
      let same : q.0 ≡ p.0 = one_number s q.0 p.0 q.1 p.1 in
      one_behind (Err SizeTooLarge) _ (Ranged p.0) (λ c large is. omega (arith, large, is.0)) a b
      (one_range p.0 a b) p.2 (rw same at q.2)

module _ (text : List ℕ) where
  -- the text has fields, and this is their answer
  abbrev Full : Reading → Type 0
  Full a =
      (o : List ℕ) × (s : List ℕ) × (r : List ℕ) × (e : List (List ℕ)) × HasFields text o s r e × OfFields o s r e a

  abbrev Enough : Reading → Type 0
  Enough a = Behind (Err EmptyLine) (HasEmptyLine text) Full a

  abbrev Tested : Reading → Type 0
  Tested a = Behind (Err TooFewLines) (HasTooFewLines text) Enough a

  full : (a : Reading) (o s r : List ℕ) (e : List (List ℕ)) → HasFields text o s r e → OfFields o s r e a → Tested a
  full a o s r e fields is = inr (inr (o, s, r, e, fields, is))

  -- each answer comes from the tests
  tested : (a : Reading) → a ≢ Err OutOfMemory → ReadsCheckpoint text a → Tested a
  tested (Ok c) no_a p =
      full (Ok c) c.origin p.size_line p.root_line c.extensions p.fields
      (inr (c.size, p.has_size, inr (p.in_range, inr (c.root, p.has_root, refl))))
  tested (Err TooFewLines) no_a p = inl (refl, p)
  tested (Err EmptyLine) no_a p = inr (inl (refl, p))
  tested (Err BadSize) no_a p =
      full (Err BadSize) p.origin p.size_line p.root_line p.extensions p.fields (inl (refl, p.no_size))
  tested (Err SizeTooLarge) no_a p =
      full (Err SizeTooLarge) p.origin p.size_line p.root_line p.extensions p.fields
      (inr (p.size, p.has_size, inl (refl, p.too_large)))
  tested (Err BadRoot) no_a p =
      full (Err BadRoot) p.origin p.size_line p.root_line p.extensions p.fields
      (inr (p.size, p.has_size, inr (p.in_range, inl (refl, p.no_root))))
  tested (Err OutOfMemory) no_a p = absurd (no_a refl)

  few_apart : (a : Reading) → HasTooFewLines text → Enough a → ⊥
  few_apart a few (inl p) = omega (arith, few p.1.lines p.1.has_lines, p.1.enough)
  few_apart a few (inr (o, s, r, e, fields, is)) =
      omega (arith, few (o ∷ s ∷ r ∷ e) (lines_from_fields text o s r e fields))

  empty_apart : (a : Reading) → HasEmptyLine text → Full a → ⊥
  empty_apart a p (o, s, r, e, fields, is) =
      let same : p.lines ≡ o ∷ s ∷ r ∷ e =
      one_lines text p.lines (o ∷ s ∷ r ∷ e) p.has_lines (lines_from_fields text o s r e fields) in
      let found = subst (λ (lines : List (List ℕ)). Contains lines []) same p.has_empty in
      none_empty (o ∷ s ∷ r ∷ e) fields.are_full found.0 found.1 found.2

  one_full : (a b : Reading) → Full a → Full b → a ≡ b
  one_full a b (o, s, r, e, fields, is) (o', s', r', e', fields', is') =
      let same = one_fields text o' s' r' e' o s r e fields' fields in
      one_behind (Err BadSize) _ (Sized o s r e) (λ c none some. none some.0 some.1) a b (one_size o s r e a b) is
      (rw (← same.origin, ← same.size, ← same.root, ← same.extensions) is')

pub one_answer : OneCheckpointAnswer
one_answer text a b no_a no_b p q =
    one_behind (Err TooFewLines) _ (Enough text) (few_apart text) a b
    (one_behind (Err EmptyLine) _ (Full text) (empty_apart text) a b (one_full text a b))
    (tested text a no_a p) (tested text b no_b q)

pub one_reading : TextIsOneCheckpoint
one_reading text a b p q =
    let same : Ok a ≡ Ok b = one_answer text (Ok a) (Ok b) (λ is. cc is) (λ is. cc is) p q in
    cc same

-- the text of a checkpoint is read as that checkpoint
pub only : (text : List ℕ) (a : Result Checkpoint CheckpointFault) → ReadsCheckpoint text a → (c : Checkpoint) →
    IsCheckpoint text c.origin c.size c.root c.extensions → a ≢ Err OutOfMemory → a ≡ Ok c
only text a p c q other = one_answer text a (Ok c) other (λ is. cc is) p q

-- a checkpoint that was read can be written
pub ok_writable : (text : List ℕ) (a : Result Checkpoint CheckpointFault) → ReadsCheckpoint text a →
    IfOk a IsWritableCheckpoint
ok_writable text (Ok c) p = reads_writable text c p
ok_writable text (Err e) p = tt
