-- The grammar gives a text at most one checkpoint.
use Rattle.std.proofs.Common.{◌≡◌, ℕ, ◌<◌, ◌^◌, arith, List, [], ◌∷◌, refl, sym, ◌∙◌}
use Rattle.std.specs.List.{AllByRecursion}
use Rattle.tlog_checkpoint.specs.Lines.{HasLines, text_of, IsTextLine}
use Rattle.tlog_checkpoint.specs.Grammar.{HasFields, IsFullLine}
use Rattle.tlog_checkpoint.specs.Laws.{CheckpointHasOneText, WhatIsReadIsWritable}
use Rattle.tlog_checkpoint.proofs.LineLemmas.{one_lines}
use Rattle.tlog_text.proofs.Decimals.{decimal_is}

are_lines : (lines : List (List ℕ)) → AllByRecursion IsFullLine lines → AllByRecursion IsTextLine lines
are_lines [] h = tt
are_lines (line ∷ lines) h = (h.0.is_line, are_lines lines h.1)

-- the fields are the lines of the text
pub lines_from_fields : (text o s r : List ℕ) (e : List (List ℕ)) → HasFields text o s r e →
    HasLines text (o ∷ s ∷ r ∷ e)
lines_from_fields text o s r e h = record { is_text = h.is_text; are_lines = are_lines (o ∷ s ∷ r ∷ e) h.are_full }

-- a text has only one list of fields
pub record SameFields (o s r : List ℕ) (e : List (List ℕ)) (o' s' r' : List ℕ) (e' : List (List ℕ)) : Type 0 where
  pub origin : o ≡ o'
  pub size : s ≡ s'
  pub root : r ≡ r'
  pub extensions : e ≡ e'

pub one_fields : (text o s r : List ℕ) (e : List (List ℕ)) (o' s' r' : List ℕ) (e' : List (List ℕ)) →
    HasFields text o s r e → HasFields text o' s' r' e' → SameFields o s r e o' s' r' e'
one_fields text o s r e o' s' r' e' p q =
    let same =
    one_lines text (o ∷ s ∷ r ∷ e) (o' ∷ s' ∷ r' ∷ e') (lines_from_fields text o s r e p)
    (lines_from_fields text o' s' r' e' q) in
    record { origin = cc same; size = cc same; root = cc same; extensions = cc same }

pub one_text : CheckpointHasOneText
one_text s t origin size root extensions p q =
    let small : size < 2 ^ 64 = omega (arith, p.in_range) in
    let size_lines : p.size_line ≡ q.size_line =
    decimal_is p.size_line size small p.has_size ∙ sym (decimal_is q.size_line size small q.has_size) in
    let root_lines : p.root_line ≡ q.root_line = p.has_root.is_base64 ∙ sym q.has_root.is_base64 in
    let lines : text_of (origin ∷ p.size_line ∷ p.root_line ∷ extensions)
    ≡ text_of (origin ∷ q.size_line ∷ q.root_line ∷ extensions) = rw (size_lines, root_lines) refl in
    p.fields.is_text ∙ lines ∙ sym q.fields.is_text

pub reads_writable : WhatIsReadIsWritable
reads_writable text c p =
    record { origin = p.fields.are_full.0; size = p.in_range; extensions = p.fields.are_full.1.1.1 }
