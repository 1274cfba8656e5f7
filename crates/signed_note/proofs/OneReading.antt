-- Bytes are read as a note in only one way.
use Rattle.std.proofs.Common.{◌≡◌, ◌≢◌, ◌↔◌, IsTrue, ℕ, zero, suc, ◌<◌, ◌≤◌, Bool, List, [], ◌∷◌, length, take, drop}
use Rattle.std.proofs.Common.{refl, sym, ap, subst, ◌∙◌, arith, append_assoc, inl, inr}
use Rattle.std.specs.Prelude.{Result, Ok, Err, All}
use Rattle.std.specs.List.{flat_map}
use Rattle.std.specs.Str.{bytes_eq}
use Rattle.std.proofs.lemmas.Bool.{cases_lt}
use Rattle.std.proofs.lemmas.Slice.Eq.{bytes_eq-Decides}
use Rattle.std.proofs.lemmas.List.Elements.{All-head, All-tail}
use Rattle.byteorder.specs.Endian.{big_bytes, big_number}
use Rattle.signed_note.specs.Names.{newline, IsNoteText}
use Rattle.tlog_text.specs.Hash.{base64_of}
use Rattle.signed_note.specs.Notes.{SignatureParts, NoteParts, signed_bytes, line_body, line_text, IsSignatureLine}
use Rattle.signed_note.specs.Notes.{IsNoteSplit}
use Rattle.signed_note.specs.Notes.{IsNote}
use Rattle.signed_note.specs.Reading.{line_count, ReadsNote}
use Rattle.signed_note.specs.Laws.{NoteHasOneReading, OneNoteAnswer}
use Rattle.signed_note.specs.declared.limits.TheConstants.{MAX_LINES, MAX_NOTE_LEN}
use Rattle.signed_note.specs.declared.fault.NoteFault.{NoteFault}
use Rattle.signed_note.specs.declared.fault.NoteFault.TheVariants.{NoteTooLong, NotText, NoSignatures}
use Rattle.signed_note.specs.declared.fault.NoteFault.TheVariants.{TooManySignatures, BadSignatureLine, OutOfMemory}
use Rattle.signed_note.proofs.Lacking.{cut_once}
use Rattle.signed_note.proofs.NameBytes.{name_lacks_space}
use Rattle.tlog_text.proofs.Hashes.{base64_of-same}
use Rattle.signed_note.proofs.Payloads.{bytes_id}
use Rattle.signed_note.proofs.LineTexts.{body_lacks_newline, line_words, signed_bytes_fit}
use Rattle.signed_note.proofs.LineCounts.{line_count-lines}
use Rattle.signed_note.proofs.Splits.{split_once}

SignatureParts-same : (x y : SignatureParts) → x.name ≡ y.name → x.id ≡ y.id → x.signature ≡ y.signature → x ≡ y
SignatureParts-same x y n i s =
    let first : x ≡ record x { name = y.name } = ap (λ (v : List ℕ). record x { name = v }) n in
    let second : record x { name = y.name } ≡ record x { name = y.name; id = y.id } =
    ap (λ (v : ℕ). record x { name = y.name; id = v }) i in
    let third : record x { name = y.name; id = y.id } ≡ y = ap (λ (v : List ℕ). record y { signature = v }) s in
    first ∙ (second ∙ third)

same_body : (x y : SignatureParts) → IsSignatureLine x → IsSignatureLine y → line_body x ≡ line_body y → x ≡ y
same_body x y p q e =
    let words =
    line_words (line_body x) x.name (base64_of (signed_bytes x)) refl (name_lacks_space x.name p.name) y q e in
    let same : signed_bytes x ≡ signed_bytes y =
    base64_of-same (signed_bytes x) (signed_bytes y) (signed_bytes_fit x p) (signed_bytes_fit y q) words.1 in
    let ids : big_bytes 4 x.id ≡ big_bytes 4 y.id = ap (take 4) same in
    SignatureParts-same x y words.0 (sym (bytes_id x.id p.id) ∙ (ap (big_number 4) ids ∙ bytes_id y.id q.id))
    (ap (drop 4) same)

same_lines : (lines others : List SignatureParts) → flat_map line_text lines ≡ flat_map line_text others →
    All IsSignatureLine lines → All IsSignatureLine others → lines ≡ others
same_lines [] [] e p q = refl
same_lines [] (y ∷ ys) e p q = absurd (omega (arith, ap length e))
same_lines (x ∷ xs) [] e p q = absurd (omega (arith, ap length e))
same_lines (x ∷ xs) (y ∷ ys) e p q =
    let good = All-head IsSignatureLine x xs p in
    let fine = All-head IsSignatureLine y ys q in
    let cut = cut_once newline (line_body x) (flat_map line_text xs) (line_body y) (flat_map line_text ys)
    (sym (append_assoc (line_body x) (newline ∷ []) (flat_map line_text xs)) ∙
    (e ∙ append_assoc (line_body y) (newline ∷ []) (flat_map line_text ys)))
    (body_lacks_newline x good) (body_lacks_newline y fine) in
    let head : x ≡ y = same_body x y good fine cut.0 in
    let tail : xs ≡ ys = same_lines xs ys cut.1 (All-tail IsSignatureLine x xs p) (All-tail IsSignatureLine y ys q) in
    ap (λ (l : SignatureParts). l ∷ xs) head ∙ ap (λ (ls : List SignatureParts). y ∷ ls) tail

pub notes_are_read : NoteHasOneReading
notes_are_read bytes text other lines others p q =
    let split = split_once bytes text (flat_map line_text lines) other (flat_map line_text others) p.split q.split in
    (split.0, same_lines lines others split.1 p.well_formed q.well_formed)

-- the rank of a fault in the order of the faults
abbrev rank_of : NoteFault → ℕ
rank_of NoteTooLong = 0
rank_of NotText = 1
rank_of NoSignatures = 2
rank_of TooManySignatures = 3
rank_of BadSignatureLine = 4
rank_of OutOfMemory = 0

abbrev rank : Result NoteParts NoteFault → ℕ
rank (Ok parts) = 5
rank (Err fault) = rank_of fault

-- facts about the bytes from a later answer in the order
length_passed : (bytes : List ℕ) (a : Result NoteParts NoteFault) → ReadsNote bytes a → 0 < rank a →
    length bytes ≤ MAX_NOTE_LEN
length_passed bytes (Ok parts) h lt = h.1.short
length_passed bytes (Err NoteTooLong) h lt = absurd (omega arith)
length_passed bytes (Err NotText) h lt = h.0
length_passed bytes (Err NoSignatures) h lt = h.0.short
length_passed bytes (Err TooManySignatures) h lt = h.2.readable.short
length_passed bytes (Err BadSignatureLine) h lt = h.2.readable.short
length_passed bytes (Err OutOfMemory) h lt = absurd (omega arith)

text_passed : (bytes : List ℕ) (a : Result NoteParts NoteFault) → ReadsNote bytes a → 1 < rank a → IsNoteText bytes
text_passed bytes (Ok parts) h lt = h.1.readable
text_passed bytes (Err NoteTooLong) h lt = absurd (omega arith)
text_passed bytes (Err NotText) h lt = absurd (omega arith)
text_passed bytes (Err NoSignatures) h lt = h.0.readable
text_passed bytes (Err TooManySignatures) h lt = h.2.readable.readable
text_passed bytes (Err BadSignatureLine) h lt = h.2.readable.readable
text_passed bytes (Err OutOfMemory) h lt = absurd (omega arith)

some_lines : (lines : List SignatureParts) → 1 ≤ length lines → flat_map line_text lines ≢ []
some_lines [] some e = omega arith
some_lines (line ∷ lines) some e = omega (arith, ap length e)

part_passed : (bytes : List ℕ) (a : Result NoteParts NoteFault) → ReadsNote bytes a → 2 < rank a →
    (text : List ℕ) × (signed : List ℕ) × IsNoteSplit bytes text signed × (signed ≢ [])
part_passed bytes (Ok parts) h lt =
    (parts.text, flat_map line_text parts.lines, h.1.split, some_lines parts.lines h.1.some)
part_passed bytes (Err NoteTooLong) h lt = absurd (omega arith)
part_passed bytes (Err NotText) h lt = absurd (omega arith)
part_passed bytes (Err NoSignatures) h lt = absurd (omega arith)
part_passed bytes (Err TooManySignatures) h lt = (h.0, h.1, h.2.split, h.2.some)
part_passed bytes (Err BadSignatureLine) h lt = (h.0, h.1, h.2.split, h.2.some)
part_passed bytes (Err OutOfMemory) h lt = absurd (omega arith)

count_passed : (bytes : List ℕ) (a : Result NoteParts NoteFault) → ReadsNote bytes a → 3 < rank a →
    (text : List ℕ) × (signed : List ℕ) × IsNoteSplit bytes text signed × (line_count signed ≤ MAX_LINES)
count_passed bytes (Ok parts) h lt =
    let few : length parts.lines ≤ MAX_LINES = h.1.few in
    (parts.text, flat_map line_text parts.lines, h.1.split, omega (arith, line_count-lines parts.lines h.1.well_formed))
count_passed bytes (Err NoteTooLong) h lt = absurd (omega arith)
count_passed bytes (Err NotText) h lt = absurd (omega arith)
count_passed bytes (Err NoSignatures) h lt = absurd (omega arith)
count_passed bytes (Err TooManySignatures) h lt = absurd (omega arith)
count_passed bytes (Err BadSignatureLine) h lt = (h.0, h.1, h.2.split, h.3)
count_passed bytes (Err OutOfMemory) h lt = absurd (omega arith)

lines_passed : (bytes : List ℕ) (a : Result NoteParts NoteFault) → ReadsNote bytes a → 4 < rank a →
    (text : List ℕ) × (lines : List SignatureParts) × IsNote bytes text lines
lines_passed bytes (Ok parts) h lt = (parts.text, parts.lines, h.1)
lines_passed bytes (Err NoteTooLong) h lt = absurd (omega arith)
lines_passed bytes (Err NotText) h lt = absurd (omega arith)
lines_passed bytes (Err NoSignatures) h lt = absurd (omega arith)
lines_passed bytes (Err TooManySignatures) h lt = absurd (omega arith)
lines_passed bytes (Err BadSignatureLine) h lt = absurd (omega arith)
lines_passed bytes (Err OutOfMemory) h lt = absurd (omega arith)

rank_of_fault : (fault : NoteFault) → rank_of fault < 5
rank_of_fault NoteTooLong = omega arith
rank_of_fault NotText = omega arith
rank_of_fault NoSignatures = omega arith
rank_of_fault TooManySignatures = omega arith
rank_of_fault BadSignatureLine = omega arith
rank_of_fault OutOfMemory = omega arith

rank_most : (a : Result NoteParts NoteFault) → rank a < 6
rank_most (Ok parts) = omega arith
rank_most (Err fault) = omega (arith, rank_of_fault fault)

-- no answer comes later in the order than another answer
no_further : (bytes : List ℕ) (a b : Result NoteParts NoteFault) → ReadsNote bytes a → ReadsNote bytes b →
    a ≢ Err OutOfMemory → rank a < rank b → ⊥
no_further bytes (Ok parts) b p q ne lt = omega (arith, rank_most b)
no_further bytes (Err NoteTooLong) b p q ne lt = omega (arith, length_passed bytes b q lt)
no_further bytes (Err NotText) b p q ne lt = p.1 (text_passed bytes b q lt)
no_further bytes (Err NoSignatures) b p q ne lt =
    let part = part_passed bytes b q lt in part.3 (p.1 part.0 part.1 part.2)
no_further bytes (Err TooManySignatures) b p q ne lt =
    let part = count_passed bytes b q lt in
    let same = split_once bytes p.0 p.1 part.0 part.1 p.2.split part.2 in
    let many : MAX_LINES < line_count p.1 = p.3 in
    let few : line_count part.1 ≤ MAX_LINES = part.3 in
    omega (arith, ap line_count same.1)
no_further bytes (Err BadSignatureLine) b p q ne lt =
    let note = lines_passed bytes b q lt in
    let same = split_once bytes p.0 p.1 note.0 (flat_map line_text note.1) p.2.split note.2.split in
    p.4 note.1 (record { whole = same.1; well_formed = note.2.well_formed })
no_further bytes (Err OutOfMemory) b p q ne lt = ne refl

-- the fault with that rank
abbrev fault_at : ℕ → NoteFault
fault_at zero = NoteTooLong
fault_at (suc zero) = NotText
fault_at (suc (suc zero)) = NoSignatures
fault_at (suc (suc (suc zero))) = TooManySignatures
fault_at (suc (suc (suc (suc n)))) = BadSignatureLine

at_its_rank : (fault : NoteFault) → fault ≢ OutOfMemory → fault_at (rank_of fault) ≡ fault
at_its_rank NoteTooLong ne = refl
at_its_rank NotText ne = refl
at_its_rank NoSignatures ne = refl
at_its_rank TooManySignatures ne = refl
at_its_rank BadSignatureLine ne = refl
at_its_rank OutOfMemory ne = absurd (ne refl)

NoteParts-same : (x y : NoteParts) → x.bytes ≡ y.bytes → x.text ≡ y.text → x.lines ≡ y.lines → x ≡ y
NoteParts-same x y b t l =
    let first : x ≡ record x { bytes = y.bytes } = ap (λ (v : List ℕ). record x { bytes = v }) b in
    let second : record x { bytes = y.bytes } ≡ record x { bytes = y.bytes; text = y.text } =
    ap (λ (v : List ℕ). record x { bytes = y.bytes; text = v }) t in
    let third : record x { bytes = y.bytes; text = y.text } ≡ y =
    ap (λ (v : List SignatureParts). record y { lines = v }) l in
    first ∙ (second ∙ third)

-- two notes are equal exactly if their bytes are
pub same_notes : (x y : NoteParts) → IsNote x.bytes x.text x.lines → IsNote y.bytes y.text y.lines → (b : Bool) →
    b ≡ bytes_eq x.bytes y.bytes → IsTrue b ↔ (x ≡ y)
same_notes x y p q b is = (
  λ yes.
      let e : x.bytes ≡ y.bytes = (bytes_eq-Decides x.bytes y.bytes).0 (sym is ∙ yes) in
      let parts =
      notes_are_read x.bytes x.text y.text x.lines y.lines p
      (subst (λ (v : List ℕ). IsNote v y.text y.lines) (sym e) q) in
      NoteParts-same x y e parts.0 parts.1,
  λ e. is ∙ (bytes_eq-Decides x.bytes y.bytes).1 (ap (λ (v : NoteParts). v.bytes) e),
)

same_place : (bytes : List ℕ) (a b : Result NoteParts NoteFault) → ReadsNote bytes a → ReadsNote bytes b →
    a ≢ Err OutOfMemory → b ≢ Err OutOfMemory → rank a ≡ rank b → a ≡ b
same_place bytes (Ok x) (Ok y) p q na nb e =
    let one = notes_are_read bytes x.text y.text x.lines y.lines p.1 q.1 in
    ap Ok (NoteParts-same x y (p.0 ∙ sym q.0) one.0 one.1)
same_place bytes (Ok x) (Err f) p q na nb e = absurd (omega (arith, rank_of_fault f))
same_place bytes (Err f) (Ok y) p q na nb e = absurd (omega (arith, rank_of_fault f))
same_place bytes (Err f) (Err g) p q na nb e =
    ap Err (sym (at_its_rank f (λ h. na (ap Err h))) ∙ (ap fault_at e ∙ at_its_rank g (λ h. nb (ap Err h))))

pub one_answer : OneNoteAnswer
one_answer bytes a b na nb p q =
    elim (cases_lt (rank a) (rank b)) [
      | inl lt ↦ absurd (no_further bytes a b p q na lt)
      | inr ge ↦ elim (cases_lt (rank b) (rank a)) [
        | inl lt ↦ absurd (no_further bytes b a q p nb lt)
        | inr le ↦ same_place bytes a b p q na nb (omega arith)
      ]
    ]
