-- The lines of a signature part, in order.
use Rattle.std.proofs.Common.{◌≡◌, ℕ, ◌<◌, List, [], ◌∷◌, ◌++◌, length, sym, ap, ◌∙◌, arith, append_assoc}
use Rattle.std.proofs.Common.{length-append}
use Rattle.std.specs.List.{flat_map}
use Rattle.std.proofs.lemmas.List.{append-nil}
use Rattle.std.proofs.lemmas.List.Elements.{All-head, All-tail}
use Rattle.std.proofs.lemmas.List.Concat.{flat_map-append}
use Rattle.signed_note.specs.Names.{newline}
use Rattle.signed_note.specs.Notes.{SignatureParts, line_body, line_text, IsSignatureLine}
use Rattle.std.specs.Prelude.{Err}
use Rattle.signed_note.specs.Reading.{AreSignatureLines, ReadsLine, ReadsSignatureLines}
use Rattle.signed_note.specs.declared.fault.NoteFault.{NoteFault}
use Rattle.signed_note.specs.declared.fault.NoteFault.TheVariants.{NoteTooLong, NotText, NoSignatures}
use Rattle.signed_note.specs.declared.fault.NoteFault.TheVariants.{TooManySignatures, BadSignatureLine, OutOfMemory}
use Rattle.signed_note.proofs.Lacking.{Lacks, cut_once, no_cut}
use Rattle.signed_note.proofs.LineTexts.{body_lacks_newline}

-- the first line of a part ends at its first newline
pub next_line : (rest line after : List ℕ) (lines : List SignatureParts) → rest ≡ line ++ newline ∷ after →
    Lacks newline line →
    AreSignatureLines rest lines
    → (first : SignatureParts) × (more : List SignatureParts) × (line ≡ line_body first) × IsSignatureLine first
    × AreSignatureLines after more
next_line rest line after [] is lacks h =
    absurd (omega (arith, ap length (sym is ∙ h.whole), length-append line (newline ∷ after)))
next_line rest line after (first ∷ more) is lacks h =
    let good : IsSignatureLine first = All-head IsSignatureLine first more h.well_formed in
    let cut =
    cut_once newline line after (line_body first) (flat_map line_text more)
    (sym is ∙ (h.whole ∙ append_assoc (line_body first) (newline ∷ []) (flat_map line_text more))) lacks
    (body_lacks_newline first good) in (
      first,
      more,
      cut.0,
      good,
      record { whole = cut.1; well_formed = All-tail IsSignatureLine first more h.well_formed },
    )

-- a part without a newline that is not empty has no list of lines
pub no_line : (rest : List ℕ) (lines : List SignatureParts) → Lacks newline rest → 0 < length rest →
    AreSignatureLines rest lines → ⊥
no_line rest [] lacks some h = omega (arith, ap length h.whole)
no_line rest (first ∷ more) lacks some h =
    no_cut newline rest (line_body first) (flat_map line_text more)
    (h.whole ∙ append_assoc (line_body first) (newline ∷ []) (flat_map line_text more)) lacks

-- one more line was read
pub one_more : (signed line after : List ℕ) (lines : List SignatureParts) (next : SignatureParts) →
    signed ≡ flat_map line_text lines ++ (line ++ newline ∷ after) → line ≡ line_body next →
    signed ≡ flat_map line_text (lines ++ next ∷ []) ++ after
one_more signed line after lines next is read =
    let text : line ++ newline ∷ after ≡ line_text next ++ after =
    rw read (sym (append_assoc (line_body next) (newline ∷ []) after)) in
    let last : flat_map line_text (next ∷ []) ≡ line_text next = append-nil (line_text next) in
    is ∙ (rw text
    (sym (append_assoc (flat_map line_text lines) (line_text next) after) ∙
    ap (λ (x : List ℕ). x ++ after)
    (ap (λ (x : List ℕ). flat_map line_text lines ++ x) (sym last) ∙
    sym (flat_map-append line_text lines (next ∷ [])))))

-- if the next line is refused, so is the whole part
pub line_refused : (signed rest line after : List ℕ) (fault : NoteFault) → rest ≡ line ++ newline ∷ after →
    Lacks newline line →
    ((all : List SignatureParts) → AreSignatureLines signed all →
    (more : List SignatureParts) × AreSignatureLines rest more)
    → ReadsLine line (Err fault) → ReadsSignatureLines signed (Err fault)
line_refused signed rest line after NoteTooLong is lacks goes_on h = h
line_refused signed rest line after NotText is lacks goes_on h = h
line_refused signed rest line after NoSignatures is lacks goes_on h = h
line_refused signed rest line after TooManySignatures is lacks goes_on h = h
line_refused signed rest line after BadSignatureLine is lacks goes_on h = λ all are.
    let more = goes_on all are in
    let next = next_line rest line after more.0 is lacks more.1 in
    h next.0 next.3 next.2
line_refused signed rest line after OutOfMemory is lacks goes_on h = tt
