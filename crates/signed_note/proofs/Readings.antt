-- The answer of reading a note, from its steps.
use Rattle.std.proofs.Common.{◌≡◌, ◌≢◌, ℕ, ◌≤◌, true, false, nat_eq, List, [], ◌∷◌, length, refl, sym, ap, subst, ◌∙◌}
use Rattle.std.proofs.Common.{arith}
use Rattle.std.specs.Prelude.{Err}
use Rattle.std.specs.List.{list_all}
use Rattle.std.specs.Str.{IsUtf8, chars}
use Rattle.std.proofs.lemmas.Bool.Decides.{Decides-eqb}
use Rattle.std.proofs.lemmas.List.Sums.{AllPass-from_list_all, list_all-from_AllPass}
use Rattle.signed_note.specs.Names.{is_note_char, IsNoteText}
use Rattle.signed_note.specs.Notes.{SignatureParts, IsNoteSplit, IsNote}
use Rattle.signed_note.specs.Reading.{line_count, AreSignatureLines, HasPart, ReadsSignatureLines, ReadsNote}
use Rattle.signed_note.specs.declared.limits.TheConstants.{MAX_LINES, MAX_NOTE_LEN}
use Rattle.signed_note.specs.declared.fault.NoteFault.{NoteFault}
use Rattle.signed_note.specs.declared.fault.NoteFault.TheVariants.{NoteTooLong, NotText, NoSignatures}
use Rattle.signed_note.specs.declared.fault.NoteFault.TheVariants.{TooManySignatures, BadSignatureLine, OutOfMemory}
use Rattle.signed_note.proofs.LineCounts.{line_count-lines}

pub note_text : (bytes : List ℕ) → IsUtf8 bytes → list_all is_note_char (chars bytes) ≡ true → IsNoteText bytes
note_text bytes utf8 pass = record { utf8 = utf8; characters = AllPass-from_list_all is_note_char (chars bytes) pass }

pub passes_from_text : (bytes : List ℕ) → IsNoteText bytes → list_all is_note_char (chars bytes) ≡ true
passes_from_text bytes h = list_all-from_AllPass is_note_char (chars bytes) h.characters

pub no_bytes : (xs : List ℕ) → nat_eq (length xs) 0 ≡ true → xs ≡ []
no_bytes [] h = refl
no_bytes (x ∷ xs) h = let none : length (x ∷ xs) ≡ 0 = (Decides-eqb (length (x ∷ xs)) 0).0 h in absurd (omega arith)

pub some_bytes : (xs : List ℕ) → nat_eq (length xs) 0 ≡ false → xs ≢ []
some_bytes [] h e = cc
some_bytes (x ∷ xs) h e = cc

-- bytes that were read as text, and split at a blank line with bytes after it, have a signature part
pub part_of : (bytes read text signed : List ℕ) → length bytes ≤ MAX_NOTE_LEN → read ≡ bytes → IsUtf8 bytes →
    list_all is_note_char (chars read) ≡ true → IsNoteSplit read text signed → nat_eq (length signed) 0 ≡ false →
    HasPart bytes text signed
part_of bytes read text signed short same utf8 pass split some = record {
  readable = record {
    short = short;
    readable = note_text bytes utf8 (ap (λ (x : List ℕ). list_all is_note_char (chars x)) (sym same) ∙ pass);
  };
  split = subst (λ (x : List ℕ). IsNoteSplit x text signed) same split;
  some = some_bytes signed some;
}

-- the bytes are a note if they are readable and their part is signature lines
pub note_from_lines : (bytes text signed : List ℕ) (lines : List SignatureParts) → HasPart bytes text signed →
    line_count signed ≤ MAX_LINES → AreSignatureLines signed lines → IsNote bytes text lines
note_from_lines bytes text signed [] part few are = absurd (part.some are.whole)
note_from_lines bytes text signed (line ∷ lines) part few are = record {
  short = part.readable.short;
  readable = part.readable.readable;
  split = subst (IsNoteSplit bytes text) are.whole part.split;
  well_formed = are.well_formed;
  some = omega arith;
  few = omega (arith, ap line_count are.whole, line_count-lines (line ∷ lines) are.well_formed);
}

-- a fault of the signature lines is a fault of the note
pub note_refused : (bytes text signed : List ℕ) (fault : NoteFault) → HasPart bytes text signed →
    line_count signed ≤ MAX_LINES → ReadsSignatureLines signed (Err fault) → ReadsNote bytes (Err fault)
note_refused bytes text signed NoteTooLong part few h = absurd h
note_refused bytes text signed NotText part few h = absurd h
note_refused bytes text signed NoSignatures part few h = absurd h
note_refused bytes text signed TooManySignatures part few h = absurd h
note_refused bytes text signed BadSignatureLine part few h = (text, signed, part, few, h)
note_refused bytes text signed OutOfMemory part few h = tt
