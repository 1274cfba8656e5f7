-- The text of a checkpoint can be signed.
use Rattle.std.proofs.Common.{◌≡◌, ℕ, ◌<◌, ◌≤◌, ◌^◌, true, false, not, ◌==◌, List, [], ◌∷◌, ◌++◌, length, get_or, All}
use Rattle.std.proofs.Common.{Any, Contains, refl, sym, ap, ◌∙◌, subst, inl, inr, arith, lit<, length-append}
use Rattle.std.proofs.Common.{append_assoc}
use lib.Utf8.{encode, encodes}
use Rattle.std.specs.List.{list_all, AllPass}
use Rattle.std.specs.Str.{chars}
use Rattle.std.specs.Str.Parse.{AllDigits}
use Rattle.std.proofs.lemmas.Bool.{cases_lt}
use Rattle.std.proofs.lemmas.Fmt.{length-decimal-le}
use Rattle.std.proofs.lemmas.List.{append-nil}
use Rattle.std.proofs.lemmas.List.Elements.{All-nil, All-cons, All-head, All-tail}
use Rattle.std.proofs.lemmas.Str.{chars-encodes, encode_ascii}
use Rattle.std.proofs.lemmas.Str.Parse.{digit_from_value}
use Rattle.std.proofs.lemmas.Fmt.{IsAscii-from_digits}
use Rattle.tlog_text.specs.Number.{IsDecimal}
use Rattle.tlog_text.specs.Hash.{base64_of}
use Rattle.tlog_text.proofs.Decimals.{decimal_is}
use Rattle.tlog_text.proofs.Hashes.{length-hash}
use Rattle.tlog_shape.specs.declared.TheConstants.{MAX_SIZE}
use Rattle.tlog_checkpoint.specs.Lines.{is_newline, ended, text_of}
use Rattle.tlog_checkpoint.specs.Grammar.{IsFullLine, IsCheckpoint}
use Rattle.signed_note.specs.Keys.{Key}
use Rattle.signed_note.specs.Names.{newline, is_note_char, IsNoteText}
use Rattle.signed_note.specs.Notes.{SignatureParts, Opens, IsAcceptedBy}
use Rattle.signed_note.specs.Signing.{IsLawfulText}
use Rattle.signed_note.proofs.Payloads.{Passing, base64_passes, base64_is_ascii}
use Rattle.signed_note.proofs.Signed.{text_append, ascii_text, newline_text}
use Rattle.mirror_model.specs.Origin.{IsOrigin}

-- ---- the origin

printed_char : (c : ℕ) → 32 ≤ c → is_note_char c ≡ true
printed_char c h = grind arith

all_right : {X : Type 0} (P : X → Type 0) (xs ys : List X) → All P (xs ++ ys) → All P ys
all_right P [] ys h = h
all_right P (x ∷ xs) ys h = all_right P xs ys (All-tail P x (xs ++ ys) h)

-- a character whose bytes are all 32 or more may occur in a note
printed_chars : (cs : List ℕ) → All (λ byte. 32 ≤ byte) (encodes cs) → AllPass is_note_char cs
printed_chars [] h = All-nil (λ c. is_note_char c ≡ true)
printed_chars (c ∷ cs) h =
    All-cons (λ y. is_note_char y ≡ true) c cs
    (elim (cases_lt c 128) [
      | inl ascii ↦
          let front : encode c ++ encodes cs ≡ c ∷ encodes cs =
          ap (λ (xs : List ℕ). xs ++ encodes cs) (encode_ascii c ascii) in
          printed_char c (All-head (λ byte. 32 ≤ byte) c (encodes cs) (subst (All (λ byte. 32 ≤ byte)) front h))
      | inr wide ↦ printed_char c (omega arith)
    ])
    (printed_chars cs (all_right (λ byte. 32 ≤ byte) (encode c) (encodes cs) h))

pub origin_text : (origin : List ℕ) → IsOrigin origin → IsNoteText origin
origin_text origin h =
    let cs = h.utf8.0 in
    let spelled : encodes cs ≡ origin = h.utf8.1.1 in
    record {
      utf8 = h.utf8;
      characters =
          subst (AllPass is_note_char) (sym (chars-encodes cs h.utf8.1.0) ∙ ap chars spelled)
          (printed_chars cs (subst (All (λ byte. 32 ≤ byte)) (sym spelled) h.printed));
    }

no_newline : (line : List ℕ) → All (λ byte. 32 ≤ byte) line → list_all (λ byte. not (is_newline byte)) line ≡ true
no_newline [] h = refl
no_newline (b ∷ line) h =
    let le : 32 ≤ b = All-head (λ byte. 32 ≤ byte) b line h in
    let rest = no_newline line (All-tail (λ byte. 32 ≤ byte) b line h) in
    let ne : (b == 10) ≡ false = grind arith in
    rw (ne, rest) refl

pub origin_line : (origin : List ℕ) → IsOrigin origin → IsFullLine origin
origin_line origin h = record {
  not_empty = λ e. omega (arith, h.some, ap length e);
  is_line = no_newline origin h.printed;
}

-- ---- the size and the root

digits_pass : (ds : List ℕ) → AllDigits 10 ds → Passing is_note_char ds
digits_pass [] h = tt
digits_pass (d ∷ ds) h =
    let range = digit_from_value d h.0 in
    (printed_char d (omega (arith, range.0)), digits_pass ds h.1)

number_text : (ds : List ℕ) (n : ℕ) → IsDecimal ds n → IsNoteText ds
number_text ds n h = ascii_text ds (IsAscii-from_digits ds h.numeral.1) (digits_pass ds h.numeral.1)

number_short : (ds : List ℕ) (n : ℕ) → IsDecimal ds n → n ≤ MAX_SIZE → length ds ≤ 19
number_short ds n h most =
    let fits : n < 2 ^ 64 = omega arith in
    let few : n < 10 ^ 19 = omega arith in
    omega (arith, ap length (decimal_is ds n fits h), length-decimal-le 19 n (lit< tt) few fits)

-- ---- the text

lined : (line : List ℕ) → IsNoteText line → IsNoteText (ended line)
lined line h = text_append line (newline ∷ []) h newline_text

-- three lines, with the last newline apart
text_is : (a b c : List ℕ) → text_of (a ∷ b ∷ c ∷ []) ≡ (ended a ++ (ended b ++ c)) ++ newline ∷ []
text_is a b c =
    ap (λ (x : List ℕ). ended a ++ (ended b ++ x)) (append-nil (ended c))
    ∙ ap (λ (x : List ℕ). ended a ++ x) (sym (append_assoc (ended b) c (newline ∷ [])))
    ∙ sym (append_assoc (ended a) (ended b ++ c) (newline ∷ []))

pub checkpoint_text : (text origin : List ℕ) (size : ℕ) (root : List ℕ) → IsOrigin origin →
    IsCheckpoint text origin size root [] → IsLawfulText text
checkpoint_text text origin size root lawful h =
    let whole : text ≡ (ended origin ++ (ended h.size_line ++ h.root_line)) ++ newline ∷ [] =
    h.fields.is_text ∙ text_is origin h.size_line h.root_line in
    let is_base64 : h.root_line ≡ base64_of root = h.has_root.is_base64 in
    let root_text : IsNoteText h.root_line =
    subst IsNoteText (sym is_base64)
    (ascii_text (base64_of root) (base64_is_ascii root) (base64_passes root h.has_root.is_hash.are_bytes)) in
    let front : IsNoteText (ended origin ++ (ended h.size_line ++ h.root_line)) =
    text_append (ended origin) (ended h.size_line ++ h.root_line) (lined origin (origin_text origin lawful))
    (text_append (ended h.size_line) h.root_line
    (lined h.size_line (number_text h.size_line size h.has_size)) root_text) in
    let root_size : length h.root_line ≡ 44 = ap length is_base64 ∙ length-hash root h.has_root.is_hash in
    record {
      readable = subst IsNoteText (sym whole) (lined (ended origin ++ (ended h.size_line ++ h.root_line)) front);
      ended = (ended origin ++ (ended h.size_line ++ h.root_line), whole);
      short = omega (
        arith,
        ap length whole,
        length-append (ended origin ++ (ended h.size_line ++ h.root_line)) (newline ∷ []),
        length-append (ended origin) (ended h.size_line ++ h.root_line),
        length-append (ended h.size_line) h.root_line,
        length-append origin (newline ∷ []),
        length-append h.size_line (newline ∷ []),
        root_size,
        number_short h.size_line size h.has_size h.in_range,
        lawful.most,
      );
    }

-- ---- keys

any_one : {X : Type 0} (P : X → Type 0) (x : X) → Any P (x ∷ []) → P x
any_one P x h =
    let zeroth : h.0 ≡ 0 = omega (arith, h.2) in
    let same : x ≡ h.1 = subst (λ k. get_or (x ∷ []) k h.1 ≡ h.1) zeroth h.3 in
    subst P (sym same) h.4

-- a note that opens under a key opens under any list of keys that has the key
pub opens_more : (text : List ℕ) (line : SignatureParts) (key : Key) (keys : List Key) → Contains keys key →
    Opens text (line ∷ []) (key ∷ []) → Opens text (line ∷ []) keys
unfolding Opens
opens_more text line key keys has h =
    let accepted : IsAcceptedBy text line key =
    any_one (λ k. IsAcceptedBy text line k) key
    (any_one (λ l. Any (λ k. IsAcceptedBy text l k) (key ∷ [])) line h) in
    (0, line, lit< tt, refl, (has.0, key, has.1, has.2, accepted))
