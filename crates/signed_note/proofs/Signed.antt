-- The note that a shared key makes of a text.
use Rattle.std.proofs.Common.{◌≡◌, ◌≢◌, ℕ, ◌+◌, ◌<◌, ◌≤◌, ◌^◌, Bool, true, false, ◌||◌, nat_le, nat_eq, List, [], ◌∷◌}
use Rattle.std.proofs.Common.{◌++◌, length, refl, sym, ap, ◌∙◌, subst, arith, append_assoc, length-append}
use lib.Utf8.{encode}
use Rattle.std.specs.Prelude.{All, IsAscii}
use Rattle.std.specs.List.{flat_map, list_any, AllPass}
use Rattle.std.specs.Str.{chars, bytes_eq}
use Rattle.std.proofs.lemmas.List.{append-nil}
use Rattle.std.proofs.lemmas.List.Elements.{All-head, All-tail, All-append, All-weaker, All-cons, All-nil}
use Rattle.std.proofs.lemmas.List.Sums.{AllPass-from_list_all}
use Rattle.std.proofs.lemmas.Slice.Eq.{bytes_eq-Decides}
use Rattle.std.proofs.lemmas.Str.{IsUtf8-append, IsUtf8-from_ascii, chars-append, chars-IsAscii}
use Rattle.base64.specs.Rfc4648.{unpadded_len, padding_len}
use Rattle.signed_note.specs.Hmac.{hmac}
use Rattle.signed_note.specs.Keys.{Key}
use Rattle.signed_note.specs.KeyKinds.{Secret, secret_key}
use Rattle.signed_note.specs.Names.{newline, space, is_note_char, IsNoteText}
use Rattle.signed_note.specs.KeyKinds.{IsOwnName}
use Rattle.tlog_text.specs.Hash.{base64_of}
use Rattle.signed_note.specs.Notes.{SignatureParts, em_dash, signed_bytes, line_body, line_text, IsSignatureLine}
use Rattle.signed_note.specs.Notes.{IsNote}
use Rattle.signed_note.specs.Signing.{note_of_line}
use Rattle.signed_note.specs.Notes.{Opens, is_accepted_by}
use Rattle.signed_note.specs.Signing.{IsLawfulText, signed_line}
use Rattle.signed_note.specs.declared.key_limits.TheConstants.{MAX_NAME_LEN, MAX_TEXT_LEN}
use Rattle.signed_note.proofs.Digests.{hmac_fits, length-hmac}
use Rattle.signed_note.proofs.Lacking.{Lacks}
use Rattle.signed_note.proofs.LineTexts.{body_lacks_newline, signed_bytes_fit}
use Rattle.tlog_text.proofs.Hashes.{length-base64_of}
use Rattle.signed_note.proofs.Payloads.{Passing, base64_passes, base64_is_ascii}
use Rattle.signed_note.proofs.Trust.{accepts, opens_is}

-- the second cut at c is within the list from the first cut on
cut_later : (c : ℕ) (a b d e : List ℕ) → Lacks c a → a ++ (c ∷ b) ≡ d ++ (c ∷ e) → (w : List ℕ) × (c ∷ b ≡ w ++ (c ∷ e))
cut_later c [] b d e p h = (d, h)
cut_later c (x ∷ a) b [] e p h = let same : x ≡ c = cc in absurd (p.0 same)
cut_later c (x ∷ a) b (y ∷ d) e p h = let tails : a ++ (c ∷ b) ≡ d ++ (c ∷ e) = cc in cut_later c a b d e p.1 tails

-- no blank line follows the one before well-formed lines
pub no_blank_line : (lines : List SignatureParts) → All IsSignatureLine lines → (before after : List ℕ) →
    newline ∷ flat_map line_text lines ≢ before ++ newline ∷ (newline ∷ after)
no_blank_line [] h before after e = omega (arith, ap length e, length-append before (newline ∷ (newline ∷ after)))
no_blank_line (line ∷ lines) h [] after e = cc
no_blank_line (line ∷ lines) h (x ∷ before) after e =
    let tails : flat_map line_text (line ∷ lines) ≡ before ++ newline ∷ (newline ∷ after) = cc in
    let later = cut_later newline (line_body line) (flat_map line_text lines) before (newline ∷ after)
    (body_lacks_newline line (All-head IsSignatureLine line lines h))
    (sym (append_assoc (line_body line) (newline ∷ []) (flat_map line_text lines)) ∙ tails) in
    no_blank_line lines (All-tail IsSignatureLine line lines h) later.0 after later.1

AllPass-from_passing : (p : ℕ → Bool) (xs : List ℕ) → Passing p xs → AllPass p xs
AllPass-from_passing p [] h = All-nil (λ x. p x ≡ true)
AllPass-from_passing p (x ∷ xs) h = All-cons (λ y. p y ≡ true) x xs h.0 (AllPass-from_passing p xs h.1)

-- two texts in order are a text
pub text_append : (a b : List ℕ) → IsNoteText a → IsNoteText b → IsNoteText (a ++ b)
text_append a b p q = record {
  utf8 = IsUtf8-append a b p.utf8 q.utf8;
  characters =
      subst (AllPass is_note_char) (sym (chars-append a b p.utf8))
      (All-append (λ c. is_note_char c ≡ true) (chars a) (chars b) p.characters q.characters);
}

pub ascii_text : (a : List ℕ) → IsAscii a → Passing is_note_char a → IsNoteText a
ascii_text a ascii pass = record {
  utf8 = IsUtf8-from_ascii a ascii;
  characters = subst (AllPass is_note_char) (sym (chars-IsAscii a ascii)) (AllPass-from_passing is_note_char a pass);
}

or_right : (a b : Bool) → b ≡ true → (a || b) ≡ true
or_right true b h = refl
or_right false b h = h

name_text : (name : List ℕ) → IsOwnName name → IsNoteText name
name_text name own = record {
  utf8 = own.key_name.utf8;
  characters =
      All-weaker (λ c. nat_le space c ≡ true) (λ c. is_note_char c ≡ true)
      (λ c h. or_right (nat_eq c newline) (nat_le space c) h) (chars name) own.printed;
}

mark_text : IsNoteText em_dash
unfolding chars encode
mark_text =
    record { utf8 = (8212 ∷ [], (refl, refl)); characters = AllPass-from_list_all is_note_char (8212 ∷ []) refl }

space_text : IsNoteText (space ∷ [])
unfolding chars encode
space_text =
    record { utf8 = (space ∷ [], (refl, refl)); characters = AllPass-from_list_all is_note_char (space ∷ []) refl }

pub newline_text : IsNoteText (newline ∷ [])
unfolding chars encode
newline_text =
    record { utf8 = (newline ∷ [], (refl, refl)); characters = AllPass-from_list_all is_note_char (newline ∷ []) refl }

-- the line of a name of this crate may occur in a note
pub line_is_text : (line : SignatureParts) → IsSignatureLine line → IsOwnName line.name → IsNoteText (line_text line)
line_is_text line h own =
    let encoded =
    ascii_text (base64_of (signed_bytes line)) (base64_is_ascii (signed_bytes line))
    (base64_passes (signed_bytes line) (signed_bytes_fit line h)) in
    let rest = text_append (space ∷ []) (base64_of (signed_bytes line)) space_text encoded in
    let named = text_append line.name (space ∷ base64_of (signed_bytes line)) (name_text line.name own) rest in
    let spaced = text_append (space ∷ []) (line.name ++ space ∷ base64_of (signed_bytes line)) space_text named in
    let body = text_append em_dash (space ∷ (line.name ++ space ∷ base64_of (signed_bytes line))) mark_text spaced in
    text_append (line_body line) (newline ∷ []) body newline_text

signed_line_fits : (text : List ℕ) (k : Secret) → IsOwnName k.name → k.id < 2 ^ 32 →
    IsSignatureLine (signed_line text k)
signed_line_fits text k own small = record {
  name = own.key_name;
  id = small;
  some = omega (arith, length-hmac k.secret text);
  bytes = hmac_fits k.secret text;
}

-- the line that a shared key makes has at most 309 bytes
length-signed_line : (text : List ℕ) (k : Secret) → IsOwnName k.name → length (line_text (signed_line text k)) ≤ 309
length-signed_line text k own =
    let line : SignatureParts = signed_line text k in
    let name : length k.name ≤ MAX_NAME_LEN = own.short in
    let payload : length (signed_bytes line) ≡ 36 = omega (arith, length-hmac k.secret text) in
    let encoded : length (base64_of (signed_bytes line)) ≡ 48 =
    length-base64_of (signed_bytes line) ∙ ap (λ (n : ℕ). unpadded_len n + padding_len n) payload in
    let words : length (k.name ++ space ∷ base64_of (signed_bytes line))
    ≡ length k.name + length (space ∷ base64_of (signed_bytes line)) =
    length-append k.name (space ∷ base64_of (signed_bytes line)) in
    let whole : length (line_text line) ≡ length (line_body line) + 1 = length-append (line_body line) (newline ∷ []) in
    omega arith

-- the text of the line, with its parts joined from the right
pub line_text-right : (name encoded : List ℕ) →
    (em_dash ++ space ∷ (name ++ space ∷ encoded)) ++ newline ∷ []
    ≡ em_dash ++ space ∷ (name ++ space ∷ (encoded ++ newline ∷ []))
line_text-right name encoded =
    ap (λ (x : List ℕ). em_dash ++ space ∷ x) (append_assoc name (space ∷ encoded) (newline ∷ []))

-- the signed bytes are a note
pub signed_is_note : (text : List ℕ) (k : Secret) → IsLawfulText text → IsOwnName k.name → k.id < 2 ^ 32
    → IsNote (text ++ newline ∷ line_text (signed_line text k)) text (signed_line text k ∷ [])
signed_is_note text k lawful own small =
    let line : SignatureParts = signed_line text k in
    let fits : IsSignatureLine line = signed_line_fits text k own small in
    let all : All IsSignatureLine (line ∷ []) = All-cons IsSignatureLine line [] fits (All-nil IsSignatureLine) in
    let one : flat_map line_text (line ∷ []) ≡ line_text line = append-nil (line_text line) in
    let room : length text ≤ MAX_TEXT_LEN = lawful.short in
    let signed : IsNoteText (newline ∷ line_text line) =
    text_append (newline ∷ []) (line_text line) newline_text (line_is_text line fits own) in
    record {
      short = omega (arith, length-append text (newline ∷ line_text line), length-signed_line text k own);
      readable = text_append text (newline ∷ line_text line) lawful.readable signed;
      split = record {
        whole = ap (λ (x : List ℕ). text ++ newline ∷ x) (sym one);
        ended = lawful.ended;
        last = no_blank_line (line ∷ []) all;
      };
      well_formed = all;
      some = omega arith;
      few = omega arith;
    }

-- a signed text opens under its key
pub signed_opens : (text : List ℕ) (k : Secret) → Opens text (signed_line text k ∷ []) (secret_key k ∷ [])
signed_opens text k =
    let line : SignatureParts = signed_line text k in
    let same : bytes_eq (hmac k.secret text) (hmac k.secret text) ≡ true =
    (bytes_eq-Decides (hmac k.secret text) (hmac k.secret text)).1 refl in
    let taken : is_accepted_by text line (secret_key k) ≡ true =
    accepts text line (secret_key k) (record { name = refl; id = refl; signature = same }) in
    let any : true ≡ list_any (λ l. list_any (λ key. is_accepted_by text l key) (secret_key k ∷ [])) (line ∷ []) =
    sym (rw taken refl) in
    (opens_is (λ (key : Key). key) text (line ∷ []) (secret_key k ∷ []) true any).0 refl

-- the written bytes are that note
pub written : (items text name encoded : List ℕ) (k : Secret) →
    items ≡ note_of_line text name encoded → name ≡ k.name →
    encoded ≡ base64_of (signed_bytes (signed_line text k))
    → items ≡ text ++ newline ∷ line_text (signed_line text k)
written items text name encoded k is named of =
    is ∙ (ap (λ (x : List ℕ). text ++ newline ∷ x) (sym (line_text-right name encoded))
    ∙ (ap (λ (x : List ℕ). text ++ newline ∷ ((em_dash ++ space ∷ (x ++ space ∷ encoded)) ++ newline ∷ [])) named
    ∙ ap (λ (x : List ℕ). text ++ newline ∷ ((em_dash ++ space ∷ (k.name ++ space ∷ x)) ++ newline ∷ [])) of))
