-- Lines of key files: the key of a line, or that a line gives no key.
use Rattle.std.proofs.Common.{◌≡◌, ℕ, ◌+◌, ◌<◌, true, List, [], ◌∷◌, ◌++◌, length, get_or, refl, sym, ap, ◌∙◌}
use Rattle.std.proofs.Common.{subst, arith, append_assoc, length-append}
use Rattle.std.specs.Prelude.{Result, Ok, Err, IsAscii, codes}
use Rattle.std.specs.Str.{IsUtf8}
use Rattle.std.proofs.lemmas.Str.{IsUtf8-append, IsUtf8-from_ascii}
use Rattle.std.proofs.lemmas.Str.Ascii.{IsAscii-cons, IsAscii-nil, IsAscii-from_all}
use Rattle.std.proofs.lemmas.List.Elements.{All-weaker}
use Rattle.std.proofs.lemmas.Bool.Decides.{nat_tests}
use Rattle.hex.specs.Hex.{is_hex_digit}
use Rattle.hex.proofs.HexLemmas.{decode_of-ok, decode_of-same}
use Rattle.signed_note.specs.Names.{newline, space}
use Rattle.signed_note.specs.KeyKinds.{IsOwnName, IsSecret}
use Rattle.signed_note.specs.KeyFiles.{IsHexOf, AreWords, HasWords, IsSecretText, IsPinText, IsKeyLine, IsKeyFile}
use Rattle.signed_note.specs.KeyFiles.{ReadsKeys, ReadsAs, BeginsWithNoKey}
use Rattle.signed_note.specs.declared.key_line.KeyLine.{KeyLine}
use Rattle.signed_note.specs.declared.key_line.KeyLine.TheVariants.{Hmac, Pin}
use Rattle.signed_note.specs.declared.key_fault.KeyFileFault.{KeyFileFault}
use Rattle.signed_note.specs.declared.key_fault.KeyFileFault.TheVariants.{BadKeyLine, OutOfMemory}
use Rattle.signed_note.proofs.Lacking.{Lacks, Lacks-append, cut_once}
use Rattle.signed_note.proofs.NameBytes.{name_lacks_newline}
use Rattle.signed_note.proofs.KeyWords.{hex_lacks, same_words}

-- the words of a text are the words of its key
words_are : (text name digits : List ℕ) (id : ℕ) (other bytes : List ℕ) (n : ℕ) → AreWords text name id digits →
    Lacks space name → HasWords text other n bytes → (name ≡ other) × (id ≡ n) × IsHexOf digits bytes
words_are text name digits id other bytes n w lacks h =
    let same = same_words text name digits other h.digits id n w lacks h.own_name h.words in
    (same.0, same.1, subst (λ (x : List ℕ). IsHexOf x bytes) (sym same.2) h.bytes_are)

-- a text without three words is not the text of a shared key or of pinned texts
pub no_secret_words : (text : List ℕ) →
    ((name digits : List ℕ) (id : ℕ) → IsOwnName name → AreWords text name id digits → ⊥) → (key : KeyLine) →
    IsSecretText text key → ⊥
no_secret_words text none (Hmac k) h = none k.name h.0.digits k.id h.0.own_name h.0.words
no_secret_words text none (Pin p) h = h

pub no_pin_words : (text : List ℕ) →
    ((name digits : List ℕ) (id : ℕ) → IsOwnName name → AreWords text name id digits → ⊥) → (key : KeyLine) →
    IsPinText text key → ⊥
no_pin_words text none (Hmac k) h = h
no_pin_words text none (Pin p) h = none p.name h.1.digits p.id h.1.own_name h.1.words

-- a text whose last word is not hexadecimal is not the text of a shared key
no_secret_digits : (text name digits : List ℕ) (id : ℕ) → AreWords text name id digits → Lacks space name →
    ((bytes : List ℕ) → IsHexOf digits bytes → ⊥) → (key : KeyLine) → IsSecretText text key → ⊥
no_secret_digits text name digits id w lacks bad (Hmac k) h =
    bad k.secret (words_are text name digits id k.name k.secret k.id w lacks h.0).2
no_secret_digits text name digits id w lacks bad (Pin p) h = h

pub secret_refused : (text name digits : List ℕ) (id number : ℕ) (fault : KeyFileFault) → AreWords text name id digits →
    Lacks space name → ReadsAs (IsHexOf digits) number (Err fault) → ReadsAs (IsSecretText text) number (Err fault)
secret_refused text name digits id number (BadKeyLine n) w lacks h =
    (h.0, no_secret_digits text name digits id w lacks h.1)
secret_refused text name digits id number OutOfMemory w lacks h = tt

pub no_pin_digits : (text name digits : List ℕ) (id : ℕ) → AreWords text name id digits → Lacks space name →
    ((bytes : List ℕ) → length bytes ≡ 32 → IsHexOf digits bytes → ⊥) → (key : KeyLine) → IsPinText text key → ⊥
no_pin_digits text name digits id w lacks bad (Hmac k) h = h
no_pin_digits text name digits id w lacks bad (Pin p) h =
    bad h.0 h.2 (words_are text name digits id p.name h.0 p.id w lacks h.1).2

-- a text whose first word is not a key's name is not the text of a shared key
pub no_secret_name : (text name digits : List ℕ) (id : ℕ) → AreWords text name id digits → Lacks space name →
    (IsOwnName name → ⊥) → (key : KeyLine) → IsSecretText text key → ⊥
no_secret_name text name digits id w lacks bad (Hmac k) h =
    bad (subst IsOwnName (sym (words_are text name digits id k.name k.secret k.id w lacks h.0).0) h.0.own_name)
no_secret_name text name digits id w lacks bad (Pin p) h = h

pub no_pin_name : (text name digits : List ℕ) (id : ℕ) → AreWords text name id digits → Lacks space name →
    (IsOwnName name → ⊥) → (key : KeyLine) → IsPinText text key → ⊥
no_pin_name text name digits id w lacks bad (Hmac k) h = h
no_pin_name text name digits id w lacks bad (Pin p) h =
    bad (subst IsOwnName (sym (words_are text name digits id p.name h.0 p.id w lacks h.1).0) h.1.own_name)

-- a text whose bytes are not a secret is not the text of a shared key
pub no_secret_bytes : (text name digits secret : List ℕ) (id : ℕ) → AreWords text name id digits → Lacks space name →
    IsHexOf digits secret → (IsSecret secret → ⊥) → (key : KeyLine) → IsSecretText text key → ⊥
no_secret_bytes text name digits secret id w lacks is bad (Hmac k) h =
    let same : secret ≡ k.secret =
    decode_of-same digits secret k.secret is (words_are text name digits id k.name k.secret k.id w lacks h.0).2 in
    bad (subst IsSecret (sym same) h.1)
no_secret_bytes text name digits secret id w lacks is bad (Pin p) h = h

-- no line is of both kinds
pub kinds_differ : (x y : List ℕ) → codes "hmac" ++ space ∷ x ≡ codes "pin" ++ space ∷ y → ⊥
kinds_differ x y e = let first : ◌≡◌ {A = ℕ} 104 112 = ap (λ (l : List ℕ). get_or l 0 0) e in omega arith

-- the answer for the text after the first word is the answer for the line
pub from_secret : (line text : List ℕ) (number : ℕ) (r : Result KeyLine KeyFileFault) →
    line ≡ codes "hmac" ++ space ∷ text → ReadsAs (IsSecretText text) number r → ReadsAs (IsKeyLine line) number r
from_secret line text number (Ok (Hmac k)) is h = (text, is, h)
from_secret line text number (Ok (Pin p)) is h = absurd h
from_secret line text number (Err (BadKeyLine n)) is h = (h.0, λ key. only_secret line text is h.1 key)
  where
    only_secret : (line text : List ℕ) → line ≡ codes "hmac" ++ space ∷ text →
        ((key : KeyLine) → IsSecretText text key → ⊥) → (key : KeyLine) → IsKeyLine line key → ⊥
    only_secret line text is bad (Hmac k) h =
        let whole = sym h.1 ∙ is in
        let same : h.0 ≡ text = cc whole in
        bad (Hmac k) (subst (λ (x : List ℕ). IsSecretText x (Hmac k)) same h.2)
    only_secret line text is bad (Pin p) h = kinds_differ text h.0 (sym is ∙ h.1)
from_secret line text number (Err OutOfMemory) is h = tt

pub from_pin : (line text : List ℕ) (number : ℕ) (r : Result KeyLine KeyFileFault) →
    line ≡ codes "pin" ++ space ∷ text → ReadsAs (IsPinText text) number r → ReadsAs (IsKeyLine line) number r
from_pin line text number (Ok (Hmac k)) is h = absurd h
from_pin line text number (Ok (Pin p)) is h = (text, is, h)
from_pin line text number (Err (BadKeyLine n)) is h = (h.0, λ key. only_pin line text is h.1 key)
  where
    only_pin : (line text : List ℕ) → line ≡ codes "pin" ++ space ∷ text → ((key : KeyLine) → IsPinText text key → ⊥) →
        (key : KeyLine) → IsKeyLine line key → ⊥
    only_pin line text is bad (Hmac k) h = kinds_differ h.0 text (sym h.1 ∙ is)
    only_pin line text is bad (Pin p) h =
        let whole = sym h.1 ∙ is in
        let same : h.0 ≡ text = cc whole in
        bad (Pin p) (subst (λ (x : List ℕ). IsPinText x (Pin p)) same h.2)
from_pin line text number (Err OutOfMemory) is h = tt

-- a hexadecimal digit is below 128
hex_small : (c : ℕ) → is_hex_digit c ≡ true → c < 128
hex_small c h = grind (arith, nat_tests)

hex_text : (text bytes : List ℕ) → IsHexOf text bytes → IsUtf8 text
hex_text text bytes h =
    IsUtf8-from_ascii text
    (IsAscii-from_all text
    (All-weaker (λ c. is_hex_digit c ≡ true) (λ c. c < 128) hex_small text (decode_of-ok text bytes h).1))

spaced : (text : List ℕ) → IsUtf8 text → IsUtf8 (space ∷ text)
spaced text h =
    IsUtf8-append (space ∷ []) text (IsUtf8-from_ascii (space ∷ []) (IsAscii-cons space [] (omega arith) IsAscii-nil)) h

words_text : (text name bytes : List ℕ) (id : ℕ) → HasWords text name id bytes → IsUtf8 text
words_text text name bytes id h =
    let digits = spaced h.digits (hex_text h.digits bytes h.bytes_are) in
    let rest =
    spaced (h.words.id_digits ++ space ∷ h.digits)
    (IsUtf8-append h.words.id_digits (space ∷ h.digits) (hex_text h.words.id_digits _ h.words.id_is) digits) in
    subst IsUtf8 (sym h.words.whole)
    (IsUtf8-append name (space ∷ (h.words.id_digits ++ space ∷ h.digits)) h.own_name.key_name.utf8 rest)

kind_text : (kind text : List ℕ) → IsAscii kind → IsUtf8 text → IsUtf8 (kind ++ space ∷ text)
kind_text kind text ascii h = IsUtf8-append kind (space ∷ text) (IsUtf8-from_ascii kind ascii) (spaced text h)

pub key_line_text : (line : List ℕ) (key : KeyLine) → IsKeyLine line key → IsUtf8 line
key_line_text line (Hmac k) h =
    subst IsUtf8 (sym h.1) (kind_text (codes "hmac") h.0 ascii (words_text h.0 k.name k.secret k.id h.2.0))
  where
    ascii : IsAscii (codes "hmac")
    ascii = IsAscii-cons 104 (109 ∷ 97 ∷ 99 ∷ []) (omega arith)
        (IsAscii-cons 109 (97 ∷ 99 ∷ []) (omega arith)
        (IsAscii-cons 97 (99 ∷ []) (omega arith) (IsAscii-cons 99 [] (omega arith) IsAscii-nil)))
key_line_text line (Pin p) h =
    subst IsUtf8 (sym h.1) (kind_text (codes "pin") h.0 ascii (words_text h.0 p.name h.2.0 p.id h.2.1))
  where
    ascii : IsAscii (codes "pin")
    ascii = IsAscii-cons 112 (105 ∷ 110 ∷ []) (omega arith)
        (IsAscii-cons 105 (110 ∷ []) (omega arith) (IsAscii-cons 110 [] (omega arith) IsAscii-nil))

words_lack : (text name bytes : List ℕ) (id : ℕ) → HasWords text name id bytes → Lacks newline text
words_lack text name bytes id h =
    let digits : Lacks newline (space ∷ h.digits) = ((λ e. cc), hex_lacks newline h.digits bytes h.bytes_are refl) in
    let rest : Lacks newline (space ∷ (h.words.id_digits ++ space ∷ h.digits)) = (
      (λ e. cc),
      Lacks-append newline h.words.id_digits (space ∷ h.digits)
          (hex_lacks newline h.words.id_digits _ h.words.id_is refl) digits,
    ) in
    subst (Lacks newline) (sym h.words.whole)
    (Lacks-append newline name (space ∷ (h.words.id_digits ++ space ∷ h.digits))
    (name_lacks_newline name h.own_name.key_name) rest)

pub key_line_lacks : (line : List ℕ) (key : KeyLine) → IsKeyLine line key → Lacks newline line
key_line_lacks line (Hmac k) h =
    subst (Lacks newline) (sym h.1)
    ((λ e. cc), ((λ e. cc), ((λ e. cc), ((λ e. cc), ((λ e. cc), words_lack h.0 k.name k.secret k.id h.2.0)))))
key_line_lacks line (Pin p) h =
    subst (Lacks newline) (sym h.1)
    ((λ e. cc), ((λ e. cc), ((λ e. cc), ((λ e. cc), words_lack h.0 p.name h.2.0 p.id h.2.1))))

-- the file with one more line
pub file_more : (front line : List ℕ) (keys : List KeyLine) (key : KeyLine) → IsKeyFile front keys →
    IsKeyLine line key → IsKeyFile (front ++ (line ++ newline ∷ [])) (keys ++ key ∷ [])
file_more front line [] key h is = (line, [], ap (λ (x : List ℕ). x ++ (line ++ newline ∷ [])) h, is, refl)
file_more front line (k ∷ keys) key h is = (
  h.0,
  h.1 ++ (line ++ newline ∷ []),
  ap (λ (x : List ℕ). x ++ (line ++ newline ∷ [])) h.2 ∙ append_assoc h.0 (newline ∷ h.1) (line ++ newline ∷ []),
  h.3,
  file_more h.1 line keys key h.4 is,
)

-- the first line gives no key
pub no_first_key : (rest line after : List ℕ) → rest ≡ line ++ newline ∷ after → Lacks newline line →
    ((key : KeyLine) → IsKeyLine line key → ⊥) → BeginsWithNoKey rest
no_first_key rest line after is lacks bad other more key e h =
    let cut = cut_once newline line after other more (sym is ∙ e) lacks (key_line_lacks other key h) in
    bad key (subst (λ (x : List ℕ). IsKeyLine x key) (sym cut.0) h)

pub key_refused : (bytes front rest line after : List ℕ) (keys : List KeyLine) (number : ℕ) (fault : KeyFileFault) →
    bytes ≡ front ++ rest → IsKeyFile front keys → rest ≡ line ++ newline ∷ after → Lacks newline line →
    number ≡ length keys + 1
    → ReadsAs (IsKeyLine line) number (Err fault) → ReadsKeys bytes (Err fault)
key_refused bytes front rest line after keys number (BadKeyLine n) whole file is lacks place h = record {
  front = front;
  rest = rest;
  good = keys;
  whole = whole;
  keys = file;
  place = h.0 ∙ place;
  some = λ e. absurd (omega (arith, ap length (sym is ∙ e), length-append line (newline ∷ after)));
  bad = no_first_key rest line after is lacks h.1;
}
key_refused bytes front rest line after keys number OutOfMemory whole file is lacks place h = tt
