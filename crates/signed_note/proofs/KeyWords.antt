-- The words of a line of a key file: a text has only one list of words.
use Rattle.std.proofs.Common.{◌≡◌, ℕ, ◌*◌, ◌<◌, ◌^◌, true, false, List, ◌∷◌, ◌++◌, length, refl, sym, ap, ◌∙◌, subst}
use Rattle.std.proofs.Common.{arith}
use Rattle.std.specs.Prelude.{Result, Ok, is_ok}
use Rattle.std.specs.List.{AllPass}
use Rattle.std.proofs.lemmas.Bool.{false≢true}
use Rattle.hex.specs.Hex.{is_hex_digit, decode_sized}
use Rattle.hex.specs.declared.error.FromHexError.{FromHexError}
use Rattle.hex.proofs.HexLemmas.{decode_of-ok, decode_of-same, decode_sized-twice}
use Rattle.byteorder.specs.Endian.{big_bytes, big_number}
use Rattle.signed_note.specs.Names.{space}
use Rattle.signed_note.specs.KeyKinds.{IsOwnName}
use Rattle.signed_note.specs.KeyFiles.{IsHexOf, AreWords}
use Rattle.signed_note.proofs.Lacking.{Lacks, Lacks-from_reads, cut_once, no_cut}
use Rattle.signed_note.proofs.NameBytes.{name_lacks_space}
use Rattle.signed_note.proofs.Payloads.{bytes_id}

-- a byte that is not a digit does not occur among digits
pub hex_lacks : (c : ℕ) (text bytes : List ℕ) → IsHexOf text bytes → is_hex_digit c ≡ false → Lacks c text
hex_lacks c text bytes h other =
    let all : AllPass is_hex_digit text = (decode_of-ok text bytes h).1 in
    Lacks-from_reads c text (λ i lt e. false≢true (sym other ∙ (sym (ap is_hex_digit e) ∙ all i 0 lt)))

-- the digits of n bytes decode into room for n bytes
pub sized : (text bytes : List ℕ) (n : ℕ) → length bytes ≡ n → IsHexOf text bytes → decode_sized text n ≡ Ok bytes
sized text bytes n len h =
    let twice : length text ≡ 2 * length bytes = (decode_of-ok text bytes h).2 in
    decode_sized-twice text n (omega arith) ∙ h

-- digits that do not decode into room for n bytes are not those of n bytes
pub not_sized : (text bytes : List ℕ) (n : ℕ) (r : Result (List ℕ) FromHexError) → r ≡ decode_sized text n →
    is_ok r ≡ false → length bytes ≡ n → IsHexOf text bytes → ⊥
not_sized text bytes n r is bad len h =
    let ok : is_ok r ≡ true = ap is_ok (is ∙ sized text bytes n len h) in
    false≢true (sym bad ∙ ok)

-- a text without a space does not have three words
pub no_space : (text name digits : List ℕ) (id : ℕ) → Lacks space text → AreWords text name id digits → ⊥
no_space text name digits id lacks w = no_cut space text name (w.id_digits ++ space ∷ digits) w.whole lacks

-- the text determines the first of its three words
first_word : (text name rest other digits : List ℕ) (id : ℕ) → text ≡ name ++ space ∷ rest → Lacks space name →
    IsOwnName other → (w : AreWords text other id digits) → (name ≡ other) × (rest ≡ w.id_digits ++ space ∷ digits)
first_word text name rest other digits id is lacks own w =
    cut_once space name rest other (w.id_digits ++ space ∷ digits) (sym is ∙ w.whole) lacks
    (name_lacks_space other own.key_name)

pub one_space : (text name rest other digits : List ℕ) (id : ℕ) → text ≡ name ++ space ∷ rest → Lacks space name →
    Lacks space rest → IsOwnName other → AreWords text other id digits → ⊥
one_space text name rest other digits id is lacks none own w =
    let first = first_word text name rest other digits id is lacks own w in
    no_cut space rest w.id_digits digits first.1 none

-- the text determines the second word
second_word : (text name id_digits rest other digits : List ℕ) (id : ℕ) →
    text ≡ name ++ space ∷ (id_digits ++ space ∷ rest) → Lacks space name → Lacks space id_digits → IsOwnName other →
    (w : AreWords text other id digits)
    → (name ≡ other) × (id_digits ≡ w.id_digits) × (rest ≡ digits)
second_word text name id_digits rest other digits id is lacks none own w =
    let first = first_word text name (id_digits ++ space ∷ rest) other digits id is lacks own w in
    let second =
    cut_once space id_digits rest w.id_digits digits first.1 none
    (hex_lacks space w.id_digits (big_bytes 4 id) w.id_is refl) in
    (first.0, second.0, second.1)

pub no_id : (text name id_digits rest other digits : List ℕ) (id : ℕ) →
    text ≡ name ++ space ∷ (id_digits ++ space ∷ rest) → Lacks space name → Lacks space id_digits →
    ((n : ℕ) → IsHexOf id_digits (big_bytes 4 n) → ⊥) → IsOwnName other → AreWords text other id digits → ⊥
no_id text name id_digits rest other digits id is lacks none bad own w =
    let words = second_word text name id_digits rest other digits id is lacks none own w in
    bad id (subst (λ (x : List ℕ). IsHexOf x (big_bytes 4 id)) (sym words.1) w.id_is)

-- the digits determine the id
same_id : (digits : List ℕ) (id other : ℕ) → id < 2 ^ 32 → other < 2 ^ 32 → IsHexOf digits (big_bytes 4 id) →
    IsHexOf digits (big_bytes 4 other) → id ≡ other
same_id digits id other small fits p q =
    sym (bytes_id id small) ∙
    (ap (big_number 4) (decode_of-same digits (big_bytes 4 id) (big_bytes 4 other) p q) ∙ bytes_id other fits)

-- the text determines its words
pub same_words : (text name digits other more : List ℕ) (id n : ℕ) → AreWords text name id digits → Lacks space name →
    IsOwnName other → AreWords text other n more → (name ≡ other) × (id ≡ n) × (digits ≡ more)
same_words text name digits other more id n w lacks own v =
    let words =
    second_word text name w.id_digits digits other more n w.whole lacks
    (hex_lacks space w.id_digits (big_bytes 4 id) w.id_is refl) own v in (
      words.0,
      same_id w.id_digits id n w.small v.small w.id_is
          (subst (λ (x : List ℕ). IsHexOf x (big_bytes 4 n)) (sym words.1) v.id_is),
      words.2,
    )
