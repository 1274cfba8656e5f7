-- Bytes are read as a key file in only one way.
use Rattle.std.proofs.Common.{◌≡◌, ◌≢◌, ℕ, suc, ◌+◌, List, [], ◌∷◌, ◌++◌, length, refl, sym, ap, ◌∙◌, subst, arith}
use Rattle.std.proofs.Common.{append_assoc, length-append}
use Rattle.std.specs.Prelude.{Ok, Err}
use Rattle.hex.proofs.HexLemmas.{decode_of-same}
use Rattle.signed_note.specs.Names.{newline}
use Rattle.signed_note.specs.KeyKinds.{Secret, Pins}
use Rattle.signed_note.specs.KeyFiles.{IsHexOf, HasWords, IsKeyLine, IsKeyFile, BeginsWithNoKey}
use Rattle.signed_note.specs.KeyLaws.{OneKeyAnswer}
use Rattle.signed_note.specs.declared.key_line.KeyLine.{KeyLine}
use Rattle.signed_note.specs.declared.key_line.KeyLine.TheVariants.{Hmac, Pin}
use Rattle.signed_note.specs.declared.key_fault.KeyFileFault.TheVariants.{BadKeyLine, OutOfMemory}
use Rattle.signed_note.proofs.Lacking.{cut_once}
use Rattle.signed_note.proofs.NameBytes.{name_lacks_space}
use Rattle.signed_note.proofs.KeyWords.{same_words}
use Rattle.signed_note.proofs.KeyLines.{key_line_lacks, kinds_differ}

-- the words of a text have only one name, id and list of bytes
one_key : (text name : List ℕ) (id : ℕ) (bytes other : List ℕ) (n : ℕ) (more : List ℕ) → HasWords text name id bytes →
    HasWords text other n more → (name ≡ other) × (id ≡ n) × (bytes ≡ more)
one_key text name id bytes other n more h g =
    let same =
    same_words text name h.digits other g.digits id n h.words
    (name_lacks_space name h.own_name.key_name) g.own_name g.words in (
      same.0,
      same.1,
      decode_of-same h.digits bytes more h.bytes_are
          (subst (λ (x : List ℕ). IsHexOf x more) (sym same.2) g.bytes_are),
    )

Secret-same : (x y : Secret) → x.name ≡ y.name → x.id ≡ y.id → x.secret ≡ y.secret → x ≡ y
Secret-same x y n i s =
    let first : x ≡ record x { name = y.name } = ap (λ (v : List ℕ). record x { name = v }) n in
    let second : record x { name = y.name } ≡ record x { name = y.name; id = y.id } =
    ap (λ (v : ℕ). record x { name = y.name; id = v }) i in
    let third : record x { name = y.name; id = y.id } ≡ y = ap (λ (v : List ℕ). record y { secret = v }) s in
    first ∙ (second ∙ third)

Pins-same : (x y : Pins) → x.name ≡ y.name → x.id ≡ y.id → x.digests ≡ y.digests → x ≡ y
Pins-same x y n i s =
    let first : x ≡ record x { name = y.name } = ap (λ (v : List ℕ). record x { name = v }) n in
    let second : record x { name = y.name } ≡ record x { name = y.name; id = y.id } =
    ap (λ (v : ℕ). record x { name = y.name; id = v }) i in
    let third : record x { name = y.name; id = y.id } ≡ y = ap (λ (v : List (List ℕ)). record y { digests = v }) s in
    first ∙ (second ∙ third)

-- a line gives at most one key
one_key_line : (line : List ℕ) (key other : KeyLine) → IsKeyLine line key → IsKeyLine line other → key ≡ other
one_key_line line (Hmac k) (Hmac j) h g =
    let whole = sym h.1 ∙ g.1 in
    let text : h.0 ≡ g.0 = cc whole in
    let same =
    one_key h.0 k.name k.id k.secret j.name j.id j.secret h.2.0
    (subst (λ (x : List ℕ). HasWords x j.name j.id j.secret) (sym text) g.2.0) in
    ap Hmac (Secret-same k j same.0 same.1 same.2)
one_key_line line (Hmac k) (Pin p) h g = absurd (kinds_differ h.0 g.0 (sym h.1 ∙ g.1))
one_key_line line (Pin p) (Hmac k) h g = absurd (kinds_differ g.0 h.0 (sym g.1 ∙ h.1))
one_key_line line (Pin p) (Pin q) h g =
    let whole = sym h.1 ∙ g.1 in
    let text : h.0 ≡ g.0 = cc whole in
    let same =
    one_key h.0 p.name p.id h.2.0 q.name q.id g.2.0 h.2.1
    (subst (λ (x : List ℕ). HasWords x q.name q.id g.2.0) (sym text) g.2.1) in
    ap Pin (Pins-same p q same.0 same.1 (h.2.3 ∙ (ap (λ (d : List ℕ). d ∷ []) same.2 ∙ sym g.2.3)))

-- two first lines that give keys are the same line
same_line : (a b d e : List ℕ) (key other : KeyLine) → a ++ newline ∷ b ≡ d ++ newline ∷ e → IsKeyLine a key →
    IsKeyLine d other → (a ≡ d) × (b ≡ e)
same_line a b d e key other is h g = cut_once newline a b d e is (key_line_lacks a key h) (key_line_lacks d other g)

ended_some : (a b : List ℕ) → a ++ newline ∷ b ≡ [] → ⊥
ended_some a b e = omega (arith, ap length e, length-append a (newline ∷ b))

one_file : (bytes : List ℕ) (keys others : List KeyLine) → IsKeyFile bytes keys → IsKeyFile bytes others → keys ≡ others
one_file bytes [] [] h g = refl
one_file bytes [] (j ∷ others) h g = absurd (ended_some g.0 g.1 (sym g.2 ∙ h))
one_file bytes (k ∷ keys) [] h g = absurd (ended_some h.0 h.1 (sym h.2 ∙ g))
one_file bytes (k ∷ keys) (j ∷ others) h g =
    let cut = same_line h.0 h.1 g.0 g.1 k j (sym h.2 ∙ g.2) h.3 g.3 in
    let head : k ≡ j = one_key_line h.0 k j h.3 (subst (λ (x : List ℕ). IsKeyLine x j) (sym cut.0) g.3) in
    let tail : keys ≡ others =
    one_file h.1 keys others h.4 (subst (λ (x : List ℕ). IsKeyFile x others) (sym cut.1) g.4) in
    ap (λ (x : KeyLine). x ∷ keys) head ∙ ap (λ (xs : List KeyLine). j ∷ xs) tail

-- a key file has no bad line
no_bad_line : (bytes front rest : List ℕ) (keys good : List KeyLine) → IsKeyFile bytes keys → IsKeyFile front good →
    bytes ≡ front ++ rest → rest ≢ [] → BeginsWithNoKey rest → ⊥
no_bad_line bytes front rest [] [] h g is some bad = some (ap (λ (x : List ℕ). x ++ rest) (sym g) ∙ (sym is ∙ h))
no_bad_line bytes front rest (k ∷ keys) [] h g is some bad =
    bad h.0 h.1 k (ap (λ (x : List ℕ). x ++ rest) (sym g) ∙ (sym is ∙ h.2)) h.3
no_bad_line bytes front rest [] (j ∷ good) h g is some bad =
    ended_some g.0 (g.1 ++ rest)
    (sym (append_assoc g.0 (newline ∷ g.1) rest) ∙ (ap (λ (x : List ℕ). x ++ rest) (sym g.2) ∙ (sym is ∙ h)))
no_bad_line bytes front rest (k ∷ keys) (j ∷ good) h g is some bad =
    let cut =
    same_line h.0 h.1 g.0 (g.1 ++ rest) k j
    (sym h.2 ∙ (is ∙ (ap (λ (x : List ℕ). x ++ rest) g.2 ∙ append_assoc g.0 (newline ∷ g.1) rest))) h.3 g.3 in
    no_bad_line h.1 g.1 rest keys good h.4 g.4 cut.1 some bad

-- the number of the first bad line is unique
one_number : (front rest other more : List ℕ) (good fine : List KeyLine) → IsKeyFile front good → IsKeyFile other fine →
    front ++ rest ≡ other ++ more → BeginsWithNoKey rest → BeginsWithNoKey more → length good ≡ length fine
one_number front rest other more [] [] h g is bad worse = refl
one_number front rest other more [] (j ∷ fine) h g is bad worse =
    absurd (bad g.0 (g.1 ++ more) j
    (ap (λ (x : List ℕ). x ++ rest) (sym h) ∙
    (is ∙ (ap (λ (x : List ℕ). x ++ more) g.2 ∙ append_assoc g.0 (newline ∷ g.1) more))) g.3)
one_number front rest other more (k ∷ good) [] h g is bad worse =
    absurd (worse h.0 (h.1 ++ rest) k
    (ap (λ (x : List ℕ). x ++ more) (sym g) ∙
    (sym is ∙ (ap (λ (x : List ℕ). x ++ rest) h.2 ∙ append_assoc h.0 (newline ∷ h.1) rest))) h.3)
one_number front rest other more (k ∷ good) (j ∷ fine) h g is bad worse =
    let left : front ++ rest ≡ h.0 ++ newline ∷ (h.1 ++ rest) =
    ap (λ (x : List ℕ). x ++ rest) h.2 ∙ append_assoc h.0 (newline ∷ h.1) rest in
    let right : other ++ more ≡ g.0 ++ newline ∷ (g.1 ++ more) =
    ap (λ (x : List ℕ). x ++ more) g.2 ∙ append_assoc g.0 (newline ∷ g.1) more in
    let cut = same_line h.0 (h.1 ++ rest) g.0 (g.1 ++ more) k j (sym left ∙ (is ∙ right)) h.3 g.3 in
    ap (λ (n : ℕ). suc n) (one_number h.1 rest g.1 more good fine h.4 g.4 cut.1 bad worse)

pub one_key_answer : OneKeyAnswer
one_key_answer bytes (Ok keys) (Ok others) na nb h g = ap Ok (one_file bytes keys others h g)
one_key_answer bytes (Ok keys) (Err (BadKeyLine n)) na nb h g =
    absurd (no_bad_line bytes g.front g.rest keys g.good h g.keys g.whole g.some g.bad)
one_key_answer bytes (Err (BadKeyLine n)) (Ok keys) na nb h g =
    absurd (no_bad_line bytes h.front h.rest keys h.good g h.keys h.whole h.some h.bad)
one_key_answer bytes (Err (BadKeyLine n)) (Err (BadKeyLine m)) na nb h g =
    let same : length h.good ≡ length g.good =
    one_number h.front h.rest g.front g.rest h.good g.good h.keys g.keys (sym h.whole ∙ g.whole) h.bad g.bad in
    ap (λ (k : ℕ). Err (BadKeyLine k)) (h.place ∙ (ap (λ (k : ℕ). k + 1) same ∙ sym g.place))
one_key_answer bytes (Err OutOfMemory) b na nb h g = absurd (na refl)
one_key_answer bytes a (Err OutOfMemory) na nb h g = absurd (nb refl)
