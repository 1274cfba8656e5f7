-- Signature lines: a text is the body of at most one line.
use Rattle.std.proofs.Common.{◌≡◌, ◌≢◌, ℕ, ◌+◌, ◌<◌, List, ◌∷◌, ◌++◌, length, get_or, sym, ap, ◌∙◌, subst, arith}
use Rattle.std.specs.Prelude.{Err, Option, Some, None, MatchOption}
use Rattle.base64.specs.GeneralPurpose.{IsBytes}
use Rattle.byteorder.specs.Endian.{big_bytes}
use Rattle.signed_note.specs.Names.{newline, space, IsKeyName}
use Rattle.tlog_text.specs.Hash.{base64_of}
use Rattle.signed_note.specs.Notes.{SignatureParts, em_dash, signed_bytes, line_body, IsSignatureLine}
use Rattle.signed_note.specs.Reading.{ReadsBase64, ReadsLine}
use Rattle.signed_note.specs.declared.fault.NoteFault.{NoteFault}
use Rattle.signed_note.specs.declared.fault.NoteFault.TheVariants.{NoteTooLong, NotText, NoSignatures}
use Rattle.signed_note.specs.declared.fault.NoteFault.TheVariants.{TooManySignatures, BadSignatureLine, OutOfMemory}
use Rattle.signed_note.proofs.Lacking.{Lacks, Lacks-append, Lacks-from_reads, cut_once, no_cut}
use Rattle.signed_note.proofs.NameBytes.{name_lacks_space, name_lacks_newline}
use Rattle.tlog_text.proofs.Hashes.{base64_of-same}
use Rattle.signed_note.proofs.Payloads.{base64_lacks_newline, four_bytes, IsBytes-append}

-- the em dash and two words
abbrev pub words : List ℕ → List ℕ → List ℕ
words name rest = em_dash ++ space ∷ (name ++ space ∷ rest)

words_alike : (name rest other more : List ℕ) → words name rest ≡ words other more → Lacks space name →
    Lacks space other → (name ≡ other) × (rest ≡ more)
words_alike name rest other more e p q = cut_once space name rest other more (cc) p q

pub signed_bytes_fit : (line : SignatureParts) → IsSignatureLine line → IsBytes (signed_bytes line)
signed_bytes_fit line h = IsBytes-append (big_bytes 4 line.id) line.signature (four_bytes line.id) h.bytes

pub length-signed_bytes : (line : SignatureParts) → length (signed_bytes line) ≡ length line.signature + 4
length-signed_bytes line = omega arith

-- a clause of an option follows from a stronger one
pub option_weaker : {T P R : Type 0} {Q S : T → Type 0} (o : Option T) → MatchOption o P Q → (P → R) →
    ((x : T) → Q x → S x) → MatchOption o R S
option_weaker None h f g = f h
option_weaker (Some x) h f g = g x h

-- without a second space after the em dash, there are no two words
pub no_words : (text rest : List ℕ) → text ≡ em_dash ++ space ∷ rest →
    ((i : ℕ) → i < length rest → get_or rest i 0 ≢ space) → (name more : List ℕ) → text ≢ words name more
no_words text rest is lacks name more e = no_cut space rest name more (cc) (Lacks-from_reads space rest lacks)

-- the words of a line's body are the name and the base64 of the line
pub line_words : (text name encoded : List ℕ) → text ≡ words name encoded → Lacks space name → (line : SignatureParts) →
    IsSignatureLine line → text ≡ line_body line → (name ≡ line.name) × (encoded ≡ base64_of (signed_bytes line))
line_words text name encoded is lacks line h e =
    words_alike name encoded line.name (base64_of (signed_bytes line)) (sym is ∙ e) lacks
    (name_lacks_space line.name h.name)

pub not_named : (text name encoded : List ℕ) → text ≡ words name encoded → Lacks space name → (IsKeyName name → ⊥) →
    (line : SignatureParts) → IsSignatureLine line → text ≢ line_body line
not_named text name encoded is lacks bad line h e =
    bad (subst IsKeyName (sym (line_words text name encoded is lacks line h e).0) h.name)

not_encoded : (text name encoded : List ℕ) → text ≡ words name encoded → Lacks space name →
    ((bytes : List ℕ) → IsBytes bytes → encoded ≢ base64_of bytes) → (line : SignatureParts) → IsSignatureLine line →
    text ≢ line_body line
not_encoded text name encoded is lacks bad line h e =
    bad (signed_bytes line) (signed_bytes_fit line h) (line_words text name encoded is lacks line h e).1

pub refused : (text name encoded : List ℕ) (fault : NoteFault) → text ≡ words name encoded → Lacks space name →
    ReadsBase64 encoded (Err fault) → ReadsLine text (Err fault)
refused text name encoded NoteTooLong is lacks h = h
refused text name encoded NotText is lacks h = h
refused text name encoded NoSignatures is lacks h = h
refused text name encoded TooManySignatures is lacks h = h
refused text name encoded BadSignatureLine is lacks h = not_encoded text name encoded is lacks h
refused text name encoded OutOfMemory is lacks h = tt

pub too_short : (text name encoded payload : List ℕ) → text ≡ words name encoded → Lacks space name →
    encoded ≡ base64_of payload → IsBytes payload → length payload < 5 → (line : SignatureParts) →
    IsSignatureLine line →
    text ≢ line_body line
too_short text name encoded payload is lacks of fit short line h e =
    let same : payload ≡ signed_bytes line =
    base64_of-same payload (signed_bytes line) fit (signed_bytes_fit line h)
    (sym of ∙ (line_words text name encoded is lacks line h e).1) in
    let some : 0 < length line.signature = h.some in
    absurd (omega (arith, ap length same, length-signed_bytes line))

pub body_lacks_newline : (line : SignatureParts) → IsSignatureLine line → Lacks newline (line_body line)
body_lacks_newline line h =
    let rest : Lacks newline (space ∷ base64_of (signed_bytes line)) =
    ((λ e. cc), base64_lacks_newline (signed_bytes line)) in (
      (λ e. cc),
      (
        (λ e. cc),
        (
          (λ e. cc),
          (
            (λ e. cc),
            Lacks-append newline line.name (space ∷ base64_of (signed_bytes line))
                (name_lacks_newline line.name h.name) rest,
          ),
        ),
      ),
    )
