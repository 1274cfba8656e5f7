-- The text of a proof in the first bytes of an input.
use Rattle.std.proofs.Common.{◌≡◌, ℕ, ◌<◌, ◌^◌, List, [], ◌∷◌, ◌++◌, take, Bool, true, false, Option, Some, None}
use Rattle.std.proofs.Common.{Result, Ok, Err, refl, sym, subst, lit<, arith}
use Rattle.std.specs.Prelude.{IfSome, nat_lt, codes}
use Rattle.std.specs.Fmt.{decimal}
use Rattle.std.specs.List.{list_all}
use Rattle.std.specs.Str.{IsAscii, IsUtf8}
use Rattle.std.proofs.lemmas.Bool.{ltb-true}
use Rattle.std.proofs.lemmas.Fmt.{IsAscii-decimal}
use Rattle.std.proofs.lemmas.List.{take_all, length-take}
use Rattle.std.proofs.lemmas.List.Elements.{All-weaker}
use Rattle.std.proofs.lemmas.List.Sums.{AllPass-from_list_all}
use Rattle.std.proofs.lemmas.Str.{IsAscii-append, IsUtf8-from_ascii}
use Rattle.std.proofs.lemmas.Str.Ascii.{IsAscii-nil, IsAscii-cons, IsAscii-from_all}
use Rattle.base64.specs.Engines.{standard}
use Rattle.base64.proofs.EngineFacts.{IsAscii-encode_of}
use Rattle.tlog_proof.specs.declared.proof.Proof.{Proof}
use Rattle.tlog_proof.specs.declared.proof.Proof.TheVariants.{Inclusion, Consistency}
use Rattle.tlog_text.specs.Hash.{base64_of}
use Rattle.tlog_proof.specs.Text.{line, number_line, hash_line, path_lines, lines_of, title_of, IsWritableProof}
use Rattle.tlog_proof.specs.Text.{IsProofText}
use Rattle.tlog_proof.proofs.Spelling.{has_one_spelling}
use Rattle.program_io.specs.declared.check.TheConstants.{MAX_READ_LEN}
use Rattle.program_io.specs.declared.check.CheckFault.{CheckFault}
use Rattle.program_io.specs.declared.check.CheckFault.TheVariants.{BadProofText, ReadFault, WriteFault}
use Rattle.program_io.specs.declared.check.CheckFault.TheVariants.{OutOfMemory}
use Rattle.program_io.specs.Check.{Judges}

-- ---- the text of a proof is ASCII

literal_ascii : (bytes : List ℕ) → list_all (λ byte. nat_lt byte 128) bytes ≡ true → IsAscii bytes
literal_ascii bytes all =
    IsAscii-from_all bytes
    (All-weaker (λ byte. nat_lt byte 128 ≡ true) (λ byte. byte < 128) (λ byte is. ltb-true byte 128 is) bytes
    (AllPass-from_list_all (λ byte. nat_lt byte 128) bytes all))

line_ascii : (name value rest : List ℕ) → IsAscii name → IsAscii value → IsAscii rest → IsAscii (line name value rest)
line_ascii name value rest p q r =
    IsAscii-append name (value ++ 10 ∷ rest) p (IsAscii-append value (10 ∷ rest) q (IsAscii-cons 10 rest (lit< tt) r))

number_ascii : (name : List ℕ) (n : ℕ) (rest : List ℕ) → n < 2 ^ 63 → IsAscii name → IsAscii rest →
    IsAscii (number_line name n rest)
number_ascii name n rest small p r = line_ascii name (decimal n) rest p (IsAscii-decimal n (omega (arith, small))) r

hash_ascii : (name hash rest : List ℕ) → IsAscii name → IsAscii rest → IsAscii (hash_line name hash rest)
unfolding base64_of
hash_ascii name hash rest p r = line_ascii name (base64_of hash) rest p (IsAscii-encode_of standard hash) r

path_ascii : (path : List (List ℕ)) → IsAscii (path_lines path [])
path_ascii [] = IsAscii-nil
path_ascii (hash ∷ path) =
    hash_ascii (codes "path ") hash (path_lines path []) (literal_ascii (codes "path ") refl) (path_ascii path)

lines_ascii : (proof : Proof) → IsWritableProof proof → IsAscii (lines_of proof)
lines_ascii (Inclusion size index root leaf path) w =
    number_ascii (codes "size ") size _ (omega (arith, w.0)) (literal_ascii (codes "size ") refl)
    (number_ascii (codes "index ") index _ (omega (arith, w.1)) (literal_ascii (codes "index ") refl)
    (hash_ascii (codes "root ") root _ (literal_ascii (codes "root ") refl)
    (hash_ascii (codes "leaf ") leaf _ (literal_ascii (codes "leaf ") refl) (path_ascii path))))
lines_ascii (Consistency first first_root second second_root path) w =
    number_ascii (codes "first ") first _ (omega (arith, w.0)) (literal_ascii (codes "first ") refl)
    (hash_ascii (codes "root ") first_root _ (literal_ascii (codes "root ") refl)
    (number_ascii (codes "second ") second _ (omega (arith, w.1)) (literal_ascii (codes "second ") refl)
    (hash_ascii (codes "root ") second_root _ (literal_ascii (codes "root ") refl) (path_ascii path))))

title_ascii : (proof : Proof) → IsAscii (title_of proof)
title_ascii (Inclusion size index root leaf path) = literal_ascii (codes "inclusion") refl
title_ascii (Consistency first first_root second second_root path) = literal_ascii (codes "consistency") refl

-- the text of a proof is UTF-8
pub proof_is_utf8 : (text : List ℕ) (proof : Proof) → IsProofText text proof → IsUtf8 text
proof_is_utf8 text proof is =
    IsUtf8-from_ascii text
    (subst IsAscii (sym is.is_text)
    (IsAscii-append (title_of proof) (10 ∷ lines_of proof) (title_ascii proof)
    (IsAscii-cons 10 (lines_of proof) (lit< tt) (lines_ascii proof is.writable))))

-- ---- the first 8,193 bytes decide

-- if the first bytes of the input are the text of a proof, the input has no more bytes
whole_input : (input : List ℕ) (proof : Proof) → IsProofText (take MAX_READ_LEN input) proof →
    take MAX_READ_LEN input ≡ input
whole_input input proof is =
    let short = has_one_spelling.short (take MAX_READ_LEN input) proof is in
    take_all MAX_READ_LEN input (omega (arith, short, length-take MAX_READ_LEN input))

first_bytes : (input : List ℕ) (proof : Proof) → IsProofText input proof → take MAX_READ_LEN input ≡ input
first_bytes input proof is =
    let short = has_one_spelling.short input proof is in
    take_all MAX_READ_LEN input (omega (arith, short))

judges_input : (digest : List ℕ → List ℕ) (input : List ℕ) (r : Result Bool CheckFault) →
    Judges digest (take MAX_READ_LEN input) r → Judges digest input r
judges_input digest input (Ok true) h = (h.0, subst (λ b. IsProofText b h.0) (whole_input input h.0 h.1) h.1, h.2)
judges_input digest input (Ok false) h = (h.0, subst (λ b. IsProofText b h.0) (whole_input input h.0 h.1) h.1, h.2)
judges_input digest input (Err BadProofText) h =
    λ proof is. h proof (subst (λ b. IsProofText b proof) (sym (first_bytes input proof is)) is)
judges_input digest input (Err ReadFault) h = tt
judges_input digest input (Err WriteFault) h = h
judges_input digest input (Err OutOfMemory) h = tt

pub judges_whole : (digest : List ℕ → List ℕ) (known : Option (List ℕ)) (bytes : List ℕ) (r : Result Bool CheckFault) →
    IfSome known (λ input. bytes ≡ take MAX_READ_LEN input) → Judges digest bytes r →
    IfSome known (λ input. Judges digest input r)
judges_whole digest None bytes r e h = tt
judges_whole digest (Some input) bytes r e h = judges_input digest input r (subst (λ b. Judges digest b r) e h)
