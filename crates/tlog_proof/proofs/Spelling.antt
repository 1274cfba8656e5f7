-- A text is at most one proof, a proof has one text, and each text is short.
use Rattle.std.proofs.Common.{◌≡◌, ℕ, ◌+◌, ◌*◌, ◌<◌, ◌≤◌, List, [], ◌∷◌, ◌++◌, length, get_or, refl, sym, ap, ◌∙◌, lit<}
use Rattle.std.proofs.Common.{arith, length-append}
use Rattle.std.specs.Prelude.{codes}
use Rattle.std.specs.Fmt.{decimal}
use Rattle.std.specs.List.{AllByRecursion}
use Rattle.std.proofs.lemmas.List.{append_cancel_left}
use Rattle.tlog_proof.specs.declared.proof.Proof.{Proof}
use Rattle.tlog_proof.specs.declared.proof.Proof.TheVariants.{Inclusion, Consistency}
use Rattle.tlog_text.specs.Hash.{base64_of, Is32Bytes}
use Rattle.tlog_proof.specs.Text.{line, number_line, hash_line, path_lines, lines_of, title_of, IsWritableProof}
use Rattle.tlog_proof.specs.Text.{HasHashes, HasOneSpelling, IsProofText}
use Rattle.tlog_text.proofs.Hashes.{length-hash}
use Rattle.tlog_proof.proofs.Lines.{number_line_once, hash_line_once, rest_of_path, all_read, length-decimal}

-- paths with the same lines are equal
paths_same : (p q : List (List ℕ)) → AllByRecursion Is32Bytes p → AllByRecursion Is32Bytes q →
    path_lines p [] ≡ path_lines q [] → p ≡ q
paths_same p q all other e = all_read p q [] (rest_of_path p q [] all other e) refl

same_lines : (title a b : List ℕ) → title ++ 10 ∷ a ≡ title ++ 10 ∷ b → a ≡ b
same_lines title a b e = let tails : 10 ∷ a ≡ 10 ∷ b = append_cancel_left title (10 ∷ a) (10 ∷ b) e in cc tails

titles_differ : (a b : List ℕ) → codes "inclusion" ++ 10 ∷ a ≡ codes "consistency" ++ 10 ∷ b → ⊥
titles_differ a b e = differ 105 (ap (λ xs. get_or xs 0 0) e) (lit< tt)
  where
    differ : (n : ℕ) → n ≡ 99 → 100 < n → ⊥
    differ n same more = omega arith

one_proof : (a b : Proof) → IsWritableProof a → IsWritableProof b → HasHashes a → HasHashes b →
    title_of a ++ 10 ∷ lines_of a ≡ title_of b ++ 10 ∷ lines_of b → a ≡ b
one_proof (Inclusion size index root leaf path) (Inclusion size' index' root' leaf' path') p q h k e =
    let lines =
    same_lines (codes "inclusion") (lines_of (Inclusion size index root leaf path))
    (lines_of (Inclusion size' index' root' leaf' path')) e in
    let one = number_line_once (codes "size ") size _ size' _ p.0 q.0 lines in
    let two = number_line_once (codes "index ") index _ index' _ p.1 q.1 one.1 in
    let three = hash_line_once (codes "root ") root _ root' _ h.0 k.0 two.1 in
    let four = hash_line_once (codes "leaf ") leaf _ leaf' _ h.1 k.1 three.1 in
    let five = paths_same path path' h.2 k.2 four.1 in
    λ i. Inclusion (one.0 i) (two.0 i) (three.0 i) (four.0 i) (five i)
one_proof (Inclusion size index root leaf path) (Consistency first first_root second second_root path') p q h k e =
    absurd (titles_differ (lines_of (Inclusion size index root leaf path))
    (lines_of (Consistency first first_root second second_root path')) e)
one_proof (Consistency first first_root second second_root path) (Inclusion size index root leaf path') p q h k e =
    absurd (titles_differ (lines_of (Inclusion size index root leaf path'))
    (lines_of (Consistency first first_root second second_root path)) (sym e))
one_proof (Consistency first first_root second second_root path)
    (Consistency first' first_root' second' second_root' path') p q h k e =
    let lines =
    same_lines (codes "consistency") (lines_of (Consistency first first_root second second_root path))
    (lines_of (Consistency first' first_root' second' second_root' path')) e in
    let one = number_line_once (codes "first ") first _ first' _ p.0 q.0 lines in
    let two = hash_line_once (codes "root ") first_root _ first_root' _ h.0 k.0 one.1 in
    let three = number_line_once (codes "second ") second _ second' _ p.1 q.1 two.1 in
    let four = hash_line_once (codes "root ") second_root _ second_root' _ h.1 k.1 three.1 in
    let five = paths_same path path' h.2 k.2 four.1 in
    λ i. Consistency (one.0 i) (two.0 i) (three.0 i) (four.0 i) (five i)

-- ---- lengths

length-line : (name value rest : List ℕ) → length (line name value rest) ≡ length name + length value + 1 + length rest
length-line name value rest = omega (arith, length-append name (value ++ 10 ∷ rest), length-append value (10 ∷ rest))

length-path_lines : (path : List (List ℕ)) → AllByRecursion Is32Bytes path →
    length (path_lines path []) ≡ 50 * length path
length-path_lines [] all = refl
length-path_lines (hash ∷ path) all =
    omega (
      arith,
      length-line (codes "path ") (base64_of hash) (path_lines path []),
      length-hash hash all.0,
      length-path_lines path all.1,
    )

short_lines : (proof : Proof) → IsWritableProof proof → HasHashes proof →
    length (title_of proof) + length (lines_of proof) ≤ 3364
short_lines (Inclusion size index root leaf path) p h =
    let e = path_lines path [] in
    let d = hash_line (codes "leaf ") leaf e in
    let c = hash_line (codes "root ") root d in
    let b = number_line (codes "index ") index c in
    omega (
      arith,
      length-path_lines path h.2,
      p.2,
      length-line (codes "leaf ") (base64_of leaf) e,
      length-hash leaf h.1,
      length-line (codes "root ") (base64_of root) d,
      length-hash root h.0,
      length-line (codes "index ") (decimal index) c,
      length-decimal index p.1,
      length-line (codes "size ") (decimal size) b,
      length-decimal size p.0,
    )
short_lines (Consistency first first_root second second_root path) p h =
    let e = path_lines path [] in
    let d = hash_line (codes "root ") second_root e in
    let c = number_line (codes "second ") second d in
    let b = hash_line (codes "root ") first_root c in
    omega (
      arith,
      length-path_lines path h.2,
      p.2,
      length-line (codes "root ") (base64_of second_root) e,
      length-hash second_root h.1,
      length-line (codes "second ") (decimal second) d,
      length-decimal second p.1,
      length-line (codes "root ") (base64_of first_root) c,
      length-hash first_root h.0,
      length-line (codes "first ") (decimal first) b,
      length-decimal first p.0,
    )

longest : (text : List ℕ) (proof : Proof) → IsProofText text proof → length text ≤ 3365
longest text proof p =
    omega (
      arith,
      ap length p.is_text,
      length-append (title_of proof) (10 ∷ lines_of proof),
      short_lines proof p.writable p.hashes,
    )

pub has_one_spelling : HasOneSpelling
has_one_spelling = record {
  one_proof = λ text a b p q. one_proof a b p.writable q.writable p.hashes q.hashes (sym p.is_text ∙ q.is_text);
  one_text = λ s t proof p q. p.is_text ∙ sym q.is_text;
  short = λ text proof p. omega (arith, longest text proof p);
  longest = longest;
}
