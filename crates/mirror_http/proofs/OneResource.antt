-- A target names at most one resource.
use Rattle.std.proofs.Common.{◌≡◌, ℕ, ◌==◌, Bool, false, List, [], ◌∷◌, ◌++◌, get_or, Ok, refl, sym, ap, subst, ◌∙◌}
use Rattle.std.proofs.Common.{if◌then◌else◌, codes, arith}
use Rattle.std.specs.Str.{bytes_eq}
use Rattle.std.proofs.lemmas.Slice.Eq.{bytes_eq-Decides}
use Rattle.std.specs.Str.Parse.{AllDigits}
use Rattle.std.proofs.lemmas.Str.Parse.{digit_from_value}
use Rattle.std.proofs.lemmas.List.{append_cancel_left}
use Rattle.std.proofs.lemmas.List.Elements.{All-nil, All-cons}
use Rattle.hex.specs.Hex.{decode_of, decode_sized}
use Rattle.hex.proofs.HexLemmas.{decode_of-encode_lower, decode_of-same, decode_sized-encode_lower}
use Rattle.tlog_text.proofs.Decimals.{one_number}
use Rattle.tlog_tiles.specs.Path.{HasNoSlash, IsPath}
use Rattle.tlog_tiles.specs.declared.paths.Path.{Path}
use Rattle.tlog_tiles.specs.declared.paths.Path.TheVariants.{Checkpoint, Tile, Entries}
use Rattle.tlog_tiles.proofs.PathLemmas.{path_answer_one}
use Rattle.tlog_tiles.proofs.TextLemmas.{first_cut}
use Rattle.tlog_proof.specs.declared.proof.Ask.TheVariants as ask
use Rattle.mirror_http.specs.Laws.{TargetsNameOne}
use Rattle.mirror_http.specs.Resource.{HasTwo, IsHexHash, IsNumber, Names, NamesFile, NamesHead, NamesNumbers}
use Rattle.mirror_http.specs.declared.resource.Resource.{Resource}
use Rattle.mirror_http.specs.declared.resource.Resource.TheVariants.{File, Status, Forks, Missing, Proof}

-- ---- numbers and hashes

digits_lack_slash : (ds : List ℕ) → AllDigits 10 ds → HasNoSlash ds
digits_lack_slash [] h = All-nil (λ (c : ℕ). c ≡ 47 → ⊥)
digits_lack_slash (d ∷ ds) h =
    let range = digit_from_value d h.0 in
    All-cons (λ (c : ℕ). c ≡ 47 → ⊥) d ds (λ is. omega arith) (digits_lack_slash ds h.1)

pub number_lacks_slash : (text : List ℕ) (n : ℕ) → IsNumber text n → HasNoSlash text
number_lacks_slash text n is = digits_lack_slash text is.is_decimal.numeral.1

-- the two texts after a prefix are unique, if the first contains no slash
pub one_cut : (front target a b c d : List ℕ) → HasTwo front target a b → HasTwo front target c d → HasNoSlash a →
    HasNoSlash c → (a ≡ c) × (b ≡ d)
one_cut front target a b c d p q x y =
    let rest : a ++ 47 ∷ b ≡ c ++ 47 ∷ d = append_cancel_left front (a ++ 47 ∷ b) (c ++ 47 ∷ d) (sym p ∙ q) in
    first_cut a c b d x y rest

one_number_of : (a b : List ℕ) (m n : ℕ) → a ≡ b → IsNumber a m → IsNumber b n → m ≡ n
one_number_of a b m n e p q = one_number b m n (subst (λ (t : List ℕ). IsNumber t m) e p).is_decimal q.is_decimal

pub one_hash : (text a b : List ℕ) → IsHexHash text a → IsHexHash text b → a ≡ b
one_hash text a b p q =
    let first : decode_of text ≡ Ok a = ap (λ (t : List ℕ). decode_of t) p.is_hex
    ∙ decode_of-encode_lower a p.is_hash.are_bytes in
    let second : decode_of text ≡ Ok b = ap (λ (t : List ℕ). decode_of t) q.is_hex
    ∙ decode_of-encode_lower b q.is_hash.are_bytes in
    decode_of-same text a b first second

one_pair : (front target : List ℕ) (m n i j : ℕ) → NamesNumbers front target m n → NamesNumbers front target i j →
    (m ≡ i) × (n ≡ j)
one_pair front target m n i j p q =
    let cut = one_cut front target p.first p.second q.first q.second p.parts q.parts
    (number_lacks_slash p.first m p.first_is) (number_lacks_slash q.first i q.first_is) in (
      one_number_of p.first q.first m i cut.0 p.first_is q.first_is,
      one_number_of p.second q.second n j cut.1 p.second_is q.second_is,
    )

one_head : (target : List ℕ) (m : ℕ) (r : List ℕ) (n : ℕ) (s : List ℕ) →
    NamesHead (codes "/mirror/missing/") target m r → NamesHead (codes "/mirror/missing/") target n s →
    ◌≡◌ {A = Resource} (Missing m r) (Missing n s)
one_head target m r n s p q =
    let cut = one_cut (codes "/mirror/missing/") target p.first p.second q.first q.second p.parts q.parts
    (number_lacks_slash p.first m p.size_is) (number_lacks_slash q.first n q.size_is) in
    let sizes = one_number_of p.first q.first m n cut.0 p.size_is q.size_is in
    let roots = one_hash q.second r s (subst (λ (t : List ℕ). IsHexHash t r) cut.1 p.root_is) q.root_is in
    λ k. Missing (sizes k) (roots k)

one_file : (target : List ℕ) (a b : Path) → NamesFile target a → NamesFile target b →
    ◌≡◌ {A = Resource} (File a) (File b)
one_file target a b p q =
    let name : p.name ≡ q.name = cc (p.target_is, q.target_is) in
    let same = path_answer_one q.name (Ok a) (Ok b) (subst (λ (t : List ℕ). IsPath t a) name p.name_is) q.name_is in
    let paths : a ≡ b = cc same in
    ap File paths

-- ---- kinds

-- two bytes of a target determine the kind of its resource
abbrev mark_in : List ℕ → ℕ
mark_in target = if get_or target 1 0 == 109 then get_or target 8 0 else 0

abbrev mark : Resource → ℕ
mark (File path) = 0
mark Status = 115
mark Forks = 102
mark (Missing size root) = 109
mark (Proof (ask.Inclusion size index)) = 105
mark (Proof (ask.Consistency first second)) = 99

file_mark : (target : List ℕ) (path : Path) → NamesFile target path → mark_in target ≡ 0
file_mark target Checkpoint is = ap mark_in (is.target_is ∙ ap (λ (name : List ℕ). 47 ∷ name) is.name_is)
file_mark target (Tile level index width) is =
    ap mark_in (is.target_is ∙ ap (λ (name : List ℕ). 47 ∷ name) is.name_is.1.below.text_is)
file_mark target (Entries index width) is =
    ap mark_in (is.target_is ∙ ap (λ (name : List ℕ). 47 ∷ name) is.name_is.below.text_is)

mark_is : (target : List ℕ) (r : Resource) → Names target r → mark_in target ≡ mark r
mark_is target (File path) is = file_mark target path is
mark_is target Status is = ap mark_in is
mark_is target Forks is = ap mark_in is
mark_is target (Missing size root) is = ap mark_in is.parts
mark_is target (Proof (ask.Inclusion size index)) is = ap mark_in is.parts
mark_is target (Proof (ask.Consistency first second)) is = ap mark_in is.parts

same_kind : (target : List ℕ) (a b : Resource) → mark a ≡ mark b → Names target a → Names target b → a ≡ b
same_kind target (File path_a) (File path_b) e p q = one_file target path_a path_b p q
same_kind target (File path_a) Status e p q = absurd (omega (arith, e))
same_kind target (File path_a) Forks e p q = absurd (omega (arith, e))
same_kind target (File path_a) (Missing size_b root_b) e p q = absurd (omega (arith, e))
same_kind target (File path_a) (Proof (ask.Inclusion size_b index_b)) e p q = absurd (omega (arith, e))
same_kind target (File path_a) (Proof (ask.Consistency first_b second_b)) e p q = absurd (omega (arith, e))
same_kind target Status (File path_b) e p q = absurd (omega (arith, e))
same_kind target Status Status e p q = refl
same_kind target Status Forks e p q = absurd (omega (arith, e))
same_kind target Status (Missing size_b root_b) e p q = absurd (omega (arith, e))
same_kind target Status (Proof (ask.Inclusion size_b index_b)) e p q = absurd (omega (arith, e))
same_kind target Status (Proof (ask.Consistency first_b second_b)) e p q = absurd (omega (arith, e))
same_kind target Forks (File path_b) e p q = absurd (omega (arith, e))
same_kind target Forks Status e p q = absurd (omega (arith, e))
same_kind target Forks Forks e p q = refl
same_kind target Forks (Missing size_b root_b) e p q = absurd (omega (arith, e))
same_kind target Forks (Proof (ask.Inclusion size_b index_b)) e p q = absurd (omega (arith, e))
same_kind target Forks (Proof (ask.Consistency first_b second_b)) e p q = absurd (omega (arith, e))
same_kind target (Missing size_a root_a) (File path_b) e p q = absurd (omega (arith, e))
same_kind target (Missing size_a root_a) Status e p q = absurd (omega (arith, e))
same_kind target (Missing size_a root_a) Forks e p q = absurd (omega (arith, e))
same_kind target (Missing size_a root_a) (Missing size_b root_b) e p q = one_head target size_a root_a size_b root_b p q
same_kind target (Missing size_a root_a) (Proof (ask.Inclusion size_b index_b)) e p q = absurd (omega (arith, e))
same_kind target (Missing size_a root_a) (Proof (ask.Consistency first_b second_b)) e p q = absurd (omega (arith, e))
same_kind target (Proof (ask.Inclusion size_a index_a)) (File path_b) e p q = absurd (omega (arith, e))
same_kind target (Proof (ask.Inclusion size_a index_a)) Status e p q = absurd (omega (arith, e))
same_kind target (Proof (ask.Inclusion size_a index_a)) Forks e p q = absurd (omega (arith, e))
same_kind target (Proof (ask.Inclusion size_a index_a)) (Missing size_b root_b) e p q = absurd (omega (arith, e))
same_kind target (Proof (ask.Inclusion size_a index_a)) (Proof (ask.Inclusion size_b index_b)) e p q =
    (let same = one_pair (codes "/mirror/inclusion/") target size_a index_a size_b index_b p q in
    λ k. Proof (ask.Inclusion (same.0 k) (same.1 k)))
same_kind target (Proof (ask.Inclusion size_a index_a)) (Proof (ask.Consistency first_b second_b)) e p q =
    absurd (omega (arith, e))
same_kind target (Proof (ask.Consistency first_a second_a)) (File path_b) e p q = absurd (omega (arith, e))
same_kind target (Proof (ask.Consistency first_a second_a)) Status e p q = absurd (omega (arith, e))
same_kind target (Proof (ask.Consistency first_a second_a)) Forks e p q = absurd (omega (arith, e))
same_kind target (Proof (ask.Consistency first_a second_a)) (Missing size_b root_b) e p q = absurd (omega (arith, e))
same_kind target (Proof (ask.Consistency first_a second_a)) (Proof (ask.Inclusion size_b index_b)) e p q =
    absurd (omega (arith, e))
same_kind target (Proof (ask.Consistency first_a second_a)) (Proof (ask.Consistency first_b second_b)) e p q =
    (let same = one_pair (codes "/mirror/consistency/") target first_a second_a first_b second_b p q in
    λ k. Proof (ask.Consistency (same.0 k) (same.1 k)))

pub one_resource : TargetsNameOne
one_resource target a b p q = same_kind target a b (sym (mark_is target a p) ∙ mark_is target b q) p q

-- ---- hexadecimal

-- digits of a hash decode to that hash
pub decoded : (digits hash : List ℕ) → IsHexHash digits hash → decode_sized digits 32 ≡ Ok hash
decoded digits hash is = ap (λ (t : List ℕ). decode_sized t 32) is.is_hex
    ∙ decode_sized-encode_lower hash 32 is.is_hash.are_32 is.is_hash.are_bytes

-- ---- targets without a resource

-- a test showed that the texts differ
pub unequal : (a b : List ℕ) (r : Bool) → r ≡ bytes_eq a b → r ≡ false → a ≡ b → ⊥
unequal a b r is other same = let yes = (bytes_eq-Decides a b).1 same in absurd (cc (is, other, yes))

-- the target names no resource, if it names none of each kind
pub names_none :
    (target : List ℕ) → (Names target Status → ⊥) → (Names target Forks → ⊥) →
    ((n : ℕ) (root : List ℕ) → Names target (Missing n root) → ⊥) →
    ((m n : ℕ) → Names target (Proof (ask.Inclusion m n)) → ⊥) →
    ((m n : ℕ) → Names target (Proof (ask.Consistency m n)) → ⊥) →
    ((path : Path) → Names target (File path) → ⊥) → (r : Resource) → Names target r → ⊥
names_none target status forks missing inclusion consistency file (File path) is = file path is
names_none target status forks missing inclusion consistency file Status is = status is
names_none target status forks missing inclusion consistency file Forks is = forks is
names_none target status forks missing inclusion consistency file (Missing size root) is = missing size root is
names_none target status forks missing inclusion consistency file (Proof (ask.Inclusion size index)) is =
    inclusion size index is
names_none target status forks missing inclusion consistency file (Proof (ask.Consistency first second)) is =
    consistency first second is
