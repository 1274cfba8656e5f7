-- A word that names a server has one division into its parts.
use Rattle.std.proofs.Common.{◌≡◌, ◌≢◌, inl, inr, ℕ, ◌<◌, ◌≤◌, List, [], ◌∷◌, ◌++◌, length, take, drop, nat_eq, get_or}
use Rattle.std.proofs.Common.{get_or-take, map, ◌+◌, Option, Some, None, Bor, true, refl, sym, ap, subst, ◌∙◌, arith, codes}
use Rattle.std.proofs.Common.{MatchOption, lit<}
use Rattle.std.specs.Prelude.{IfNone, IfSome}
use Rattle.std.specs.Str.Pattern.{RFindsChar}
use Rattle.std.specs.Str.{NoCharPasses}
use Rattle.std.proofs.lemmas.Str.Pattern.{NoCharPasses-char}
use Rattle.std.proofs.lemmas.List.Sums.{AllPass-from_list_all}
use Rattle.std.proofs.lemmas.List.{append-nil, append_assoc, drop_all, drop_more, length-append, length-drop, length-take}
use Rattle.std.specs.Net.Grammar.{IsGroups, IsIpv6Text}
use Rattle.std.specs.declared.net.ipv6_addr.Ipv6Addr.{Ipv6Addr}
use Rattle.program_words.specs.Spelling.{ArePlaces, FindsPart, IsAddressOf, IsBetweenBrackets, IsBracketed, IsEmptyOrSlash}
use Rattle.program_words.specs.Spelling.{IsLiteral, IsNumberIn, IsPlace, IsServer, Text, WordsNameOnePlace, colon, left_bracket, right_bracket}
use Rattle.std.specs.Str.Parse.{AllDigits}
use Rattle.std.specs.Char.{digit_value}
use Rattle.signed_note.proofs.Lacking.{Lacks, Lacks-from_reads, Lacks-from_test, Lacks-reads}
use Rattle.tlog_text.specs.Number.{IsDecimal}
use Rattle.tlog_text.proofs.Decimals.{one_number}
use Rattle.mirror_client.specs.Site.{slash, is_visible, IsSitePrefix}
use Rattle.program_words.specs.declared.place.Place.{Place}
use Rattle.program_words.specs.declared.place.Place.TheVariants.{Folder, Server}
use Rattle.program_words.proofs.Named.{apart}

-- ---- divisions of a text

-- there is no such byte before the first one
pub front_lacks : (c at : ℕ) (word front : List ℕ) → front ≡ take at word → ((i : ℕ) → i < at → get_or word i 0 ≢ c) →
    (i : ℕ) → i < length front → get_or front i 0 ≢ c
front_lacks c at word front is lacks i lt same =
    let short : length front ≤ at = omega (arith, ap length is, length-take at word) in
    let in_front : i < at = omega (arith, lt, short) in
    lacks i in_front (sym (get_or-take at word i 0 in_front) ∙ (ap (λ l. get_or l i 0) (sym is) ∙ same))

-- there is no such byte after the last one at which the text was divided
pub last_lacks : (c : ℕ) (bs : List ℕ) (r : Option (Bor (List ℕ) × Bor (List ℕ)))
    → MatchOption r (RFindsChar c bs None) (λ x. (i : ℕ) × (j : ℕ)
    × RFindsChar c bs (Some (i, j)) × (x.0.now ≡ take i bs) × (x.1.now ≡ drop j bs) × (i ≤ j) × (length x.0.now ≡ i)
    × (length x.1.now + j ≡ length bs)) → c < 128
    → IfSome r (λ x. (i : ℕ) → i < length x.1.now → get_or x.1.now i 0 ≢ c)
last_lacks c bs None h low = tt
last_lacks c bs (Some x) h low =
    λ i. NoCharPasses-char c x.1.now i (subst (NoCharPasses (λ d. nat_eq d c)) (sym h.4) h.2.0) low

pub none_lacks : (c : ℕ) (bs : List ℕ) (r : Option (Bor (List ℕ) × Bor (List ℕ)))
    → MatchOption r (RFindsChar c bs None) (λ x. (i : ℕ) × (j : ℕ)
    × RFindsChar c bs (Some (i, j)) × (x.0.now ≡ take i bs) × (x.1.now ≡ drop j bs) × (i ≤ j) × (length x.0.now ≡ i)
    × (length x.1.now + j ≡ length bs)) → c < 128
    → IfNone r ((i : ℕ) → i < length bs → get_or bs i 0 ≢ c)
none_lacks c bs None h low = λ i. NoCharPasses-char c bs i h low
none_lacks c bs (Some x) h low = tt

Lacks-middle : (c : ℕ) (d e : List ℕ) → Lacks c (d ++ c ∷ e) → ⊥
Lacks-middle c [] e h = h.0 refl
Lacks-middle c (y ∷ d) e h = Lacks-middle c d e h.1

-- two divisions at a byte are the same if the byte is not in the text after it
cut_last : (c : ℕ) (a b d e : List ℕ) → a ++ (c ∷ b) ≡ d ++ (c ∷ e) → Lacks c b → Lacks c e → (a ≡ d) × (b ≡ e)
cut_last c [] b [] e h p q = (refl, cc)
cut_last c [] b (y ∷ d) e h p q = let tails : b ≡ d ++ (c ∷ e) = cc in
    absurd (Lacks-middle c d e (subst (Lacks c) tails p))
cut_last c (x ∷ a) b [] e h p q = let tails : a ++ (c ∷ b) ≡ e = cc in
    absurd (Lacks-middle c a b (subst (Lacks c) (sym tails) q))
cut_last c (x ∷ a) b (y ∷ d) e h p q =
    let heads : x ≡ y = cc in
    let tails : a ++ (c ∷ b) ≡ d ++ (c ∷ e) = cc in
    let rest = cut_last c a b d e tails p q in
    (cc, rest.1)

-- two divisions before the first slash are the same
cut_first : (a b d e : List ℕ) → a ++ b ≡ d ++ e → Lacks slash a → Lacks slash d → IsEmptyOrSlash b → IsEmptyOrSlash e →
    (a ≡ d) × (b ≡ e)
cut_first [] b [] e h p q s t = (refl, h)
cut_first [] b (y ∷ d) e h p q (inl empty) t = absurd cc
cut_first [] b (y ∷ d) e h p q (inr some) t = let same : y ≡ slash = cc in absurd (q.0 same)
cut_first (x ∷ a) b [] e h p q s (inl empty) = absurd cc
cut_first (x ∷ a) b [] e h p q s (inr some) = let same : x ≡ slash = cc in absurd (p.0 same)
cut_first (x ∷ a) b (y ∷ d) e h p q s t =
    let heads : x ≡ y = cc in
    let tails : a ++ b ≡ d ++ e = cc in
    let rest = cut_first a b d e tails p.1 q.1 s t in
    (cc, rest.1)

prefix_begins : (prefix : List ℕ) → IsSitePrefix prefix → IsEmptyOrSlash prefix
prefix_begins prefix (inl empty) = inl empty
prefix_begins prefix (inr some) = inr some.between.begins

-- digits contain no colon
all_lack : (digits : List ℕ) → AllDigits 10 digits → Lacks colon digits
all_lack [] h = tt
all_lack (d ∷ ds) h = (
  λ e. let bad : digit_value colon < 10 = subst (λ x. digit_value x < 10) e h.0 in
      absurd (omega (arith, bad)),
  all_lack ds h.1,
)

digits_lack : (digits : List ℕ) (n : ℕ) → IsDecimal digits n → Lacks colon digits
digits_lack digits n is = all_lack digits is.numeral.1

-- ---- servers

-- the host and the prefix of a server follow from the word
pub one_site : (word host prefix : List ℕ) → word ≡ host ++ prefix
    → ((i : ℕ) → i < length host → get_or host i 0 ≢ slash) → IsEmptyOrSlash prefix → (p : Place)
    → IsPlace (codes "http") word p
    → (address : List ℕ) × (port : ℕ) × IsServer word host prefix address port
one_site word host prefix whole before after (Folder path) is =
    absurd (apart (codes "http") (codes "http") (codes "dir") refl is.0 refl)
one_site word host prefix whole before after (Server h q address port) is =
    let s = is.1 in
    let one = cut_first host prefix h.now q.now (sym whole ∙ s.whole) (Lacks-from_reads slash host before)
    (Lacks-from_reads slash h.now s.before) after (prefix_begins q.now s.site.is_prefix) in (
      address.now,
      port,
      subst (λ (x : List ℕ). IsServer word x prefix address.now port) (sym one.0)
          (subst (λ (x : List ℕ). IsServer word h.now x address.now port) (sym one.1) s),
    )

-- the digits after the last colon are the port
pub one_port : (word host prefix front digits address : List ℕ) (port : ℕ) → host ≡ front ++ colon ∷ digits →
    ((i : ℕ) → i < length digits → get_or digits i 0 ≢ colon) → IsServer word host prefix address port →
    IsNumberIn 1 65535 port digits
one_port word host prefix front digits address port parts lacks s =
    let one = cut_last colon front digits s.name s.digits (sym parts ∙ s.parts) (Lacks-from_reads colon digits lacks)
    (digits_lack s.digits port s.is_port.number) in
    subst (IsNumberIn 1 65535 port) (sym one.1) s.is_port

-- the name is the text before the last colon
pub one_name : (word host prefix front digits address : List ℕ) (port : ℕ) → host ≡ front ++ colon ∷ digits →
    ((i : ℕ) → i < length digits → get_or digits i 0 ≢ colon) → IsServer word host prefix address port →
    IsAddressOf front address
one_name word host prefix front digits address port parts lacks s =
    let one = cut_last colon front digits s.name s.digits (sym parts ∙ s.parts) (Lacks-from_reads colon digits lacks)
    (digits_lack s.digits port s.is_port.number) in
    subst (λ (n : List ℕ). IsAddressOf n address) (sym one.0) s.is_address

-- the host of a server contains a colon
pub some_port : (word host prefix address : List ℕ) (port : ℕ) → ((i : ℕ) → i < length host → get_or host i 0 ≢ colon) →
    IsServer word host prefix address port → ⊥
some_port word host prefix address port lacks s =
    Lacks-middle colon s.name s.digits (subst (Lacks colon) s.parts (Lacks-from_reads colon host lacks))

-- ---- names in brackets

-- text that lacks the last bracket is not between brackets
pub unclosed : (behind text : List ℕ) → ((front : List ℕ) → behind ≢ front ++ right_bracket ∷ []) →
    IsBetweenBrackets (left_bracket ∷ behind) text → ⊥
unclosed behind text none is = none text cc

-- two texts with one byte behind each are the same if these are
one_front : (c : ℕ) (a b : List ℕ) → a ++ (c ∷ []) ≡ b ++ (c ∷ []) → a ≡ b
one_front c [] [] e = refl
one_front c [] (y ∷ b) e = absurd (omega (arith, ap length e, length-append b (c ∷ [])))
one_front c (x ∷ a) [] e = absurd (omega (arith, ap length e, length-append a (c ∷ [])))
one_front c (x ∷ a) (y ∷ b) e =
    let heads : x ≡ y = cc in
    let tails : a ++ (c ∷ []) ≡ b ++ (c ∷ []) = cc in
    let rest = one_front c a b tails in
    cc

-- one text is in the brackets of a name
pub one_between : (name a b : List ℕ) → IsBetweenBrackets name a → IsBetweenBrackets name b → a ≡ b
one_between name a b p q =
    let same : left_bracket ∷ (a ++ right_bracket ∷ []) ≡ left_bracket ∷ (b ++ right_bracket ∷ []) = sym p ∙ q in
    let tails : a ++ right_bracket ∷ [] ≡ b ++ right_bracket ∷ [] = cc in
    one_front right_bracket a b tails

-- the text between the brackets writes no address
pub no_literal : (name a b : List ℕ) → IsBetweenBrackets name a → ((x : Ipv6Addr) → ¬ IsIpv6Text a x) →
    IsLiteral name b → ⊥
no_literal name a b p none is =
    none is.address (subst (λ (t : List ℕ). IsIpv6Text t is.address) (sym (one_between name a b p is.whole)) is.writes)

-- of a name that begins with a bracket the address is the literal's
pub bracketed : (name : List ℕ) (found : Option (List ℕ)) → IsBracketed name → FindsPart (IsLiteral name) found →
    FindsPart (IsAddressOf name) found
bracketed name (Some text) begins h = inl h
bracketed name None begins h = λ text is. elim is [ inl literal ↦ h text literal | inr other ↦ other.0 begins ]

-- a name has one address
one_address : (name a b : List ℕ) → IsAddressOf name a → IsAddressOf name b → a ≡ b
one_address name a b (inl p) (inl q) = one_between name a b p.whole q.whole
one_address name a b (inl p) (inr q) = absurd (q.0 (a ++ right_bracket ∷ [], p.whole))
one_address name a b (inr p) (inl q) = absurd (p.0 (b ++ right_bracket ∷ [], q.whole))
one_address name a b (inr p) (inr q) = p.1 ∙ sym q.1

-- two words name one place at most
pub one_place : WordsNameOnePlace
one_place kind word (Folder a) (Folder b) p q = p.1 ∙ sym q.1
one_place kind word (Folder a) (Server host prefix address port) p q =
    apart kind (codes "dir") (codes "http") p.0 q.0 refl
one_place kind word (Server host prefix address port) (Folder b) p q =
    apart kind (codes "dir") (codes "http") q.0 p.0 refl
one_place kind word (Server h p a n) (Server host prefix address port) x y =
    let s = x.1 in
    let t = y.1 in
    let cut = cut_first h.now p.now host.now prefix.now (sym s.whole ∙ t.whole) (Lacks-from_reads slash h.now s.before)
    (Lacks-from_reads slash host.now t.before) (prefix_begins p.now s.site.is_prefix)
    (prefix_begins prefix.now t.site.is_prefix) in
    let parts : s.name ++ colon ∷ s.digits ≡ t.name ++ colon ∷ t.digits = sym s.parts ∙ (cut.0 ∙ t.parts) in
    let one = cut_last colon s.name s.digits t.name t.digits parts (digits_lack s.digits n s.is_port.number)
    (digits_lack t.digits port t.is_port.number) in (
      cut.0,
      cut.1,
      one_address s.name a.now address.now s.is_address
          (subst (λ (x : List ℕ). IsAddressOf x address.now) (sym one.0) t.is_address),
      one_number s.digits n port s.is_port.number
          (subst (λ (x : List ℕ). IsDecimal x port) (sym one.1) t.is_port.number),
    )

-- ---- worked cases

-- the host of `[::1]:80`
abbrev shown : List ℕ
shown = codes "[::1]:80"

shown_lacks : Lacks slash shown
shown_lacks = Lacks-from_test slash shown refl

one_group : IsGroups true (codes "1") (1 ∷ [])
one_group = inl (codes "1", [], refl, (((lit< tt, (lit< tt, tt)), refl), omega arith), refl)

abbrev loopback : Ipv6Addr
loopback = record { segments = 0 ∷ 0 ∷ 0 ∷ 0 ∷ 0 ∷ 0 ∷ 0 ∷ 1 ∷ [] }

writes_loopback : IsIpv6Text (codes "::1") loopback
writes_loopback = inr (record {
  head_text = [];
  tail_text = codes "1";
  head = [];
  tail = 1 ∷ [];
  spelled = refl;
  head_groups = refl;
  tail_groups = one_group;
  room = omega arith;
  value = refl;
})

pub literal_server : IsServer (codes "[::1]:80") (codes "[::1]:80") [] (codes "::1") 80
literal_server = record {
  whole = refl;
  before = Lacks-reads slash shown shown_lacks;
  site = record {
    is_host = record { some = omega arith; short = omega arith; visible = AllPass-from_list_all is_visible shown refl };
    is_prefix = inl refl;
  };
  name = codes "[::1]";
  digits = codes "80";
  parts = refl;
  is_address = inl (record { whole = refl; address = loopback; writes = writes_loopback });
  is_port = record {
    number = record { numeral = (lit< tt, (lit< tt, (lit< tt, tt))); no_leading_zero = λ more zero. absurd (omega (arith, zero)); value = refl };
    least_is = omega arith;
    most_is = omega arith;
  };
}

pub plain_name : IsAddressOf (codes "log.example") (codes "log.example")
plain_name =
    inr (λ begins. let other : 108 ≡ 91 = ap (λ l. get_or l 0 0) begins.1 in absurd (omega (arith, other)), refl)

-- ---- lists of places

-- these places were read from the first words, and these words remain
pub record WereRead (words left : List Text) (places : List Place) : Type 0 where
  pub all : (more : List Place) → ArePlaces left more → ArePlaces words (places ++ more)
  pub rest : (every : List Place) → ArePlaces words every → (more : List Place) × ArePlaces left more

pub none_read : (words : List Text) → WereRead words words []
none_read words = record { all = λ more are. are; rest = λ every are. (every, are) }

behind : (kind word : Text) (left : List Text) (places : List Place) → ArePlaces (kind ∷ word ∷ left) places →
    (more : List Place) × ArePlaces left more
behind kind word left [] are = absurd are
behind kind word left (place ∷ places) are = (places, are.1)

pub one_more_read : (words : List Text) (kind word : Text) (left : List Text) (places : List Place) (place : Place)
    → IsPlace kind word place → WereRead words (kind ∷ word ∷ left) places
    → WereRead words left (places ++ place ∷ [])
one_more_read words kind word left places place is r = record {
  all = λ more are.
      subst (λ (ps : List Place). ArePlaces words ps) (sym (append_assoc places (place ∷ []) more))
      (r.all (place ∷ more) (is, are));
  rest = λ every are. let b = r.rest every are in behind kind word left b.0 b.1;
}

pub all_read : (words : List Text) (places : List Place) → WereRead words [] places → ArePlaces words places
all_read words places r = subst (λ (ps : List Place). ArePlaces words ps) (append-nil places) (r.all [] tt)

-- the same for the words of a slice, from an index on

two_at : (words : List (Bor Text)) (at : ℕ) (d e : Bor Text) → at + 2 ≤ length words →
    drop at words ≡ get_or words at d ∷ get_or words (at + 1) e ∷ drop (at + 2) words
two_at words at d e le =
    let more : at < length words = omega (arith, le) in
    let next : at + 1 < length words = omega (arith, le) in
    let two : at + 1 + 1 ≡ at + 2 = omega arith in
    drop_more words at d more
    ∙ ap (λ l. get_or words at d ∷ l)
    (drop_more words (at + 1) e next ∙ ap (λ k. get_or words (at + 1) e ∷ drop k words) two)

pub one_more_at : (words : List (Bor Text)) (at : ℕ) (d e : Bor Text) (places : List Place) (place : Place)
    → at + 2 ≤ length words → IsPlace (get_or words at d).now (get_or words (at + 1) e).now place
    → WereRead (map (λ w. w.now) words) (map (λ w. w.now) (drop at words)) places
    → WereRead (map (λ w. w.now) words) (map (λ w. w.now) (drop (at + 2) words)) (places ++ place ∷ [])
one_more_at words at d e places place le is r =
    let all = map (λ (w : Bor Text). w.now) words in
    one_more_read all (get_or words at d).now (get_or words (at + 1) e).now (map (λ w. w.now) (drop (at + 2) words))
    places place is
    (subst (λ (l : List (Bor Text)). WereRead all (map (λ w. w.now) l) places) (two_at words at d e le) r)

all_taken : (words : List Text) (rest : List (Bor Text)) (places : List Place) → rest ≡ [] →
    WereRead words (map (λ w. w.now) rest) places → ArePlaces words places
all_taken words rest places none r =
    all_read words places (subst (λ (l : List (Bor Text)). WereRead words (map (λ w. w.now) l) places) none r)

pub all_at : (words : List (Bor Text)) (at : ℕ) (places : List Place) → length words ≤ at
    → WereRead (map (λ w. w.now) words) (map (λ w. w.now) (drop at words)) places
    → ArePlaces (map (λ w. w.now) words) places
all_at words at places le r = all_taken (map (λ w. w.now) words) (drop at words) places (drop_all at words le) r

odd_taken : (words : List Text) (rest : List (Bor Text)) (places every : List Place) → length rest ≡ 1
    → WereRead words (map (λ w. w.now) rest) places → ArePlaces words every → ⊥
odd_taken words [] places every one r are = absurd (omega (arith, one))
odd_taken words (kind ∷ []) places every one r are = (r.rest every are).1
odd_taken words (kind ∷ word ∷ rest) places every one r are = absurd (omega (arith, one))

-- a kind without its place
pub odd_at : (words : List (Bor Text)) (at : ℕ) (places every : List Place) → at < length words → length words < at + 2
    → WereRead (map (λ w. w.now) words) (map (λ w. w.now) (drop at words)) places
    → ArePlaces (map (λ w. w.now) words) every → ⊥
odd_at words at places every more few r are =
    let one : length (drop at words) ≡ 1 = omega (arith, length-drop at words, more, few) in
    odd_taken (map (λ w. w.now) words) (drop at words) places every one r are

bad_first : (kind word : Text) (left : List Text) (places : List Place) → ((place : Place) → ¬ IsPlace kind word place) →
    ArePlaces (kind ∷ word ∷ left) places → ⊥
bad_first kind word left [] bad are = are
bad_first kind word left (place ∷ places) bad are = bad place are.0

-- two words that name no place
pub bad_at : (words : List (Bor Text)) (at : ℕ) (d e : Bor Text) (places every : List Place) → at + 2 ≤ length words
    → ((place : Place) → ¬ IsPlace (get_or words at d).now (get_or words (at + 1) e).now place)
    → WereRead (map (λ w. w.now) words) (map (λ w. w.now) (drop at words)) places
    → ArePlaces (map (λ w. w.now) words) every → ⊥
bad_at words at d e places every le bad r are =
    let b = r.rest every are in
    bad_first (get_or words at d).now (get_or words (at + 1) e).now (map (λ w. w.now) (drop (at + 2) words)) b.0 bad
    (subst (λ (l : List (Bor Text)). ArePlaces (map (λ w. w.now) l) b.0) (two_at words at d e le) b.1)

-- the same if no place was found in them
pub bad_found : (words : List (Bor Text)) (at : ℕ) (d e : Bor Text) (places every : List Place) (found : Option Place)
    → at + 2 ≤ length words → found ≡ None
    → FindsPart (IsPlace (get_or words at d).now (get_or words (at + 1) e).now) found
    → WereRead (map (λ w. w.now) words) (map (λ w. w.now) (drop at words)) places
    → ArePlaces (map (λ w. w.now) words) every → ⊥
bad_found words at d e places every None le none bad r are = bad_at words at d e places every le bad r are
bad_found words at d e places every (Some place) le none bad r are = cc
