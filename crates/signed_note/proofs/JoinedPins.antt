-- Joining the pins of one name and id keeps what the keys accept.
use Rattle.std.proofs.Common.{◌≡◌, ◌⊎◌, inl, inr, ℕ, zero, suc, ◌<◌, Bool, false, ◌||◌, ◌&&◌, List, [], ◌∷◌, ◌++◌}
use Rattle.std.proofs.Common.{length, map, slice_set, slice_index_or, nat_eq, Contains, refl, sym, ap, ◌∙◌, arith, subst}
use Rattle.std.specs.List.{list_any, HoldsAt}
use Rattle.std.specs.Str.{bytes_eq}
use Rattle.sha2.specs.Sha256.{sha256}
use Rattle.std.proofs.Common.{⊎_elim}
use Rattle.std.proofs.Math.Bool.{or_assoc, or_comm, or-false, and-or_distrib_left}
use Rattle.std.proofs.lemmas.List.{map-append}
use Rattle.std.proofs.lemmas.List.Elements.{Contains-append_left, Contains-append_right, Contains-append_cases}
use Rattle.std.proofs.lemmas.List.Folds.{list_any-append}
use Rattle.std.specs.List.Sorted.{IsPermutation}
use Rattle.std.proofs.lemmas.List.Sorted.{list_any-IsPermutation, IsPermutation-map, Contains-permutation}
use Rattle.signed_note.specs.Keys.{Key}
use Rattle.signed_note.specs.KeyKinds.{Secret, Pins, ArePins, pinned_key}
use Rattle.signed_note.specs.Notes.{SignatureParts, Opens, is_accepted_by}
use Rattle.signed_note.specs.Verifiers.{key_of, is_trusted_by, AcceptsAlike, AddsPins, AreGathered, JoinsPins}
use Rattle.signed_note.specs.declared.key_line.KeyLine.{KeyLine}
use Rattle.signed_note.specs.declared.key_line.KeyLine.TheVariants.{Hmac, Pin}
use Rattle.signed_note.proofs.Trust.{list_any-map, list_any_same, opens_is}

-- ---- tests

or_last : (a b c : Bool) → ((a || b) || c) ≡ ((a || c) || b)
or_last a b c = or_assoc a b c ∙ (ap (λ x. a || x) (or_comm b c) ∙ sym (or_assoc a c b))

both_or : (a b x y : Bool) → (a && (b && (x || y))) ≡ ((a && (b && x)) || (a && (b && y)))
both_or a b x y = ap (λ z. a && z) (and-or_distrib_left b x y) ∙ and-or_distrib_left a (b && x) (b && y)

pin_moves : (a t r : Bool) → ((a || (t || false)) || r) ≡ (a || (t || r))
pin_moves a t r = ap (λ x. (a || x) || r) (or-false t) ∙ or_assoc a t r

pin_first : (a p t r : Bool) → (a || ((p || (t || false)) || r)) ≡ (a || (p || (t || r)))
pin_first a p t r = ap (λ x. a || x) (pin_moves p t r)

secret_first : (a p s r : Bool) → ((a || (s || false)) || (p || r)) ≡ (a || (p || (s || r)))
secret_first a p s r =
    pin_moves a s (p || r) ∙
    ap (λ x. a || x) (sym (or_assoc s p r) ∙ (ap (λ x. x || r) (or_comm s p) ∙ or_assoc p s r))

-- replace one item: if the new item passes when the old one does or more is true, the list does too
any_set : {X : Type 0} (p : X → Bool) (xs : List X) (at : ℕ) (new : X) (more : Bool) → at < length xs →
    ((d : X) → p new ≡ (p (slice_index_or xs at d) || more)) → list_any p (slice_set xs at new) ≡ (list_any p xs || more)
any_set p [] at new more l is = absurd (omega (arith, l))
any_set p (x ∷ xs) zero new more l is =
    ap (λ b. b || list_any p xs) (is x) ∙ or_last (p x) more (list_any p xs)
any_set p (x ∷ xs) (suc at) new more l is =
    ap (λ b. p x || b) (any_set p xs at new more (omega (arith, l)) is) ∙ sym (or_assoc (p x) (list_any p xs) more)

-- ---- keys

-- two lists of keys together trust a line if one of them does
trusted_append : (text : List ℕ) (line : SignatureParts) (keys others : List Key) →
    is_trusted_by text line (keys ++ others) ≡ (is_trusted_by text line keys || is_trusted_by text line others)
trusted_append text line keys others = list_any-append (is_accepted_by text line) keys others

-- pins with added digests accept what either list of digests accepts
more_digests : (text : List ℕ) (line : SignatureParts) (name : List ℕ) (id : ℕ) (ds es : List (List ℕ)) →
    is_accepted_by text line (pinned_key record { name = name; id = id; digests = ds ++ es })
    ≡ (is_accepted_by text line (pinned_key record { name = name; id = id; digests = ds })
    || is_accepted_by text line (pinned_key record { name = name; id = id; digests = es }))
more_digests text line name id ds es =
    ap (λ b. bytes_eq name line.name && (nat_eq id line.id && b))
    (list_any-append (λ d. bytes_eq d (sha256 text)) ds es)
    ∙ both_or (bytes_eq name line.name) (nat_eq id line.id) (list_any (λ d. bytes_eq d (sha256 text)) ds)
    (list_any (λ d. bytes_eq d (sha256 text)) es)

-- the order of the digests does not matter
pub same_pins : (text : List ℕ) (line : SignatureParts) (pins added : Pins) →
    ArePins pins.name pins.id pins.digests added →
    is_accepted_by text line (pinned_key added) ≡ is_accepted_by text line (pinned_key pins)
same_pins text line pins added are =
    ap (λ n. bytes_eq n line.name && (nat_eq added.id line.id && list_any (λ d. bytes_eq d (sha256 text)) added.digests))
    are.name_is
    ∙ (ap (λ n. bytes_eq pins.name line.name && (nat_eq n line.id && list_any (λ d. bytes_eq d (sha256 text)) added.digests))
    are.id_is
    ∙ ap (λ b. bytes_eq pins.name line.name && (nat_eq pins.id line.id && b))
    (sym (list_any-IsPermutation (λ d. bytes_eq d (sha256 text)) pins.digests added.digests are.digests_are)))

-- the digests were added to the pins of their name and id
pub joined_at : (items : List Pins) (at : ℕ) (new texts : Pins) → at < length items →
    HoldsAt (λ k. (k.name ≡ texts.name) × (k.id ≡ texts.id)) items at →
    ((d : Pins) → new ≡ record (slice_index_or items at d) {
      digests = (slice_index_or items at d).digests ++ texts.digests;
    }) → AcceptsAlike (map pinned_key (slice_set items at new)) (map pinned_key items ++ pinned_key texts ∷ [])
joined_at items at new texts within same is text line =
    let p = λ (k : Pins). is_accepted_by text line (pinned_key k) in
    let one : (d : Pins) → p new ≡ (p (slice_index_or items at d) || p texts) =
    λ d. let old = slice_index_or items at d in
    ap p (is d)
    ∙ (more_digests text line old.name old.id old.digests texts.digests
    ∙ ap (λ b. p old || b)
    (ap (λ n. is_accepted_by text line (pinned_key record { name = n; id = old.id; digests = texts.digests })) (same d).0
    ∙ ap (λ n. is_accepted_by text line (pinned_key record { name = texts.name; id = n; digests = texts.digests })) (same d).1))
    in
    list_any-map pinned_key (is_accepted_by text line) (slice_set items at new)
    ∙ (any_set p items at new (p texts) within one
    ∙ sym (trusted_append text line (map pinned_key items) (pinned_key texts ∷ [])
    ∙ (ap (λ b. b || (p texts || false)) (list_any-map pinned_key (is_accepted_by text line) items)
    ∙ ap (λ b. list_any p items || b) (or-false (p texts)))))

-- ---- the lines

-- the lines gathered up to here, and the rest of the lines
pub record IsGathering (secrets : List KeyLine) (pins : List Pins) (rest lines : List KeyLine) : Type 0 where
  pub alike : (text : List ℕ) (line : SignatureParts) →
      (is_trusted_by text line (map key_of secrets)
      || (is_trusted_by text line (map pinned_key pins) || is_trusted_by text line (map key_of rest)))
      ≡ is_trusted_by text line (map key_of lines)
  pub secrets_in : (key : Secret) → Contains lines (Hmac key) →
      Contains secrets (Hmac key) ⊎ Contains rest (Hmac key)

pub gathers_none : (lines : List KeyLine) → IsGathering [] [] lines lines
gathers_none lines = record { alike = λ text line. refl; secrets_in = λ key h. inr h }

pub gathers_secret : (secrets grown : List KeyLine) (pins : List Pins) (rest left lines : List KeyLine) (key : Secret) →
    rest ≡ Hmac key ∷ left → grown ≡ secrets ++ Hmac key ∷ [] → IsGathering secrets pins rest lines →
    IsGathering grown pins left lines
gathers_secret secrets grown pins rest left lines key is more h =
    record {
      alike = λ text line.
          let trusted = is_trusted_by text line in
          let keys = λ (xs : List KeyLine). trusted (map key_of xs) in
          ap (λ xs. keys xs || (trusted (map pinned_key pins) || keys left)) more
          ∙ (ap (λ ks. trusted ks || (trusted (map pinned_key pins) || keys left)) (map-append key_of secrets (Hmac key ∷ []))
          ∙ (ap (λ b. b || (trusted (map pinned_key pins) || keys left))
          (trusted_append text line (map key_of secrets) (map key_of (Hmac key ∷ [])))
          ∙ (secret_first (keys secrets) (trusted (map pinned_key pins)) (is_accepted_by text line (key_of (Hmac key))) (keys left)
          ∙ (ap (λ xs. keys secrets || (trusted (map pinned_key pins) || keys xs)) (sym is) ∙ h.alike text line))));
      secrets_in = λ k inside.
          ⊎_elim (λ old. inl (subst (λ xs. Contains xs (Hmac k)) (sym more) (Contains-append_left secrets (Hmac key ∷ []) (Hmac k) old)))
          (λ waits. ⊎_elim
          (λ first. inl (subst (λ xs. Contains xs (Hmac k)) (sym more) (Contains-append_right secrets (Hmac key ∷ []) (Hmac k) first)))
          (λ later. inr later)
          (Contains-append_cases (Hmac key ∷ []) left (Hmac k) (subst (λ xs. Contains xs (Hmac k)) is waits)))
          (h.secrets_in k inside);
    }

abbrev IsPin : KeyLine → Type 0
IsPin (Hmac key) = ⊥
IsPin (Pin texts) = Unit {0}

no_secret : (texts : Pins) (key : Secret) → Contains (Pin texts ∷ []) (Hmac key) → ⊥
no_secret texts key (zero, l, e) = subst IsPin e tt
no_secret texts key (suc i, l, e) = omega (arith, l)

pub gathers_pin : (secrets : List KeyLine) (pins grown : List Pins) (rest left lines : List KeyLine) (texts : Pins) →
    rest ≡ Pin texts ∷ left → AcceptsAlike (map pinned_key grown) (map pinned_key pins ++ pinned_key texts ∷ []) →
    IsGathering secrets pins rest lines → IsGathering secrets grown left lines
gathers_pin secrets pins grown rest left lines texts is more h =
    record {
      alike = λ text line.
          let trusted = is_trusted_by text line in
          let keys = λ (xs : List KeyLine). trusted (map key_of xs) in
          ap (λ b. keys secrets || (b || keys left))
          (more text line ∙ trusted_append text line (map pinned_key pins) (pinned_key texts ∷ []))
          ∙ (pin_first (keys secrets) (trusted (map pinned_key pins)) (is_accepted_by text line (pinned_key texts)) (keys left)
          ∙ (ap (λ xs. keys secrets || (trusted (map pinned_key pins) || keys xs)) (sym is) ∙ h.alike text line));
      secrets_in = λ k inside.
          ⊎_elim (λ old. inl old)
          (λ waits. ⊎_elim (λ first. absurd (no_secret texts k first)) (λ later. inr later)
          (Contains-append_cases (Pin texts ∷ []) left (Hmac k) (subst (λ xs. Contains xs (Hmac k)) is waits)))
          (h.secrets_in k inside);
    }

none_in : (rest : List KeyLine) (key : Secret) → length rest ≡ 0 → Contains rest (Hmac key) → ⊥
none_in rest key none h = omega (arith, h.1)

none_trusted : (text : List ℕ) (line : SignatureParts) (rest : List KeyLine) → length rest ≡ 0 →
    is_trusted_by text line (map key_of rest) ≡ false
none_trusted text line [] none = refl
none_trusted text line (x ∷ rest) none = absurd (omega arith)

pub all_gathered : (secrets : List KeyLine) (pins : List Pins) (rest lines : List KeyLine) → length rest ≡ 0 →
    IsGathering secrets pins rest lines → AreGathered secrets pins lines
all_gathered secrets pins rest lines none h =
    record {
      alike = λ text line.
          let trusted = is_trusted_by text line in
          let a = trusted (map key_of secrets) in
          let p = trusted (map pinned_key pins) in
          trusted_append text line (map key_of secrets) (map pinned_key pins)
          ∙ (ap (λ b. a || b) (sym (or-false p))
          ∙ (ap (λ b. a || (p || b)) (sym (none_trusted text line rest none)) ∙ h.alike text line));
      secrets_in = λ key inside.
          ⊎_elim (λ old. old) (λ waits. absurd (none_in rest key none waits)) (h.secrets_in key inside);
    }

-- the order of the lines does not matter
pub gathered_of : (secrets : List KeyLine) (pins : List Pins) (lines moved : List KeyLine) →
    IsPermutation lines moved → AreGathered secrets pins moved → AreGathered secrets pins lines
gathered_of secrets pins lines moved same h =
    record {
      alike = λ text line. h.alike text line
          ∙ sym (list_any-IsPermutation (is_accepted_by text line) (map key_of lines) (map key_of moved)
          (IsPermutation-map key_of lines moved same));
      secrets_in = λ key inside. h.secrets_in key (Contains-permutation lines moved (Hmac key) same inside);
    }

-- ---- the pins joined

-- the keys up to here, and the rest of the gathered pins
pub record IsJoining (keys : List KeyLine) (rest : List Pins) (secrets : List KeyLine) (pins : List Pins) : Type 0 where
  pub alike : (text : List ℕ) (line : SignatureParts) →
      (is_trusted_by text line (map key_of keys) || is_trusted_by text line (map pinned_key rest))
      ≡ (is_trusted_by text line (map key_of secrets) || is_trusted_by text line (map pinned_key pins))
  pub secrets_in : (key : Secret) → Contains secrets (Hmac key) → Contains keys (Hmac key)

pub joins_pins : (keys grown : List KeyLine) (rest left : List Pins) (secrets : List KeyLine) (all : List Pins)
    (pins : Pins) → rest ≡ pins ∷ left → AddsPins keys grown pins → IsJoining keys rest secrets all →
    IsJoining grown left secrets all
joins_pins keys grown rest left secrets all pins is adds h =
    record {
      alike = λ text line.
          let trusted = is_trusted_by text line in
          let a = trusted (map key_of keys) in
          let r = trusted (map pinned_key left) in
          ap (λ xs. trusted (map key_of xs) || r) adds.new_is
          ∙ (ap (λ ks. trusted ks || r) (map-append key_of keys (Pin adds.added ∷ []))
          ∙ (ap (λ b. b || r) (trusted_append text line (map key_of keys) (pinned_key adds.added ∷ []))
          ∙ (pin_moves a (is_accepted_by text line (pinned_key adds.added)) r
          ∙ (ap (λ b. a || (b || r)) (same_pins text line pins adds.added adds.are_pins)
          ∙ (ap (λ ps. a || trusted (map pinned_key ps)) (sym is) ∙ h.alike text line)))));
      secrets_in = λ key inside.
          subst (λ xs. Contains xs (Hmac key)) (sym adds.new_is)
          (Contains-append_left keys (Pin adds.added ∷ []) (Hmac key) (h.secrets_in key inside));
    }

no_pins : (text : List ℕ) (line : SignatureParts) (rest : List Pins) → length rest ≡ 0 →
    is_trusted_by text line (map pinned_key rest) ≡ false
no_pins text line [] none = refl
no_pins text line (x ∷ rest) none = absurd (omega arith)

-- if two lists of keys accept the same, notes that open under one also open under the other
open_alike : (keys others : List KeyLine) → AcceptsAlike (map key_of keys) (map key_of others) →
    (text : List ℕ) (lines : List SignatureParts) → Opens text lines (map key_of keys) →
    Opens text lines (map key_of others)
open_alike keys others alike text lines h =
    let test = λ (ks : List KeyLine). list_any (λ line. list_any (λ k. is_accepted_by text line (key_of k)) ks) lines in
    let same : test keys ≡ test others =
    list_any_same (λ line. list_any (λ k. is_accepted_by text line (key_of k)) keys)
    (λ line. list_any (λ k. is_accepted_by text line (key_of k)) others) lines
    (λ line. sym (list_any-map key_of (is_accepted_by text line) keys)
    ∙ (alike text line ∙ list_any-map key_of (is_accepted_by text line) others)) in
    (opens_is key_of text lines others (test others) refl).0
    (sym same ∙ (opens_is key_of text lines keys (test keys) refl).1 h)

pub all_joined : (keys : List KeyLine) (rest : List Pins) (secrets : List KeyLine) (pins : List Pins)
    (lines : List KeyLine) → length rest ≡ 0 → AreGathered secrets pins lines → IsJoining keys rest secrets pins →
    JoinsPins lines keys
all_joined keys rest secrets pins lines none gathered h =
    let alike : AcceptsAlike (map key_of keys) (map key_of lines) =
    λ text line. sym (or-false (is_trusted_by text line (map key_of keys)))
    ∙ (ap (λ b. is_trusted_by text line (map key_of keys) || b) (sym (no_pins text line rest none))
    ∙ (h.alike text line ∙ (sym (trusted_append text line (map key_of secrets) (map pinned_key pins))
    ∙ gathered.alike text line))) in
    record {
      opens = λ text signatures.
          (open_alike keys lines alike text signatures, open_alike lines keys (λ t l. sym (alike t l)) text signatures);
      secrets = λ key inside. h.secrets_in key (gathered.secrets_in key inside);
    }
