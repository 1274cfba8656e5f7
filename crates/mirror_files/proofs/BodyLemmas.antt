-- The bytes determine the body of a state text at their start.
use Rattle.std.proofs.Common.{◌≡◌, ◌≢◌, inl, inr, ℕ, ◌+◌, ◌≤◌, ◌<◌, ◌-◌, List, [], ◌∷◌, ◌++◌, length, take, drop, refl}
use Rattle.std.proofs.Common.{sym, ap, subst, ◌∙◌, append_assoc, arith, codes, Err, length-append, length-take}
use Rattle.std.proofs.Common.{length-drop, true≢false}
use Rattle.std.proofs.lemmas.Slice.Eq.{bytes_eq-Decides}
use Rattle.std.proofs.lemmas.List.{take_at, append-nil, take-append-drop}
use Rattle.sha2.specs.Sha256.{sha256}
use Rattle.mirror_files.specs.declared.items.Form.TheVariants.{Short, Long, Hashes}
use Rattle.mirror_files.specs.declared.parts.PartsFault.{PartsFault}
use Rattle.mirror_files.specs.declared.parts.PartsFault.TheVariants.{StateMagic, StateShort, StateLong, StateDigest}
use Rattle.mirror_files.specs.declared.parts.PartsFault.TheVariants.{OutOfMemory}
use Rattle.mirror_files.specs.Items.{item_text, list_text}
use Rattle.mirror_files.specs.StateText.{Parts, VersionTwo, VersionOne, magic_of, lists_text, body_text, IsText}
use Rattle.mirror_files.specs.Reading.{HasMagic, HasBody, HasText, ReadsParts}
use Rattle.mirror_files.specs.Stands.{HasList, HasLists, EndsAs}
use Rattle.mirror_files.proofs.ListLemmas.{list_one, origin_rest, parted_notes, tagged_notes}

-- the versions have different first bytes
pub versions_differ : (x : List ℕ) → x ≡ codes "TLMIRR02" → x ≡ codes "TLMIRR01" → ⊥
versions_differ x p q = true≢false (sym ((bytes_eq-Decides (codes "TLMIRR02") (codes "TLMIRR01")).1 (sym p ∙ q)) ∙ refl)

pub magic_in : (bytes : List ℕ) (parts : Parts) (rest : List ℕ) → HasBody bytes parts rest →
    take 8 bytes ≡ magic_of parts
magic_in bytes (VersionTwo o n p e) rest h = ap (λ (x : List ℕ). take 8 x) h.text
magic_in bytes (VersionOne o n s) rest h = ap (λ (x : List ℕ). take 8 x) h.text

pub has_magic : (bytes : List ℕ) (parts : Parts) (rest : List ℕ) → HasBody bytes parts rest → HasMagic bytes
has_magic bytes (VersionTwo o n p e) rest h = inl (magic_in bytes (VersionTwo o n p e) rest h)
has_magic bytes (VersionOne o n s) rest h = inr (magic_in bytes (VersionOne o n s) rest h)

pub lists_in : (bytes : List ℕ) (parts : Parts) (rest : List ℕ) → HasBody bytes parts rest →
    HasLists (drop 8 bytes) parts rest
lists_in bytes (VersionTwo o n p e) rest h = record { are_parts = h.are_parts; text = ap (λ (x : List ℕ). drop 8 x) h.text }
lists_in bytes (VersionOne o n s) rest h = record { are_parts = h.are_parts; text = ap (λ (x : List ℕ). drop 8 x) h.text }

-- bytes begin with the lists of one version in only one way
pub lists_one : (bytes : List ℕ) (p q : Parts) (a b : List ℕ) → magic_of p ≡ magic_of q → HasLists bytes p a →
    HasLists bytes q b → (p ≡ q) × (a ≡ b)
lists_one bytes (VersionTwo o n p e) (VersionOne o' n' s') a b m x y = absurd (versions_differ (codes "TLMIRR02") refl m)
lists_one bytes (VersionOne o n s) (VersionTwo o' n' p' e') a b m x y = absurd (versions_differ (codes "TLMIRR01") m refl)
lists_one bytes (VersionTwo o n p e) (VersionTwo o' n' p' e') a b m x y =
    let rest : List ℕ = (list_text Long n ++ (list_text Hashes p ++ list_text Short e)) ++ a in
    let first : bytes ≡ item_text Short o ++ rest =
    x.text ∙ append_assoc (item_text Short o) (list_text Long n ++ (list_text Hashes p ++ list_text Short e)) a in
    let here = parted_notes bytes o rest a o n p e x.are_parts.origin_fits first x in
    let there = parted_notes bytes o rest b o' n' p' e' x.are_parts.origin_fits first y in
    let origin = (origin_rest bytes o o' rest (list_text Long n' ++ (list_text Hashes p' ++ list_text Short e'))
    b x.are_parts.origin_fits y.are_parts.origin_fits first y.text).0 in
    let notes = list_one Long rest n n' _ _ here there in
    let pairs_here : HasList Hashes ((list_text Hashes p ++ list_text Short e) ++ a) p (list_text Short e ++ a) =
    record { are_items = x.are_parts.pairs_fit; text = append_assoc (list_text Hashes p) (list_text Short e) a } in
    let pairs_there : HasList Hashes ((list_text Hashes p ++ list_text Short e) ++ a) p' (list_text Short e' ++ b) =
    record {
      are_items = y.are_parts.pairs_fit;
      text = notes.1 ∙ append_assoc (list_text Hashes p') (list_text Short e') b;
    } in
    let pairs = list_one Hashes _ p p' _ _ pairs_here pairs_there in
    let entries_here : HasList Short (list_text Short e ++ a) e a =
    record { are_items = x.are_parts.entries_fit; text = refl } in
    let entries_there : HasList Short (list_text Short e ++ a) e' b =
    record { are_items = y.are_parts.entries_fit; text = pairs.1 } in
    let entries = list_one Short _ e e' a b entries_here entries_there in
    let one : VersionTwo o n p e ≡ VersionTwo o' n' p' e' = cc (origin, notes.0, pairs.0, entries.0) in
    (one, entries.1)
lists_one bytes (VersionOne o n s) (VersionOne o' n' s') a b m x y =
    let rest : List ℕ = (list_text Long n ++ list_text Long s) ++ a in
    let first : bytes ≡ item_text Short o ++ rest =
    x.text ∙ append_assoc (item_text Short o) (list_text Long n ++ list_text Long s) a in
    let here = tagged_notes bytes o rest a o n s x.are_parts.origin_fits first x in
    let there = tagged_notes bytes o rest b o' n' s' x.are_parts.origin_fits first y in
    let origin = (origin_rest bytes o o' rest (list_text Long n' ++ list_text Long s')
    b x.are_parts.origin_fits y.are_parts.origin_fits first y.text).0 in
    let notes = list_one Long rest n n' _ _ here there in
    let strings_here : HasList Long (list_text Long s ++ a) s a =
    record { are_items = x.are_parts.strings_fit; text = refl } in
    let strings_there : HasList Long (list_text Long s ++ a) s' b =
    record { are_items = y.are_parts.strings_fit; text = notes.1 } in
    let strings = list_one Long _ s s' a b strings_here strings_there in
    let one : VersionOne o n s ≡ VersionOne o' n' s' = cc (origin, notes.0, strings.0) in
    (one, strings.1)

-- bytes begin with a body in only one way
pub body_one : (bytes : List ℕ) (p q : Parts) (a b : List ℕ) → HasBody bytes p a → HasBody bytes q b → (p ≡ q) × (a ≡ b)
body_one bytes p q a b x y = lists_one (drop 8 bytes) p q a b (sym (magic_in bytes p a x) ∙ magic_in bytes q b y)
    (lists_in bytes p a x) (lists_in bytes q b y)

-- if a digest and more bytes follow the body, the end has at least the length of a digest
pub end_long : (bytes end digest rest : List ℕ) (parts others : Parts) → HasBody bytes parts end →
    HasText bytes others digest rest → 32 ≤ length end
end_long bytes end digest rest parts others h t =
    let same : end ≡ digest ++ rest = (body_one bytes parts others end (digest ++ rest) h t.has_body).1 in
    let len : length end ≡ length digest + length rest = ap length same ∙ length-append digest rest in
    let digest_len : length digest ≡ 32 = t.digest_len in
    omega arith

pub cut_end : (end after : List ℕ) → after ≡ drop 32 end → 32 < length end →
    (next : ℕ) × (rest : List ℕ) × (end ≡ take 32 end ++ (next ∷ rest))
cut_end end [] e long =
    let none : length (drop 32 end) ≡ 0 = ap length (sym e) in
    absurd (omega (arith, length-drop 32 end))
cut_end end (next ∷ rest) e long =
    (next, rest, sym (take-append-drop 32 end) ∙ ap (λ (x : List ℕ). take 32 end ++ x) (sym e))

-- more than 32 bytes after a body are the digest and more bytes
pub end_is_long : (bytes end : List ℕ) (parts : Parts) → HasBody bytes parts end → 32 < length end →
    ReadsParts bytes (Err StateLong)
end_is_long bytes end parts h long =
    let cut = cut_end end (drop 32 end) refl long in
    let len : length (take 32 end) ≡ 32 = omega (arith, length-take 32 end) in (
      parts,
      take 32 end,
      cut.0,
      cut.1,
      record { has_body = subst (λ (x : List ℕ). HasBody bytes parts x) cut.2 h; digest_len = len },
    )

-- the fault for the end is the fault for the text
pub ends_fail : (bytes body end : List ℕ) (parts : Parts) (fault : PartsFault) → HasBody bytes parts end →
    body ≡ body_text parts → EndsAs body end (Err fault) → ReadsParts bytes (Err fault)
ends_fail bytes body end parts StateMagic h b e = absurd e
ends_fail bytes body end parts StateShort h b e = (
  has_magic bytes parts end h,
  λ others digest rest t. let long : 32 ≤ length end =
      end_long bytes end digest rest parts others h t in absurd (omega arith),
)
ends_fail bytes body end parts StateLong h b e = end_is_long bytes end parts h e
ends_fail bytes body end parts StateDigest h b e =
    record {
      parts = parts;
      digest = end;
      has = record {
        has_body = subst (λ (x : List ℕ). HasBody bytes parts x) (sym (append-nil end)) h;
        digest_len = e.0;
      };
      differs = subst (λ (x : List ℕ). end ≢ sha256 x) b e.1;
    }
ends_fail bytes body end parts OutOfMemory h b e = absurd e

-- the bytes before the end are the body
pub body_is : (bytes end : List ℕ) (parts : Parts) → HasBody bytes parts end →
    take (length bytes - length end) bytes ≡ body_text parts
body_is bytes end parts h =
    let len : length bytes ≡ length (body_text parts) + length end =
    ap length h.text ∙ length-append (body_text parts) end in
    let front : length bytes - length end ≡ length (body_text parts) = omega arith in
    rw (front, h.text) (take_at (body_text parts) end (length (body_text parts)) refl)

pub is_text : (bytes body end : List ℕ) (parts : Parts) → HasBody bytes parts end → body ≡ body_text parts →
    end ≡ sha256 body → IsText bytes parts
is_text bytes body end parts h b e =
    record { are_parts = h.are_parts; text = h.text ∙ ap (λ (x : List ℕ). body_text parts ++ x) (e ∙ ap sha256 b) }

-- a body is its version's bytes and the lists
pub body_of : (bytes : List ℕ) (parts : Parts) (rest : List ℕ) → take 8 bytes ≡ magic_of parts →
    HasLists (drop 8 bytes) parts rest → HasBody bytes parts rest
body_of bytes parts rest m h =
    record {
      are_parts = h.are_parts;
      text = sym (take-append-drop 8 bytes)
          ∙ (ap (λ (x : List ℕ). x ++ drop 8 bytes) m ∙ (ap (λ (x : List ℕ). magic_of parts ++ x) h.text
          ∙ sym (append_assoc (magic_of parts) (lists_text parts) rest)));
    }

-- if the lists of the version are not at the start, no body is
pub none_parted : (bytes : List ℕ) → take 8 bytes ≡ codes "TLMIRR02" →
    ((o : List ℕ) (n p e : List (List ℕ)) (rest : List ℕ) → HasLists (drop 8 bytes) (VersionTwo o n p e) rest → ⊥) →
    (parts : Parts) (rest : List ℕ) → HasBody bytes parts rest → ⊥
none_parted bytes m none (VersionTwo o n p e) rest h = none o n p e rest (lists_in bytes (VersionTwo o n p e) rest h)
none_parted bytes m none (VersionOne o n s) rest h = versions_differ (take 8 bytes) m (magic_in bytes (VersionOne o n s) rest h)

pub none_tagged : (bytes : List ℕ) → take 8 bytes ≡ codes "TLMIRR01" →
    ((o : List ℕ) (n s : List (List ℕ)) (rest : List ℕ) → HasLists (drop 8 bytes) (VersionOne o n s) rest → ⊥) →
    (parts : Parts) (rest : List ℕ) → HasBody bytes parts rest → ⊥
none_tagged bytes m none (VersionTwo o n p e) rest h =
    versions_differ (take 8 bytes) (magic_in bytes (VersionTwo o n p e) rest h) m
none_tagged bytes m none (VersionOne o n s) rest h = none o n s rest (lists_in bytes (VersionOne o n s) rest h)
