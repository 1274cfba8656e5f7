-- Entries in order, while some are left.
use Rattle.std.proofs.Common.{◌≡◌, ℕ, zero, suc, false, nat_eq, ◌^◌, ◌<◌, List, [], ◌∷◌, ◌++◌, length, take}
use Rattle.std.proofs.Common.{Option, Some, None, Result, refl, sym, ap, subst, ◌∙◌, arith}
use Rattle.std.specs.Prelude.{IfSome}
use Rattle.std.proofs.lemmas.List.{append-nil, length-take, take_all}
use Rattle.tlog_tiles.specs.Bundle.{entry_text, HasBundle, IsBundle}
use Rattle.tlog_tiles.proofs.BundleLemmas.{HasBundle-first, HasBundle-rest}
use Rattle.state_commands.specs.Entries.{AreEntries, ReadsEntries}
use Rattle.state_commands.specs.declared.entries.EntriesFault.{EntriesFault}

-- bytes that are left are not an empty list of entries
none_left : (bytes front : List ℕ) (es : List (List ℕ)) → nat_eq (length bytes) 0 ≡ false → bytes ≡ front ++ [] →
    IsBundle 0 front es → ⊥
none_left bytes front [] some parts b =
    let empty : bytes ≡ [] = parts ∙ (append-nil front ∙ b.text) in
    cc
none_left bytes front (e ∷ es) some parts b = let bad : suc (length es) ≡ 0 = b.count in absurd (omega arith)

-- if bytes are left, they begin with an entry
pub first_left : (j : ℕ) (bytes : List ℕ) → nat_eq (length bytes) 0 ≡ false → HasBundle j bytes [] →
    (e : List ℕ) × (after : List ℕ) × (length e < 2 ^ 16) × (bytes ≡ entry_text e ++ after)
first_left zero bytes some h = absurd (none_left bytes h.front h.entries some h.parts h.is_bundle)
first_left (suc k) bytes some h = HasBundle-first k bytes [] h

-- the other entries follow the first one
pub others_left : (j : ℕ) (bytes e after : List ℕ) → nat_eq (length bytes) 0 ≡ false → length e < 2 ^ 16 → bytes ≡
    entry_text e ++ after → HasBundle j bytes [] → (k : ℕ) × HasBundle k after []
others_left zero bytes e after some fits parts h = absurd (none_left bytes h.front h.entries some h.parts h.is_bundle)
others_left (suc k) bytes e after some fits parts h =
    (k, HasBundle-rest k e after [] fits (subst (λ b. HasBundle (suc k) b []) parts h))

-- entries are a bundle of the same number of entries
pub bundle_of : (bytes : List ℕ) (es : List (List ℕ)) → AreEntries bytes es → HasBundle (length es) bytes []
bundle_of bytes es a = record {
  front = bytes;
  entries = es;
  parts = sym (append-nil bytes);
  is_bundle = record { count = refl; fits = a.fits; text = a.text };
}

-- bytes that were read up to a limit, and are fewer than the limit, are the whole input
pub whole_read : (known : Option (List ℕ)) (most : ℕ) (bytes : List ℕ) (r : Result (List (List ℕ)) EntriesFault) →
    IfSome known (λ input. bytes ≡ take most input) → length bytes < most → ReadsEntries bytes r
    → IfSome known (λ input. ReadsEntries input r)
whole_read None most bytes r part short reads = tt
whole_read (Some input) most bytes r part short reads =
    let len = ap length part ∙ length-take most input in
    let all : bytes ≡ input = part ∙ take_all most input (omega (arith, short, len)) in
    subst (λ b. ReadsEntries b r) all reads
