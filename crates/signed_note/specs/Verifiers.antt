-- The keys of the lines of a key file, with the pins of one name and id joined. Only contracts of
-- private functions cite `line_cmp`, `is_trusted_by` and the definitions after them.
use Rattle.std.specs.Prelude.{◌≡◌, ◌↔◌, ℕ, List, [], ◌∷◌, ◌++◌, Bool, Contains, map}
use Rattle.std.specs.List.{list_any}
use Rattle.std.specs.Ordering.{nat_cmp, ordering_then}
use Rattle.std.specs.Cmp.Lexicographic.{slice_cmp}
use Rattle.std.specs.declared.cmp.Ordering.{Ordering}
use Rattle.std.specs.declared.cmp.Ordering.TheVariants.{Less, Equal, Greater}
use Rattle.signed_note.specs.Keys.{Key}
use Rattle.signed_note.specs.KeyKinds.{Secret, Pins, ArePins, secret_key, pinned_key}
use Rattle.signed_note.specs.Notes.{SignatureParts, Opens, is_accepted_by}
use Rattle.signed_note.specs.declared.key_line.KeyLine.{KeyLine}
use Rattle.signed_note.specs.declared.key_line.KeyLine.TheVariants.{Hmac, Pin}

-- the key of a line of a key file
abbrev pub key_of : KeyLine → Key
key_of (Hmac key) = secret_key key
key_of (Pin texts) = pinned_key texts

-- a note opens under the joined keys exactly if it opens under the keys of the lines, and each
-- shared key of the lines is a joined key
pub record JoinsPins (lines joined : List KeyLine) : Type 0 where
  pub opens :
      (text : List ℕ) (signatures : List SignatureParts) →
      Opens text signatures (map key_of joined) ↔ Opens text signatures (map key_of lines)
  pub secrets : (key : Secret) → Contains lines (Hmac key) → Contains joined (Hmac key)

-- the order in which lines are gathered: first the shared keys, which are all equal in it, then the
-- pins by name and id
abbrev pub line_cmp : KeyLine → KeyLine → Ordering
line_cmp (Hmac a) (Hmac b) = Equal
line_cmp (Hmac a) (Pin b) = Less
line_cmp (Pin a) (Hmac b) = Greater
line_cmp (Pin a) (Pin b) = ordering_then (slice_cmp nat_cmp a.name b.name) (nat_cmp a.id b.id)

-- whether one of the keys accepts the line's signature over the text
abbrev pub is_trusted_by : List ℕ → SignatureParts → List Key → Bool
is_trusted_by text line keys = list_any (is_accepted_by text line) keys

-- both lists of keys accept the same signatures
abbrev pub AcceptsAlike : List Key → List Key → Type 0
AcceptsAlike keys others =
    (text : List ℕ) (line : SignatureParts) →
    is_trusted_by text line keys ≡ is_trusted_by text line others

-- the shared keys and the pins together accept the same signatures as the keys of the lines
pub record AreGathered (secrets : List KeyLine) (pins : List Pins) (lines : List KeyLine) : Type 0 where
  pub alike : AcceptsAlike (map key_of secrets ++ map pinned_key pins) (map key_of lines)
  pub secrets_in : (key : Secret) → Contains lines (Hmac key) → Contains secrets (Hmac key)

-- the new keys are the old ones, followed by those pins
pub record AddsPins (old new : List KeyLine) (pins : Pins) : Type 0 where
  pub added : Pins
  pub are_pins : ArePins pins.name pins.id pins.digests added
  pub new_is : new ≡ old ++ Pin added ∷ []
