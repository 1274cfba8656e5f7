-- The signing key is among the keys of the key file.
use Rattle.std.proofs.Common.{◌≡◌, ℕ, suc, List, [], ◌∷◌, Some, Contains, map, Result, Ok, Err, sym, ap, subst}
use Rattle.std.proofs.Common.{◌∙◌, arith, is_some, unwrap_or}
use Rattle.std.proofs.lemmas.List.{get_or-map, length-map}
use Rattle.std.specs.Result.{is_ok}
use Rattle.std.proofs.lemmas.Bool.{false≢true}
use Rattle.signed_note.specs.KeyKinds.{Secret, secret_key}
use Rattle.signed_note.specs.KeyFiles.{IsKeyFile}
use Rattle.signed_note.specs.Verifiers.{key_of}
use Rattle.signed_note.specs.declared.key_fault.KeyFileFault.{KeyFileFault}
use Rattle.signed_note.specs.declared.key_line.KeyLine.{KeyLine}
use Rattle.signed_note.specs.declared.key_line.KeyLine.TheVariants.{Hmac, Pin}
use Rattle.signed_note.proofs.OneKeyFile.{one_key_answer}
use Rattle.state_commands.specs.Signing.{first_secret}
use Rattle.program_library.specs.RunLaws.{SignersAreKeys}

abbrev lines_of : Result (List KeyLine) KeyFileFault → List KeyLine
lines_of (Ok lines) = lines
lines_of (Err fault) = []

-- the lines of a key file follow from its bytes
one_list : (bytes : List ℕ) (lines others : List KeyLine) → IsKeyFile bytes lines → IsKeyFile bytes others →
    lines ≡ others
one_list bytes lines others h g =
    ap lines_of (one_key_answer bytes (Ok lines) (Ok others) (λ e. false≢true (sym (ap is_ok e)))
    (λ e. false≢true (sym (ap is_ok e))) h g)

first_listed : (lines : List KeyLine) (signer : Secret) → Some signer ≡ first_secret lines →
    Contains lines (Hmac signer)
first_listed [] signer e = absurd (false≢true (sym (ap is_some e)))
first_listed (Hmac key ∷ lines) signer e = (0, omega arith, sym (ap (λ found. Hmac (unwrap_or found signer)) e))
first_listed (Pin texts ∷ lines) signer e =
    let rest = first_listed lines signer e in (suc rest.0, omega (arith, rest.1), rest.2)

key_listed : (lines : List KeyLine) (signer : Secret) → Contains lines (Hmac signer) →
    Contains (map key_of lines) (secret_key signer)
key_listed lines signer h = (
  h.0,
  omega (arith, h.1, length-map lines key_of),
  get_or-map key_of lines h.0 (Hmac signer) (secret_key signer) h.1 ∙ ap key_of h.2,
)

pub signers_are_keys : SignersAreKeys
signers_are_keys bytes lines joined signer h joins found =
    key_listed joined signer (joins.secrets signer
    (subst (λ (l : List KeyLine). Contains l (Hmac signer))
    (one_list bytes found.lines lines found.are_lines h) (first_listed found.lines signer found.first_is)))
