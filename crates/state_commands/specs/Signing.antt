-- The key that signs a log.
use Rattle.std.specs.Prelude.{List, [], ◌∷◌, Option, Some, None}
use Rattle.signed_note.specs.KeyKinds.{Secret}
use Rattle.signed_note.specs.declared.key_line.KeyLine.{KeyLine}
use Rattle.signed_note.specs.declared.key_line.KeyLine.TheVariants.{Hmac, Pin}

-- the first key with a shared secret
abbrev pub first_secret : List KeyLine → Option Secret
first_secret [] = None
first_secret (Hmac key ∷ lines) = Some key
first_secret (Pin texts ∷ lines) = first_secret lines
