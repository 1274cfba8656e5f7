-- How the line that says why a command failed is made.
use Rattle.std.proofs.Common.{◌≡◌, ℕ, ◌+◌, ◌<◌, List, [], ◌∷◌, ◌++◌, length, false, refl, arith, encode_utf8}
use Rattle.std.proofs.lemmas.List.{append-nil, length-append}
use Rattle.std.proofs.lemmas.Str.{NoCharPasses-append, length-encode}
use Rattle.std.specs.Char.{is_control, len_utf8}
use Rattle.std.specs.Str.{NoCharPasses}
use Rattle.program_io.specs.FileWhy.{IsWhyFront, IsWhyLine}
use Rattle.program_io.specs.declared.file_why.TheConstants.{MAX_WHY_LEN}

-- one character that is no control character
one_plain : (c : ℕ) → is_control c ≡ false → NoCharPasses is_control (encode_utf8 c)
one_plain c h = (c ∷ [], append-nil (encode_utf8 c), (h, tt))

-- the empty text may begin a line
pub no_front : IsWhyFront []
no_front = record { plain = ([], refl, tt); short = omega arith }

-- one more character, if the line has room for it
pub longer_front : (front : List ℕ) (c : ℕ) → IsWhyFront front → is_control c ≡ false →
    length front + len_utf8 c < MAX_WHY_LEN → IsWhyFront (front ++ encode_utf8 c)
longer_front front c is h room = record {
  plain = NoCharPasses-append is_control front (encode_utf8 c) is.plain (one_plain c h);
  short = omega (arith, room, length-append front (encode_utf8 c), length-encode c);
}

-- such a beginning with a newline at its end is a line
pub ended_front : (front : List ℕ) → IsWhyFront front → IsWhyLine (front ++ 10 ∷ [])
ended_front front is = record {
  text = front;
  plain = is.plain;
  is_line = refl;
  short = omega (arith, is.short, length-append front (10 ∷ []));
}
