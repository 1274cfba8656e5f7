-- The name of a key has no white space, also if it is read byte by byte.
use Rattle.std.proofs.Common.{◌≡◌, ℕ, ◌<◌, Bool, true, false, not, ◌||◌, nat_eq, List, [], ◌∷◌, get_or, refl, ap}
use Rattle.std.proofs.Common.{arith, lit<}
use Rattle.std.specs.List.{list_all}
use Rattle.std.specs.Char.{is_whitespace}
use Rattle.std.specs.Str.{NoCharPasses, NonePass, chars}
use Rattle.std.proofs.lemmas.Bool.{and_parts}
use Rattle.std.proofs.lemmas.List.Sums.{list_all-from_AllPass}
use Rattle.std.proofs.lemmas.Str.{NoCharPasses-byte, encodes-chars}
use Rattle.signed_note.specs.Names.{is_name_char, IsKeyName, newline, space}
use Rattle.signed_note.proofs.Lacking.{Lacks, Lacks-from_reads}

not_true : (b : Bool) → not b ≡ true → b ≡ false
not_true true h = absurd cc
not_true false h = refl

-- white space or a plus
abbrev is_barred : ℕ → Bool
is_barred c = is_whitespace c || nat_eq c 43

none_barred : (cs : List ℕ) → list_all is_name_char cs ≡ true → NonePass is_barred cs
none_barred [] h = tt
none_barred (c ∷ cs) h =
    let parts = and_parts (is_name_char c) (list_all is_name_char cs) h in
    (not_true (is_barred c) parts.0, none_barred cs parts.1)

lacks_barred : (name : List ℕ) → IsKeyName name → (c : ℕ) → c < 128 → is_barred c ≡ true → Lacks c name
lacks_barred name named c small barred =
    let none : NoCharPasses is_barred name = (
      chars name,
      encodes-chars name named.utf8,
      none_barred (chars name) (list_all-from_AllPass is_name_char (chars name) named.characters),
    ) in
    Lacks-from_reads c name (λ i lt e.
    let fails : is_barred (get_or name i 0) ≡ false = NoCharPasses-byte is_barred name i none lt (omega (arith, e)) in
    absurd (cc (ap is_barred e, fails, barred)))

pub name_lacks_space : (name : List ℕ) → IsKeyName name → Lacks space name
name_lacks_space name named = lacks_barred name named space (lit< tt) refl

pub name_lacks_newline : (name : List ℕ) → IsKeyName name → Lacks newline name
name_lacks_newline name named = lacks_barred name named newline (lit< tt) refl
