-- The view of a mirror: the notes and strings that it holds.
use Rattle.std.specs.Prelude.{◌≡◌, ℕ, List, refl}
use Rattle.std.specs.Coded.{Coded, code_by, coded×, coded_ℕ, coded_list}
use Rattle.std.specs.FinSet as set
use Rattle.node_store.specs.Strings.{Strings, Has}

-- a mirror's view: the log's origin, a set of notes, and a set of strings that trees hash (RFC
-- 6962, section 2.1)
pub record View : Type 0 where
  pub origin : List ℕ
  pub notes : Strings
  pub strings : Strings

-- an order of sets of strings by codes, which a set of views needs; it has no meaning for a log
abbrev pub strings_code : Coded Strings
strings_code = set.code (coded_list coded_ℕ)

-- an order of views by codes, which a model of the mirror needs; it has no meaning for a log
abbrev pub view_code : Coded View
view_code =
    code_by (List ℕ × (Strings × Strings))
    (coded× (coded_list coded_ℕ) (coded× strings_code strings_code))
    (λ v. (v.origin, (v.notes, v.strings)))
    (λ p. record { origin = p.0; notes = p.1.0; strings = p.1.1 }) (λ _. refl)

-- the empty view of an origin
abbrev pub nothing : List ℕ → View
nothing origin = record { origin = origin; notes = set.empty; strings = set.empty }

-- the union of two views of one origin
abbrev pub union : View → View → View
union v w =
    record {
      origin = v.origin;
      notes = set.union v.notes w.notes;
      strings = set.union v.strings w.strings;
    }

-- w holds everything that v holds, and both have the same origin
pub record IsSubview (v w : View) : Type 0 where
  pub origin_is : v.origin ≡ w.origin
  pub notes_are : (note : List ℕ) → Has v.notes note → Has w.notes note
  pub strings_are : (string : List ℕ) → Has v.strings string → Has w.strings string
