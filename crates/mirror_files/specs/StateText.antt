-- The text of a mirror's state. Version 2 is written and read, version 1 is only read. Both are this project's own
-- formats.
use Rattle.std.specs.Prelude.{◌≡◌, ◌↔◌, ℕ, List, ◌∷◌, ◌++◌, codes}
use Rattle.std.specs.List.{Contains}
use Rattle.std.specs.List.Sorted.{IsStrictlySortedBy}
use Rattle.std.specs.Ordering.{nat_cmp}
use Rattle.std.specs.Cmp.Lexicographic.{slice_cmp}
use Rattle.sha2.specs.Sha256.{sha256}
use Rattle.node_store.specs.Strings.{Has}
use Rattle.mirror_model.specs.View.{View}
use Rattle.mirror_model.specs.Listed.{ListsNotes}
use Rattle.mirror_files.specs.declared.items.Form.TheVariants.{Short, Long, Hashes}
use Rattle.mirror_files.specs.Items.{item_text, list_text, IsItem, AreItems}

-- the content of a state text: in version 2 the pairs of hashes and the entries separately, in version 1 strings with
-- their tags
pub data Parts : Type 0 where
  VersionTwo : (origin : List ℕ) (notes pairs entries : List (List ℕ)) → Parts
  VersionOne : (origin : List ℕ) (notes strings : List (List ℕ)) → Parts

-- the first eight bytes of a state text: its version
abbrev pub magic_of : Parts → List ℕ
magic_of (VersionTwo origin notes pairs entries) = codes "TLMIRR02"
magic_of (VersionOne origin notes strings) = codes "TLMIRR01"

-- the bytes of a state text's lists
abbrev pub lists_text : Parts → List ℕ
lists_text (VersionTwo origin notes pairs entries) =
    item_text Short origin
    ++ (list_text Long notes ++ (list_text Hashes pairs ++ list_text Short entries))
lists_text (VersionOne origin notes strings) =
    item_text Short origin ++ (list_text Long notes ++ list_text Long strings)

-- the text without its digest
abbrev pub body_text : Parts → List ℕ
body_text parts = magic_of parts ++ lists_text parts

-- each part of version 2 can be written
pub record AreParted (origin : List ℕ) (notes pairs entries : List (List ℕ)) : Type 0 where
  pub origin_fits : IsItem Short origin
  pub notes_fit : AreItems Long notes
  pub pairs_fit : AreItems Hashes pairs
  pub entries_fit : AreItems Short entries

-- each part of version 1 can be written
pub record AreTagged (origin : List ℕ) (notes strings : List (List ℕ)) : Type 0 where
  pub origin_fits : IsItem Short origin
  pub notes_fit : AreItems Long notes
  pub strings_fit : AreItems Long strings

-- each part of a state text can be written
abbrev pub AreParts : Parts → Type 0
AreParts (VersionTwo origin notes pairs entries) = AreParted origin notes pairs entries
AreParts (VersionOne origin notes strings) = AreTagged origin notes strings

-- the bytes are the state text of these parts: the body, and its SHA-256
pub record IsText (bytes : List ℕ) (parts : Parts) : Type 0 where
  pub are_parts : AreParts parts
  pub text : bytes ≡ body_text parts ++ sha256 (body_text parts)

-- the bytes are the state text of the view in version 2, each list rising by bytes
pub record StateText (v : View) (bytes : List ℕ) : Type 0 where
  pub notes : List (List ℕ)
  pub pairs : List (List ℕ)
  pub entries : List (List ℕ)
  pub is_text : IsText bytes (VersionTwo v.origin notes pairs entries)
  pub notes_are : ListsNotes v notes
  pub pairs_rise : IsStrictlySortedBy (slice_cmp nat_cmp) pairs
  pub pairs_are : (pair : List ℕ) → Contains pairs pair ↔ Has v.strings (1 ∷ pair)
  pub entries_rise : IsStrictlySortedBy (slice_cmp nat_cmp) entries
  pub entries_are : (entry : List ℕ) → Contains entries entry ↔ Has v.strings (0 ∷ entry)

-- the bytes are a state text of the view in version 1, whose strings have their tags
pub record OldStateText (v : View) (bytes : List ℕ) : Type 0 where
  pub notes : List (List ℕ)
  pub strings : List (List ℕ)
  pub is_text : IsText bytes (VersionOne v.origin notes strings)
  pub notes_are : ListsNotes v notes
  pub strings_rise : IsStrictlySortedBy (slice_cmp nat_cmp) strings
  pub strings_are : (string : List ℕ) → Contains strings string ↔ Has v.strings string
