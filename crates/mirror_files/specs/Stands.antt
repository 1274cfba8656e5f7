-- The parts at the start of bytes. The contracts of the private readers cite these words; the grammar of a state text
-- needs none of them.
use Rattle.std.specs.Prelude.{◌≡◌, ◌≢◌, ◌<◌, ℕ, List, ◌++◌, length, map, All, Result, Ok, Err, ⊤}
use Rattle.sha2.specs.Sha256.{sha256}
use Rattle.mirror_files.specs.declared.items.Form.{Form}
use Rattle.mirror_files.specs.StateText.{Parts, VersionTwo, VersionOne, AreParts, lists_text}
use Rattle.mirror_files.specs.declared.lists.Lists.{Lists}
use Rattle.mirror_files.specs.declared.lists.Lists.TheVariants as lists
use Rattle.mirror_files.specs.declared.parts.PartsFault.{PartsFault}
use Rattle.mirror_files.specs.declared.parts.PartsFault.TheVariants.{StateMagic, StateShort}
use Rattle.mirror_files.specs.declared.parts.PartsFault.TheVariants.{StateLong, StateDigest}
use Rattle.mirror_files.specs.declared.parts.PartsFault.TheVariants.{OutOfMemory}
use Rattle.mirror_files.specs.Reading.{HasMagic, HasBody}
use Rattle.mirror_files.specs.Items.{items_text, list_text, IsItem, AreItems}

-- the bytes begin with that number of items, and the rest follows them
pub record HasItems (form : Form) (count : ℕ) (bytes : List ℕ) (items : List (List ℕ))
    (rest : List ℕ) : Type 0 where
  pub count_is : length items ≡ count
  pub fits : All (IsItem form) items
  pub text : bytes ≡ items_text form items ++ rest

-- the bytes begin with a list of items, and the rest follows it
pub record HasList (form : Form) (bytes : List ℕ) (items : List (List ℕ)) (rest : List ℕ)
    : Type 0 where
  pub are_items : AreItems form items
  pub text : bytes ≡ list_text form items ++ rest

-- the bytes begin with the lists of a state text, and the rest follows them
pub record HasLists (bytes : List ℕ) (parts : Parts) (rest : List ℕ) : Type 0 where
  pub are_parts : AreParts parts
  pub text : bytes ≡ lists_text parts ++ rest

-- the lists of a state text as a value, from their borrowed form
abbrev pub parts_of : Lists → Parts
parts_of (lists.VersionTwo origin notes pairs entries) =
    VersionTwo origin.now (map (λ x. x.now) notes.items) (map (λ x. x.now) pairs.items)
    (map (λ x. x.now) entries.items)
parts_of (lists.VersionOne origin notes strings) =
    VersionOne origin.now (map (λ x. x.now) notes.items) (map (λ x. x.now) strings.items)

-- each answer of the reader of the lists is right about the bytes
abbrev pub FindsLists : List ℕ → Result (Parts × List ℕ) PartsFault → Type 0
FindsLists bytes (Ok found) = HasBody bytes found.0 found.1
FindsLists bytes (Err StateMagic) = ¬ HasMagic bytes
FindsLists bytes (Err StateShort) =
    HasMagic bytes × ((parts : Parts) (rest : List ℕ) → ¬ HasBody bytes parts rest)
FindsLists bytes (Err StateLong) = ⊥
FindsLists bytes (Err StateDigest) = ⊥
FindsLists bytes (Err OutOfMemory) = ⊤

-- each answer of checking the end of a state text is right: after the lists there is the digest of the body before it,
-- and nothing more
abbrev pub EndsAs : List ℕ → List ℕ → Result (Unit {0}) PartsFault → Type 0
EndsAs body end (Ok x) = end ≡ sha256 body
EndsAs body end (Err StateMagic) = ⊥
EndsAs body end (Err StateShort) = length end < 32
EndsAs body end (Err StateLong) = 32 < length end
EndsAs body end (Err StateDigest) = (length end ≡ 32) × (end ≢ sha256 body)
EndsAs body end (Err OutOfMemory) = ⊥
