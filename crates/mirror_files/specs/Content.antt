-- What a state text lists, and how far bytes are in order.
use Rattle.std.specs.Prelude.{◌≡◌, ◌≢◌, ℕ, ◌≤◌, ◌⊎◌, List, [], ◌∷◌, ◌++◌, length, map, All, ⊤}
use Rattle.std.specs.FinSet as set
use Rattle.std.specs.List.Sorted.{IsStrictlySortedBy}
use Rattle.std.specs.Ordering.{nat_cmp}
use Rattle.std.specs.Cmp.Lexicographic.{slice_cmp}
use Rattle.mirror_model.specs.View.{View}
use Rattle.mirror_files.specs.StateText.{Parts, VersionTwo, VersionOne, IsText}

-- ---- the content of a state text

-- the origin that a state text names
abbrev pub listed_origin : Parts → List ℕ
listed_origin (VersionTwo origin notes pairs entries) = origin
listed_origin (VersionOne origin notes strings) = origin

-- the notes that a state text lists
abbrev pub listed_notes : Parts → List (List ℕ)
listed_notes (VersionTwo origin notes pairs entries) = notes
listed_notes (VersionOne origin notes strings) = notes

-- the strings that a state text lists, with their tags
abbrev pub listed_strings : Parts → List (List ℕ)
listed_strings (VersionTwo origin notes pairs entries) =
    map (λ (entry : List ℕ). 0 ∷ entry) entries ++ map (λ (pair : List ℕ). 1 ∷ pair) pairs
listed_strings (VersionOne origin notes strings) = strings

-- the view that holds exactly the notes and strings that a state text lists
abbrev pub listed_view : Parts → View
listed_view parts =
    record {
      origin = listed_origin parts;
      notes = set.from_list (listed_notes parts);
      strings = set.from_list (listed_strings parts);
    }

-- the items rise strictly by their bytes, a prefix first
abbrev pub Rises : List (List ℕ) → Type 0
Rises items = IsStrictlySortedBy (slice_cmp nat_cmp) items

-- each list of a state text rises
abbrev pub AllRise : Parts → Type 0
AllRise (VersionTwo origin notes pairs entries) = Rises notes × Rises pairs × Rises entries
AllRise (VersionOne origin notes strings) = Rises notes × Rises strings

-- a string of version 1: of an entry of at most 65,535 bytes, or of two hashes
abbrev pub IsStateString : List ℕ → Type 0
IsStateString [] = ⊥
IsStateString (tag ∷ rest) = ((tag ≡ 0) × (length rest ≤ 65535)) ⊎ ((tag ≡ 1) × (length rest ≡ 64))

-- each string of version 1 is a string of a tree; in version 2 the tags are not written
abbrev pub AllTaggedWell : Parts → Type 0
AllTaggedWell (VersionTwo origin notes pairs entries) = ⊤
AllTaggedWell (VersionOne origin notes strings) = All IsStateString strings

-- ---- how far bytes are in order, and why they are refused

module _ (origin : List ℕ) (bytes : List ℕ) where
  -- the bytes are a state text of that origin
  pub record HasOrigin (parts : Parts) : Type 0 where
    pub is_text : IsText bytes parts
    pub origin_is : listed_origin parts ≡ origin

  -- the bytes are a state text of that origin, and its lists rise
  pub record HasOrder (parts : Parts) : Type 0 where
    pub has_origin : HasOrigin parts
    pub all_rise : AllRise parts

  -- the bytes are a state text of that origin in order, and each of its strings can be a string of a tree
  pub record HasStrings (parts : Parts) : Type 0 where
    pub has_order : HasOrder parts
    pub tagged : AllTaggedWell parts

  -- the bytes are a state text of another origin
  pub record IsOfOtherOrigin : Type 0 where
    pub parts : Parts
    pub is_text : IsText bytes parts
    pub differs : listed_origin parts ≢ origin

  -- the bytes are a state text of that origin, and one of its lists does not rise
  pub record IsDisordered : Type 0 where
    pub parts : Parts
    pub has_origin : HasOrigin parts
    pub falls : ¬ AllRise parts

  -- the bytes are a state text of that origin in order, and one of its strings cannot be a string of a tree
  pub record HasBadString : Type 0 where
    pub parts : Parts
    pub has_order : HasOrder parts
    pub bad : ¬ AllTaggedWell parts
