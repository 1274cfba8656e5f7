-- The paths of a log's files (C2SP tlog-tiles, "Parameters", "Merkle Tree" and "Log Entries"):
-- their texts, and the answers of a reader of paths.
use Rattle.std.specs.Prelude.{◌≡◌, ◌≢◌, ◌==◌, ℕ, zero, suc, ◌+◌, ◌*◌, ◌/◌, ◌%◌, ◌<◌, ◌≤◌, ◌⊎◌, List}
use Rattle.std.specs.Prelude.{[], ◌∷◌, ◌++◌, Option, Some, None, Result, Ok, Err, All}
use Rattle.std.specs.Prelude.{if◌then◌else◌, codes, ⊤}
use Rattle.std.specs.List.{flat_map}
use Rattle.std.specs.Fmt.{decimal}
use Rattle.tlog_tiles.specs.declared.paths.TheConstants.{MAX_INDEX}
use Rattle.tlog_tiles.specs.declared.paths.Path.{Path}
use Rattle.tlog_tiles.specs.declared.paths.Path.TheVariants.{Checkpoint, Tile, Entries}
use Rattle.tlog_tiles.specs.declared.paths.PathFault.{PathFault}
use Rattle.tlog_tiles.specs.declared.paths.PathFault.TheVariants.{Unknown, BadLevel, BadIndex}
use Rattle.tlog_tiles.specs.declared.paths.PathFault.TheVariants.{BadWidth}

-- ---- the parts of a text

-- the text is one segment: it contains no slash
abbrev pub HasNoSlash : List ℕ → Type 0
HasNoSlash text = All (λ c. c ≢ 47) text

-- the last three decimal digits of a number
abbrev pub three_digits : ℕ → List ℕ
three_digits n = (48 + n / 100 % 10) ∷ (48 + n / 10 % 10) ∷ (48 + n % 10) ∷ []

-- a group of an index, if another group or the last digits follow it: an x, three digits and a
-- slash
abbrev pub group_text : ℕ → List ℕ
group_text n = 120 ∷ three_digits n ++ 47 ∷ []

-- the number that groups of three digits make, after the number of the groups before them
abbrev pub number_of : ℕ → List ℕ → ℕ
number_of before [] = before
number_of before (group ∷ groups) = number_of (before * 1000 + group) groups

-- the first of the groups, if any, is not x000
abbrev pub BeginsAboveZero : List ℕ → Type 0
BeginsAboveZero [] = ⊤
BeginsAboveZero (group ∷ groups) = 0 < group

-- the text is the index in groups of three digits; each group except the last begins with an x
pub record IsIndex (text : List ℕ) (index : ℕ) : Type 0 where
  pub groups : List ℕ
  pub last : ℕ
  pub fits : All (λ group. group < 1000) groups
  pub last_fits : last < 1000
  pub begins : BeginsAboveZero groups
  pub text_is : text ≡ flat_map group_text groups ++ three_digits last
  pub index_is : index ≡ number_of 0 groups * 1000 + last

-- the text is the width of a partial tile or bundle: 1 to 255 in decimal, without leading zeros
pub record IsPartialWidth (text : List ℕ) (width : ℕ) : Type 0 where
  pub some : 1 ≤ width
  pub partial : width ≤ 255
  pub text_is : text ≡ decimal width

-- the width of a path: from the text of the width, or 256 if there is no such text
abbrev pub IsWidthOf : Option (List ℕ) → ℕ → Type 0
IsWidthOf None width = width ≡ 256
IsWidthOf (Some text) width = IsPartialWidth text width

-- the text has three segments or more, and the first is `tile`; second is the second segment, and
-- tail is the text after it
pub record IsBelowTile (text second tail : List ℕ) : Type 0 where
  pub text_is : text ≡ codes "tile/" ++ second ++ 47 ∷ tail
  pub second_is : HasNoSlash second

-- the second segment is one digit from 0 to 7, or `entries`
abbrev pub IsKind : List ℕ → Type 0
IsKind second =
    ((level : ℕ) × (level ≤ 7) × (second ≡ (48 + level) ∷ [])) ⊎ (second ≡ codes "entries")

-- the text after the second segment is the index, and the width if the last segment but one ends in
-- .p
abbrev pub HasWidthPart : List ℕ → List ℕ → Option (List ℕ) → Type 0
HasWidthPart tail index None =
    (tail ≡ index)
    × ((front last : List ℕ) → HasNoSlash last → ¬ (tail ≡ front ++ codes ".p/" ++ last))
HasWidthPart tail index (Some width) = (tail ≡ index ++ codes ".p/" ++ width) × HasNoSlash width

-- ---- the grammar

-- the text is `tile/`, the second segment, a slash, an index up to MAX_INDEX, and a width unless
-- the width is 256
pub record IsFileText (second text : List ℕ) (index width : ℕ) : Type 0 where
  pub tail : List ℕ
  pub index_text : List ℕ
  pub width_text : Option (List ℕ)
  pub below : IsBelowTile text second tail
  pub parts : HasWidthPart tail index_text width_text
  pub index_is : IsIndex index_text index
  pub index_fits : index ≤ MAX_INDEX
  pub width_is : IsWidthOf width_text width

-- the text spells the path, and the path is lawful
abbrev pub IsPath : List ℕ → Path → Type 0
IsPath text Checkpoint = text ≡ codes "checkpoint"
IsPath text (Tile level index width) = (level ≤ 7) × IsFileText ((48 + level) ∷ []) text index width
IsPath text (Entries index width) = IsFileText (codes "entries") text index width

-- ---- refused texts

-- the text begins with `tile/` and a second segment that is neither a level nor `entries`
pub record HasBadLevel (text : List ℕ) : Type 0 where
  pub second : List ℕ
  pub tail : List ℕ
  pub below : IsBelowTile text second tail
  pub bad : ¬ IsKind second

-- the second segment is a level or `entries`, but the index is not lawful
pub record HasBadIndex (text : List ℕ) : Type 0 where
  pub second : List ℕ
  pub tail : List ℕ
  pub index_text : List ℕ
  pub width_text : Option (List ℕ)
  pub below : IsBelowTile text second tail
  pub kind : IsKind second
  pub parts : HasWidthPart tail index_text width_text
  pub bad : (index : ℕ) → index ≤ MAX_INDEX → ¬ IsIndex index_text index

-- the second segment and the index are lawful, but the width is not that of a partial tile
pub record HasBadWidth (text : List ℕ) : Type 0 where
  pub second : List ℕ
  pub tail : List ℕ
  pub index_text : List ℕ
  pub width_text : Option (List ℕ)
  pub index : ℕ
  pub below : IsBelowTile text second tail
  pub kind : IsKind second
  pub parts : HasWidthPart tail index_text width_text
  pub index_is : IsIndex index_text index
  pub index_fits : index ≤ MAX_INDEX
  pub bad : (width : ℕ) → ¬ IsWidthOf width_text width

-- when a reader of paths may return each answer
abbrev pub ReadsPath : List ℕ → Result Path PathFault → Type 0
ReadsPath text (Ok path) = IsPath text path
ReadsPath text (Err Unknown) =
    (text ≢ codes "checkpoint") × ((second tail : List ℕ) → ¬ IsBelowTile text second tail)
ReadsPath text (Err BadLevel) = HasBadLevel text
ReadsPath text (Err BadIndex) = HasBadIndex text
ReadsPath text (Err BadWidth) = HasBadWidth text

-- ---- printing

-- the groups of an index before the last, for the number that they make; the first argument is a
-- bound of that number
abbrev pub groups_within : ℕ → ℕ → List ℕ
groups_within zero number = []
groups_within (suc bound) zero = []
groups_within (suc bound) (suc n) = groups_within bound (suc n / 1000) ++ group_text (suc n)

-- the groups of an index before the last, for the number that they make; each is an x, three digits
-- and a slash, and 0 has no group
unfoldable pub groups_text : ℕ → List ℕ
groups_text number = groups_within number number

-- the text of an index, in groups of three digits
abbrev pub index_text : ℕ → List ℕ
index_text index = groups_text (index / 1000) ++ three_digits index

-- the end of a path with that width
abbrev pub width_text : ℕ → List ℕ
width_text width = if width == 256 then [] else codes ".p/" ++ decimal width

-- the text of any path, lawful or not
abbrev pub path_text : Path → List ℕ
path_text Checkpoint = codes "checkpoint"
path_text (Tile level index width) =
    codes "tile/" ++ (decimal level ++ (codes "/" ++ (index_text index ++ width_text width)))
path_text (Entries index width) = codes "tile/entries/" ++ (index_text index ++ width_text width)

-- the path is lawful: a reader accepts its text
abbrev pub IsLawfulPath : Path → Type 0
IsLawfulPath Checkpoint = ⊤
IsLawfulPath (Tile level index width) =
    (level ≤ 7) × (index ≤ MAX_INDEX) × (1 ≤ width) × (width ≤ 256)
IsLawfulPath (Entries index width) = (index ≤ MAX_INDEX) × (1 ≤ width) × (width ≤ 256)
