-- The strings that a state text lists, as the set of a store.
use Rattle.std.specs.Prelude.{◌≡◌, ℕ, ◌≤◌, List, ◌∷◌, length, All, Result, Ok, Err, ⊤}
use Rattle.std.specs.FinSet as set
use Rattle.node_store.specs.Strings.{Strings, NoClash}
use Rattle.node_store.specs.declared.store.AddFault.{AddFault}
use Rattle.node_store.specs.declared.store.AddFault.TheVariants as adding
use Rattle.mirror_model.specs.Strings.{HasClash}
use Rattle.mirror_files.specs.StateText.{Parts, VersionTwo, VersionOne}
use Rattle.mirror_files.specs.Content.{IsStateString}
use Rattle.mirror_files.specs.declared.storing.Kind.{Kind}
use Rattle.mirror_files.specs.declared.storing.Kind.TheVariants.{Entries, Pairs, Strings as Tags}

-- the ways to list strings: as entries, as pairs of hashes, or with their tags
abbrev pub tagged_as : Kind → List ℕ → List ℕ
tagged_as Entries item = 0 ∷ item
tagged_as Pairs item = 1 ∷ item
tagged_as Tags item = item

-- the item can be listed in that way
abbrev pub IsListable : Kind → List ℕ → Type 0
IsListable Entries item = length item ≤ 65535
IsListable Pairs item = length item ≡ 64
IsListable Tags item = IsStateString item

-- all strings of a state text can be listed in its way
abbrev pub AreListable : Parts → Type 0
AreListable (VersionTwo origin notes pairs entries) =
    All (IsListable Entries) entries × All (IsListable Pairs) pairs
AreListable (VersionOne origin notes strings) = All (IsListable Tags) strings

-- each answer of adding strings to a set is right: they are added, if none collides
abbrev pub AddsListed : (List ℕ → List ℕ) → Strings → List (List ℕ) → Result (Unit {0}) AddFault →
    Strings → Type 0
AddsListed digest old strings (Ok done) new =
    (new ≡ set.union old (set.from_list strings)) × NoClash digest new
AddsListed digest old strings (Err adding.Collision) new =
    HasClash digest (set.union old (set.from_list strings))
AddsListed digest old strings (Err adding.OutOfMemory) new = ⊤

-- each answer of making a set of strings is right: the strings are the set, if none collides
abbrev pub MakesStore : (List ℕ → List ℕ) → List (List ℕ) → Result Strings AddFault → Type 0
MakesStore digest strings (Ok made) = (made ≡ set.from_list strings) × NoClash digest made
MakesStore digest strings (Err adding.Collision) = HasClash digest (set.from_list strings)
MakesStore digest strings (Err adding.OutOfMemory) = ⊤
