-- The files below a tile, and the files that stay on the shelf as more is put.
use Rattle.std.proofs.Common.{◌≡◌, ◌⊎◌, ℕ, ◌+◌, ◌-◌, ◌*◌, ◌/◌, ◌%◌, ◌^◌, ◌≤◌, ◌<◌, List, [], ◌∷◌, length}
use Rattle.std.proofs.Common.{Option, Some, None, sym, ap, subst, ◌∙◌, arith, inl, inr}
use Rattle.std.specs.List.{Contains}
use Rattle.std.proofs.Math.Nat.{lt-div-mul-add, div-one}
use Rattle.std.proofs.lemmas.Bool.{cases_lt}
use Rattle.std.proofs.lemmas.Nat.{mul-le, pow-add}
use Rattle.std.proofs.lemmas.List.Elements.{All-contains}
use Rattle.tlog_shape.proofs.Levels.{level_positive, level_next, shift_level}
use Rattle.tlog_tiles.specs.declared.paths.Path.{Path}
use Rattle.tlog_tiles.specs.declared.paths.Path.TheVariants.{Checkpoint, Tile, Entries}
use Rattle.tlog_tiles.specs.Tiles.{IsWithin, IsTileWithin}
use Rattle.mirror_sources.specs.Recorded.{KeepsRecord, AddsToRecord}
use Rattle.mirror_sources.specs.Honest.{true_bytes}
use Rattle.mirror_folders.specs.Shelf.{Put, Stands}
use Rattle.mirror_folders.proofs.Standing.{stands_more}
use Rattle.copy_follow.specs.Standing.{RecordsStands}
use Rattle.copy_follow.specs.Growing.{IsBelow, IsNewFile, Obtains, HoldsBelow}
use Rattle.copy_places.proofs.Prefixes.{bytes_front}

-- ---- files below a tile

-- a tile below another ends within the other's range
end_within : (l level i index : ℕ) → l ≤ level → i / 256 ^ (level - l) ≡ index →
    (256 * i + 256) * 256 ^ l ≤ (index + 1) * 256 ^ (level + 1)
end_within l level i index le is =
    let gap = 256 ^ (level - l) in
    let above : i < i / gap * gap + gap = lt-div-mul-add (level_positive (level - l)) in
    let at : i / gap * gap + gap ≡ (index + 1) * gap = ap (λ q. q * gap + gap) is ∙ omega arith in
    let step : (i + 1) * 256 ^ (l + 1) ≤ (index + 1) * gap * 256 ^ (l + 1) =
    mul-le (i + 1) (256 ^ (l + 1)) ((index + 1) * gap) (256 ^ (l + 1)) (omega (arith, above, at)) (omega arith) in
    let sum : (level - l) + (l + 1) ≡ level + 1 = omega arith in
    let power : gap * 256 ^ (l + 1) ≡ 256 ^ (level + 1) =
    sym (pow-add 256 (level - l) (l + 1)) ∙ ap (λ e. 256 ^ e) sum in
    let whole : (index + 1) * gap * 256 ^ (l + 1) ≡ (index + 1) * 256 ^ (level + 1) =
    omega arith ∙ ap (λ p. (index + 1) * p) power in
    let first : (256 * i + 256) * 256 ^ l ≡ (i + 1) * 256 ^ (l + 1) =
    omega arith ∙ ap (λ p. (i + 1) * p) (sym (level_next l)) in
    omega (arith, first, step, whole)

pub below_within : (level index n : ℕ) (path : Path) → level ≤ 7 → (index + 1) * 256 ^ (level + 1) ≤ n →
    IsBelow level index path → IsWithin n path
below_within level index n Checkpoint upto le h = absurd h
below_within level index n (Tile l i width) upto le h =
    let end = end_within l level i index h.0 h.1 in
    let lower = h.0 in
    subst (λ w. IsTileWithin n l i w) (sym h.2) (record {
      level_fits = omega arith;
      some = omega arith;
      upto = omega arith;
      within = omega (arith, end, le);
    })
below_within level index n (Entries i width) upto le h =
    let all : level - 0 ≡ level = omega arith in
    let end = end_within 0 level i index (omega arith) (ap (λ e. i / 256 ^ e) all ∙ h.0) in
    subst (λ w. IsTileWithin n 0 i w) (sym h.1) (record {
      level_fits = omega arith;
      some = omega arith;
      upto = omega arith;
      within = omega (arith, end, le);
    })

-- the index of the child
child_of : (sub index i gap : ℕ) → i / 256 ^ (gap + 1) ≡ index → i / 256 ^ gap ≡ 256 * index + i / 256 ^ gap % 256
child_of sub index i gap is =
    let shifted = shift_level i gap in
    omega (arith, shifted, is)

-- the path is the tile itself, or below one of its children
abbrev pub ChildOf : ℕ → ℕ → Path → Type 0
ChildOf sub index path = (k : ℕ) × (k < 256) × IsBelow sub (256 * index + k) path

pub below_child : (sub index : ℕ) (path : Path) → IsBelow (sub + 1) index path →
    (path ≡ Tile (sub + 1) index 256) ⊎ ChildOf sub index path
below_child sub index Checkpoint h = absurd h
below_child sub index (Tile l i width) h = elim (cases_lt sub l) [
  | inl top ↦
      let lower = h.0 in
      let level : l ≡ sub + 1 = omega arith in
      let none : sub + 1 - l ≡ 0 = omega arith in
      let same : i ≡ index = sym (div-one i) ∙ (ap (λ e. i / 256 ^ e) (sym none) ∙ h.1) in
      inl (λ j. Tile (level j) (same j) (h.2 j))
  | inr under ↦
      let gap : sub + 1 - l ≡ (sub - l) + 1 = omega arith in
      let is : i / 256 ^ (sub - l + 1) ≡ index = ap (λ e. i / 256 ^ e) (sym gap) ∙ h.1 in
      inr (i / 256 ^ (sub - l) % 256, omega arith, (under, child_of sub index i (sub - l) is, h.2))
]
below_child sub index (Entries i width) h =
    inr (i / 256 ^ sub % 256, omega arith, (child_of sub index i sub h.0, h.1))

pub below_bundle : (index : ℕ) (path : Path) → IsBelow 0 index path →
    (path ≡ Tile 0 index 256) ⊎ (path ≡ Entries index 256)
below_bundle index Checkpoint h = absurd h
below_bundle index (Tile l i width) h =
    let lower = h.0 in
    let level : l ≡ 0 = omega arith in
    let none : 0 - l ≡ 0 = omega arith in
    let same : i ≡ index = sym (div-one i) ∙ (ap (λ e. i / 256 ^ e) (sym none) ∙ h.1) in
    inl (λ j. Tile (level j) (same j) (h.2 j))
below_bundle index (Entries i width) h =
    let same : i ≡ index = sym (div-one i) ∙ h.0 in
    inr (λ j. Entries (same j) (h.1 j))

-- ---- files on the shelf

-- a file is put
pub records_put : (x y z : Option (List Put)) (path : Path) (bytes : List ℕ) → KeepsRecord x y →
    AddsToRecord y z ((path, bytes) ∷ []) → RecordsStands x z path bytes
records_put None y z path bytes k h = tt
records_put (Some xs) None z path bytes k h = absurd k
records_put (Some xs) (Some ys) None path bytes k h = h
records_put (Some xs) (Some ys) (Some zs) path bytes k h = record {
  before = ys;
  after = [];
  puts_are = h;
  kept = λ other has. let none = has.1 in absurd (omega arith);
}

-- the shelf had the file after a later beginning
pub records_earlier : (x y z : Option (List Put)) (puts : List Put) (path : Path) (bytes : List ℕ) → AddsToRecord x y puts →
    RecordsStands y z path bytes → RecordsStands x z path bytes
records_earlier None y z puts path bytes t h = tt
records_earlier (Some xs) None z puts path bytes t h = absurd t
records_earlier (Some xs) (Some ys) None puts path bytes t h = h
records_earlier (Some xs) (Some ys) (Some zs) puts path bytes t h = h

-- a file stays on the shelf if new files are put
pub records_later : (x y z : Option (List Put)) (path : Path) (bytes : List ℕ) (puts : List Put) → AddsToRecord y z puts →
    ((other : List ℕ) → Contains puts (path, other) → other ≡ bytes) → RecordsStands x y path bytes →
    RecordsStands x z path bytes
records_later None y z path bytes puts t same h = tt
records_later (Some xs) None z path bytes puts t same h = absurd h
records_later (Some xs) (Some ys) None path bytes puts t same h = t
records_later (Some xs) (Some ys) (Some zs) path bytes puts t same h =
    subst (λ (l : List Put). Stands l path bytes) (sym t) (stands_more ys puts path bytes h same)

module _ (digest : List ℕ → List ℕ) (m : ℕ) where
  -- a file of the known entries stays true and on the shelf, as more is gathered
  pub stands_gathered : (known next : List (List ℕ)) (x y z : Option (List Put)) (path : Path) →
      Obtains digest m known next y z → IsWithin (length known) path →
      RecordsStands x y path (true_bytes digest known path) → RecordsStands x z path (true_bytes digest next path)
  stands_gathered known next x y z path g within h =
      let same : true_bytes digest next path ≡ true_bytes digest known path =
      ap (λ l. true_bytes digest l path) g.next_is ∙ bytes_front digest known g.more path within in
      records_later x y z path (true_bytes digest next path) g.puts g.recorded
      (λ other has. (All-contains (IsNewFile digest m next) g.puts (path, other) g.are_new has).bytes_are)
      (subst (λ bytes. RecordsStands x y path bytes) (sym same) h)

  -- the same for all files below a tile
  pub holds_gathered : (level index : ℕ) (known next : List (List ℕ)) (x y z : Option (List Put)) → level ≤ 7 →
      (index + 1) * 256 ^ (level + 1) ≤ length known → Obtains digest m known next y z →
      HoldsBelow digest m level index known x y → HoldsBelow digest m level index next x z
  holds_gathered level index known next x y z upto le g h = λ path below new.
      stands_gathered known next x y z path g (below_within level index (length known) path upto le below)
      (h path below new)
