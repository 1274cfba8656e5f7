-- The last files of a larger tree: its partial bundle and its partial tiles.
use Rattle.std.proofs.Common.{◌≡◌, ◌≢◌, ◌⊎◌, ℕ, zero, suc, ◌+◌, ◌-◌, ◌*◌, ◌/◌, ◌%◌, ◌^◌, ◌≤◌, ◌<◌, List, [], ◌∷◌, length, take}
use Rattle.std.proofs.Common.{Option, Result, Ok, Err, OnOk, refl, sym, ap, subst, ◌∙◌, arith, inl, inr}
use Rattle.std.proofs.Math.Nat.{div-mul-le_self, div-eq_of_lt}
use Rattle.std.proofs.lemmas.Bool.{cases_lt}
use Rattle.std.proofs.lemmas.Nat.{le-div, mul-le}
use Rattle.std.proofs.lemmas.List.{length-append, nil_from_length}
use Rattle.tlog_shape.specs.Edge.{width_of, edge_index_of}
use Rattle.tlog_shape.proofs.Levels.{level_positive, shift_level}
use Rattle.tlog_hash.specs.Rows.{level_row}
use Rattle.tlog_tiles.specs.Row.{row_text}
use Rattle.tlog_tiles.specs.declared.paths.Path.{Path}
use Rattle.tlog_tiles.specs.declared.paths.Path.TheVariants.{Checkpoint, Tile, Entries}
use Rattle.tlog_tiles.specs.Tiles.{IsWithin}
use Rattle.tlog_tiles.proofs.EdgeLemmas.{hashes_of}
use Rattle.mirror_sources.specs.Recorded.{KeepsRecord, AddsToRecord}
use Rattle.mirror_sources.specs.Honest.{true_bytes}
use Rattle.mirror_folders.specs.Shelf.{Put}
use Rattle.mirror_folders.specs.FileLaws.{IsFileOf, IsWidestIn}
use Rattle.copy_follow.specs.Standing.{RecordsStands}
use Rattle.log_reader.specs.Verified.{HasLeaves}
use Rattle.copy_follow.specs.Growing.{Obtains, IsBelow, IsKnown, IsCutShort, IsNewFile, Tip}
use Rattle.log_reader.specs.EdgeRows.{Edge, HasWidths, RowIsTrue, edge_tile, row_at}
use Rattle.copy_follow.specs.Edges.{BringsToEdge, PutsNote, BringsEdgeBundle, PutsEdgeTile, IsCopyBrought, IsEdgeBrought, AreEdgeTilesPut, IsEdgeBundleBrought, IsEdgeTilePut}
use Rattle.copy_places.proofs.Prefixes.{level_row_front, within_more}
use Rattle.copy_follow.proofs.Growth.{gathers_keep, gathers_none, gathers_then, kept_same}
use Rattle.copy_follow.proofs.Below.{below_within, stands_gathered, records_earlier}
use Rattle.copy_follow.proofs.EdgeRows.{above_within}
use Rattle.copy_follow.proofs.Bundles as bundles

-- ---- the partial bundle

module _ (digest : List ℕ → List ℕ) (tip : Tip) (edge : Edge) (widths : HasWidths edge) (larger : tip.size < edge.size)
    (known : List (List ℕ)) (is : IsKnown digest tip (edge_index_of edge.size 0 * 256) known) where
  abbrev n : ℕ
  n = edge.size

  whole_size : 256 * edge_index_of n 0 + width_of n 0 ≡ n
  whole_size =
      let h : 256 * edge_index_of n 0 + width_of n 0 ≡ n / 1 = hashes_of n 0 in
      omega arith

  pub last_none : (x : Option (List Put)) → length (row_at edge 0) ≡ 0 → IsEdgeBundleBrought digest tip.size edge known x x
  last_none x empty =
      let width : 0 ≡ width_of n 0 = sym empty ∙ widths 0 (omega arith) in
      let long = is.size_is in
      record {
        next = known;
        gathers = gathers_none digest tip.size known x x (kept_same x);
        size_is = omega (arith, whole_size, width, long, larger);
        row_is = nil_from_length (row_at edge 0) empty
            ∙ ap (λ w. level_row digest known 0 (256 * edge_index_of n 0) w) width;
        holds = λ some. absurd (omega (arith, width, some));
      }

  module _ (width : ℕ) (some : 1 ≤ width) (width_is : width ≡ width_of n 0) (bytes : List ℕ)
      (v : HasLeaves digest width bytes (row_at edge 0))
      (goes_on : edge_index_of n 0 ≡ edge_index_of tip.size 0 → take (length tip.bundle) bytes ≡ tip.bundle)
      (x y z : Option (List Put)) (kept : KeepsRecord x y)
      (puts : (KeepsRecord y z) ⊎ (AddsToRecord y z ((Entries (edge_index_of n 0) width, bytes) ∷ []))) where
    beyond : tip.size < 256 * edge_index_of n 0 + width
    beyond = omega (arith, whole_size, larger, width_is)

    wide : width ≤ 256
    wide = omega (arith, width_is)

    pub last_left : IsCutShort digest tip.size known x z
    last_left = bundles.bundle_left digest tip (edge_index_of n 0) width some wide known is beyond bytes (row_at edge 0) v
        goes_on x y z kept puts

    pub last_some : RecordsStands y z (Entries (edge_index_of n 0) width) bytes → IsEdgeBundleBrought digest tip.size edge known x z
    last_some there =
        let index = edge_index_of n 0 in
        let row = row_at edge 0 in
        let next = bundles.next digest tip index width some wide known is beyond bytes row v goes_on in
        record {
          next = next;
          gathers = bundles.gathers_bundle digest tip index width some wide known is beyond bytes row v goes_on x y z kept puts;
          size_is = bundles.long_next digest tip index width some wide known is beyond bytes row v goes_on
              ∙ (ap (λ w. 256 * index + w) width_is ∙ whole_size);
          row_is = bundles.row_is digest tip index width some wide known is beyond bytes row v goes_on
              ∙ ap (λ w. level_row digest next 0 (256 * index) w) width_is;
          holds = λ positive. subst (λ w. RecordsStands x z (Entries index w) (true_bytes digest next (Entries index w))) width_is
              (bundles.bundle_there digest tip index width some wide known is beyond bytes row v goes_on x y z kept puts there);
        }

-- the answer of the last call is the answer
pub brings_last : (digest : List ℕ → List ℕ) (m : ℕ) (edge : Edge) (known : List (List ℕ)) (x y : Option (List Put))
    {T E : Type 0} (r : Result T E) (P : Type 0) → OnOk r P → (P → IsEdgeBundleBrought digest m edge known x y) →
    IsCutShort digest m known x y → BringsEdgeBundle digest m edge known x y r
brings_last digest m edge known x y (Ok a) P p f left = f p
brings_last digest m edge known x y (Err e) P p f left = left

pub puts_tile : (digest : List ℕ → List ℕ) (m : ℕ) (edge : Edge) (entries : List (List ℕ)) (x y : Option (List Put))
    (level : ℕ) {T E : Type 0} (r : Result T E) (P : Type 0) → OnOk r P → (P → IsEdgeTilePut digest m edge entries x y level) →
    Obtains digest m entries entries x y → PutsEdgeTile digest m edge entries x y level r
puts_tile digest m edge entries x y level (Ok a) P p f left = f p
puts_tile digest m edge entries x y level (Err e) P p f left = left

-- ---- the partial tiles

module _ (edge : Edge) (m level : ℕ) where
  abbrev size : ℕ
  size = edge.size

  -- the partial tile of a level is that of the first m entries
  pub old_tile : level ≤ 7 → 1 ≤ width_of size level → edge_index_of size level ≡ edge_index_of m level →
      width_of size level ≡ width_of m level → IsWithin m (edge_tile edge level)
  old_tile upto some index width =
      let same : (256 * edge_index_of size level + width_of size level) * 256 ^ level ≡ m / 256 ^ level * 256 ^ level =
      ap (λ k. k * 256 ^ level) (omega (arith, index, width, hashes_of m level)) in
      record {
        level_fits = upto;
        some = some;
        upto = omega arith;
        within = omega (arith, same, div-mul-le_self m (256 ^ level));
      }

  pub new_tile : m < size → ((edge_index_of size level ≡ edge_index_of m level) × (width_of size level ≡ width_of m level) → ⊥) →
      IsWithin m (edge_tile edge level) → ⊥
  new_tile larger other h =
      let unit = 256 ^ level in
      let a = size / unit in
      let b = m / unit in
      let same : (256 * edge_index_of size level + width_of size level) * unit ≡ a * unit =
      ap (λ k. k * unit) (hashes_of size level) in
      let within = h.within in
      let upto : a ≤ b = le-div a m unit (level_positive level) (omega (arith, within, same)) in
      let down : b ≤ a =
      le-div b size unit (level_positive level) (omega (arith, div-mul-le_self m unit, larger)) in
      let equal : a ≡ b = omega arith in
      other (
        sym (shift_level size level) ∙ (ap (λ q. q / 256) equal ∙ shift_level m level),
        ap (λ q. q % 256) equal,
      )

module _ (digest : List ℕ → List ℕ) (m : ℕ) (edge : Edge) (entries : List (List ℕ)) (long : length entries ≡ edge.size) where
  pub edge_put_first : (x : Option (List Put)) → AreEdgeTilesPut digest m edge entries x x 0
  edge_put_first x = record {
    gathers = gathers_none digest m entries x x (kept_same x);
    holds = λ level lt. absurd (omega arith);
  }

  -- the partial tile of a level is within the entries
  tile_within : (level : ℕ) → level ≤ 7 → 1 ≤ width_of edge.size level → IsWithin (length entries) (edge_tile edge level)
  tile_within level upto some =
      let same : (256 * edge_index_of edge.size level + width_of edge.size level) * 256 ^ level
      ≡ edge.size / 256 ^ level * 256 ^ level = ap (λ k. k * 256 ^ level) (hashes_of edge.size level) in
      record {
        level_fits = upto;
        some = some;
        upto = omega arith;
        within = omega (arith, same, div-mul-le_self edge.size (256 ^ level), long);
      }

  module _ (y z : Option (List Put)) (level : ℕ) (upto : level ≤ 7) (some : 1 ≤ width_of edge.size level)
      (new : IsWithin m (edge_tile edge level) → ⊥) (true_row : RowIsTrue digest edge entries level)
      (bytes : List ℕ) (is : bytes ≡ row_text (row_at edge level))
      (puts : (KeepsRecord y z) ⊎ (AddsToRecord y z ((edge_tile edge level, bytes) ∷ []))) where
    is_new : IsNewFile digest m entries (edge_tile edge level, bytes)
    is_new = record {
      new = new;
      within = tile_within level upto some;
      bytes_are = is ∙ ap row_text true_row;
    }

    pub gathers_tile : Obtains digest m entries entries y z
    gathers_tile = gathers_keep digest m entries y z (edge_tile edge level, bytes) puts is_new

    pub tile_put : RecordsStands y z (edge_tile edge level) bytes → IsEdgeTilePut digest m edge entries y z level
    tile_put there = record {
      gathers = gathers_tile;
      holds = λ some_l new_l. subst (λ b. RecordsStands y z (edge_tile edge level) b) is_new.bytes_are there;
    }

  pub tile_old : (x : Option (List Put)) (level : ℕ) →
      (1 ≤ width_of edge.size level → IsWithin m (edge_tile edge level)) → IsEdgeTilePut digest m edge entries x x level
  tile_old x level old = record {
    gathers = gathers_none digest m entries x x (kept_same x);
    holds = λ some new. absurd (new (old some));
  }

  pub edge_put_then : (x y z : Option (List Put)) (level : ℕ) → level ≤ 7 → AreEdgeTilesPut digest m edge entries x y level →
      IsEdgeTilePut digest m edge entries y z level → AreEdgeTilesPut digest m edge entries x z (level + 1)
  edge_put_then x y z level upto p q = record {
    gathers = gathers_then digest m entries entries entries x y z p.gathers q.gathers;
    holds = λ l lt some new. elim (cases_lt l level) [
      | inl lower ↦ stands_gathered digest m entries entries x y z (edge_tile edge l) q.gathers
          (tile_within l (omega arith) some) (p.holds l lower some new)
      | inr here ↦
          let same : l ≡ level = omega arith in
          let tile : edge_tile edge level ≡ edge_tile edge l = ap (λ j. edge_tile edge j) (sym same) in
          let there = q.holds (subst (λ j. 1 ≤ width_of edge.size j) same some)
          (subst (λ (t : Path). IsWithin m t → ⊥) (sym tile) new) in
          subst (λ (t : Path). RecordsStands x z t (true_bytes digest entries t)) tile
          (records_earlier x y z p.gathers.puts (edge_tile edge level) (true_bytes digest entries (edge_tile edge level))
          p.gathers.recorded there)
    ];
  }

-- ---- full tiles that were brought

-- the row of a level has the hash of the tile, or of a tile above it
pub record IsUnder (n level index : ℕ) : Type 0 where
  pub top : ℕ
  pub k : ℕ
  pub some : 1 ≤ top
  pub upto : top ≤ 7
  pub lower : level ≤ top - 1
  pub within : k < width_of n top
  pub is : index / 256 ^ (top - 1 - level) ≡ 256 * edge_index_of n top + k

under : (n level index : ℕ) → n < 9223372036854775808 → (fuel at : ℕ) → fuel + at ≡ 7 → level ≤ at →
    index / 256 ^ (at - level) < edge_index_of n at → IsUnder n level index
under n level index small zero at full lower lt =
    let seven : at ≡ 7 = omega arith in
    let none : edge_index_of n at ≡ 0 = ap (λ l. edge_index_of n l) seven ∙ div-eq_of_lt (omega arith) in
    absurd (omega (arith, none, lt))
under n level index small (suc fuel) at full lower lt =
    let a = index / 256 ^ (at - level) in
    let edge = edge_index_of n (at + 1) in
    let count : 256 * edge + width_of n (at + 1) ≡ edge_index_of n at = hashes_of n (at + 1) in
    elim (cases_lt a (256 * edge)) [
      | inl left ↦
          let gap : at + 1 - level ≡ (at - level) + 1 = omega arith in
          let above : index / 256 ^ (at + 1 - level) ≡ a / 256 =
          ap (λ e. index / 256 ^ e) gap ∙ sym (shift_level index (at - level)) in
          under n level index small fuel (at + 1) (omega arith) (omega arith) (omega (arith, above, left))
      | inr right ↦
          let back : at + 1 - 1 ≡ at = omega arith in
          record {
            top = at + 1;
            k = a - 256 * edge;
            some = omega arith;
            upto = omega arith;
            lower = omega arith;
            within = omega (arith, count, lt, right);
            is = ap (λ e. index / 256 ^ (e - level)) back ∙ omega (arith, right);
          }
    ]

pub full_under : (n level index : ℕ) → n < 9223372036854775808 → level ≤ 7 → (256 * index + 256) * 256 ^ level ≤ n →
    IsUnder n level index
full_under n level index small upto fits =
    let unit = 256 ^ level in
    let upto_n : 256 * index + 256 ≤ n / unit = le-div (256 * index + 256) n unit (level_positive level) fits in
    let shifted = shift_level n level in
    let none : level - level ≡ 0 = omega arith in
    let same : index / 256 ^ (level - level) ≡ index = ap (λ e. index / 256 ^ e) none ∙ omega arith in
    under n level index small (7 - level) level (omega arith) (omega arith) (omega (arith, upto_n, shifted, same))

-- a file that is not full is the partial file of its level
pub partial_at : (n level index width : ℕ) → IsWidestIn n level index width → width < 256 →
    (index ≡ edge_index_of n level) × (width ≡ width_of n level)
partial_at n level index width h part =
    let unit = 256 ^ level in
    let fits = h.within in
    let within = fits.within in
    let low : 256 * index + width ≤ n / unit = le-div (256 * index + width) n unit (level_positive level) within in
    let high : n / unit < 256 * index + width + 1 = elim (cases_lt (n / unit) (256 * index + width + 1)) [
      | inl lt ↦ lt
      | inr ge ↦
          let more : (256 * index + (width + 1)) * unit ≤ n / unit * unit =
          mul-le (256 * index + (width + 1)) unit (n / unit) unit (omega arith) (omega arith) in
          absurd (h.widest (width + 1) (omega arith) (record {
            level_fits = fits.level_fits;
            some = omega arith;
            upto = omega arith;
            within = omega (arith, more, div-mul-le_self n unit);
          }))
    ] in
    let shifted = shift_level n level in (omega (arith, low, high, shifted), omega (arith, low, high, shifted))

-- ---- all files

module _ (digest : List ℕ → List ℕ) (tip : Tip) (edge : Edge) (known : List (List ℕ)) (widths : HasWidths edge)
    (x y z : Option (List Put)) (e : IsEdgeBrought digest tip edge known 1 x y)
    (l : IsEdgeBundleBrought digest tip.size edge e.next y z) where
  abbrev m : ℕ
  m = tip.size

  pub gathers_two : Obtains digest m known l.next x z
  gathers_two = gathers_then digest m known e.next l.next x y z e.gathers l.gathers

  pub true_rows : (level : ℕ) → level ≤ 7 → RowIsTrue digest edge l.next level
  true_rows level upto = elim (cases_lt 0 level) [
    | inr none ↦ let same : 0 ≡ level = omega arith in subst (λ j. RowIsTrue digest edge l.next j) same l.row_is
    | inl some ↦ e.rows_are level some upto
        ∙ sym (ap (λ (es : List (List ℕ)). level_row digest es level (256 * edge_index_of edge.size level) (width_of edge.size level))
        l.gathers.next_is
        ∙ level_row_front digest e.next l.gathers.more level (256 * edge_index_of edge.size level) (width_of edge.size level)
        (above_within digest tip edge known widths x y 1 level (omega arith) some e))
  ]

  pub left_put : (w v : Option (List Put)) → Obtains digest m l.next l.next z w → KeepsRecord w v → IsCutShort digest m known x v
  left_put w v g kept = record {
    next = l.next;
    gathers = gathers_then digest m known l.next l.next x w v (gathers_then digest m known l.next l.next x z w gathers_two g)
        (gathers_none digest m l.next w v kept);
  }

module _ (digest : List ℕ → List ℕ) (tip : Tip) (edge : Edge) (note : List ℕ) (known : List (List ℕ))
    (small : edge.size < 9223372036854775808) (widths : HasWidths edge) (x y z w v : Option (List Put))
    (e : IsEdgeBrought digest tip edge known 1 x y) (l : IsEdgeBundleBrought digest tip.size edge e.next y z)
    (p : AreEdgeTilesPut digest tip.size edge l.next z w 8) (recorded : AddsToRecord w v ((Checkpoint, note) ∷ [])) where
  two : Obtains digest tip.size known l.next x z
  two = gathers_two digest tip edge known widths x y z e l

  longer : length e.next ≤ length l.next
  longer = omega (arith, ap length l.gathers.next_is, length-append e.next l.gathers.more)

  -- the files below a hash of a row end within the entries
  hash_within : (top k : ℕ) → 1 ≤ top → k < width_of edge.size top →
      (256 * edge_index_of edge.size top + k + 1) * 256 ^ (top - 1 + 1) ≤ length e.next
  hash_within top k some lt =
      let back : top - 1 + 1 ≡ top = omega arith in
      let at = 256 * edge_index_of edge.size top in
      let less : (at + k + 1) * 256 ^ top ≤ (at + width_of edge.size top) * 256 ^ top =
      mul-le (at + k + 1) (256 ^ top) (at + width_of edge.size top) (256 ^ top) (omega arith) (omega arith) in
      omega (
        arith,
        less,
        ap (λ j. (at + k + 1) * 256 ^ j) back,
        above_within digest tip edge known widths x y 1 top (omega arith) some e,
      )

  -- a full file that was brought below the edge is on the shelf
  full_stands : (path : Path) (level index : ℕ) → (u : IsUnder edge.size level index) →
      IsBelow (u.top - 1) (256 * edge_index_of edge.size u.top + u.k) path → (IsWithin tip.size path → ⊥) →
      RecordsStands x w path (true_bytes digest l.next path)
  full_stands path level index u below new =
      let upto = u.upto in
      let within : IsWithin (length e.next) path =
      below_within (u.top - 1) (256 * edge_index_of edge.size u.top + u.k) (length e.next) path (omega arith)
      (hash_within u.top u.k u.some u.within) below in
      stands_gathered digest tip.size l.next l.next x z w path p.gathers
      (within_more (length e.next) (length l.next) path longer within)
      (stands_gathered digest tip.size e.next l.next x y z path l.gathers within (e.holds u.top u.some u.upto u.k u.within path below new))

  tile_all : (level index width : ℕ) → IsWidestIn edge.size level index width →
      (IsWithin tip.size (Tile level index width) → ⊥) →
      RecordsStands x w (Tile level index width) (true_bytes digest l.next (Tile level index width))
  tile_all level index width file new =
      let fits = file.within in
      let upto = fits.upto in
      elim (cases_lt width 256) [
        | inl part ↦
            let at = partial_at edge.size level index width file part in
            let is : edge_tile edge level ≡ Tile level index width = λ j. Tile level (sym at.0 j) (sym at.1 j) in
            let some : 1 ≤ width_of edge.size level = subst (λ k. 1 ≤ k) at.1 fits.some in
            let lower : level < 8 = let most = fits.level_fits in omega arith in
            let there : RecordsStands z w (edge_tile edge level) (true_bytes digest l.next (edge_tile edge level)) =
            p.holds level lower some (λ old. new (subst (λ (q : Path). IsWithin tip.size q) is old)) in
            subst (λ (q : Path). RecordsStands x w q (true_bytes digest l.next q)) is
            (records_earlier x z w two.puts (edge_tile edge level) (true_bytes digest l.next (edge_tile edge level))
            two.recorded there)
        | inr full ↦
            let whole : width ≡ 256 = omega arith in
            let within : (256 * index + 256) * 256 ^ level ≤ edge.size =
            subst (λ k. (256 * index + k) * 256 ^ level ≤ edge.size) whole fits.within in
            let u = full_under edge.size level index small fits.level_fits within in
            full_stands (Tile level index width) level index u (u.lower, u.is, whole) new
      ]

  bundle_all : (index width : ℕ) → IsWidestIn edge.size 0 index width →
      (IsWithin tip.size (Entries index width) → ⊥) →
      RecordsStands x w (Entries index width) (true_bytes digest l.next (Entries index width))
  bundle_all index width file new =
      let fits = file.within in
      let upto = fits.upto in
      elim (cases_lt width 256) [
        | inl part ↦
            let at = partial_at edge.size 0 index width file part in
            let there_path = Entries (edge_index_of edge.size 0) (width_of edge.size 0) in
            let is : there_path ≡ Entries index width = λ j. Entries (sym at.0 j) (sym at.1 j) in
            let some : 1 ≤ width_of edge.size 0 = subst (λ k. 1 ≤ k) at.1 fits.some in
            let there : RecordsStands x z there_path (true_bytes digest l.next there_path) =
            records_earlier x y z e.gathers.puts there_path (true_bytes digest l.next there_path) e.gathers.recorded
            (l.holds some) in
            stands_gathered digest tip.size l.next l.next x z w (Entries index width) p.gathers
            (subst (λ k. IsWithin k (Entries index width)) (sym l.size_is) fits)
            (subst (λ (q : Path). RecordsStands x z q (true_bytes digest l.next q)) is there)
        | inr full ↦
            let whole : width ≡ 256 = omega arith in
            let within : (256 * index + 256) * 256 ^ 0 ≤ edge.size =
            subst (λ k. (256 * index + k) * 256 ^ 0 ≤ edge.size) whole fits.within in
            let u = full_under edge.size 0 index small (omega arith) within in
            let all : u.top - 1 - 0 ≡ u.top - 1 = omega arith in
            full_stands (Entries index width) 0 index u (ap (λ t. index / 256 ^ t) (sym all) ∙ u.is, whole) new
      ]

  all_stand : (path : Path) → path ≢ Checkpoint → IsFileOf edge.size path → (IsWithin tip.size path → ⊥) →
      RecordsStands x w path (true_bytes digest l.next path)
  all_stand Checkpoint other file new = absurd (other refl)
  all_stand (Tile level index width) other file new = tile_all level index width file new
  all_stand (Entries index width) other file new = bundle_all index width file new

  pub copy_brought : IsCopyBrought digest tip edge note known x v
  copy_brought = record {
    next = l.next;
    before = w;
    gathers = gathers_then digest tip.size known l.next l.next x z w two p.gathers;
    last = recorded;
    size_is = l.size_is;
    rows_are = true_rows digest tip edge known widths x y z e l;
    holds = all_stand;
  }

-- the answer of the last put is the answer
pub ends_brought : (digest : List ℕ → List ℕ) (tip : Tip) (edge : Edge) (note : List ℕ) (known : List (List ℕ))
    (x w v : Option (List Put)) {T E : Type 0} (r : Result T E) → PutsNote w v tip.checkpoint note r →
    (AddsToRecord w v ((Checkpoint, note) ∷ []) → IsCopyBrought digest tip edge note known x v) →
    (KeepsRecord w v → IsCutShort digest tip.size known x v) → BringsToEdge digest tip edge note known x v r
ends_brought digest tip edge note known x w v (Ok a) puts brought cut = brought puts.recorded
ends_brought digest tip edge note known x w v (Err e) puts brought cut = cut puts
