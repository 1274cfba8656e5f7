-- Files that stand, or whose full files begin with their bytes, while true files are put; and all files of a copy.
use Rattle.std.proofs.Common.{◌≡◌, ◌≢◌, ◌⊎◌, ℕ, ◌+◌, ◌-◌, ◌*◌, ◌/◌, ◌%◌, ◌^◌, ◌≤◌, ◌<◌, List, [], ◌∷◌, ◌++◌, length, map, All}
use Rattle.std.proofs.Common.{Option, Result, Ok, Err, OnOk, Some, None, inl, inr, refl, sym, ap, subst, ◌∙◌, arith, append_assoc}
use Rattle.std.specs.List.{Contains}
use Rattle.std.proofs.Math.Nat.{div-eq_of_lt}
use Rattle.tlog_shape.proofs.Levels.{level_positive}
use Rattle.std.proofs.lemmas.Bool.{cases_eq, cases_lt}
use Rattle.std.proofs.lemmas.Nat.{mul-le}
use Rattle.std.proofs.lemmas.List.{append_cancel_left, length-append}
use Rattle.std.proofs.lemmas.List.Elements.{All-contains, All-nil, Contains-append_cases, Contains-append_left, Contains-append_right}
use Rattle.tlog_shape.specs.Edge.{edge_index_of, width_of}
use Rattle.tlog_hash.specs.Rows.{level_row}
use Rattle.tlog_hash.specs.Tree.{mth}
use Rattle.tlog_tiles.specs.declared.paths.Path.{Path}
use Rattle.tlog_tiles.specs.declared.paths.Path.TheVariants.{Checkpoint, Tile, Entries}
use Rattle.tlog_tiles.specs.Row.{row_text}
use Rattle.tlog_tiles.specs.Tiles.{IsWithin}
use Rattle.tlog_tiles.proofs.EdgeLemmas.{contains_none, contains_one}
use Rattle.mirror_model.specs.Edge.{edge_levels, edge_root, edge_row}
use Rattle.mirror_model.proofs.EdgeRoots.{edge_root_is}
use Rattle.mirror_sources.specs.Files.{full_of, width_named}
use Rattle.mirror_sources.specs.Honest.{true_bytes}
use Rattle.mirror_sources.specs.Recorded.{AddsToRecord, KeepsRecord}
use Rattle.mirror_folders.specs.Shelf.{HasPut, Put, RecordsRead, Stands}
use Rattle.mirror_folders.specs.FileLaws.{IsWidestIn}
use Rattle.mirror_folders.proofs.AllFiles.{files_are_all}
use Rattle.mirror_folders.proofs.Standing.{stands_more}
use Rattle.log_reader.specs.EdgeRows.{Edge, HasWidths, LeadsTo, RowIsTrue, edge_tile, row_at}
use Rattle.log_reader.specs.Holding.{IsTreeFile}
use Rattle.mirror_model.specs.Heads.{IsHead}
use Rattle.mirror_model.specs.TrueLaws.{AreShort}
use Rattle.copy_places.proofs.Prefixes.{level_row_front, within_more}
use Rattle.copy_follow.specs.Edges.{IsEdgeBrought}
use Rattle.copy_follow.specs.Growing.{IsBelow, IsKnown, IsNewFile, Obtains, empty_tip}
use Rattle.copy_follow.specs.Pruned.{HasGivenWay}
use Rattle.copy_follow.specs.Repaired.{AreEdgeTilesHad, GaveWay, HasCopy, HasLog, IsEachHad, IsEdgeTileHad, IsEndHad, IsRepaired, MendsEdgeTile, MendsEdgeTiles, PutsTrue, RecordsHad, RepairKeepsTrue}
use Rattle.copy_follow.specs.Standing.{RecordsStands}
use Rattle.copy_follow.proofs.Below.{below_within, stands_gathered}
use Rattle.copy_follow.proofs.EdgeRows.{above_within}
use Rattle.copy_follow.proofs.Finishing.{IsUnder, full_under, partial_at}
use Rattle.copy_follow.proofs.Growth.{gathers_keep, gathers_none, gathers_then, kept_adds, kept_same}
use Rattle.copy_follow.proofs.Mending.{never_within}
use Rattle.copy_follow.proofs.PrunedFiles.{file_listed, file_within}
use Rattle.copy_follow.proofs.Roots.{levels_within, map_same}

-- ---- a file at a path among some puts

eq_case : (a b : ℕ) → (a ≡ b) ⊎ (a ≢ b)
eq_case a b = elim (cases_eq a b) [ inl same ↦ inl same | inr other ↦ inr other ]

path_case : (p q : Path) → (p ≡ q) ⊎ (p ≢ q)
path_case Checkpoint Checkpoint = inl refl
path_case Checkpoint (Tile level index width) = inr (λ e. cc)
path_case Checkpoint (Entries index width) = inr (λ e. cc)
path_case (Tile level index width) Checkpoint = inr (λ e. cc)
path_case (Tile l i w) (Tile level index width) = elim (eq_case l level) [
  | inr other ↦ inr (λ e. other (cc e))
  | inl same_level ↦ elim (eq_case i index) [
    | inr other ↦ inr (λ e. other (cc e))
    | inl same_index ↦ elim (eq_case w width) [
      | inr other ↦ inr (λ e. other (cc e))
      | inl same_width ↦ inl (λ j. Tile (same_level j) (same_index j) (same_width j))
    ]
  ]
]
path_case (Tile l i w) (Entries index width) = inr (λ e. cc)
path_case (Entries i w) Checkpoint = inr (λ e. cc)
path_case (Entries i w) (Tile level index width) = inr (λ e. cc)
path_case (Entries i w) (Entries index width) = elim (eq_case i index) [
  | inr other ↦ inr (λ e. other (cc e))
  | inl same_index ↦ elim (eq_case w width) [
    | inr other ↦ inr (λ e. other (cc e))
    | inl same_width ↦ inl (λ j. Entries (same_index j) (same_width j))
  ]
]

abbrev paths : List Put → List Path
paths puts = map (λ (put : Put). put.0) puts

-- a put of the bytes at the path
record IsPutAmong (puts : List Put) (path : Path) (bytes : List ℕ) : Type 0 where
  before : List Put
  after : List Put
  puts_are : puts ≡ before ++ (path, bytes) ∷ after

find_put : (puts : List Put) (path : Path) (bytes : List ℕ) → ((other : List ℕ) → Contains puts (path, other) → other ≡ bytes) →
    IsPutAmong puts path bytes ⊎ (HasPut puts path → ⊥)
find_put [] path bytes same = inr (contains_none path)
find_put (x ∷ puts) path bytes same = elim (path_case x.0 path) [
  | inl here ↦
      let at : x ≡ (path, x.1) = λ j. (here j, x.1) in
      let is : x.1 ≡ bytes = same x.1 (subst (λ (p : Put). Contains (x ∷ puts) p) at
      (Contains-append_left (x ∷ []) puts x (0, omega arith, refl))) in
      inl (record { before = []; after = puts; puts_are = λ j. (here j, is j) ∷ puts })
  | inr other ↦ elim (find_put puts path bytes (λ o has. same o (Contains-append_right (x ∷ []) puts (path, o) has))) [
    | inl later ↦ inl (record {
      before = x ∷ later.before;
      after = later.after;
      puts_are = ap (λ (l : List Put). x ∷ l) later.puts_are;
    })
    | inr none ↦ inr (λ has. elim (Contains-append_cases (x.0 ∷ []) (paths puts) path has) [
      | inl first ↦ other (contains_one x.0 path first)
      | inr rest ↦ none rest
    ])
  ]
]

has_split : (xs puts : List Put) (path : Path) → HasPut (xs ++ puts) path → HasPut xs path ⊎ HasPut puts path
has_split [] puts path has = inr has
has_split (x ∷ xs) puts path has = elim (Contains-append_cases (x.0 ∷ []) (paths (xs ++ puts)) path has) [
  | inl first ↦ inl (Contains-append_left (x.0 ∷ []) (paths xs) path first)
  | inr rest ↦ elim (has_split xs puts path rest) [
    | inl left ↦ inl (Contains-append_right (x.0 ∷ []) (paths xs) path left)
    | inr right ↦ inr right
  ]
]

-- ---- a file that stands, or gave way

pub had_stands : (a b : Option (List Put)) (path : Path) (bytes : List ℕ) → RecordsStands a b path bytes → RecordsHad a b path bytes
had_stands None b path bytes h = tt
had_stands (Some xs) None path bytes h = h
had_stands (Some xs) (Some ys) path bytes h = inl h

pub had_earlier : (x y z : Option (List Put)) (puts : List Put) (path : Path) (bytes : List ℕ) → AddsToRecord x y puts →
    RecordsHad y z path bytes → RecordsHad x z path bytes
had_earlier None y z puts path bytes t h = tt
had_earlier (Some xs) None z puts path bytes t h = absurd t
had_earlier (Some xs) (Some ys) None puts path bytes t h = h
had_earlier (Some xs) (Some ys) (Some zs) puts path bytes t h = h

-- no full file of a partial one is put
full_beyond : (n : ℕ) (path : Path) → IsTreeFile n path → width_named path < 256 → IsWithin n (full_of path) → ⊥
full_beyond n Checkpoint file part within = within
full_beyond n (Tile level index width) file part within =
    let w = (files_are_all n (Tile level index width)).0 (file_listed n (Tile level index width) file) in
    w.widest 256 part within
full_beyond n (Entries index width) file part within =
    let w = (files_are_all n (Entries index width)).0 (file_listed n (Entries index width) file) in
    w.widest 256 part within

module _ (digest : List ℕ → List ℕ) (log : List (List ℕ)) where
  module _ (path : Path) (file : IsTreeFile (length log) path) where
    abbrev bytes : List ℕ
    bytes = true_bytes digest log path

    -- a true file is put at the path, or nothing is
    had_some : (ys zs puts : List Put) → zs ≡ ys ++ puts → All (IsNewFile digest 0 log) puts →
        Stands ys path bytes ⊎ GaveWay ys path bytes → Stands zs path bytes ⊎ GaveWay zs path bytes
    had_some ys zs puts is new (inl h) =
        inl (subst (λ (l : List Put). Stands l path bytes) (sym is) (stands_more ys puts path bytes h
        (λ other has. (All-contains (IsNewFile digest 0 log) puts (path, other) new has).bytes_are)))
    had_some ys zs puts is new (inr h) =
        let same = λ (other : List ℕ) (has : Contains puts (path, other)).
        (All-contains (IsNewFile digest 0 log) puts (path, other) new has).bytes_are in
        elim (find_put puts path bytes same) [
          | inl at ↦ inl (record {
            before = ys ++ at.before;
            after = at.after;
            puts_are = is ∙ (ap (λ (l : List Put). ys ++ l) at.puts_are ∙ sym (append_assoc ys at.before ((path, bytes) ∷ at.after)));
            kept = λ other has. same other (subst (λ (l : List Put). Contains l (path, other)) (sym at.puts_are)
                (Contains-append_right at.before ((path, bytes) ∷ at.after) (path, other)
                (Contains-append_right ((path, bytes) ∷ []) at.after (path, other) has)));
          })
          | inr none ↦ inr (record {
            partial = h.partial;
            gone = λ has. elim (has_split ys puts path (subst (λ (l : List Put). HasPut l path) is has)) [
              | inl before ↦ h.gone before
              | inr after ↦ none after
            ];
            full = h.full;
            stands = subst (λ (l : List Put). Stands l (full_of path) h.full) (sym is)
                (stands_more ys puts (full_of path) h.full h.stands (λ other has.
                absurd (full_beyond (length log) path file h.partial
                (All-contains (IsNewFile digest 0 log) puts (full_of path, other) new has).within)));
            begins = h.begins;
          })
        ]

    pub had_later : (x y z : Option (List Put)) → PutsTrue digest log y z → RecordsHad x y path bytes → RecordsHad x z path bytes
    had_later None y z g h = tt
    had_later (Some xs) None z g h = absurd h
    had_later (Some xs) (Some ys) None g h = absurd g.recorded
    had_later (Some xs) (Some ys) (Some zs) g h = had_some ys zs g.puts g.recorded g.are_new h

-- ---- the partial tiles

pub tiles_first : (digest : List ℕ → List ℕ) (edge : Edge) (entries : List (List ℕ)) (x : Option (List Put)) →
    AreEdgeTilesHad digest edge entries x x 0
tiles_first digest edge entries x = record {
  gathers = gathers_none digest 0 entries x x (kept_same x);
  holds = λ level lt. absurd (omega (arith, lt));
}

-- the partial tile of a level is a file of the tree
pub tile_file : (edge : Edge) (level : ℕ) → level ≤ 7 → 1 ≤ width_of edge.size level → IsTreeFile edge.size (edge_tile edge level)
tile_file edge level low some = (low, inr (record { index_is = refl; width_is = refl; some = some }))

pub end_file : (n : ℕ) → 1 ≤ width_of n 0 → IsTreeFile n (Entries (edge_index_of n 0) (width_of n 0))
end_file n some = inr (record { index_is = refl; width_is = refl; some = some })

pub tiles_then : (digest : List ℕ → List ℕ) (edge : Edge) (entries : List (List ℕ)) → length entries ≡ edge.size →
    (x y z : Option (List Put)) (level : ℕ) → level ≤ 7 → AreEdgeTilesHad digest edge entries x y level →
    IsEdgeTileHad digest edge entries y z level → AreEdgeTilesHad digest edge entries x z (level + 1)
tiles_then digest edge entries long x y z level upto p q = record {
  gathers = gathers_then digest 0 entries entries entries x y z p.gathers q.gathers;
  holds = λ l lt some. elim (cases_lt l level) [
    | inl lower ↦ had_later digest entries (edge_tile edge l)
        (subst (λ n. IsTreeFile n (edge_tile edge l)) (sym long) (tile_file edge l (omega (arith, lower, upto)) some)) x y z
        q.gathers (p.holds l lower some)
    | inr here ↦
        let same : level ≡ l = omega (arith, lt, here) in
        had_earlier x y z p.gathers.puts (edge_tile edge l) (true_bytes digest entries (edge_tile edge l)) p.gathers.recorded
        (subst (λ j. RecordsHad y z (edge_tile edge j) (true_bytes digest entries (edge_tile edge j))) same
        (q.holds (subst (λ j. 1 ≤ width_of edge.size j) (sym same) some)))
  ];
}

pub tile_none : (digest : List ℕ → List ℕ) (edge : Edge) (entries : List (List ℕ)) (x : Option (List Put)) (level : ℕ) →
    (1 ≤ width_of edge.size level → ⊥) → IsEdgeTileHad digest edge entries x x level
tile_none digest edge entries x level none = record {
  gathers = gathers_none digest 0 entries x x (kept_same x);
  holds = λ some. absurd (none some);
}

module _ (digest : List ℕ → List ℕ) (edge : Edge) (entries : List (List ℕ)) (long : length entries ≡ edge.size)
    (x y : Option (List Put)) (level : ℕ) (low : level ≤ 7) (some : 1 ≤ width_of edge.size level)
    (row : RowIsTrue digest edge entries level) (text : List ℕ) (is : text ≡ row_text (row_at edge level))
    (puts : (KeepsRecord x y) ⊎ (AddsToRecord x y ((edge_tile edge level, text) ∷ []))) where
  new_tile : IsNewFile digest 0 entries (edge_tile edge level, text)
  new_tile = record {
    new = never_within (edge_tile edge level);
    within = subst (λ n. IsWithin n (edge_tile edge level)) (sym long)
        (file_within edge.size (edge_tile edge level) (tile_file edge level low some));
    bytes_are = is ∙ ap row_text row;
  }

  pub tile_kept : PutsTrue digest entries x y
  tile_kept = gathers_keep digest 0 entries x y (edge_tile edge level, text) puts new_tile

  pub tile_some : RecordsHad x y (edge_tile edge level) text → IsEdgeTileHad digest edge entries x y level
  tile_some there = record {
    gathers = tile_kept;
    holds = λ some_l. subst (λ b. RecordsHad x y (edge_tile edge level) b) new_tile.bytes_are there;
  }

-- the answer of the last call is the answer
pub mends_tile : (digest : List ℕ → List ℕ) (edge : Edge) (entries : List (List ℕ)) (x y : Option (List Put)) (level : ℕ)
    {T E : Type 0} (r : Result T E) (P : Type 0) → OnOk r P → (P → IsEdgeTileHad digest edge entries x y level) →
    PutsTrue digest entries x y → MendsEdgeTile digest edge entries x y level r
mends_tile digest edge entries x y level (Ok a) P p f left = f p
mends_tile digest edge entries x y level (Err e) P p f left = left

pub tiles_kept : (digest : List ℕ → List ℕ) (edge : Edge) (entries : List (List ℕ)) (x y : Option (List Put))
    {T E : Type 0} (r : Result T E) → MendsEdgeTiles digest edge entries x y r → PutsTrue digest entries x y
tiles_kept digest edge entries x y (Ok a) h = h.gathers
tiles_kept digest edge entries x y (Err e) h = h

-- no entries are known of an empty copy
no_width : (level : ℕ) → width_of 0 level ≡ 0
no_width level = ap (λ q. q % 256) (div-eq_of_lt (level_positive level))

pub known_none : (digest : List ℕ → List ℕ) → IsKnown digest empty_tip 0 []
known_none digest = record {
  size_is = refl;
  short = All-nil (λ (e : List ℕ). length e < 2 ^ 16);
  rows_are = λ level upto. sym (ap (λ w. level_row digest [] level (256 * edge_index_of 0 level) w) (no_width level));
  bundle_is = refl;
}

-- ---- all files

module _ (digest : List ℕ → List ℕ) (edge : Edge) (small : edge.size < 9223372036854775808) (widths : HasWidths edge)
    (x y z w : Option (List Put)) (e : IsEdgeBrought digest empty_tip edge [] 1 x y) (l : IsEndHad digest edge e.next y z) where
  pub had_two : Obtains digest 0 [] l.next x z
  had_two = gathers_then digest 0 [] e.next l.next x y z e.gathers l.gathers

  pub had_rows : (level : ℕ) → level ≤ 7 → RowIsTrue digest edge l.next level
  had_rows level upto = elim (cases_lt 0 level) [
    | inr none ↦ let same : 0 ≡ level = omega (arith, none) in subst (λ j. RowIsTrue digest edge l.next j) same l.row_is
    | inl some ↦ e.rows_are level some upto
        ∙ sym (ap (λ (es : List (List ℕ)). level_row digest es level (256 * edge_index_of edge.size level) (width_of edge.size level))
        l.gathers.next_is
        ∙ level_row_front digest e.next l.gathers.more level (256 * edge_index_of edge.size level) (width_of edge.size level)
        (above_within digest empty_tip edge [] widths x y 1 level (omega arith) some e))
  ]

  module _ (p : AreEdgeTilesHad digest edge l.next z w 8) where
    longer : length e.next ≤ length l.next
    longer = omega (arith, ap length l.gathers.next_is, length-append e.next l.gathers.more)

    hash_within : (top k : ℕ) → 1 ≤ top → k < width_of edge.size top →
        (256 * edge_index_of edge.size top + k + 1) * 256 ^ (top - 1 + 1) ≤ length e.next
    hash_within top k some lt =
        let back : top - 1 + 1 ≡ top = omega arith in
        let at = 256 * edge_index_of edge.size top in
        let less : (at + k + 1) * 256 ^ top ≤ (at + width_of edge.size top) * 256 ^ top =
        mul-le (at + k + 1) (256 ^ top) (at + width_of edge.size top) (256 ^ top) (omega arith) (omega arith) in
        omega (
          arith,
          less,
          ap (λ j. (at + k + 1) * 256 ^ j) back,
          above_within digest empty_tip edge [] widths x y 1 top (omega arith) some e,
        )

    full_had : (path : Path) (level index : ℕ) → (u : IsUnder edge.size level index) →
        IsBelow (u.top - 1) (256 * edge_index_of edge.size u.top + u.k) path →
        RecordsHad x w path (true_bytes digest l.next path)
    full_had path level index u below =
        let upto = u.upto in
        let within : IsWithin (length e.next) path =
        below_within (u.top - 1) (256 * edge_index_of edge.size u.top + u.k) (length e.next) path (omega arith)
        (hash_within u.top u.k u.some u.within) below in
        had_stands x w path (true_bytes digest l.next path)
        (stands_gathered digest 0 l.next l.next x z w path p.gathers
        (within_more (length e.next) (length l.next) path longer within)
        (stands_gathered digest 0 e.next l.next x y z path l.gathers within
        (e.holds u.top u.some u.upto u.k u.within path below (never_within path))))

    tile_had : (level index width : ℕ) → IsWidestIn edge.size level index width →
        RecordsHad x w (Tile level index width) (true_bytes digest l.next (Tile level index width))
    tile_had level index width file =
        let fits = file.within in
        let upto = fits.upto in
        elim (cases_lt width 256) [
          | inl part ↦
              let at = partial_at edge.size level index width file part in
              let is : edge_tile edge level ≡ Tile level index width = λ j. Tile level (sym at.0 j) (sym at.1 j) in
              let some : 1 ≤ width_of edge.size level = subst (λ k. 1 ≤ k) at.1 fits.some in
              let lower : level < 8 = let most = fits.level_fits in omega arith in
              subst (λ (q : Path). RecordsHad x w q (true_bytes digest l.next q)) is
              (had_earlier x z w had_two.puts (edge_tile edge level) (true_bytes digest l.next (edge_tile edge level))
              had_two.recorded (p.holds level lower some))
          | inr full ↦
              let whole : width ≡ 256 = omega arith in
              let within : (256 * index + 256) * 256 ^ level ≤ edge.size =
              subst (λ k. (256 * index + k) * 256 ^ level ≤ edge.size) whole fits.within in
              let u = full_under edge.size level index small fits.level_fits within in
              full_had (Tile level index width) level index u (u.lower, u.is, whole)
        ]

    bundle_had : (index width : ℕ) → IsWidestIn edge.size 0 index width →
        RecordsHad x w (Entries index width) (true_bytes digest l.next (Entries index width))
    bundle_had index width file =
        let fits = file.within in
        let upto = fits.upto in
        elim (cases_lt width 256) [
          | inl part ↦
              let at = partial_at edge.size 0 index width file part in
              let end = Entries (edge_index_of edge.size 0) (width_of edge.size 0) in
              let is : end ≡ Entries index width = λ j. Entries (sym at.0 j) (sym at.1 j) in
              let some : 1 ≤ width_of edge.size 0 = subst (λ k. 1 ≤ k) at.1 fits.some in
              let there : RecordsHad x z end (true_bytes digest l.next end) =
              had_earlier x y z e.gathers.puts end (true_bytes digest l.next end) e.gathers.recorded (l.holds some) in
              subst (λ (q : Path). RecordsHad x w q (true_bytes digest l.next q)) is
              (had_later digest l.next end
              (subst (λ n. IsTreeFile n end) (sym l.size_is) (end_file edge.size some)) x z w p.gathers there)
          | inr full ↦
              let whole : width ≡ 256 = omega arith in
              let within : (256 * index + 256) * 256 ^ 0 ≤ edge.size =
              subst (λ k. (256 * index + k) * 256 ^ 0 ≤ edge.size) whole fits.within in
              let u = full_under edge.size 0 index small (omega arith) within in
              let all : u.top - 1 - 0 ≡ u.top - 1 = omega arith in
              full_had (Entries index width) 0 index u (ap (λ t. index / 256 ^ t) (sym all) ∙ u.is, whole)
        ]

    each : (path : Path) → IsTreeFile edge.size path → RecordsHad x w path (true_bytes digest l.next path)
    each Checkpoint file = absurd file
    each (Tile level index width) file =
        tile_had level index width ((files_are_all edge.size (Tile level index width)).0
        (file_listed edge.size (Tile level index width) file))
    each (Entries index width) file =
        bundle_had index width ((files_are_all edge.size (Entries index width)).0
        (file_listed edge.size (Entries index width) file))

    pub each_had : IsEachHad digest edge x w
    each_had = record {
      next = l.next;
      gathers = gathers_then digest 0 [] l.next l.next x z w had_two p.gathers;
      size_is = l.size_is;
      rows_are = had_rows;
      holds = each;
    }

-- ---- the copy

-- the edge leads to the root of the entries
pub had_log : (digest : List ℕ → List ℕ) (size : ℕ) (root : List ℕ) (edge : Edge) (x y : Option (List Put)) →
    edge.size < 9223372036854775808 → LeadsTo digest size root edge → IsEachHad digest edge x y → HasLog digest size root x y
had_log digest size root edge x y small leads h =
    let long = h.size_is in
    let same = leads.is_edge.size_is in
    let rows : map (row_at edge) (edge_levels edge.size) ≡ map (edge_row digest h.next) (edge_levels edge.size) =
    map_same (row_at edge) (edge_row digest h.next) (edge_levels edge.size) (levels_within edge.size)
    (λ level upto. subst (λ n. row_at edge level ≡ level_row digest h.next level (256 * edge_index_of n level) (width_of n level))
    (sym long) (h.rows_are level upto)) in
    let leads_to_root : edge_root digest (map (row_at edge) (edge_levels edge.size)) ≡ mth digest h.next =
    ap (edge_root digest) (rows ∙ ap (λ n. map (edge_row digest h.next) (edge_levels n)) (sym long))
    ∙ edge_root_is digest h.next (omega (arith, long, small)) in
    record {
      log = h.next;
      gathers = h.gathers;
      size_is = long ∙ same;
      root_is = sym leads_to_root ∙ leads.root_is;
      holds = λ path file. h.holds path (subst (λ n. IsTreeFile n path) (sym same) file);
    }

-- a tree without entries
pub no_file : (path : Path) → IsTreeFile 0 path → ⊥
no_file Checkpoint file = file
no_file (Tile level index width) file =
    never_within (Tile level index width)
    ((files_are_all 0 (Tile level index width)).0 (file_listed 0 (Tile level index width) file)).within
no_file (Entries index width) file =
    never_within (Entries index width)
    ((files_are_all 0 (Entries index width)).0 (file_listed 0 (Entries index width) file)).within

pub empty_log : (digest : List ℕ → List ℕ) (size : ℕ) (root : List ℕ) (x y : Option (List Put)) → size ≡ 0 → mth digest [] ≡ root →
    KeepsRecord x y → HasLog digest size root x y
empty_log digest size root x y none is kept = record {
  log = [];
  gathers = gathers_none digest 0 [] x y kept;
  size_is = sym none;
  root_is = is;
  holds = λ path file. absurd (no_file path (subst (λ n. IsTreeFile n path) none file));
}

pub log_then : (digest : List ℕ → List ℕ) (size : ℕ) (root : List ℕ) (x y z : Option (List Put)) → KeepsRecord x y →
    HasLog digest size root y z → HasLog digest size root x z
log_then digest size root x y z kept h = record {
  log = h.log;
  gathers = gathers_then digest 0 [] [] h.log x y z (gathers_none digest 0 [] x y kept) h.gathers;
  size_is = h.size_is;
  root_is = h.root_is;
  holds = λ path file. had_earlier x y z [] path (true_bytes digest h.log path) (kept_adds x y kept) (h.holds path file);
}

way_given : (digest : List ℕ → List ℕ) (log : List (List ℕ)) (puts : List Put) (path : Path) →
    Stands puts path (true_bytes digest log path) ⊎ GaveWay puts path (true_bytes digest log path) →
    Stands puts path (true_bytes digest log path) ⊎ HasGivenWay digest log puts path
way_given digest log puts path (inl h) = inl h
way_given digest log puts path (inr h) = inr (record {
  partial = h.partial;
  gone = h.gone;
  full = h.full;
  stands = h.stands;
  begins = h.begins;
})

-- a shelf that has each file of a log and, at the end, its checkpoint has a copy
pub repaired_copy : (digest : List ℕ → List ℕ) (origin note : List ℕ) (size : ℕ) (root : List ℕ) (x y z : Option (List Put)) →
    IsHead note origin size root → HasLog digest size root x y → RecordsRead y Checkpoint (Some note) → KeepsRecord y z →
    IsRepaired digest origin note x z
repaired_copy digest origin note size root None y z head h read kept = λ held is. absurd (cc is)
repaired_copy digest origin note size root (Some xs) None z head h read kept = absurd h.gathers.recorded
repaired_copy digest origin note size root (Some xs) (Some ys) None head h read kept = absurd kept
repaired_copy digest origin note size root (Some xs) (Some ys) (Some zs) head h read kept = λ held is.
    subst (λ (l : List Put). HasCopy digest origin note l) (sym kept) (record {
      entries = h.log;
      copy = record {
        short = subst (λ (l : List (List ℕ)). AreShort l) (sym h.gathers.next_is) h.gathers.short;
        is_head = subst (λ n. IsHead note origin n (mth digest h.log)) (sym h.size_is)
            (subst (λ (r : List ℕ). IsHead note origin size r) (sym h.root_is) head);
        note_stands = read;
        files = λ path file. way_given digest h.log ys path (h.holds path (subst (λ n. IsTreeFile n path) h.size_is file));
      };
    })

pub repaired_then : (digest : List ℕ → List ℕ) (origin note : List ℕ) (x y z : Option (List Put)) → KeepsRecord x y →
    IsRepaired digest origin note y z → IsRepaired digest origin note x z
repaired_then digest origin note None y z kept h = λ held is. absurd (cc is)
repaired_then digest origin note (Some xs) None z kept h = absurd kept
repaired_then digest origin note (Some xs) (Some ys) z kept h = λ held is. h ys refl

-- ---- moments

pub repair_keeps_true : RepairKeepsTrue
repair_keeps_true digest log held new now path g at h =
    let cut : at.so_far ++ at.later ≡ g.puts = append_cancel_left held (at.so_far ++ at.later) g.puts
    (sym (append_assoc held at.so_far at.later)
    ∙ (ap (λ (l : List Put). l ++ at.later) (sym at.now_is) ∙ (sym at.new_is ∙ g.recorded))) in
    subst (λ (l : List Put). Stands l path (true_bytes digest log path)) (sym at.now_is)
    (stands_more held at.so_far path (true_bytes digest log path) h (λ other has.
    (All-contains (IsNewFile digest 0 log) g.puts (path, other) g.are_new
    (subst (λ (l : List Put). Contains l (path, other)) cut (Contains-append_left at.so_far at.later (path, other) has))).bytes_are))
