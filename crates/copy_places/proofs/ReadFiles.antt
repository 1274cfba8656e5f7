-- A source of files in memory fails only for a path that none of them has.
use Rattle.std.proofs.Common.{◌≡◌, ◌≢◌, inl, inr, ℕ, ◌+◌, ◌/◌, ◌%◌, ◌<◌, ◌≤◌, ◌^◌, List, [], ◌∷◌, ◌++◌, get_or, length, map, Some, refl, sym, ap, subst, ◌∙◌, arith}
use Rattle.std.specs.List.{Contains}
use Rattle.std.proofs.lemmas.List.Elements.{Contains-append_left, Contains-append_right}
use Rattle.tlog_shape.specs.Edge.{edge_index_of}
use Rattle.tlog_shape.proofs.Levels.{level_mono}
use Rattle.tlog_tiles.specs.declared.paths.Path.{Path}
use Rattle.tlog_tiles.specs.declared.paths.Path.TheVariants.{Checkpoint, Tile, Entries}
use Rattle.std.proofs.Math.Nat.{div-eq_of_lt}
use Rattle.std.proofs.lemmas.Bool.{cases_lt}
use Rattle.std.proofs.lemmas.List.{get_or-map, length-map}
use Rattle.log_reader.specs.EdgeRows.{Edge, RowIsTrue}
use Rattle.log_reader.specs.Holding.{IsReaderOf, IsTrueWay}
use Rattle.log_reader.specs.Ways.{Reader}
use Rattle.log_reader.specs.Requested.{IsProofTile, RequestsOnly}
use Rattle.mirror_sources.specs.Recorded.{KeepsRecord, one_more}
use Rattle.mirror_sources.specs.Source.{File}
use Rattle.copy_places.specs.ReadFiles.{FailsUnread, IsThere, Reading}
use Rattle.copy_places.specs.WayFiles.{HasWanted, IsLogOfEdge}
use Rattle.copy_places.specs.declared.proof_files.ReadFile.{ReadFile}

-- one more path was requested
pub reading_on : (files : List File) (asked : List Path) (failures : ℕ) (path : Path) →
    FailsUnread (record { files = files; asked = asked; failures = failures }) →
    FailsUnread (record { files = files; asked = asked ++ path ∷ []; failures = failures })
reading_on files asked failures path (inl none) = inl none
reading_on files asked failures path (inr h) = inr (record {
  path = h.path;
  asked = Contains-append_left asked (path ∷ []) h.path h.asked;
  none = h.none;
})

-- one that none of the files has
pub reading_failed : (files : List File) (asked : List Path) (failures : ℕ) (path : Path) → (IsThere files path → ⊥) →
    FailsUnread (record { files = files; asked = asked ++ path ∷ []; failures = failures })
reading_failed files asked failures path none = inr (record {
  path = path;
  asked = Contains-append_right asked (path ∷ []) path (0, omega arith, refl);
  none = none;
})

-- a level with a full tile is low
low_level : (n level index : ℕ) → n < 2 ^ 64 → index < edge_index_of n level → level ≤ 6
low_level n level index small lt = elim (cases_lt level 7) [
  | inl low ↦ omega (arith, low)
  | inr high ↦
      let large : 256 ^ 8 ≤ 256 ^ (level + 1) = level_mono 8 (level + 1) (omega (arith, high)) in
      let few : n < 256 ^ (level + 1) = omega (arith, large, small) in
      let none : n / 256 ^ (level + 1) ≡ 0 = div-eq_of_lt few in
      absurd (omega (arith, lt, none))
]

wanted_there : (first n : ℕ) (files : List File) → n < 2 ^ 64 → HasWanted first n 0 files → (path : Path) →
    IsProofTile n first path → IsThere files path
wanted_there first n files small has Checkpoint h = absurd h
wanted_there first n files small has (Entries index width) h = absurd h
wanted_there first n files small has (Tile level index width) h =
    let full : edge_index_of first level < edge_index_of n level = omega (arith, h.0, h.1) in
    let there = has level (omega arith) (record { low = low_level n level (edge_index_of first level) small full; is_full = full; inside = h.2 }) in
    subst (λ w. IsThere files (Tile level index w)) (sym h.3) (subst (λ i. IsThere files (Tile level i 256)) (sym h.0) there)

-- the requests were for tiles that the proof wants, and the source has them: no get failed
pub never_failed : (first n : ℕ) → n < 2 ^ 64 → (old new : Reading) → HasWanted first n 0 old.files → old.asked ≡ [] →
    KeepsRecord (Some old.files) (Some new.files) → RequestsOnly (Some old.asked) (Some new.asked) (IsProofTile n first) →
    FailsUnread new → new.failures ≡ 0
never_failed first n small old new has none kept asks (inl is) = is
never_failed first n small old new has none kept asks (inr h) =
    let missing : IsProofTile n first h.path → ⊥ =
    λ tile. h.none (subst (λ (fs : List File). IsThere fs h.path) (sym kept) (wanted_there first n old.files small has h.path tile)) in
    let before : Contains old.asked h.path = asks.before h.path missing h.asked in
    let empty : Contains [] h.path = subst (λ (ps : List Path). Contains ps h.path) none before in
    let lt = empty.1 in
    absurd (omega (arith, lt))

-- ---- the file of a path

abbrev pub file_of : ReadFile → File
file_of f = (f.path, f.bytes.items)

pub found_at : (files : List ReadFile) (i : ℕ) (path : Path) (bytes : List ℕ) (d : ReadFile) → i < length files →
    (get_or files i d).path ≡ path → (get_or files i d).bytes.items ≡ bytes → Contains (map file_of files) (path, bytes)
found_at files i path bytes d lt path_is bytes_are =
    (i, omega (arith, length-map files file_of, lt), get_or-map file_of files i d (path, bytes) lt ∙ (λ j. (path_is j, bytes_are j)))

some_file : (files : List ReadFile) (at : ℕ) → at < length files → ReadFile
some_file [] at lt = absurd (omega (arith, lt))
some_file (file ∷ files) at lt = file

pub not_there : (files : List ReadFile) (path : Path) →
    ((i : ℕ) (d : ReadFile) → i < length files → (get_or files i d).path ≢ path) → IsThere (map file_of files) path → ⊥
not_there files path none h =
    let k = h.listed.0 in
    let lt : k < length files = let inside = h.listed.1 in omega (arith, length-map files file_of, inside) in
    let d = some_file files k lt in
    none k d lt (ap (λ (f : File). f.0) (sym (get_or-map file_of files k d (path, h.bytes) lt) ∙ h.listed.2))

-- ---- a proof from files in memory

pub no_failure : (first n : ℕ) → n < 2 ^ 64 → (old new : Reading) → HasWanted first n 0 old.files → old.asked ≡ [] →
    old.failures ≡ 0 → KeepsRecord (Some old.files) (Some new.files) →
    RequestsOnly (Some old.asked) (Some new.asked) (IsProofTile n first) → FailsUnread new →
    new.failures ≡ one_more old.failures → ⊥
no_failure first n small old new has none zero kept asks unread rose =
    let is = never_failed first n small old new has none kept asks unread in
    omega (arith, is, rose, zero)

-- a reader over the edge of a log reads that log
pub reader_over : (digest : List ℕ → List ℕ) (edge : Edge) (root : List ℕ) (entries : List (List ℕ)) (reader : Reader) →
    reader.edge ≡ edge → reader.root ≡ root →
    (reader.level ≡ 0) × (reader.index ≡ edge_index_of edge.size 0) × (reader.way ≡ []) → IsLogOfEdge digest edge root entries →
    IsReaderOf digest entries reader
reader_over digest edge root entries reader edge_is root_is place log =
    let index : reader.index ≡ edge_index_of (length entries) reader.level =
    place.1 ∙ (λ i. edge_index_of (log.size_is i) (sym place.0 i)) in
    let low : reader.level ≤ 7 = omega (arith, place.0) in
    record {
      size_is = ap (λ (e : Edge). e.size) edge_is ∙ log.size_is;
      root_is = root_is ∙ log.root_is;
      edge = λ level low. subst (λ (e : Edge). RowIsTrue digest e entries level) (sym edge_is) (log.rows level low);
      way = subst (λ (w : List (List (List ℕ))). IsTrueWay digest entries reader.level reader.index w) (sym place.2) (low, index);
    }
