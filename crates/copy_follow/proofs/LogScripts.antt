-- The script of a log.
use Rattle.std.proofs.Common.{◌≡◌, ℕ, ◌+◌, ◌-◌, ◌*◌, ◌/◌, ◌^◌, ◌<◌, ◌≤◌, Bool, true, cond, ◌==◌, nat_le, All, Contains, List, [], ◌∷◌}
use Rattle.std.proofs.Common.{inl, inr, length, map, Option, Some, None, refl, sym, ap, subst, arith}
use Rattle.std.specs.List.{flat_map, range_with_len}
use Rattle.std.proofs.Math.Nat.{div-le_self, le-div_iff_mul-le}
use Rattle.std.proofs.lemmas.Bool.Decides.{nat_tests}
use Rattle.std.proofs.lemmas.List.{get_or-map, length-map}
use Rattle.std.proofs.lemmas.List.Elements.{All-cons, All-contains, All-map, All-nil, Contains-append_cases, Contains-append_right}
use Rattle.std.proofs.lemmas.List.FromFn.{get_or-range_with_len, length-range_with_len}
use Rattle.tlog_shape.proofs.Levels.{level_positive}
use Rattle.tlog_tiles.specs.declared.paths.Path.{Path}
use Rattle.tlog_tiles.specs.declared.paths.Path.TheVariants.{Checkpoint, Tile, Entries}
use Rattle.tlog_tiles.specs.Tiles.{IsTileWithin, IsWithin}
use Rattle.mirror_sources.specs.Honest.{IsTrueAnswer, true_bytes}
use Rattle.mirror_sources.specs.Source.{File}
use Rattle.copy_places.specs.TruePlaces.{GivesTrueFiles}
use Rattle.copy_places.specs.declared.place.Place.{Place}
use Rattle.copy_places.specs.declared.places.Places.{Places}
use Rattle.copy_follow.specs.LogScripts.{IsFileOfLog, LogScriptsAreWhole, LogScriptsSuffice, MayByScript, paths_at, paths_within, script_of_log}
use Rattle.copy_follow.specs.Scripted.{AnswerFromScripts}
use Rattle.copy_follow.proofs.FileStrings.{flat_map_has, head_has, map_has}
use Rattle.copy_follow.proofs.Scripted.{scripts_are_clear}

-- ---- the paths

range_has : (a n k : ℕ) → k < n → Contains (range_with_len a n) (a + k)
range_has a n k lt =
    let long = length-range_with_len a n in
    (k, omega (arith, long), get_or-range_with_len a n k (a + k) lt)

most : (a b : ℕ) → a ≤ b → nat_le a b ≡ true
most a b le = grind (arith, nat_tests)

module _ (n level index width : ℕ) (within : IsTileWithin n level index width) where
  tile_at : Contains (paths_at n level index width) (Tile level index width)
  tile_at =
      let others : List Path = cond (level == 0) (Entries index width ∷ []) [] in
      subst (λ (b : Bool). Contains (cond b (Tile level index width ∷ others) []) (Tile level index width))
      (sym (most ((256 * index + width) * 256 ^ level) n within.within))
      (head_has (Tile level index width) (Tile level index width) others refl)

  in_paths : (path : Path) → Contains (paths_at n level index width) path → Contains (paths_within n) path
  unfolding paths_within
  in_paths path here =
      let some = within.some in
      let upto = within.upto in
      let low = within.level_fits in
      let hashes : 256 * index + width ≤ n / 256 ^ level = (le-div_iff_mul-le (level_positive level)).1 within.within in
      let below : index < n = omega (arith, hashes, some, div-le_self n (256 ^ level)) in
      let own : 1 + (width - 1) ≡ width = omega (arith, some) in
      let at : 0 + index ≡ index = omega arith in
      let of : 0 + level ≡ level = omega arith in
      let widths = λ (i : ℕ). flat_map (λ w. paths_at n level i w) (range_with_len 1 256) in
      let indexes = λ (l : ℕ). flat_map (λ i. flat_map (λ w. paths_at n l i w) (range_with_len 1 256)) (range_with_len 0 n) in
      flat_map_has indexes (range_with_len 0 8) level path
      (subst (λ k. Contains (range_with_len 0 8) k) of (range_has 0 8 level (omega (arith, low))))
      (flat_map_has widths (range_with_len 0 n) index path
      (subst (λ k. Contains (range_with_len 0 n) k) at (range_has 0 n index below))
      (flat_map_has (λ w. paths_at n level index w) (range_with_len 1 256) width path
      (subst (λ k. Contains (range_with_len 1 256) k) own (range_has 1 256 (width - 1) (omega (arith, some, upto)))) here))

bundle_at : (n index width : ℕ) → IsTileWithin n 0 index width → Contains (paths_at n 0 index width) (Entries index width)
bundle_at n index width within =
    subst (λ (b : Bool). Contains (cond b (Tile 0 index width ∷ Entries index width ∷ []) []) (Entries index width))
    (sym (most ((256 * index + width) * 256 ^ 0) n within.within))
    (Contains-append_right (Tile 0 index width ∷ []) (Entries index width ∷ []) (Entries index width)
    (head_has (Entries index width) (Entries index width) [] refl))

pub all_paths : (n : ℕ) (path : Path) → IsWithin n path → Contains (paths_within n) path
all_paths n Checkpoint within = absurd within
all_paths n (Tile level index width) within =
    in_paths n level index width within (Tile level index width) (tile_at n level index width within)
all_paths n (Entries index width) within = in_paths n 0 index width within (Entries index width) (bundle_at n index width within)

-- ---- the script

-- the first of a list that has an element is not that element
in_rest : {X : Type 0} (first x : X) (xs : List X) → Contains (first ∷ xs) x → (first ≡ x → ⊥) → Contains xs x
in_rest first x xs c differ = elim (Contains-append_cases (first ∷ []) xs x c) [
  | inl one ↦
      let is = All-contains (λ y. first ≡ y) (first ∷ []) x (All-cons (λ y. first ≡ y) first [] refl (All-nil (λ y. first ≡ y))) one in
      absurd (differ is)
  | inr rest ↦ rest
]

module _ (digest : List ℕ → List ℕ) (entries : List (List ℕ)) (note : List ℕ) where
  abbrev true_files : List File
  true_files = map (λ (path : Path). (path, true_bytes digest entries path)) (paths_within (length entries))

  all_true : All (λ (file : File). file.1 ≡ true_bytes digest entries file.0) true_files
  all_true =
      All-map (λ (file : File). file.1 ≡ true_bytes digest entries file.0) (λ (path : Path). (path, true_bytes digest entries path))
      (paths_within (length entries)) (λ k d lt. refl)

  file_there : (path : Path) (bytes : List ℕ) → IsFileOfLog digest entries note path bytes →
      Contains (script_of_log digest entries note) (path, bytes)
  unfolding script_of_log
  file_there path bytes (inl is) =
      head_has (path, bytes) (Checkpoint, note) true_files (λ i. (sym is.0 i, sym is.1 i))
  file_there path bytes (inr is) =
      Contains-append_right ((Checkpoint, note) ∷ []) true_files (path, bytes)
      (subst (λ (b : List ℕ). Contains true_files (path, b)) (sym is.1)
      (map_has (λ (p : Path). (p, true_bytes digest entries p)) (paths_within (length entries)) path
      (all_paths (length entries) path is.0)))

  no_note : (path : Path) (bytes : List ℕ) → IsWithin (length entries) path → ◌≡◌ {A = File} (Checkpoint, note) (path, bytes) → ⊥
  no_note path bytes within e =
      let is : Checkpoint ≡ path = ap (λ (file : File). file.0) e in
      subst (IsWithin (length entries)) (sym is) within

  -- each answer by the script is a true file
  pub answers_true : (path : Path) → IsWithin (length entries) path → (answer : Option (List ℕ)) →
      MayByScript (script_of_log digest entries note) path answer → answer ≡ Some (true_bytes digest entries path)
  unfolding script_of_log
  answers_true path within None none =
      absurd (none (map_has (λ (file : File). file.0) (script_of_log digest entries note) (path, true_bytes digest entries path)
      (file_there path (true_bytes digest entries path) (inr (within, refl)))))
  answers_true path within (Some bytes) has =
      ap (λ (b : List ℕ). Some b)
      (All-contains (λ (file : File). file.1 ≡ true_bytes digest entries file.0) true_files (path, bytes) all_true
      (in_rest (Checkpoint, note) (path, bytes) true_files has (no_note path bytes within)))

  gives_true : GivesTrueFiles digest entries (MayByScript (script_of_log digest entries note))
  gives_true path within answer may =
      subst (IsTrueAnswer digest entries path) (sym (answers_true path within answer may)) refl

pub log_scripts_are_whole : LogScriptsAreWhole
log_scripts_are_whole = file_there

-- places that answer by scripts answer from scripts
by_scripts : (places : Places (List File)) →
    AnswerFromScripts MayByScript places (map (λ (place : Place (List File)). place.source) places.list.items)
by_scripts places = record {
  count = length-map places.list.items (λ (place : Place (List File)). place.source);
  each = λ k lt d path bytes has.
      subst (λ (script : List File). Contains script (path, bytes))
      (sym (get_or-map (λ (place : Place (List File)). place.source) places.list.items k d [] lt)) has;
}

pub log_scripts_suffice : LogScriptsSuffice
log_scripts_suffice digest entries short size upto old new log held clear =
    scripts_are_clear MayByScript digest entries short size upto old new
    (record {
      index = log.index;
      place = record {
        none = log.none;
        listed = log.listed;
        gives = subst (λ (script : List File). GivesTrueFiles digest entries (MayByScript script)) (sym log.script)
            (gives_true digest entries log.note);
        asked = log.asked;
        answers = log.answers;
      };
    })
    (map (λ (place : Place (List File)). place.source) old.list.items) (by_scripts old) held clear
