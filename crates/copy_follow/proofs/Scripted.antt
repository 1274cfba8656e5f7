-- Places that answer from scripts. One of them is honest.
use Rattle.std.proofs.Common.{◌≡◌, ◌≢◌, ◌⊎◌, Bool, true, false, true≢false, Decides, All, ◌∷◌, ◌++◌, sym, inl, inr, ℕ, ◌<◌, Contains, List, [], length, get_or, take, Option, Some, refl, arith}
use Rattle.std.specs.Cmp.Lexicographic.{bytes_decides}
use Rattle.std.specs.FinSet as set
use Rattle.std.specs.List.{flat_map}
use Rattle.std.proofs.lemmas.List.Elements.{All-cons, All-contains, All-nil, Contains-append_left, Contains-append_right, Contains-get_or}
use Rattle.tlog_tiles.specs.declared.paths.Path.{Path}
use Rattle.tlog_hash.specs.Tree.{strings}
use Rattle.node_store.specs.Strings.{NoClash}
use Rattle.mirror_model.specs.Strings.{HasClash}
use Rattle.mirror_model.proofs.StringSets.{has_from_listed, listed_from_has}
use Rattle.mirror_sources.specs.Source.{File}
use Rattle.mirror_folders.specs.Shelf.{Put}
use Rattle.copy_places.specs.declared.place.Place.{Place}
use Rattle.copy_places.specs.declared.places.Places.{Places}
use Rattle.copy_follow.specs.Repaired.{IsClearLog}
use Rattle.copy_follow.specs.Scripted.{AnswerFromScripts, FilesAreClearOrClash, ScriptsAreClear, all_files}
use Rattle.copy_follow.specs.FileStrings.{strings_of_files}
use Rattle.copy_follow.specs.Taken.{MayTake}
use Rattle.copy_follow.proofs.Cuts.{clear_weaker, edge_cut}
use Rattle.copy_follow.proofs.FileStrings.{files_are_clear, flat_map_has, head_has}

module _ {S : Type 0} (may : S → Path → Option (List ℕ) → Type 0) (old : Places S) (scripts : List (List File))
    (answer : AnswerFromScripts may old scripts) (held : List Put) (none : Place S) where
  -- what may be taken is on the shelf or in a script
  there : (path : Path) (bytes : List ℕ) → MayTake may old (Some held) path bytes → Contains (all_files held scripts) (path, bytes)
  there path bytes (inl put) = Contains-append_left held (flat_map (λ script. script) scripts) (path, bytes) put
  there path bytes (inr give) =
      let count = answer.count in
      let listed = give.listed in
      let script = get_or scripts give.index [] in
      let has = answer.each give.index listed none path bytes (give.may_be none) in
      let lt : give.index < length scripts = omega (arith, count, listed) in
      Contains-append_right held (flat_map (λ s. s) scripts) (path, bytes)
      (flat_map_has (λ (s : List File). s) scripts script (path, bytes) (Contains-get_or scripts give.index [] lt) has)

pub scripts_are_clear : {S : Type 0} → (may : S → Path → Option (List ℕ) → Type 0) → ScriptsAreClear may
scripts_are_clear may digest entries short size upto old new true_place scripts answer held none_clash =
    let log = take size entries in
    let take_ = MayTake may old (Some held) in
    let files = all_files held scripts in
    let clear : IsClearLog digest log take_ =
    clear_weaker digest log (λ path b. Contains files (path, b)) take_
    (there may old scripts answer held true_place.place.none) (files_are_clear digest log files none_clash) in
    record {
      honest = record {
        one = record { short = short; upto = upto; place = true_place; clear = clear.files };
        root_is = refl;
        edges = λ edge from. clear.edge edge (edge_cut take_ (length log) edge from);
      };
      clear = clear;
    }

-- ---- either no two strings share a digest, or two do

decided : {P : Type 0} (b : Bool) → Decides b P → P ⊎ (¬ P)
decided true d = inl (d.0 refl)
decided false d = inr (λ p. absurd (true≢false (sym (d.1 p))))

-- one fact holds of each element, or the other one of some element
all_or_one : {X : Type 0} (P Q : X → Type 0) → ((x : X) → P x ⊎ Q x) → (xs : List X) → All P xs ⊎ ((x : X) × Contains xs x × Q x)
all_or_one P Q each [] = inl (All-nil P)
all_or_one P Q each (x ∷ xs) = elim (each x) [
  | inl p ↦ elim (all_or_one P Q each xs) [
    | inl all ↦ inl (All-cons P x xs p all)
    | inr one ↦ inr (one.0, Contains-append_right (x ∷ []) xs one.0 one.1, one.2)
  ]
  | inr q ↦ inr (x, head_has x x xs refl, q)
]

module _ (digest : List ℕ → List ℕ) where
  abbrev IsSame : List ℕ → List ℕ → Type 0
  IsSame x y = digest x ≡ digest y → x ≡ y

  abbrev IsClash : List ℕ → List ℕ → Type 0
  IsClash x y = (digest x ≡ digest y) × (x ≢ y)

  same_or_clash : (x y : List ℕ) → IsSame x y ⊎ IsClash x y
  same_or_clash x y = elim (decided _ (bytes_decides x y)) [
    | inl e ↦ inl (λ d. e)
    | inr differ ↦ elim (decided _ (bytes_decides (digest x) (digest y))) [
      | inl d ↦ inr (d, differ)
      | inr apart ↦ inl (λ d. absurd (apart d))
    ]
  ]

  no_clash_or_clash : (ss : List (List ℕ)) → NoClash digest (set.from_list ss) ⊎ HasClash digest (set.from_list ss)
  no_clash_or_clash ss =
      elim (all_or_one (λ x. All (IsSame x) ss) (λ x. (y : List ℕ) × Contains ss y × IsClash x y)
      (λ x. all_or_one (IsSame x) (IsClash x) (same_or_clash x) ss) ss) [
        | inl all ↦
            inl (record {
              same = λ x y hx hy e.
                  All-contains (IsSame x) ss y
                  (All-contains (λ z. All (IsSame z) ss) ss x all (listed_from_has ss x hx)) (listed_from_has ss y hy) e;
            })
        | inr one ↦
            inr (record {
              first = one.0;
              second = one.2.0;
              first_held = has_from_listed ss one.0 one.1;
              second_held = has_from_listed ss one.2.0 one.2.1;
              same_digest = one.2.2.0;
              differ = one.2.2.1;
            })
      ]

pub files_are_clear_or_clash : FilesAreClearOrClash
files_are_clear_or_clash digest log files = no_clash_or_clash digest (strings digest log ++ strings_of_files digest (length log) files)
