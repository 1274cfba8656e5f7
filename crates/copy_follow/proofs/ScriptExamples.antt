-- A place that lies beside an honest one.
use Rattle.std.proofs.Common.{◌≡◌, ◌≢◌, ◌⊎◌, inl, inr, ℕ, ◌<◌, ◌^◌, Contains, List, [], ◌∷◌, ◌++◌, length, get_or, map, take, refl, sym, ap, subst, ◌∙◌, arith}
use Rattle.std.specs.FinSet as set
use Rattle.std.proofs.lemmas.List.Elements.{All-cons, All-contains, All-nil}
use Rattle.tlog_shape.specs.Split.{split_of, power_within}
use Rattle.tlog_hash.specs.Sum.{sum_digest}
use Rattle.tlog_hash.specs.Tree.{fold_of, joins, mth, pairs_of, strings, tree_of, tree_within}
use Rattle.tlog_tiles.specs.declared.paths.Path.TheVariants.{Tile, Entries}
use Rattle.node_store.specs.Strings.{Has}
use Rattle.mirror_model.specs.Edge.{edge_levels}
use Rattle.mirror_model.specs.TrueLaws.{AreShort}
use Rattle.mirror_model.proofs.StringSets.{listed_from_has}
use Rattle.mirror_sources.specs.Honest.{true_bytes}
use Rattle.mirror_sources.specs.Source.{File}
use Rattle.copy_places.specs.declared.place.Place.{Place}
use Rattle.copy_places.specs.declared.places.Places.{Places}
use Rattle.copy_follow.specs.FileStrings.{edges_for, rows_for, strings_of_files, strings_of_first}
use Rattle.copy_follow.specs.LogScripts.{MayByScript, paths_within, script_of_log}
use Rattle.copy_follow.specs.ScriptExamples.{LiarsAreAllowed, empty_entry, lying_files}
use Rattle.copy_follow.specs.Scripted.{AreFilesClear, IsHonestAndClear, all_files}
use Rattle.copy_follow.proofs.LogScripts.{log_scripts_suffice}

abbrev files : List ℕ → List File
files note = all_files [] (script_of_log sum_digest empty_entry note ∷ lying_files ∷ [])

-- the strings of the tree, and those that the files lead to
all_strings : (note : List ℕ) → strings sum_digest (take 1 empty_entry) ++ strings_of_files sum_digest 1 (files note)
    ≡ (0 ∷ []) ∷ (0 ∷ []) ∷ (0 ∷ []) ∷ (0 ∷ 7 ∷ []) ∷ (0 ∷ 7 ∷ []) ∷ (0 ∷ 7 ∷ []) ∷ []
unfolding script_of_log paths_within strings_of_files edges_for rows_for strings_of_first strings joins pairs_of mth fold_of tree_of tree_within
    split_of power_within sum_digest edge_levels
all_strings note = refl

abbrev IsOneOfTwo : List ℕ → Type 0
IsOneOfTwo x = (x ≡ 0 ∷ []) ⊎ (x ≡ 0 ∷ 7 ∷ [])

one_of_two : (note x : List ℕ) → Has (set.from_list (strings sum_digest (take 1 empty_entry) ++ strings_of_files sum_digest 1 (files note))) x →
    IsOneOfTwo x
one_of_two note x h =
    let c = subst (λ (l : List (List ℕ)). Contains l x) (all_strings note) (listed_from_has _ x h) in
    let a : List ℕ = 0 ∷ [] in
    let b : List ℕ = 0 ∷ 7 ∷ [] in
    All-contains IsOneOfTwo (a ∷ a ∷ a ∷ b ∷ b ∷ b ∷ []) x
    (All-cons IsOneOfTwo a (a ∷ a ∷ b ∷ b ∷ b ∷ []) (inl refl)
    (All-cons IsOneOfTwo a (a ∷ b ∷ b ∷ b ∷ []) (inl refl)
    (All-cons IsOneOfTwo a (b ∷ b ∷ b ∷ []) (inl refl)
    (All-cons IsOneOfTwo b (b ∷ b ∷ []) (inr refl)
    (All-cons IsOneOfTwo b (b ∷ []) (inr refl)
    (All-cons IsOneOfTwo b [] (inr refl) (All-nil IsOneOfTwo)))))))
    c

differ : sum_digest (0 ∷ []) ≡ sum_digest (0 ∷ 7 ∷ []) → ⊥
unfolding sum_digest
differ e = let bad : 0 ≡ 7 = ap (λ (l : List ℕ). get_or l 0 0) e in omega (arith, bad)

same_string : (x y : List ℕ) → IsOneOfTwo x → IsOneOfTwo y → sum_digest x ≡ sum_digest y → x ≡ y
same_string x y (inl p) (inl q) e = p ∙ sym q
same_string x y (inl p) (inr q) e = absurd (differ (ap sum_digest (sym p) ∙ (e ∙ ap sum_digest q)))
same_string x y (inr p) (inl q) e = absurd (differ (ap sum_digest (sym q) ∙ (sym e ∙ ap sum_digest p)))
same_string x y (inr p) (inr q) e = p ∙ sym q

no_clash : (note : List ℕ) → AreFilesClear sum_digest (take 1 empty_entry) (files note)
no_clash note = record { same = λ x y hx hy e. same_string x y (one_of_two note x hx) (one_of_two note y hy) e }

short : AreShort empty_entry
short = All-cons (λ (entry : List ℕ). length entry < 2 ^ 16) [] [] (omega arith) (All-nil (λ (entry : List ℕ). length entry < 2 ^ 16))

allowed : (note : List ℕ) (honest liar : Place (List File)) (places : Places (List File)) → places.list.items ≡ honest ∷ liar ∷ [] →
    honest.source ≡ script_of_log sum_digest empty_entry note → honest.failures ≡ 0 → liar.source ≡ lying_files →
    IsHonestAndClear sum_digest MayByScript [] places places empty_entry 1
allowed note honest liar places items script sound lies =
    let source = λ (place : Place (List File)). place.source in
    let sources : map source places.list.items ≡ script_of_log sum_digest empty_entry note ∷ lying_files ∷ [] =
    ap (map source) items ∙ (λ i. script i ∷ lies i ∷ []) in
    let first : get_or places.list.items 0 honest ≡ honest = ap (λ xs. get_or xs 0 honest) items in
    let failures : (get_or places.list.items 0 honest).failures ≡ honest.failures = ap (λ (p : Place (List File)). p.failures) first in
    log_scripts_suffice sum_digest empty_entry short 1 (omega arith) places places
    (record {
      note = note;
      none = honest;
      index = 0;
      listed = omega (arith, ap length items);
      script = ap source first ∙ script;
      asked = omega (arith, failures, sound);
      answers = refl;
    })
    []
    (subst (λ scripts. AreFilesClear sum_digest (take 1 empty_entry) (all_files [] scripts)) (sym sources) (no_clash note))

bundle_differs : 0 ∷ 1 ∷ 7 ∷ [] ≢ true_bytes sum_digest empty_entry (Entries 0 1)
bundle_differs e = let bad : 1 ≡ 0 = ap (λ (l : List ℕ). get_or l 1 0) e in omega (arith, bad)

tile_differs : sum_digest (0 ∷ 7 ∷ []) ≢ true_bytes sum_digest empty_entry (Tile 0 0 1)
unfolding mth fold_of tree_of tree_within split_of power_within sum_digest
tile_differs e = let bad : 7 ≡ 0 = ap (λ (l : List ℕ). get_or l 0 0) e in omega (arith, bad)

pub liars_are_allowed : LiarsAreAllowed
liars_are_allowed = record { false_bundle = bundle_differs; false_tile = tile_differs; allowed = allowed }
