-- Several pulls fetch different files.
use Rattle.std.proofs.Common.{◌≡◌, ◌≢◌, ℕ, zero, suc, ◌+◌, ◌-◌, ◌<◌, ◌≤◌, List, [], ◌∷◌, ◌++◌, length, get_or}
use Rattle.std.proofs.Common.{AllPairs, Contains, arith, refl, sym, ◌∙◌, ap, subst, inl, inr}
use Rattle.std.specs.Prelude.{sum_by}
use Rattle.std.proofs.lemmas.Bool.{cases_lt}
use Rattle.std.proofs.lemmas.List.{length-append, get_or_default, get_or_append_left, get_or-append_right}
use Rattle.std.proofs.lemmas.List.Elements.{Contains-append_cases}
use Rattle.std.proofs.lemmas.List.Sums.{sum_by-append}
use Rattle.tlog_tiles.specs.declared.paths.Path.{Path}
use Rattle.node_store.specs.Strings.{HasAll}
use Rattle.mirror_model.specs.View.{View, IsSubview}
use Rattle.mirror_model.specs.Rounds.{true_strings}
use Rattle.mirror_model.proofs.StringSets.{held_more}
use Rattle.mirror_model.proofs.Views.{within_trans}
use Rattle.mirror_pull.specs.Repeated.{FetchesFiles, FetchInTurn, PullsFetchFilesOnce}

-- ---- lists without an item, and lists of different items

abbrev without : List Path → ℕ → List Path
without [] k = []
without (y ∷ ys) zero = ys
without (y ∷ ys) (suc k) = y ∷ without ys k

length_without : (ys : List Path) (k : ℕ) → k < length ys → suc (length (without ys k)) ≡ length ys
length_without [] k lt = absurd (omega (arith, lt))
length_without (y ∷ ys) zero lt = refl
length_without (y ∷ ys) (suc k) lt = ap suc (length_without ys k (omega (arith, lt)))

contains_later : (y : Path) (ys : List Path) (q : Path) → Contains ys q → Contains (y ∷ ys) q
contains_later y ys q c = (suc c.0, omega (arith, c.1), c.2)

contains_without : (ys : List Path) (k j : ℕ) (q : Path) → j < length ys → get_or ys j q ≡ q →
    (k ≡ j → ⊥) → Contains (without ys k) q
contains_without [] k j q lt e apart = absurd (omega (arith, lt))
contains_without (y ∷ ys) zero zero q lt e apart = absurd (apart refl)
contains_without (y ∷ ys) zero (suc j) q lt e apart = (j, omega (arith, lt), e)
contains_without (y ∷ ys) (suc k) zero q lt e apart = (0, omega arith, e)
contains_without (y ∷ ys) (suc k) (suc j) q lt e apart =
    contains_later y (without ys k) q
    (contains_without ys k j q (omega (arith, lt)) e (λ same. apart (ap suc same)))

-- a list of different items, all from another list, is at most as long as that list
pub differ_within : (xs ys : List Path) → AllPairs (λ a b. a ≢ b) xs → ((q : Path) → Contains xs q → Contains ys q) →
    length xs ≤ length ys
differ_within [] ys apart among = omega arith
differ_within (x ∷ xs) ys apart among =
    let c = among x (0, omega arith, refl) in
    let rest =
    differ_within xs (without ys c.0)
    (λ i j d lt within. apart (suc i) (suc j) d (omega (arith, lt)) (omega (arith, within)))
    (λ q has.
    let d = among q (contains_later x xs q has) in
    contains_without ys c.0 d.0 q d.1 d.2 (λ same.
    let at : get_or ys c.0 q ≡ x = get_or_default ys c.0 q x c.1 ∙ c.2 in
    let is : x ≡ q = sym at ∙ (ap (λ (k : ℕ). get_or ys k q) same ∙ d.2) in
    apart 0 (suc has.0) q (omega arith) (omega (arith, has.1)) (is ∙ sym has.2))) in
    omega (arith, rest, length_without ys c.0 c.1)

pub pairs_append : (xs ys : List Path) → AllPairs (λ a b. a ≢ b) xs → AllPairs (λ a b. a ≢ b) ys →
    ((x y : Path) → Contains xs x → Contains ys y → x ≢ y) → AllPairs (λ a b. a ≢ b) (xs ++ ys)
pairs_append xs ys p q cross i j d lt within e =
    let long = length-append xs ys in
    let left = λ (k : ℕ) (l : k < length xs). get_or_append_left xs ys d k l in
    let right = λ (k : ℕ) (l : length xs ≤ k). get_or-append_right xs ys (length xs) k d refl l in
    let has_left : (k : ℕ) → k < length xs → Contains xs (get_or xs k d) =
    λ k l. (k, l, get_or_default xs k (get_or xs k d) d l) in
    let has_right : (k : ℕ) → k < length ys → Contains ys (get_or ys k d) =
    λ k l. (k, l, get_or_default ys k (get_or ys k d) d l) in
    elim (cases_lt j (length xs)) [
      | inl jl ↦ p i j d lt jl (sym (left i (omega (arith, lt, jl))) ∙ (e ∙ left j jl))
      | inr jr ↦ elim (cases_lt i (length xs)) [
        | inl il ↦ cross (get_or xs i d) (get_or ys (j - length xs) d) (has_left i il)
            (has_right (j - length xs) (omega (arith, within, long, jr))) (sym (left i il) ∙ (e ∙ right j jr))
        | inr ir ↦ q (i - length xs) (j - length xs) d (omega (arith, lt, ir)) (omega (arith, within, long, jr))
            (sym (right i ir) ∙ (e ∙ right j jr))
      ]
    ]

-- ---- files, pull after pull

abbrev pub joined : List (List Path) → List Path
joined [] = []
joined (files ∷ lists) = files ++ joined lists

joined_length : (lists : List (List Path)) → sum_by (λ files. length files) lists ≡ length (joined lists)
joined_length [] = refl
joined_length (files ∷ lists) =
    let more = joined_length lists in
    let step : sum_by (λ fs. length fs) (files ∷ lists) ≡ (0 + length files) + sum_by (λ fs. length fs) lists =
    sum_by-append (λ fs. length fs) (files ∷ []) lists in
    omega (arith, more, step, length-append files (joined lists))

module _ (digest : List ℕ → List ℕ) (entries : List (List ℕ)) where
  lacks_before : (v w : View) (path : Path) → IsSubview v w → (HasAll w.strings (true_strings digest entries path) → ⊥) →
      HasAll v.strings (true_strings digest entries path) → ⊥
  lacks_before v w path within lacked h =
      lacked (held_more v.strings w.strings (true_strings digest entries path) within.strings_are h)

  -- no file was fetched
  pub fetches_none : (v w : View) → IsSubview v w → FetchesFiles digest entries v w []
  fetches_none v w within = record {
    grows = within;
    within = λ path c. absurd (omega (arith, c.1));
    widest = λ path c. absurd (omega (arith, c.1));
    apart = λ i j d lt l. absurd (omega (arith, l));
    lacked = λ path c. absurd (omega (arith, c.1));
    held = λ path c. absurd (omega (arith, c.1));
  }

  pub fetches_then : (v x w : View) (fs gs : List Path) → FetchesFiles digest entries v x fs →
      FetchesFiles digest entries x w gs → FetchesFiles digest entries v w (fs ++ gs)
  fetches_then v x w fs gs p q = record {
    grows = within_trans v x w p.grows q.grows;
    within = λ path c. elim (Contains-append_cases fs gs path c) [ inl a ↦ p.within path a | inr b ↦ q.within path b ];
    widest = λ path c. elim (Contains-append_cases fs gs path c) [ inl a ↦ p.widest path a | inr b ↦ q.widest path b ];
    apart = pairs_append fs gs p.apart q.apart (λ a b has_a has_b e.
        q.lacked b has_b (subst (λ (r : Path). HasAll x.strings (true_strings digest entries r)) e (p.held a has_a)));
    lacked = λ path c. elim (Contains-append_cases fs gs path c) [
      | inl a ↦ p.lacked path a
      | inr b ↦ lacks_before v x path p.grows (q.lacked path b)
    ];
    held = λ path c. elim (Contains-append_cases fs gs path c) [
      | inl a ↦ held_more x.strings w.strings (true_strings digest entries path) q.grows.strings_are (p.held path a)
      | inr b ↦ q.held path b
    ];
  }

  -- the files were fetched after an earlier view too
  pub fetches_from : (v x w : View) (fs : List Path) → IsSubview v x → FetchesFiles digest entries x w fs →
      FetchesFiles digest entries v w fs
  fetches_from v x w fs within p = fetches_then v x w [] fs (fetches_none v x within) p

  in_turn : (v w : View) (lists : List (List Path)) → FetchInTurn digest entries v lists w →
      FetchesFiles digest entries v w (joined lists)
  in_turn v w [] t = fetches_none v w t
  in_turn v w (files ∷ lists) t =
      fetches_from v t.0 w (files ++ joined lists) t.2
      (fetches_then t.0 t.1 w files (joined lists) t.3 (in_turn t.1 w lists t.4))

pub pulls_fetch_files_once : PullsFetchFilesOnce
pulls_fetch_files_once digest entries v w lists all t among =
    let f = in_turn digest entries v w lists t in
    let few =
    differ_within (joined lists) all f.apart
    (λ path c. among path (f.within path c) (f.widest path c)) in
    omega (arith, few, joined_length lists)
