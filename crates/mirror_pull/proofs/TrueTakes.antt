-- Tiles and bundles from an honest source are taken.
use Rattle.std.proofs.Common.{◌≡◌, ◌⊎◌, ℕ, suc, ◌+◌, ◌-◌, ◌*◌, ◌^◌, ◌<◌, ◌≤◌, min, List, [], ◌∷◌, ◌++◌, length}
use Rattle.std.proofs.Common.{take, arith, length-take, Contains, Option, Some, None, Result, Ok, Err, Bool, true}
use Rattle.std.proofs.Common.{false, refl, sym, ◌∙◌, ap, subst, inl, inr}
use Rattle.std.specs.Prelude.{MatchResult}
use Rattle.std.specs.FinSet as set
use Rattle.std.proofs.Common.{get_or}
use Rattle.std.proofs.lemmas.List.{take_all}
use Rattle.std.proofs.lemmas.List.Elements.{All-take, Contains-get_or}
use Rattle.tlog_hash.specs.Tree.{strings}
use Rattle.tlog_tiles.specs.declared.paths.Path.{Path}
use Rattle.tlog_tiles.specs.declared.paths.Path.TheVariants.{Checkpoint, Tile, Entries}
use Rattle.tlog_tiles.specs.Tiles.{tile_bytes, bundle_bytes, IsWithin}
use Rattle.node_store.specs.Strings.{Has, NoClash}
use Rattle.mirror_model.specs.View.{View}
use Rattle.mirror_model.specs.Strings.{IsDigest}
use Rattle.mirror_model.specs.TrueLaws.{AreShort, IsWidest}
use Rattle.mirror_model.specs.declared.items.Item.{Item}
use Rattle.mirror_model.specs.declared.items.Item.TheVariants as item
use Rattle.mirror_model.specs.Item.{IsGood, strings_of, plus}
use Rattle.mirror_model.proofs.StringSets.{has_left, has_right, has_cases, has_from_listed}
use Rattle.mirror_model.proofs.StringSets.{no_clash_within, clash_contradicts}
use Rattle.mirror_model.proofs.TrueItems.{prefixes_serve_same, tiles_are_true, bundles_are_true, true_strings_within}
use Rattle.mirror_model.proofs.Fetching.{plus_holds}
use Rattle.mirror_sources.specs.Files.{full_of}
use Rattle.mirror_sources.specs.Replies.{Reply}
use Rattle.mirror_sources.specs.Honest.{IsGone, Gets, GetsNone, GetsFound, GetsFull, true_bytes}
use Rattle.mirror_pull.specs.Taking.{TakesItem, item_at}
use Rattle.mirror_pull.specs.Honest.{NoClashAmong, true_item, with_true}
use Rattle.mirror_sources.specs.Source.{StaysWithin}
use Rattle.mirror_pull.specs.Asking.{IsFresh}
use Rattle.mirror_pull.specs.Parts.{GetsAll, IsOutside, TakesTrue, MayTake}
use Rattle.mirror_pull.specs.declared.fault.PullFault.{PullFault}
use Rattle.mirror_pull.specs.declared.fault.PullFault.TheVariants.{NoCheckpoint, NoEdge, Head, Source, Collision}
use Rattle.mirror_pull.specs.declared.fault.PullFault.TheVariants.{OutOfMemory}
use Rattle.mirror_pull.proofs.Freshness.{cases_first, contains_take, gone_partial, fresh_next, take_one}
use Rattle.mirror_pull.proofs.Freshness.{adds_of_gets, gets_all_then, gets_none}
use Rattle.mirror_pull.proofs.TrueRows.{source_stays, full_fresh, is_gone, full_answers, gets_found, gets_full}
use Rattle.tlog_tiles.proofs.EdgeLemmas.{contains_one}

pub within_more : (m n : ℕ) → m ≤ n → (path : Path) → IsWithin m path → IsWithin n path
within_more m n le Checkpoint h = h
within_more m n le (Tile level index width) h =
    record { level_fits = h.level_fits; some = h.some; upto = h.upto; within = omega (arith, h.within, le) }
within_more m n le (Entries index width) h =
    record { level_fits = h.level_fits; some = h.some; upto = h.upto; within = omega (arith, h.within, le) }

-- bytes were found at a path of the list, or at the full path of one whose file may be deleted
pub founds_each : (n : ℕ) (ps fs : List Path) (xs : List Reply) → Gets n ps xs fs → (f : Path) → Contains fs f →
    Contains ps f ⊎ ((p : Path) × Contains ps p × IsGone n p × (f ≡ full_of p))
founds_each n ps fs xs GetsNone f c = absurd (omega (arith, c.1))
founds_each n ps fs xs (GetsFound p bytes {paths = ps'} {founds = fs'} {replies = xs'} g) f c = elim (cases_first p fs' f c) [
  | inl e ↦ inl (0, omega arith, e)
  | inr later ↦ elim
      (founds_each n ps' fs' xs' g f later) [
        | inl a ↦ inl (suc a.0, omega (arith, a.1), a.2)
        | inr b ↦ inr
            (b.0, (suc b.1.0, omega (arith, b.1.1), b.1.2), b.2, b.3)
      ]
]
founds_each n ps fs xs (GetsFull p bytes {paths = ps'} {founds = fs'} {replies = xs'} gone g) f c =
    elim (cases_first (full_of p) fs' f c) [
      | inl e ↦ inr (p, (0, omega arith, refl), gone, sym e)
      | inr later ↦ elim
          (founds_each n ps' fs' xs' g f later) [
            | inl a ↦ inl (suc a.0, omega (arith, a.1), a.2)
            | inr b ↦ inr
                (b.0, (suc b.1.0, omega (arith, b.1.1), b.1.2), b.2, b.3)
          ]
    ]

module _ (digest : List ℕ → List ℕ) (entries : List (List ℕ)) (size : ℕ) where
  -- the string is in the tree of the entries, or in the tree of the first entries
  abbrev pub InTrees : List ℕ → Type 0
  InTrees y = Contains (strings digest entries) y ⊎ Contains (strings digest (take size entries)) y

  in_trees : (y : List ℕ) → InTrees y →
      Has (set.union (set.from_list (strings digest entries)) (set.from_list (strings digest (take size entries)))) y
  in_trees y (inl a) =
      has_left (set.from_list (strings digest entries)) (set.from_list (strings digest (take size entries))) y
      (has_from_listed (strings digest entries) y a)
  in_trees y (inr b) =
      has_right (set.from_list (strings digest entries)) (set.from_list (strings digest (take size entries))) y
      (has_from_listed (strings digest (take size entries)) y b)

  -- a view that gained only strings of these trees has no new collision with them
  pub clean_gained : (v w : View) → ((y : List ℕ) → Has w.strings y → Has v.strings y ⊎ InTrees y) →
      NoClashAmong digest entries v size → NoClashAmong digest entries w size
  clean_gained v w only clean =
      let t = set.union (set.from_list (strings digest entries)) (set.from_list (strings digest (take size entries))) in
      no_clash_within digest (set.union w.strings t) (set.union v.strings t) (λ q h. elim (has_cases w.strings t q h) [
        | inl a ↦ elim (only q a) [ inl x ↦ has_left v.strings t q x | inr y ↦ has_right v.strings t q (in_trees q y) ]
        | inr b ↦ has_right v.strings t q b
      ]) clean

  pub clean_itself : (v : View) → NoClashAmong digest entries v size → NoClash digest v.strings
  clean_itself v clean =
      let t = set.union (set.from_list (strings digest entries)) (set.from_list (strings digest (take size entries))) in
      no_clash_within digest v.strings (set.union v.strings t) (λ q h. has_left v.strings t q h) clean

  pub plus_only : (v : View) (x : Item) → ((y : List ℕ) → Contains (strings_of digest x) y → InTrees y) → (y : List ℕ) →
      Has (plus digest v x).strings y → Has v.strings y ⊎ InTrees y
  plus_only v x only y h = elim ((plus_holds digest v x y).string h) [ inl a ↦ inl a | inr b ↦ inr (only y b) ]

  pub plus_clean : (v : View) (x : Item) → ((y : List ℕ) → Contains (strings_of digest x) y → InTrees y) →
      NoClashAmong digest entries v size → NoClash digest (plus digest v x).strings
  plus_clean v x only clean =
      clean_itself (plus digest v x) (clean_gained v (plus digest v x) (plus_only v x only) clean)

  module _ (hash : IsDigest digest) (short : AreShort entries) (le : size ≤ length entries) where
    long : length (take size entries) ≡ size
    long = omega (arith, length-take size entries, le)

    short_first : AreShort (take size entries)
    short_first = All-take (λ entry. length entry < 2 ^ 16) size entries short

    -- the strings of a path within the first entries, if it is the widest with its level and index
    pub first_strings : (path : Path) → IsWithin size path → IsWidest size path → (y : List ℕ) →
        Contains (strings_of digest (true_item digest entries path)) y → InTrees y
    first_strings Checkpoint within widest y c = absurd within
    first_strings (Tile level index width) within widest y c =
        let same : tile_bytes digest (take size entries) level index width
        ≡ tile_bytes digest entries level index width =
        (prefixes_serve_same digest entries size le).tile level index width within in
        let t = tiles_are_true digest hash (take size entries) short_first level index width
        (record { some = within.some; most = within.upto }) in
        let here =
        subst (λ ss. Contains ss y) t.strings_are
        (subst (λ bytes. Contains (strings_of digest (item.Tile width bytes)) y) (sym same) c) in
        inr (true_strings_within digest (take size entries) (Tile level index width)
        (subst (λ n. IsWithin n (Tile level index width)) (sym long) within) widest y here)
    first_strings (Entries index width) within widest y c =
        let same : bundle_bytes (take size entries) index width ≡ bundle_bytes entries index width =
        (prefixes_serve_same digest entries size le).bundle index width within in
        let inside = subst (λ n. IsWithin n (Entries index width)) (sym long) within in
        let b = bundles_are_true digest hash (take size entries) short_first index width inside in
        let here =
        subst (λ ss. Contains ss y) b.strings_are
        (subst (λ bytes. Contains (strings_of digest (item.Bundle width bytes)) y) (sym same) c) in
        inr (true_strings_within digest (take size entries) (Entries index width) inside
        (subst (λ n. IsWidest n (Entries index width)) (sym long) widest) y here)

    pub true_good : (origin : List ℕ) (path : Path) → IsWithin (length entries) path →
        IsGood digest origin [] (true_item digest entries path)
    true_good origin Checkpoint within = absurd within
    true_good origin (Tile level index width) within =
        (tiles_are_true digest hash entries short level index width
        (record { some = within.some; most = within.upto })).good
    true_good origin (Entries index width) within = (bundles_are_true digest hash entries short index width within).good

    -- the strings of the full path of one whose file may be deleted
    pub full_strings : (path : Path) → IsGone (length entries) path → (y : List ℕ) →
        Contains (strings_of digest (true_item digest entries (full_of path))) y → InTrees y
    full_strings Checkpoint gone y c = absurd gone.full
    full_strings (Tile level index width) gone y c =
        let t = tiles_are_true digest hash entries short level index 256
        (record { some = gone.full.some; most = gone.full.upto }) in
        inl (true_strings_within digest entries (Tile level index 256) gone.full refl y
        (subst (λ ss. Contains ss y) t.strings_are c))
    full_strings (Entries index width) gone y c =
        let b = bundles_are_true digest hash entries short index 256 gone.full in
        let one : (256 * index + 256) * 256 ^ 0 ≡ 256 * index + 256 = omega arith in
        let wide : 256 ≡ min 256 (length entries - 256 * index) = omega (arith, one, gone.full.within) in
        inl (true_strings_within digest entries (Entries index 256) gone.full wide y
        (subst (λ ss. Contains ss y) b.strings_are c))

    -- the held strings after the true bytes of such paths, or of their full paths, were taken
    only_founds : (founds : List Path) (v : View) →
        ((f : Path) → Contains founds f → (y : List ℕ) → Contains (strings_of digest (true_item digest entries f)) y →
        InTrees y) → (y : List ℕ) → Has (with_true digest entries v founds).strings y → Has v.strings y ⊎ InTrees y
    only_founds [] v each y h = inl h
    only_founds (f ∷ fs) v each y h =
        let next = plus digest v (true_item digest entries f) in
        elim (only_founds fs next (λ q c. each q (suc c.0, omega (arith, c.1), c.2)) y h) [
          | inl a ↦ plus_only v (true_item digest entries f) (each f (0, omega arith, refl)) y a
          | inr t ↦ inr t
        ]

    pub taken_only :
        (ps fs : List Path) (xs : List Reply) (v : View) → Gets (length entries) ps xs fs →
        ((path : Path) → Contains ps path → IsWithin size path × IsWidest size path) →
        (y : List ℕ) → Has (with_true digest entries v fs).strings y → Has v.strings y ⊎ InTrees y
    taken_only ps fs xs v got are y h =
        only_founds fs v (λ f c. elim (founds_each (length entries) ps fs xs got f c) [
          | inl listed ↦ first_strings f (are f listed).0 (are f listed).1
          | inr full ↦ subst
              (λ (q : Path). (y : List ℕ) → Contains (strings_of digest (true_item digest entries q)) y → InTrees y)
              (sym full.3) (full_strings full.0 full.2)
        ]) y h

-- the pull takes an item that is valid and collides with nothing
pub item_taken :
    (digest : List ℕ → List ℕ) (entries : List (List ℕ)) (may : Path → Option (List ℕ) → Type 0) (v w : View)
    (path found : Path) (before after : List Path) (r : Result Bool PullFault)
    (got : GetsAll (length entries) may (path ∷ []) before after) → got.founds ≡ found ∷ [] →
    IsGood digest v.origin [] (true_item digest entries found) →
    NoClash digest (plus digest v (true_item digest entries found)).strings →
    TakesItem digest v (true_item digest entries found) r w →
    MatchResult r (λ refused. (refused ≡ false) × TakesTrue digest entries may (path ∷ []) before after v w) IsOutside
item_taken digest entries may v w path found before after (Ok true) got is good clean t = absurd (t.0 good)
item_taken digest entries may v w path found before after (Ok false) got is good clean t =
    (refl, record { gets = got; taken = t.2 ∙ ap (with_true digest entries v) (sym is) })
item_taken digest entries may v w path found before after (Err Collision) got is good clean t =
    absurd (clash_contradicts digest (plus digest v (true_item digest entries found)).strings clean t.1)
item_taken digest entries may v w path found before after (Err OutOfMemory) got is good clean t = inl refl
item_taken digest entries may v w path found before after (Err NoCheckpoint) got is good clean t = absurd t
item_taken digest entries may v w path found before after (Err NoEdge) got is good clean t = absurd t
item_taken digest entries may v w path found before after (Err (Head f)) got is good clean t = absurd t
item_taken digest entries may v w path found before after (Err Source) got is good clean t = absurd t

-- ---- one path

module _ (digest : List ℕ → List ℕ) (entries : List (List ℕ)) (size : ℕ) (may : Path → Option (List ℕ) → Type 0)
    (v : View) (path : Path) (before : List Path) (m : MayTake digest entries size may v before (path ∷ [])) where
  here : Contains (path ∷ []) path
  here = (0, omega arith, refl)

  pub path_fresh : IsFresh before path
  path_fresh = m.fresh.fresh path here

  pub path_within : IsWithin (length entries) path
  path_within = within_more size (length entries) m.within path (m.paths_are path here).0

  pub path_gone : may path None → IsGone (length entries) path
  path_gone none = is_gone digest entries may m.source path path_within none

  pub path_found :
      (w : View) (after : List Path) (bytes taken : List ℕ) (r : Result Bool PullFault) → may path (Some bytes) →
      taken ≡ bytes → after ≡ before ++ path ∷ [] →
      TakesItem digest v (item_at path taken) r w →
      MatchResult r (λ refused. (refused ≡ false) × TakesTrue digest entries may (path ∷ []) before after v w) IsOutside
  path_found w after bytes taken r answer same list t =
      let true : taken ≡ true_bytes digest entries path = same ∙ m.source.parts path path_within (Some bytes) answer in
      let are = m.paths_are path here in
      item_taken digest entries may v w path path before after r
      (gets_found digest entries may m.source path bytes before after answer list) refl
      (true_good digest entries size m.source.hash m.source.short m.within v.origin path path_within)
      (plus_clean digest entries size v (true_item digest entries path)
      (first_strings digest entries size m.source.hash m.source.short m.within path are.0 are.1) m.clean)
      (subst (λ b. TakesItem digest v (item_at path b) r w) true t)

  pub path_full_fresh : (full : Path) (middle : List Path) → may path None → full ≡ full_of path →
      middle ≡ before ++ path ∷ [] → Contains middle full → ⊥
  path_full_fresh full middle none same list =
      full_fresh path full before middle same (gone_partial (length entries) path (path_gone none)) list path_fresh

  pub path_full :
      (later : Path → Option (List ℕ) → Type 0) (w : View) (full : Path) (middle after : List Path)
      (bytes taken : List ℕ) (r : Result Bool PullFault) → StaysWithin may later →
      may path None → later full (Some bytes) → full ≡ full_of path → taken ≡ bytes → middle ≡ before ++ path ∷ [] →
      after ≡ middle ++ full ∷ [] →
      TakesItem digest v (item_at full taken) r w →
      MatchResult r (λ refused. (refused ≡ false) × TakesTrue digest entries may (path ∷ []) before after v w) IsOutside
  path_full later w full middle after bytes taken r stays none answer is same list more t =
      let gone = path_gone none in
      let source = source_stays digest entries may later stays m.source in
      let there : later (full_of path) (Some bytes) = subst (λ (q : Path). later q (Some bytes)) is answer in
      let true : taken ≡ true_bytes digest entries (full_of path) =
      same ∙ source.parts (full_of path) gone.full (Some bytes) there in
      let t' = subst (λ b. TakesItem digest v (item_at (full_of path) b) r w) true
      (subst (λ (q : Path). TakesItem digest v (item_at q taken) r w) is t) in
      item_taken digest entries may v w path (full_of path) before after r
      (gets_full digest entries may m.source later path full bytes before middle after stays gone none there is list
      more) refl
      (true_good digest entries size m.source.hash m.source.short m.within v.origin (full_of path) gone.full)
      (plus_clean digest entries size v (true_item digest entries (full_of path))
      (full_strings digest entries size m.source.hash m.source.short m.within path gone) m.clean) t'

  pub path_neither : (later : Path → Option (List ℕ) → Type 0) (full : Path) → StaysWithin may later → may path None →
      later full None → full ≡ full_of path → ⊥
  path_neither later full stays none answer is =
      full_answers digest entries later (source_stays digest entries may later stays m.source) path (path_gone none)
      (subst (λ (q : Path). later q None) is answer)

-- ---- paths in order

pub taken_then : (digest : List ℕ → List ℕ) (entries : List (List ℕ)) (fs es : List Path) (v : View) →
    with_true digest entries v (fs ++ es) ≡ with_true digest entries (with_true digest entries v fs) es
taken_then digest entries [] es v = refl
taken_then digest entries (f ∷ fs) es v = taken_then digest entries fs es (plus digest v (true_item digest entries f))

module _ (digest : List ℕ → List ℕ) (entries : List (List ℕ)) (size : ℕ) where
  -- the strings gained from these paths are strings of these trees
  pub paths_only :
      (may : Path → Option (List ℕ) → Type 0) (v w : View) (before mid ps qs : List Path) →
      MayTake digest entries size may v before ps → ((p : Path) → Contains qs p → Contains ps p) →
      TakesTrue digest entries may qs before mid v w → (y : List ℕ) → Has w.strings y →
      Has v.strings y ⊎ InTrees digest entries size y
  paths_only may v w before mid ps qs m among t y h =
      taken_only digest entries size m.source.hash m.source.short m.within qs t.gets.founds t.gets.replies v
      t.gets.are
      (λ p c. m.paths_are p (among p c)) y (subst (λ (x : View). Has x.strings y) t.taken h)

  pub round_next :
      (may later : Path → Option (List ℕ) → Type 0) (v w : View) (before mid ps : List Path) (i : ℕ) →
      StaysWithin may later → i < length ps → MayTake digest entries size may v before ps →
      TakesTrue digest entries may (take i ps) before mid v w →
      MayTake digest entries size later w mid (get_or ps i Checkpoint ∷ [])
  round_next may later v w before mid ps i stays lt m t =
      let p = get_or ps i Checkpoint in
      let has = Contains-get_or ps i Checkpoint lt in
      record {
        source = source_stays digest entries may later stays m.source;
        within = m.within;
        clean = clean_gained digest entries size v w
            (paths_only may v w before mid ps (take i ps) m (λ q c. contains_take i ps q c) t) m.clean;
        paths_are = λ q c. subst (λ (r : Path). IsWithin size r × IsWidest size r) (contains_one p q c)
            (m.paths_are p has);
        fresh = record {
          fresh = λ q c. subst (IsFresh mid) (contains_one p q c)
              (fresh_next before mid ps i lt m.fresh
              (adds_of_gets (length entries) may (take i ps) before mid t.gets));
          apart = λ a b d l within. absurd (omega (arith, l, within));
        };
      }

  pub round_step :
      (may later : Path → Option (List ℕ) → Type 0) (v x w : View) (before mid after ps : List Path) (i : ℕ) →
      StaysWithin may later → i < length ps →
      TakesTrue digest entries may (take i ps) before mid v x →
      TakesTrue digest entries later (get_or ps i Checkpoint ∷ []) mid after x w →
      TakesTrue digest entries may (take (i + 1) ps) before after v w
  round_step may later v x w before mid after ps i stays lt a b =
      let p = get_or ps i Checkpoint in
      subst (λ (l : List Path). TakesTrue digest entries may l before after v w) (sym (take_one ps i lt)) (record {
        gets = gets_all_then (length entries) may later (take i ps) (p ∷ []) before mid after stays a.gets b.gets;
        taken = b.taken ∙
            (ap (λ (y : View). with_true digest entries y b.gets.founds) a.taken ∙
            sym (taken_then digest entries a.gets.founds b.gets.founds v));
      })

  pub round_none : (may : Path → Option (List ℕ) → Type 0) (v : View) (before : List Path) →
      TakesTrue digest entries may [] before before v v
  round_none may v before = record { gets = gets_none (length entries) may before; taken = refl }

  pub round_whole : (may : Path → Option (List ℕ) → Type 0) (v w : View) (before after ps : List Path) (i : ℕ) →
      length ps ≤ i → TakesTrue digest entries may (take i ps) before after v w →
      TakesTrue digest entries may ps before after v w
  round_whole may v w before after ps i le t =
      subst (λ (l : List Path). TakesTrue digest entries may l before after v w) (take_all i ps le) t
