-- Paths that were not requested yet, by level and index.
use Rattle.std.proofs.Common.{◌≡◌, ◌≢◌, ◌⊎◌, ℕ, zero, suc, ◌<◌, List, [], ◌∷◌, ◌++◌, length, get_or, take, arith}
use Rattle.std.proofs.Common.{AllPairs, Contains, refl, sym, ◌∙◌, ap, subst, inl, inr}
use Rattle.std.proofs.Common.{◌+◌, length-take, Option}
use Rattle.std.proofs.lemmas.List.{append-nil, get_or_default, get_or-take, take_more}
use Rattle.std.proofs.lemmas.List.Elements.{Contains-push_cases, Contains-append_cases, Contains-get_or}
use Rattle.tlog_tiles.specs.declared.paths.Path.{Path}
use Rattle.tlog_tiles.specs.declared.paths.Path.TheVariants.{Checkpoint, Tile, Entries}
use Rattle.tlog_tiles.specs.Edge.{edge_of, level_of}
use Rattle.tlog_tiles.proofs.EdgeLemmas.{edge_rises}
use Rattle.mirror_sources.specs.Files.{full_of, width_named}
use Rattle.mirror_sources.specs.Source.{StaysWithin}
use Rattle.mirror_sources.specs.Replies.{Reply, asked_paths}
use Rattle.mirror_sources.specs.Honest.{IsGone, Gets, GetsNone, GetsFound, GetsFull}
use Rattle.mirror_pull.specs.Asking.{IsFresh, AreFresh}
use Rattle.mirror_pull.specs.Parts.{GetsAll}
use Rattle.mirror_pull.proofs.Askings.{with_then, may_then, may_stays}

pub full_full : (path : Path) → full_of (full_of path) ≡ full_of path
full_full Checkpoint = refl
full_full (Tile level index width) = refl
full_full (Entries index width) = refl

pub fresh_unasked : (asked : List Path) (path : Path) → IsFresh asked path → Contains asked path → ⊥
fresh_unasked asked path fresh has = fresh path has refl

-- after a partial path was requested, its full path was not requested yet either
pub full_unasked : (asked : List Path) (path : Path) → path ≢ full_of path → IsFresh asked path →
    Contains (asked ++ path ∷ []) (full_of path) → ⊥
full_unasked asked path partial fresh has = elim (Contains-push_cases asked path (full_of path) has) [
  | inl before ↦ fresh (full_of path) before (full_full path)
  | inr same ↦ partial same
]

-- a path whose file may be deleted is not a full path
pub gone_partial : (n : ℕ) (path : Path) → IsGone n path → path ≢ full_of path
gone_partial n Checkpoint gone e = absurd gone.full
gone_partial n (Tile level index width) gone e =
    let w : width ≡ 256 = ap width_named e in omega (arith, gone.partial, w)
gone_partial n (Entries index width) gone e = let w : width ≡ 256 = ap width_named e in omega (arith, gone.partial, w)

-- ---- gets, in order

pub gets_then : (n : ℕ) (ps fs qs es : List Path) (xs ys : List Reply) → Gets n ps xs fs → Gets n qs ys es →
    Gets n (ps ++ qs) (xs ++ ys) (fs ++ es)
gets_then n ps fs qs es xs ys GetsNone h = h
gets_then n ps fs qs es xs ys (GetsFound path bytes {paths = ps'} {founds = fs'} {replies = xs'} g) h =
    GetsFound path bytes (gets_then n ps' fs' qs es xs' ys g h)
gets_then n ps fs qs es xs ys (GetsFull path bytes {paths = ps'} {founds = fs'} {replies = xs'} gone g) h =
    GetsFull path bytes gone (gets_then n ps' fs' qs es xs' ys g h)

-- each path of a list was requested, in order, and the full path after some of them
pub data AsksEach : List Path → List Path → Type 0 where
  AsksNone : AsksEach [] []
  AsksOne : (path : Path) {paths gets : List Path} → AsksEach paths gets →
      AsksEach (path ∷ paths) (path ∷ gets)
  AsksTwo : (path : Path) {paths gets : List Path} → AsksEach paths gets →
      AsksEach (path ∷ paths) (path ∷ full_of path ∷ gets)

-- the list of requested paths grew by these paths, and by the full paths after some of them
pub record AddsEach (paths before after : List Path) : Type 0 where
  pub gets : List Path
  pub each : AsksEach paths gets
  pub list : after ≡ before ++ gets

pub each_then : (ps gs qs hs : List Path) → AsksEach ps gs → AsksEach qs hs → AsksEach (ps ++ qs) (gs ++ hs)
each_then ps gs qs hs AsksNone h = h
each_then ps gs qs hs (AsksOne path {paths = ps'} {gets = gs'} g) h = AsksOne path (each_then ps' gs' qs hs g h)
each_then ps gs qs hs (AsksTwo path {paths = ps'} {gets = gs'} g) h = AsksTwo path (each_then ps' gs' qs hs g h)

-- each get is for a path of the list or its full path
pub gets_each_asked : (n : ℕ) (ps fs : List Path) (xs : List Reply) → Gets n ps xs fs → AsksEach ps (asked_paths xs)
gets_each_asked n ps fs xs GetsNone = AsksNone
gets_each_asked n ps fs xs (GetsFound path bytes {paths = ps'} {founds = fs'} {replies = xs'} g) =
    AsksOne path (gets_each_asked n ps' fs' xs' g)
gets_each_asked n ps fs xs (GetsFull path bytes {paths = ps'} {founds = fs'} {replies = xs'} gone g) =
    AsksTwo path (gets_each_asked n ps' fs' xs' g)

-- a path of the list has the level and index of the get
pub record HasPlace (paths : List Path) (get : Path) : Type 0 where
  pub path : Path
  pub listed : Contains paths path
  pub same : full_of get ≡ full_of path

later_place : (p : Path) (ps : List Path) (get : Path) → HasPlace ps get → HasPlace (p ∷ ps) get
later_place p ps get h =
    record { path = h.path; listed = (suc h.listed.0, omega (arith, h.listed.1), h.listed.2); same = h.same }

pub cases_first : (x : Path) (xs : List Path) (y : Path) → Contains (x ∷ xs) y → (x ≡ y) ⊎ Contains xs y
cases_first x xs y (zero, lt, e) = inl e
cases_first x xs y (suc k, lt, e) = inr (k, omega (arith, lt), e)

pub each_place : (ps gs : List Path) → AsksEach ps gs → (get : Path) → Contains gs get → HasPlace ps get
each_place ps gs AsksNone get c = absurd (omega (arith, c.1))
each_place ps gs (AsksOne path {paths = ps'} {gets = gs'} g) get c = elim (cases_first path gs' get c) [
  | inl e ↦ record { path = path; listed = (0, omega arith, refl); same = ap full_of (sym e) }
  | inr later ↦ later_place path ps' get (each_place ps' gs' g get later)
]
each_place ps gs (AsksTwo path {paths = ps'} {gets = gs'} g) get c =
    elim (cases_first path (full_of path ∷ gs') get c) [
      | inl e ↦ record { path = path; listed = (0, omega arith, refl); same = ap full_of (sym e) }
      | inr next ↦ elim (cases_first (full_of path) gs' get next) [
        | inl e ↦ record { path = path; listed = (0, omega arith, refl); same = ap full_of (sym e) ∙ full_full path }
        | inr later ↦ later_place path ps' get (each_place ps' gs' g get later)
      ]
    ]

-- a path stays fresh if none of these paths has its level and index
pub fresh_after : (asked after ps : List Path) (path : Path) → AddsEach ps asked after → IsFresh asked path →
    ((p : Path) → Contains ps p → full_of p ≢ full_of path) → IsFresh after path
fresh_after asked after ps path adds fresh apart before has =
    elim (Contains-append_cases asked adds.gets before (subst (λ (l : List Path). Contains l before) adds.list has)) [
      | inl old ↦ fresh before old
      | inr got ↦ (let h = each_place ps adds.gets adds.each before got in λ e. apart h.path h.listed (sym h.same ∙ e))
    ]

-- ---- the paths of a right edge

level_full : (path : Path) → level_of (full_of path) ≡ level_of path
level_full Checkpoint = refl
level_full (Tile level index width) = refl
level_full (Entries index width) = refl

lower_apart : (a b : Path) → level_of a < level_of b → full_of a ≢ full_of b
lower_apart a b lt e =
    let l : level_of a ≡ level_of b = sym (level_full a) ∙ (ap level_of e ∙ level_full b) in omega (arith, lt, l)

pub edge_apart : (size : ℕ) → AllPairs (λ a b. full_of a ≢ full_of b) (edge_of size)
edge_apart size i j d lt within =
    lower_apart (get_or (edge_of size) i d) (get_or (edge_of size) j d) (edge_rises size i j d lt within)

-- ---- the paths of a list, in order

-- the paths of the list differ in level or index, so each is fresh when it is requested
pub fresh_next : (before mid ps : List Path) (i : ℕ) → i < length ps → AreFresh before ps →
    AddsEach (take i ps) before mid → IsFresh mid (get_or ps i Checkpoint)
fresh_next before mid ps i lt are adds =
    let p = get_or ps i Checkpoint in
    fresh_after before mid (take i ps) p adds (are.fresh p (Contains-get_or ps i Checkpoint lt)) (λ q has.
    let k = has.0 in
    let short : k < i = omega (arith, has.1, length-take i ps) in
    let is : get_or ps k Checkpoint ≡ q =
    get_or_default ps k Checkpoint q (omega (arith, short, lt)) ∙ (sym (get_or-take i ps k q short) ∙ has.2) in
    subst (λ (r : Path). full_of r ≢ full_of p) is (are.apart k i Checkpoint short lt))

pub take_one : (ps : List Path) (i : ℕ) → i < length ps → take (i + 1) ps ≡ take i ps ++ get_or ps i Checkpoint ∷ []
take_one ps i lt = take_more ps i Checkpoint lt

-- ---- the gets of a list

abbrev pub gets_none : (n : ℕ) (may : Path → Option (List ℕ) → Type 0) (before : List Path) → GetsAll n may [] before before
gets_none n may before =
    record { replies = []; founds = []; are = GetsNone; may_reply = tt; list = sym (append-nil before) }

abbrev pub gets_all_then :
    (n : ℕ) (may later : Path → Option (List ℕ) → Type 0) (ps qs before mid after : List Path) → StaysWithin may later →
    GetsAll n may ps before mid → GetsAll n later qs mid after → GetsAll n may (ps ++ qs) before after
gets_all_then n may later ps qs before mid after stays a b = record {
  replies = a.replies ++ b.replies;
  founds = a.founds ++ b.founds;
  are = gets_then n ps a.founds qs b.founds a.replies b.replies a.are b.are;
  may_reply = may_then may a.replies b.replies a.may_reply (may_stays may later b.replies stays b.may_reply);
  list = b.list ∙
      (ap (λ (l : List Path). l ++ asked_paths b.replies) a.list ∙ sym (with_then before a.replies b.replies));
}

pub adds_of_gets : (n : ℕ) (may : Path → Option (List ℕ) → Type 0) (ps before after : List Path) →
    GetsAll n may ps before after → AddsEach ps before after
adds_of_gets n may ps before after a = record {
  gets = asked_paths a.replies;
  each = gets_each_asked n ps a.founds a.replies a.are;
  list = a.list;
}

pub contains_take : (i : ℕ) (xs : List Path) (q : Path) → Contains (take i xs) q → Contains xs q
contains_take i xs q c =
    let short : c.0 < i =
    omega (arith, c.1, length-take i xs) in
    (c.0, omega (arith, c.1, length-take i xs), sym (get_or-take i xs c.0 q short) ∙ c.2)
