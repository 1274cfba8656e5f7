-- Parts of a pull that end early, after other parts.
use Rattle.std.proofs.Common.{◌≡◌, ℕ, suc, ◌+◌, ◌<◌, List, [], ◌∷◌, ◌++◌, length, get_or, take, drop, arith}
use Rattle.std.proofs.Common.{Option, Some, None, Bool, Result, Ok, Err, Contains, refl, sym, ◌∙◌, ap, subst}
use Rattle.std.proofs.Common.{Vec, Global, append_assoc}
use Rattle.std.proofs.lemmas.List.{append-nil}
use Rattle.std.proofs.Math.Seq.{split_at}
use Rattle.tlog_tiles.specs.declared.paths.Path.{Path}
use Rattle.tlog_tiles.specs.declared.paths.Path.TheVariants.{Checkpoint}
use Rattle.mirror_model.specs.View.{View}
use Rattle.mirror_sources.specs.Files.{full_of}
use Rattle.mirror_sources.specs.Source.{StaysWithin, RecordsGet}
use Rattle.mirror_sources.specs.Replies.{Reply, reply, asked_paths}
use Rattle.mirror_sources.specs.Recorded.{AddsToRecord}
use Rattle.mirror_sources.specs.declared.source.SourceFault.{SourceFault}
use Rattle.mirror_sources.specs.declared.source.SourceFault.TheVariants as source
use Rattle.mirror_pull.specs.Faults.{of_source}
use Rattle.mirror_pull.specs.Taking.{TakesItem, item_at}
use Rattle.mirror_pull.specs.Replying.{Asks, AsksNew, AsksAgain, GivesRow, GivesRows, RowsNone, RowsNext, TakesReplies, TakesEnd}
use Rattle.mirror_pull.specs.Replying.{AsksNext, NextNone, NextPath, NextFull, IsInRows, IsInRound, IsInRounds}
use Rattle.mirror_pull.specs.Replying.{RoundsOver, RoundUnder, IsUnanswered, GetFailed, MemoryRefused, StopsTaking}
use Rattle.mirror_pull.specs.Replying.{StopsAsking, StopsClashed, StopsExhausted, EndsWith, ComesNext, IsInPath}
use Rattle.mirror_pull.specs.Replying.{Gathers, IsWorkedList, IsLeftToAsk, PathFollows, with_replies}
use Rattle.mirror_pull.specs.declared.fault.PullFault.{PullFault}
use Rattle.mirror_pull.specs.declared.fault.PullFault.TheVariants.{NoCheckpoint, NoEdge, Head, Source, Collision}
use Rattle.mirror_pull.specs.declared.fault.PullFault.TheVariants.{OutOfMemory}
use Rattle.mirror_pull.proofs.Askings.{adds_record_none, adds_record_kept, adds_record_then, paths_then, may_then, may_stays}
use Rattle.mirror_pull.proofs.Replies.{AreRoundsSoFar, asks_found, never_none, takes_not, takes_then}
use Rattle.mirror_pull.proofs.Replies.{found_worked, full_worked}

-- ---- ends after successful parts

pub unanswered_as :
    {At Bt : List Reply → Option Path → Type 0} {e : PullFault} {xs : List Reply} {tried : List Path} →
    ((rs : List Reply) (next : Option Path) → At rs next → Bt rs next) → IsUnanswered At e xs tried →
    IsUnanswered Bt e xs tried
unanswered_as f (GetFailed {replies = rs} {path = path} at) = GetFailed (f rs (Some path) at)
unanswered_as f (MemoryRefused {replies = rs} {next = next} at) = MemoryRefused (f rs next at)

pub unanswered_then :
    {At Bt : List Reply → Option Path → Type 0} {e : PullFault} (xs : List Reply) {ys : List Reply}
    {tried : List Path} → ((rs : List Reply) (next : Option Path) → At rs next → Bt (xs ++ rs) next) →
    IsUnanswered At e ys tried → IsUnanswered Bt e (xs ++ ys) tried
unanswered_then xs f (GetFailed {replies = rs} {path = path} at) = GetFailed (f rs (Some path) at)
unanswered_then xs f (MemoryRefused {replies = rs} {next = next} at) = MemoryRefused (f rs next at)

pub stops_then :
    {digest : List ℕ → List ℕ} {At Bt : List Reply → View → Option Path → Type 0} {e : PullFault} {w : View}
    (xs : List Reply) {ys : List Reply} {tried : List Path} →
    ((rs : List Reply) (x : View) (next : Option Path) → At rs x next → Bt (xs ++ rs) x next) →
    StopsTaking digest At e ys tried w → StopsTaking digest Bt e (xs ++ ys) tried w
stops_then {w = w} xs f (StopsAsking u) = StopsAsking (unanswered_then xs (λ rs next. f rs w next) u)
stops_then {digest} {At} {Bt} {e} {w} xs f (StopsClashed {replies = rs} {x = x} path bytes at t) =
    subst (λ (zs : List Reply). StopsTaking digest Bt Collision zs [] w)
    (append_assoc xs rs (reply path (Some bytes) ∷ [])) (StopsClashed path bytes (f rs x (Some path) at) t)
stops_then {digest} {At} {Bt} {e} {w} xs f (StopsExhausted {replies = rs} {x = x} path bytes at t) =
    subst (λ (zs : List Reply). StopsTaking digest Bt OutOfMemory zs [] w)
    (append_assoc xs rs (reply path (Some bytes) ∷ [])) (StopsExhausted path bytes (f rs x (Some path) at) t)

module _ {may : Path → Option (List ℕ) → Type 0} {a b : Option (List Path)} where
  pub ends_as : {P Q : List Reply → List Path → Type 0} → EndsWith may a b P →
      ((xs : List Reply) (tried : List Path) → P xs tried → Q xs tried) → EndsWith may a b Q
  ends_as p more = record {
    replies = p.replies;
    tried = p.tried;
    are = more p.replies p.tried p.are;
    may_reply = p.may_reply;
    recorded = p.recorded;
  }

  -- an end after a successful part, without a get
  pub ends_behind : {before after : List Path} {P : List Reply → Type 0} {R : List Reply → List Path → Type 0} →
      Gathers may a b before after P → ((xs : List Reply) → after ≡ with_replies before xs → P xs → R xs []) →
      EndsWith may a b R
  ends_behind p more = record {
    replies = p.replies;
    tried = [];
    are = more p.replies p.list p.are;
    may_reply = p.may_reply;
    recorded = subst (AddsToRecord a b) (sym (append-nil (asked_paths p.replies))) p.recorded;
  }

pub ends_none : {may : Path → Option (List ℕ) → Type 0} {R : List Reply → List Path → Type 0}
    (a : Option (List Path)) → R [] [] → EndsWith may a a R
ends_none a are = record { replies = []; tried = []; are = are; may_reply = tt; recorded = adds_record_none a }

module _ {may later : Path → Option (List ℕ) → Type 0} {a b c : Option (List Path)} {before middle : List Path}
    {P : List Reply → Type 0} {Q : List Reply → List Path → Type 0} where
  pub ends_then : (R : List Reply → List Path → Type 0) → StaysWithin may later → Gathers may a b before middle P →
      EndsWith later b c Q →
      ((xs ys : List Reply) (tried : List Path) → middle ≡ with_replies before xs → P xs → Q ys tried →
      R (xs ++ ys) tried) → EndsWith may a c R
  ends_then R stays p q join =
      let all : asked_paths (p.replies ++ q.replies) ++ q.tried
      ≡ asked_paths p.replies ++ (asked_paths q.replies ++ q.tried) =
      ap (λ (l : List Path). l ++ q.tried) (paths_then p.replies q.replies)
      ∙ append_assoc (asked_paths p.replies) (asked_paths q.replies) q.tried in
      record {
        replies = p.replies ++ q.replies;
        tried = q.tried;
        are = join p.replies q.replies q.tried p.list p.are q.are;
        may_reply = may_then may p.replies q.replies p.may_reply (may_stays may later q.replies stays q.may_reply);
        recorded = subst (AddsToRecord a c) (sym all)
            (adds_record_then a b c (asked_paths p.replies) (asked_paths q.replies ++ q.tried) p.recorded q.recorded);
      }

-- ---- one get

pub ask_refused : (may : Path → Option (List ℕ) → Type 0) (before : List Path) (path : Path) (a : Option (List Path)) →
    (Contains before path → ⊥) → EndsWith may a a (IsUnanswered (ComesNext before path) OutOfMemory)
ask_refused may before path a fresh = ends_none a (MemoryRefused {next = Some path} (fresh, refl, refl))

pub ask_fails : (may : Path → Option (List ℕ) → Type 0) (before : List Path) (path : Path) (a b : Option (List Path))
    (f : SourceFault) → (Contains before path → ⊥) → RecordsGet {T = Option (Vec ℕ Global)} a b path (Err f) →
    EndsWith may a b (IsUnanswered (ComesNext before path) (of_source f))
ask_fails may before path a b source.Failed fresh recorded = record {
  replies = [];
  tried = path ∷ [];
  are = GetFailed (fresh, refl, refl);
  may_reply = tt;
  recorded = recorded;
}
ask_fails may before path a b source.OutOfMemory fresh recorded = record {
  replies = [];
  tried = [];
  are = MemoryRefused {next = Some path} (fresh, refl, refl);
  may_reply = tt;
  recorded = adds_record_kept a b recorded;
}

-- ---- one path

pub next_more : {asked ps : List Path} {rs : List Reply} {next : Option Path} (more : List Path) →
    AsksNext asked ps rs next → AsksNext asked (ps ++ more) rs next
next_more more (NextNone paths) = NextNone (paths ++ more)
next_more more (NextPath path paths fresh) = NextPath path (paths ++ more) fresh
next_more more (NextFull path paths none fresh) = NextFull path (paths ++ more) none fresh

pub comes_first : (asked : List Path) (path : Path) (rs : List Reply) (next : Option Path) →
    ComesNext asked path rs next → AsksNext asked (path ∷ []) rs next
comes_first asked path rs next c =
    subst (λ (ys : List Reply). AsksNext asked (path ∷ []) ys next) (sym c.1)
    (subst (λ (n : Option Path). AsksNext asked (path ∷ []) [] n) (sym c.2) (NextPath path [] c.0))

takes_nothing : (digest : List ℕ → List ℕ) (v : View) (rs : List Reply) → rs ≡ [] → TakesReplies digest v rs 0 v
takes_nothing digest v rs e = subst (λ (ys : List Reply). TakesReplies digest v ys 0 v) (sym e) (TakesEnd v)

pub comes_in_path : (digest : List ℕ → List ℕ) (asked : List Path) (v : View) (path : Path) (rs : List Reply)
    (next : Option Path) → ComesNext asked path rs next → IsInPath digest asked v path rs v next
comes_in_path digest asked v path rs next c = (comes_first asked path rs next c, takes_nothing digest v rs c.1)

module _ (before middle : List Path) (path full : Path) (xs : List Reply) (first : Option (List ℕ))
    (list : middle ≡ with_replies before xs) (is_full : full ≡ full_of path) (none : first ≡ None)
    (p : Asks before path xs first) where
  full_next : (Contains middle full → ⊥) → AsksNext before (path ∷ []) xs (Some full)
  full_next fresh =
      subst (λ (q : Path). AsksNext before (path ∷ []) xs (Some q)) (sym is_full)
      (NextFull path [] (asks_found before path xs first None none p) (λ has.
      fresh (subst (λ (l : List Path). Contains l full) (sym list)
      (subst (λ (q : Path). Contains (with_replies before xs) q) (sym is_full) has))))

  pub comes_full : (rs : List Reply) (next : Option Path) → ComesNext middle full rs next →
      AsksNext before (path ∷ []) (xs ++ rs) next
  comes_full rs next c =
      subst (λ (zs : List Reply). AsksNext before (path ∷ []) zs next)
      (sym (ap (λ (r : List Reply). xs ++ r) c.1 ∙ append-nil xs))
      (subst (λ (n : Option Path). AsksNext before (path ∷ []) xs n) (sym c.2) (full_next c.0))

  pub comes_full_in_path : (digest : List ℕ → List ℕ) (v : View) (rs : List Reply) (next : Option Path) →
      ComesNext middle full rs next → IsInPath digest before v path (xs ++ rs) v next
  comes_full_in_path digest v rs next c = (
    comes_full rs next c,
    takes_then 0 (omega arith) (takes_not digest v before path xs first none p) (takes_nothing digest v rs c.1),
  )

  pub full_in_path : (digest : List ℕ → List ℕ) (v : View) → (Contains middle full → ⊥) →
      IsInPath digest before v path xs v (Some full)
  full_in_path digest v fresh = (full_next fresh, takes_not digest v before path xs first none p)

-- ---- the last file that was found

-- a get of a path that was not requested before found bytes
pub record IsFound (asked : List Path) (path : Path) (xs : List Reply) (bytes : List ℕ) : Type 0 where
  pub fresh : Contains asked path → ⊥
  pub replies_are : xs ≡ reply path (Some bytes) ∷ []

pub is_found : (asked : List Path) (path : Path) (xs : List Reply) (found : Option (List ℕ)) (bytes : List ℕ) →
    found ≡ Some bytes → Asks asked path xs found → IsFound asked path xs bytes
is_found asked path xs found bytes e (AsksNew f fresh) =
    record { fresh = fresh; replies_are = ap (λ (o : Option (List ℕ)). reply path o ∷ []) e }
is_found asked path xs found bytes e (AsksAgain has) = absurd (never_none bytes e)

pub item_stops :
    (digest : List ℕ → List ℕ) (At : List Reply → View → Option Path → Type 0) (v w : View) (path : Path)
    (bytes : List ℕ) (xs ys : List Reply) (e : PullFault) → ys ≡ reply path (Some bytes) ∷ [] → At xs v (Some path) →
    TakesItem digest v (item_at path bytes) (Err e) w → StopsTaking digest At e (xs ++ ys) [] w
item_stops digest At v w path bytes xs ys Collision is at t =
    subst (λ (zs : List Reply). StopsTaking digest At Collision (xs ++ zs) [] w) (sym is) (StopsClashed path bytes at t)
item_stops digest At v w path bytes xs ys OutOfMemory is at t =
    subst (λ (zs : List Reply). StopsTaking digest At OutOfMemory (xs ++ zs) [] w) (sym is)
    (StopsExhausted path bytes at t)
item_stops digest At v w path bytes xs ys NoCheckpoint is at t = absurd t
item_stops digest At v w path bytes xs ys NoEdge is at t = absurd t
item_stops digest At v w path bytes xs ys (Head f) is at t = absurd t
item_stops digest At v w path bytes xs ys Source is at t = absurd t

-- ---- one path, requested and taken

pub found_stops :
    (may : Path → Option (List ℕ) → Type 0) (a b : Option (List Path)) (before after : List Path) (path : Path)
    (found : Option (List ℕ)) (bytes taken : List ℕ) (digest : List ℕ → List ℕ) (v w : View) (e : PullFault) →
    found ≡ Some bytes → taken ≡ bytes → Gathers may a b before after (λ xs. Asks before path xs found) →
    TakesItem digest v (item_at path taken) (Err e) w →
    EndsWith may a b (λ xs tried. StopsTaking digest (IsInPath digest before v path) e xs tried w)
found_stops may a b before after path found bytes taken digest v w e is same p t =
    ends_behind p (λ xs list m.
    let f = is_found before path xs found bytes is m in
    item_stops digest (IsInPath digest before v path) v w path bytes [] xs e f.replies_are
    (NextPath path [] f.fresh, TakesEnd v)
    (subst (λ (b : List ℕ). TakesItem digest v (item_at path b) (Err e) w) same t))

pub found_follows :
    (may : Path → Option (List ℕ) → Type 0) (a b : Option (List Path)) (before after : List Path) (path : Path)
    (found : Option (List ℕ)) (bytes taken : List ℕ) (digest : List ℕ → List ℕ) (v w : View)
    (r : Result Bool PullFault) → found ≡ Some bytes → taken ≡ bytes →
    Gathers may a b before after (λ xs. Asks before path xs found) → TakesItem digest v (item_at path taken) r w →
    PathFollows may a b before after digest v path w r
found_follows may a b before after path found bytes taken digest v w (Ok refused) is same p t =
    found_worked may a b before after path found bytes is p digest v w taken refused same t
found_follows may a b before after path found bytes taken digest v w (Err e) is same p t =
    found_stops may a b before after path found bytes taken digest v w e is same p t

module _ (may later : Path → Option (List ℕ) → Type 0) (a b c : Option (List Path)) (before middle after : List Path)
    (path full : Path) (first : Option (List ℕ)) (stays : StaysWithin may later) (is_full : full ≡ full_of path)
    (none : first ≡ None) (p : Gathers may a b before middle (λ xs. Asks before path xs first)) where
  -- neither the path nor its full path gave a row: the get of the full path was not answered
  pub row_unanswered : (e : PullFault) → EndsWith later b c (IsUnanswered (ComesNext middle full) e) →
      EndsWith may a c (IsUnanswered (AsksNext before (path ∷ [])) e)
  row_unanswered e q =
      ends_then {P = λ xs. Asks before path xs first} (IsUnanswered (AsksNext before (path ∷ [])) e) stays p q
      (λ xs ys tried list m u. unanswered_then xs (comes_full before middle path full xs first list is_full none m) u)

  pub full_unanswered : (digest : List ℕ → List ℕ) (v : View) (e : PullFault) →
      EndsWith later b c (IsUnanswered (ComesNext middle full) e) →
      EndsWith may a c (λ xs tried. StopsTaking digest (IsInPath digest before v path) e xs tried v)
  full_unanswered digest v e q =
      ends_then {P = λ xs. Asks before path xs first}
      (λ xs tried. StopsTaking digest (IsInPath digest before v path) e xs tried v) stays p q
      (λ xs ys tried list m u. StopsAsking
      (unanswered_then xs (comes_full_in_path before middle path full xs first list is_full none m digest v) u))

  pub full_stops : (second : Option (List ℕ)) (bytes taken : List ℕ) (digest : List ℕ → List ℕ) (v w : View)
      (e : PullFault) → second ≡ Some bytes → taken ≡ bytes →
      Gathers later b c middle after (λ xs. Asks middle full xs second) →
      TakesItem digest v (item_at full taken) (Err e) w →
      EndsWith may a c (λ xs tried. StopsTaking digest (IsInPath digest before v path) e xs tried w)
  full_stops second bytes taken digest v w e is same q t =
      ends_then {P = λ xs. Asks before path xs first}
      {Q = λ ys tried. Asks middle full ys second × (tried ≡ [])}
      (λ xs tried. StopsTaking digest (IsInPath digest before v path) e xs tried w) stays p
      (ends_behind {P = λ ys. Asks middle full ys second} {R = λ ys tried. Asks middle full ys second × (tried ≡ [])} q
      (λ ys grown n. (n, refl))) (λ xs ys tried list m n.
      let f = is_found middle full ys second bytes is n.0 in
      subst (λ (l : List Path). StopsTaking digest (IsInPath digest before v path) e (xs ++ ys) l w) (sym n.1)
      (item_stops digest (IsInPath digest before v path) v w full bytes xs ys e f.replies_are
      (full_in_path before middle path full xs first list is_full none m digest v f.fresh)
      (subst (λ (b : List ℕ). TakesItem digest v (item_at full b) (Err e) w) same t)))

  pub full_follows : (second : Option (List ℕ)) (bytes taken : List ℕ) (digest : List ℕ → List ℕ) (v w : View)
      (r : Result Bool PullFault) → second ≡ Some bytes → taken ≡ bytes →
      Gathers later b c middle after (λ xs. Asks middle full xs second) →
      TakesItem digest v (item_at full taken) r w → PathFollows may a c before after digest v path w r
  full_follows second bytes taken digest v w (Ok refused) is same q t =
      full_worked may later a b c before middle after path full first second stays is_full none p q digest v w bytes
      taken refused is same t
  full_follows second bytes taken digest v w (Err e) is same q t =
      full_stops second bytes taken digest v w e is same q t

-- ---- the right edge

pub in_rows_none : (asked ps : List Path) → IsInRows asked ps [] None
in_rows_none asked ps = record {
  before = [];
  after = ps;
  paths_are = refl;
  first = [];
  second = [];
  rows = [];
  given = RowsNone;
  asks = NextNone ps;
  replies_are = refl;
}

module _ (asked qs ps : List Path) (i : ℕ) (mid : List Path) (xs ys : List Reply) (rows : List (List ℕ))
    (same : qs ≡ ps) (lt : i < length qs) (list : mid ≡ with_replies asked xs)
    (p : GivesRows asked (take i ps) xs rows) where
  less : i < length ps
  less = omega (arith, lt, ap length same)

  pub in_rows : (next : Option Path) → AsksNext mid (get_or qs i Checkpoint ∷ []) ys next →
      IsInRows asked ps (xs ++ ys) next
  in_rows next q = record {
    before = take i ps;
    after = get_or ps i Checkpoint ∷ drop (suc i) ps;
    paths_are = split_at ps i Checkpoint less;
    first = xs;
    second = ys;
    rows = rows;
    given = p;
    asks = subst (λ (l : List Path). AsksNext l (get_or ps i Checkpoint ∷ drop (suc i) ps) ys next) list
        (subst (λ (l : List Path). AsksNext mid (get_or l i Checkpoint ∷ drop (suc i) ps) ys next) same
        (next_more (drop (suc i) ps) q));
    replies_are = refl;
  }

  pub in_rows_after : (row : List ℕ) → GivesRow mid (get_or qs i Checkpoint) ys row → IsInRows asked ps (xs ++ ys) None
  in_rows_after row q =
      let path = get_or ps i Checkpoint in
      let rest = drop (suc i) ps in
      record {
        before = take i ps ++ path ∷ [];
        after = rest;
        paths_are = split_at ps i Checkpoint less ∙ sym (append_assoc (take i ps) (path ∷ []) rest);
        first = xs ++ ys;
        second = [];
        rows = rows ++ row ∷ [];
        given = RowsNext path row p
            (subst (λ (l : List Path). GivesRow l path ys row) list
            (subst (λ (l : List Path). GivesRow mid (get_or l i Checkpoint) ys row) same q));
        asks = NextNone rest;
        replies_are = sym (append-nil (xs ++ ys));
      }

-- ---- rounds

pub in_round :
    (digest : List ℕ → List ℕ) (asked mid ps : List Path) (i : ℕ) (v x w : View) (n : ℕ) (xs ys : List Reply)
    (next : Option Path) → i < length ps → mid ≡ with_replies asked xs →
    IsWorkedList digest asked v (take i ps) n x xs → IsInPath digest mid x (get_or ps i Checkpoint) ys w next →
    IsInRound digest asked ps v (xs ++ ys) w next
in_round digest asked mid ps i v x w n xs ys next lt list p q = record {
  before = take i ps;
  after = get_or ps i Checkpoint ∷ drop (suc i) ps;
  paths_are = split_at ps i Checkpoint lt;
  first = xs;
  second = ys;
  refused = p.many + 0;
  asked_first = p.asks;
  asks = subst (λ (l : List Path). AsksNext l (get_or ps i Checkpoint ∷ drop (suc i) ps) ys next) list
      (next_more (drop (suc i) ps) q.0);
  replies_are = refl;
  takes = takes_then (p.many + 0) refl p.takes q.1;
}

pub rounds_over :
    (digest : List ℕ → List ℕ) (size : ℕ) (root : List ℕ) (asked : List Path) (v w : View) (rounds n : ℕ)
    (xs : List Reply) → rounds < 8 → AreRoundsSoFar digest size root asked v rounds n w xs →
    StopsTaking digest (IsInRounds digest size root asked v) OutOfMemory xs [] w
rounds_over digest size root asked v w rounds n xs lt p =
    StopsAsking (MemoryRefused {next = None} (RoundsOver (omega (arith, lt)) p.rounds_are))

pub round_under :
    (digest : List ℕ → List ℕ) (size : ℕ) (root : List ℕ) (asked mid paths list : List Path) (v x w : View)
    (rounds n : ℕ) (xs ys : List Reply) (next : Option Path) → rounds < 8 → mid ≡ with_replies asked xs →
    list ≡ paths → AreRoundsSoFar digest size root asked v rounds n x xs → IsLeftToAsk digest size root mid x paths →
    IsInRound digest mid list x ys w next → IsInRounds digest size root asked v (xs ++ ys) w next
round_under digest size root asked mid paths list v x w rounds n xs ys next lt grown listed p left q =
    RoundUnder paths (omega (arith, lt)) p.rounds_are
    (subst (λ (l : List Path). IsLeftToAsk digest size root l x paths) grown left)
    (subst (λ (l : List Path). IsInRound digest l paths x ys w next) grown
    (subst (λ (l : List Path). IsInRound digest mid l x ys w next) listed q))
