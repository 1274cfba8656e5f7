-- Each part of a pull follows from the replies, part after part.
use Rattle.std.proofs.Common.{◌≡◌, ℕ, suc, ◌+◌, ◌-◌, ◌*◌, ◌^◌, ◌<◌, ◌≤◌, min, List, [], ◌∷◌, ◌++◌, length}
use Rattle.std.proofs.Common.{map, get_or, take, drop, arith, Option, Some, None, Bool, true, false, Contains, refl, sym, ◌∙◌}
use Rattle.std.proofs.Common.{ap, subst, inl, inr, Ok, Err}
use Rattle.std.proofs.lemmas.List.{append-nil, map-append, take_all}
use Rattle.std.proofs.Math.Seq.{split_at}
use Rattle.tlog_tiles.specs.declared.paths.Path.{Path}
use Rattle.tlog_tiles.specs.declared.paths.Path.TheVariants.{Checkpoint}
use Rattle.mirror_model.specs.View.{View}
use Rattle.mirror_model.specs.Item.{plus}
use Rattle.mirror_sources.specs.Files.{full_of, width_named}
use Rattle.mirror_sources.specs.Source.{StaysWithin}
use Rattle.mirror_sources.specs.Replies.{Reply, reply, asked_paths}
use Rattle.mirror_sources.specs.Recorded.{AddsToRecord}
use Rattle.mirror_pull.specs.Taking.{TakesItem, EndsAfterHead, item_at}
use Rattle.mirror_pull.specs.Replying.{Asks, AsksNew, AsksAgain, AsksPath, PathFound, PathNone, AsksList, ListNone}
use Rattle.mirror_pull.specs.Replying.{ListNext, GivesRow, RowFound, RowCut, GivesRows, RowsNext, GivesNoRow}
use Rattle.mirror_pull.specs.Replying.{GivesNoRows, AreUnasked, UnaskedNone, UnaskedOut, UnaskedIn, TakesReplies, TakesEnd}
use Rattle.mirror_pull.specs.Replying.{TakesNone, TakesGood, TakesBad, IsLeftToAsk, ArePullRounds, RoundsNone, RoundsNext}
use Rattle.mirror_pull.specs.Replying.{Gathers, IsWorkedPath, IsWorkedList, AreWorkedRounds, with_replies, one_if}
use Rattle.mirror_pull.specs.declared.fault.PullFault.{PullFault}
use Rattle.mirror_pull.specs.declared.fault.PullFault.TheVariants.{NoEdge}
use Rattle.mirror_pull.specs.declared.fault.PullFault.TheVariants.{OutOfMemory}
use Rattle.mirror_pull.proofs.Askings.{adds_record_none, adds_record_then, paths_then, with_then, may_then, may_stays}
use Rattle.mirror_pull.proofs.Freshness.{take_one}

-- ---- parts, in order

pub gathers_none : (may : Path → Option (List ℕ) → Type 0) (a : Option (List Path)) (before : List Path)
    (Are : List Reply → Type 0) → Are [] → Gathers may a a before before Are
gathers_none may a before Are are =
    record { replies = []; are = are; may_reply = tt; list = sym (append-nil before); recorded = adds_record_none a }

module _ {may : Path → Option (List ℕ) → Type 0} {a b : Option (List Path)} {before after : List Path}
    {P Q : List Reply → Type 0} where
  pub gathers_as : Gathers may a b before after P →
      ((xs : List Reply) → after ≡ with_replies before xs → P xs → Q xs) → Gathers may a b before after Q
  gathers_as p more = record {
    replies = p.replies;
    are = more p.replies p.list p.are;
    may_reply = p.may_reply;
    list = p.list;
    recorded = p.recorded;
  }

module _ {may later : Path → Option (List ℕ) → Type 0} {a b c : Option (List Path)} {before middle after : List Path}
    {P Q : List Reply → Type 0} where
  pub gathers_then : (R : List Reply → Type 0) → StaysWithin may later → Gathers may a b before middle P →
      Gathers later b c middle after Q →
      ((xs ys : List Reply) → middle ≡ with_replies before xs → after ≡ with_replies before (xs ++ ys) → P xs → Q ys →
      R (xs ++ ys)) →
      Gathers may a c before after R
  gathers_then R stays p q join =
      let list : after ≡ with_replies before (p.replies ++ q.replies) =
      q.list ∙ (ap (λ (l : List Path). l ++ asked_paths q.replies) p.list ∙ sym (with_then before p.replies q.replies)) in
      record {
        replies = p.replies ++ q.replies;
        are = join p.replies q.replies p.list list p.are q.are;
        may_reply = may_then may p.replies q.replies p.may_reply (may_stays may later q.replies stays q.may_reply);
        list = list;
        recorded = subst (AddsToRecord a c) (sym (paths_then p.replies q.replies))
            (adds_record_then a b c (asked_paths p.replies) (asked_paths q.replies) p.recorded q.recorded);
      }

-- ---- one path

pub asks_found : (asked : List Path) (path : Path) (xs : List Reply) (found other : Option (List ℕ)) → found ≡ other →
    Asks asked path xs found → Asks asked path xs other
asks_found asked path xs found other e p = subst (λ (f : Option (List ℕ)). Asks asked path xs f) e p

-- the second get for a path is that of its full path
pub asks_full : (before middle : List Path) (path full : Path) (xs ys : List Reply) (found other : Option (List ℕ)) →
    middle ≡ with_replies before xs → full ≡ full_of path → found ≡ other → Asks middle full ys found →
    Asks (with_replies before xs) (full_of path) ys other
asks_full before middle path full xs ys found other list is e p =
    subst (λ (l : List Path). Asks l (full_of path) ys other) list
    (subst (λ (q : Path). Asks middle q ys other) is (asks_found middle full ys found other e p))

pub some_same : (a b : List ℕ) → Some a ≡ Some b → a ≡ b
some_same a b e = cc e

pub never_none : (b : List ℕ) → None ≡ Some b → ⊥
never_none b e = cc e

-- the full tile was not found, or has another length
pub no_row :
    (before middle : List Path) (path full : Path) (xs ys : List Reply) (found : Option (List ℕ)) →
    middle ≡ with_replies before xs → full ≡ full_of path →
    ((b : List ℕ) → found ≡ Some b → length b ≡ 8192 → ⊥) → Asks before path xs None → Asks middle full ys found →
    GivesNoRow before path (xs ++ ys)
no_row before middle path full xs ys found list is other p q = record {
  first = xs;
  second = ys;
  found = found;
  none = p;
  full = asks_full before middle path full xs ys found found list is refl q;
  no_tile = λ b e long. other b e long;
  replies_are = refl;
}

pub not_edge : (e : PullFault) → EndsAfterHead {T = Bool} (Err e) → e ≡ NoEdge → ⊥
not_edge e late is = subst (λ (f : PullFault). EndsAfterHead {T = Bool} (Err f)) is late

pub memory_no_edge : OutOfMemory ≡ NoEdge → ⊥
memory_no_edge e = cc e

-- ---- taken items

takes_one : (digest : List ℕ → List ℕ) (v w : View) (path : Path) (bytes : List ℕ) (refused : Bool) →
    TakesItem digest v (item_at path bytes) (Ok refused) w →
    TakesReplies digest v (reply path (Some bytes) ∷ []) (one_if refused) w
takes_one digest v w path bytes true t =
    subst (λ (x : View). TakesReplies digest v (reply path (Some bytes) ∷ []) 1 x) (sym t.1)
    (TakesBad path bytes t.0 (TakesEnd v))
takes_one digest v w path bytes false t =
    subst (λ (x : View). TakesReplies digest v (reply path (Some bytes) ∷ []) 0 x) (sym t.2)
    (TakesGood path bytes t.0 (TakesEnd (plus digest v (item_at path bytes))))

-- the reply to a get was taken or refused
pub takes_asked :
    (digest : List ℕ → List ℕ) (v w : View) (asked : List Path) (path : Path) (xs : List Reply)
    (found : Option (List ℕ)) (bytes taken : List ℕ) (refused : Bool) → found ≡ Some bytes → taken ≡ bytes →
    Asks asked path xs found → TakesItem digest v (item_at path taken) (Ok refused) w →
    TakesReplies digest v xs (one_if refused) w
takes_asked digest v w asked path xs found bytes taken refused e same (AsksNew f fresh) t =
    subst (λ (o : Option (List ℕ)). TakesReplies digest v (reply path o ∷ []) (one_if refused) w) (sym e)
    (takes_one digest v w path bytes refused
    (subst (λ (b : List ℕ). TakesItem digest v (item_at path b) (Ok refused) w) same t))
takes_asked digest v w asked path xs found bytes taken refused e same (AsksAgain has) t = absurd (never_none bytes e)

-- nothing was found at the path
pub takes_not : (digest : List ℕ → List ℕ) (v : View) (asked : List Path) (path : Path) (xs : List Reply)
    (found : Option (List ℕ)) → found ≡ None → Asks asked path xs found → TakesReplies digest v xs 0 v
takes_not digest v asked path xs found e (AsksNew f fresh) =
    subst (λ (o : Option (List ℕ)). TakesReplies digest v (reply path o ∷ []) 0 v) (sym e) (TakesNone path (TakesEnd v))
takes_not digest v asked path xs found e (AsksAgain has) = TakesEnd v

pub takes_then :
    {digest : List ℕ → List ℕ} {v x w : View} {xs ys : List Reply} {n m : ℕ} (k : ℕ) → k ≡ n + m →
    TakesReplies digest v xs n x → TakesReplies digest x ys m w → TakesReplies digest v (xs ++ ys) k w
takes_then {digest} {v} {x} {w} {xs} {ys} {n} {m} k e (TakesEnd u) q =
    let same : m ≡ k = omega (arith, e) in
    subst (λ (z : ℕ). TakesReplies digest v ys z w) same q
takes_then k e (TakesNone path p) q = TakesNone path (takes_then k e p q)
takes_then k e (TakesGood path bytes good p) q = TakesGood path bytes good (takes_then k e p q)
takes_then {digest} {v} {x} {w} {xs} {ys} {n} {m} k e (TakesBad {replies = rs} {refused = r} path bytes bad p) q =
    let same : suc (r + m) ≡ k = omega (arith, e) in
    subst (λ (z : ℕ). TakesReplies digest v (reply path (Some bytes) ∷ rs ++ ys) z w) same
    (TakesBad path bytes bad (takes_then (r + m) refl p q))

-- ---- one path, requested and taken

module _ (may later : Path → Option (List ℕ) → Type 0) (a b c : Option (List Path)) (before middle after : List Path)
    (path full : Path) (first second : Option (List ℕ)) (stays : StaysWithin may later) (is_full : full ≡ full_of path)
    (none : first ≡ None) (p : Gathers may a b before middle (λ xs. Asks before path xs first))
    (q : Gathers later b c middle after (λ xs. Asks middle full xs second)) where
  -- the path was not found, and its row is the start of the full tile
  pub row_cut : (bytes row : List ℕ) → second ≡ Some bytes → length bytes ≡ 8192 →
      row ≡ take (32 * width_named path) bytes → Gathers may a c before after (λ xs. GivesRow before path xs row)
  row_cut bytes row is long cut =
      gathers_then {P = λ xs. Asks before path xs first} {Q = λ xs. Asks middle full xs second}
      (λ xs. GivesRow before path xs row) stays p q
      (λ xs ys grown list m n. subst (λ (r : List ℕ). GivesRow before path (xs ++ ys) r) (sym cut)
      (RowCut bytes (asks_found before path xs first None none m)
      (asks_full before middle path full xs ys second (Some bytes) grown is_full is n) long))

  pub row_none : ((bytes : List ℕ) → second ≡ Some bytes → length bytes ≡ 8192 → ⊥) →
      Gathers may a c before after (λ xs. GivesNoRow before path xs)
  row_none other =
      gathers_then {P = λ xs. Asks before path xs first} {Q = λ xs. Asks middle full xs second}
      (λ xs. GivesNoRow before path xs) stays p q
      (λ xs ys grown list m n.
      no_row before middle path full xs ys second grown is_full other (asks_found before path xs first None none m) n)

  -- a path of a round was not found, and its full path was found or not
  pub full_worked :
      (digest : List ℕ → List ℕ) (v w : View) (bytes taken : List ℕ) (refused : Bool) → second ≡ Some bytes →
      taken ≡ bytes → TakesItem digest v (item_at full taken) (Ok refused) w →
      Gathers may a c before after (λ xs. IsWorkedPath digest before v path refused w xs)
  full_worked digest v w bytes taken refused is same t =
      gathers_then {P = λ xs. Asks before path xs first} {Q = λ xs. Asks middle full xs second}
      (λ xs. IsWorkedPath digest before v path refused w xs) stays p q (λ xs ys grown list m n. record {
        asks = PathNone (asks_found before path xs first None none m)
            (asks_full before middle path full xs ys second (Some bytes) grown is_full is n);
        takes = takes_then (one_if refused) (omega arith) (takes_not digest v before path xs first none m)
            (takes_asked digest v w middle full ys second bytes taken refused is same n t);
      })

  pub none_worked : (digest : List ℕ → List ℕ) (v : View) → second ≡ None →
      Gathers may a c before after (λ xs. IsWorkedPath digest before v path false v xs)
  none_worked digest v is =
      gathers_then {P = λ xs. Asks before path xs first} {Q = λ xs. Asks middle full xs second}
      (λ xs. IsWorkedPath digest before v path false v xs) stays p q (λ xs ys grown list m n. record {
        asks = PathNone (asks_found before path xs first None none m)
            (asks_full before middle path full xs ys second None grown is_full is n);
        takes = takes_then 0 (omega arith) (takes_not digest v before path xs first none m)
            (takes_not digest v middle full ys second is n);
      })

module _ (may : Path → Option (List ℕ) → Type 0) (a b : Option (List Path)) (before after : List Path) (path : Path)
    (found : Option (List ℕ)) (bytes : List ℕ) (is : found ≡ Some bytes)
    (p : Gathers may a b before after (λ xs. Asks before path xs found)) where
  pub row_found : Gathers may a b before after (λ xs. GivesRow before path xs bytes)
  row_found =
      gathers_as {P = λ xs. Asks before path xs found} {Q = λ xs. GivesRow before path xs bytes} p
      (λ xs list m. RowFound (asks_found before path xs found (Some bytes) is m))

  pub found_worked :
      (digest : List ℕ → List ℕ) (v w : View) (taken : List ℕ) (refused : Bool) → taken ≡ bytes →
      TakesItem digest v (item_at path taken) (Ok refused) w →
      Gathers may a b before after (λ xs. IsWorkedPath digest before v path refused w xs)
  found_worked digest v w taken refused same t =
      gathers_as {P = λ xs. Asks before path xs found} {Q = λ xs. IsWorkedPath digest before v path refused w xs} p
      (λ xs list m. record {
        asks = PathFound (asks_found before path xs found (Some bytes) is m);
        takes = takes_asked digest v w before path xs found bytes taken refused is same m t;
      })

-- ---- the paths that are left

pub unasked_then : {asked ps ls qs ms : List Path} → AreUnasked asked ps ls → AreUnasked asked qs ms →
    AreUnasked asked (ps ++ qs) (ls ++ ms)
unasked_then UnaskedNone q = q
unasked_then (UnaskedOut path has p) q = UnaskedOut path has (unasked_then p q)
unasked_then (UnaskedIn path new p) q = UnaskedIn path new (unasked_then p q)

pub unasked_in :
    (asked paths : List Path) (i : ℕ) (left more : List Path) → i < length paths →
    more ≡ left ++ get_or paths i Checkpoint ∷ [] → AreUnasked asked (take i paths) left →
    (Contains asked (get_or paths i Checkpoint) → ⊥) → AreUnasked asked (take (i + 1) paths) more
unasked_in asked paths i left more lt grown p new =
    subst (λ (l : List Path). AreUnasked asked l more) (sym (take_one paths i lt))
    (subst (λ (l : List Path). AreUnasked asked (take i paths ++ get_or paths i Checkpoint ∷ []) l) (sym grown)
    (unasked_then p (UnaskedIn (get_or paths i Checkpoint) new UnaskedNone)))

pub unasked_out :
    (asked paths : List Path) (i : ℕ) (left same : List Path) → i < length paths → same ≡ left →
    AreUnasked asked (take i paths) left → Contains asked (get_or paths i Checkpoint) →
    AreUnasked asked (take (i + 1) paths) same
unasked_out asked paths i left same lt is p has =
    subst (λ (l : List Path). AreUnasked asked l same) (sym (take_one paths i lt))
    (subst (λ (l : List Path). AreUnasked asked (take i paths ++ get_or paths i Checkpoint ∷ []) l)
    (append-nil left ∙ sym is) (unasked_then p (UnaskedOut (get_or paths i Checkpoint) has UnaskedNone)))

at_later : (x : Path) (xs : List Path) (y : Path) → Contains xs y → Contains (x ∷ xs) y
at_later x xs y c = (suc c.0, omega (arith, c.1), c.2)

-- if no path of a list was requested, all of it is left
pub unasked_all : (asked paths left : List Path) → AreUnasked asked paths left →
    ((path : Path) → Contains paths path → Contains asked path → ⊥) → left ≡ paths
unasked_all asked paths left UnaskedNone none = refl
unasked_all asked paths left (UnaskedOut path {paths = ps} {left = ls} has p) none =
    absurd (none path (0, omega arith, refl) has)
unasked_all asked paths left (UnaskedIn path {paths = ps} {left = ls} new p) none =
    ap (λ (l : List Path). path ∷ l) (unasked_all asked ps ls p (λ q c. none q (at_later path ps q c)))

-- ---- the right edge

rows_step :
    (asked : List Path) (qs ps : List Path) (i : ℕ) (mid : List Path) (xs ys : List Reply) (rows : List (List ℕ))
    (row : List ℕ) → qs ≡ ps → i < length qs → mid ≡ with_replies asked xs →
    GivesRows asked (take i ps) xs rows → GivesRow mid (get_or qs i Checkpoint) ys row →
    GivesRows asked (take (i + 1) ps) (xs ++ ys) (rows ++ row ∷ [])
rows_step asked qs ps i mid xs ys rows row same lt list p q =
    let less : i < length ps = omega (arith, lt, ap length same) in
    subst (λ (l : List Path). GivesRows asked l (xs ++ ys) (rows ++ row ∷ [])) (sym (take_one ps i less))
    (RowsNext (get_or ps i Checkpoint) row p
    (subst (λ (l : List Path). GivesRow l (get_or ps i Checkpoint) ys row) list
    (subst (λ (l : List Path). GivesRow mid (get_or l i Checkpoint) ys row) same q)))

pub edge_step :
    {A : Type 0} (f : A → List ℕ) (asked : List Path) (qs ps : List Path) (i : ℕ) (mid : List Path) (xs ys : List Reply)
    (rows more : List A) (row : A) → more ≡ rows ++ row ∷ [] → qs ≡ ps → i < length qs → mid ≡ with_replies asked xs →
    GivesRows asked (take i ps) xs (map f rows) → GivesRow mid (get_or qs i Checkpoint) ys (f row) →
    GivesRows asked (take (i + 1) ps) (xs ++ ys) (map f more)
edge_step f asked qs ps i mid xs ys rows more row grown same lt list p q =
    subst (λ (l : List (List ℕ)). GivesRows asked (take (i + 1) ps) (xs ++ ys) l)
    (sym (ap (map f) grown ∙ map-append f rows (row ∷ [])))
    (rows_step asked qs ps i mid xs ys (map f rows) (f row) same lt list p q)

pub no_rows :
    (asked : List Path) (qs ps : List Path) (i : ℕ) (mid : List Path) (xs ys : List Reply) (rows : List (List ℕ)) →
    qs ≡ ps → i < length qs → mid ≡ with_replies asked xs → GivesRows asked (take i ps) xs rows →
    GivesNoRow mid (get_or qs i Checkpoint) ys → GivesNoRows asked ps (xs ++ ys)
no_rows asked qs ps i mid xs ys rows same lt list p q =
    let less : i < length ps = omega (arith, lt, ap length same) in
    record {
      before = take i ps;
      path = get_or ps i Checkpoint;
      after = drop (suc i) ps;
      paths_are = split_at ps i Checkpoint less;
      first = xs;
      second = ys;
      rows = rows;
      given = p;
      not_given = subst (λ (l : List Path). GivesNoRow l (get_or ps i Checkpoint) ys) list
          (subst (λ (l : List Path). GivesNoRow mid (get_or l i Checkpoint) ys) same q);
      replies_are = refl;
    }

-- ---- a round

pub list_none : (digest : List ℕ → List ℕ) (asked : List Path) (v : View) → IsWorkedList digest asked v [] 0 v []
list_none digest asked v = record { many = 0; refused_is = omega arith; asks = ListNone; takes = TakesEnd v }

pub list_step :
    (digest : List ℕ → List ℕ) (asked mid ps : List Path) (i : ℕ) (v x w : View) (n m : ℕ) (refused : Bool)
    (xs ys : List Reply) → i < length ps → m ≡ min (n + one_if refused) (2 ^ 64 - 1) → mid ≡ with_replies asked xs →
    IsWorkedList digest asked v (take i ps) n x xs →
    IsWorkedPath digest mid x (get_or ps i Checkpoint) refused w ys →
    IsWorkedList digest asked v (take (i + 1) ps) m w (xs ++ ys)
list_step digest asked mid ps i v x w n m refused xs ys lt is list p q = record {
  many = p.many + one_if refused;
  refused_is = omega (arith, is, p.refused_is);
  asks = subst (λ (l : List Path). AsksList asked l (xs ++ ys)) (sym (take_one ps i lt))
      (ListNext (get_or ps i Checkpoint) p.asks
      (subst (λ (l : List Path). AsksPath l (get_or ps i Checkpoint) ys) list q.asks));
  takes = takes_then (p.many + one_if refused) refl p.takes q.takes;
}

pub list_whole : (digest : List ℕ → List ℕ) (asked ps : List Path) (i : ℕ) (v w : View) (n : ℕ) (xs : List Reply) →
    length ps ≤ i → IsWorkedList digest asked v (take i ps) n w xs → IsWorkedList digest asked v ps n w xs
list_whole digest asked ps i v w n xs le p =
    subst (λ (l : List Path). IsWorkedList digest asked v l n w xs) (take_all i ps le) p

-- ---- rounds

-- the rounds up to here
pub record AreRoundsSoFar (digest : List ℕ → List ℕ) (size : ℕ) (root : List ℕ) (asked : List Path) (v : View)
    (rounds refused : ℕ) (w : View) (replies : List Reply) : Type 0 where
  pub many : ℕ
  pub refused_is : refused ≡ min many (2 ^ 64 - 1)
  pub rounds_are : ArePullRounds digest size root asked v replies rounds many w

pub rounds_none : (digest : List ℕ → List ℕ) (size : ℕ) (root : List ℕ) (asked : List Path) (v : View) →
    AreRoundsSoFar digest size root asked v 0 0 v []
rounds_none digest size root asked v = record { many = 0; refused_is = omega arith; rounds_are = RoundsNone }

pub rounds_step :
    (digest : List ℕ → List ℕ) (size : ℕ) (root : List ℕ) (asked mid seen paths list : List Path) (v x w : View)
    (rounds n more m : ℕ) (xs ys : List Reply) → m ≡ min (n + more) (2 ^ 64 - 1) → mid ≡ with_replies asked xs →
    seen ≡ mid → list ≡ paths → 1 ≤ length paths →
    AreRoundsSoFar digest size root asked v rounds n x xs → IsLeftToAsk digest size root seen x paths →
    IsWorkedList digest mid x list more w ys →
    AreRoundsSoFar digest size root asked v (rounds + 1) m w (xs ++ ys)
rounds_step digest size root asked mid seen paths list v x w rounds n more m xs ys is grown same listed some p left q =
    let one : suc rounds ≡ rounds + 1 = omega arith in
    let at : seen ≡ with_replies asked xs = same ∙ grown in
    record {
      many = p.many + q.many;
      refused_is = omega (arith, is, p.refused_is, q.refused_is);
      rounds_are = subst
          (λ (k : ℕ). ArePullRounds digest size root asked v (xs ++ ys) k (p.many + q.many) w) one
          (RoundsNext p.rounds_are
          (record {
            list = paths;
            left = subst (λ (l : List Path). IsLeftToAsk digest size root l x paths) at left;
            some = some;
            asks = subst (λ (l : List Path). AsksList l paths ys) grown
                (subst (λ (l : List Path). AsksList mid l ys) listed q.asks);
            takes = q.takes;
          }));
    }

no_paths : (paths : List Path) → length paths ≡ 0 → paths ≡ []
no_paths [] e = refl
no_paths (p ∷ ps) e = absurd (omega (arith, e))

-- the rounds after which nothing is left
pub rounds_ended :
    (digest : List ℕ → List ℕ) (size : ℕ) (root : List ℕ) (asked mid seen paths : List Path) (v w : View)
    (rounds n : ℕ) (xs : List Reply) → mid ≡ with_replies asked xs → seen ≡ mid → length paths ≡ 0 →
    AreRoundsSoFar digest size root asked v rounds n w xs → IsLeftToAsk digest size root seen w paths →
    AreWorkedRounds digest size root asked v rounds n w xs
rounds_ended digest size root asked mid seen paths v w rounds n xs grown same none p left = record {
  many = p.many;
  refused_is = p.refused_is;
  rounds_are = p.rounds_are;
  ended = inr (subst (λ (l : List Path). IsLeftToAsk digest size root (with_replies asked xs) w l) (no_paths paths none)
      (subst (λ (l : List Path). IsLeftToAsk digest size root l w paths) (same ∙ grown) left));
}

pub rounds_eight :
    (digest : List ℕ → List ℕ) (size : ℕ) (root : List ℕ) (asked : List Path) (v w : View) (rounds eight n : ℕ)
    (xs : List Reply) → rounds ≡ eight → eight ≡ 8 → AreRoundsSoFar digest size root asked v rounds n w xs →
    AreWorkedRounds digest size root asked v eight n w xs
rounds_eight digest size root asked v w rounds eight n xs same is p = record {
  many = p.many;
  refused_is = p.refused_is;
  rounds_are = subst (λ (k : ℕ). ArePullRounds digest size root asked v xs k p.many w) same p.rounds_are;
  ended = inl is;
}
