-- The replies of an honest source: true rows and true items, which are all taken.
use Rattle.std.proofs.Common.{◌≡◌, ℕ, suc, ◌+◌, ◌<◌, List, [], ◌∷◌, ◌++◌, length, map, take, arith}
use Rattle.std.proofs.Common.{Contains, Option, Some, None, refl, sym, ◌∙◌, ap, subst}
use Rattle.std.proofs.lemmas.List.{append-nil, length-append, map-append, get_or_append_left}
use Rattle.std.proofs.Math.Seq.{take-append_seam, get_or-append_seam}
use Rattle.tlog_tiles.specs.declared.paths.Path.{Path}
use Rattle.tlog_tiles.specs.declared.paths.Path.TheVariants.{Checkpoint}
use Rattle.mirror_model.specs.View.{View, IsSubview}
use Rattle.mirror_model.specs.Item.{IsGood, plus}
use Rattle.mirror_sources.specs.Files.{full_of}
use Rattle.mirror_sources.specs.Replies.{Reply, reply, MayReply}
use Rattle.mirror_sources.specs.Honest.{GetsNone, IsGone, true_bytes}
use Rattle.mirror_pull.specs.Asking.{IsFresh, AreFresh}
use Rattle.mirror_pull.specs.Taking.{item_at}
use Rattle.mirror_pull.specs.Honest.{true_item, with_true}
use Rattle.mirror_pull.specs.Parts.{GetsAll, IsTilePath, IsTrueSource, IsTrueRow, AreTrueRows, TakesTrue, MayTake, MayWork}
use Rattle.mirror_pull.specs.Replying.{Asks, AsksNew, AsksAgain, AsksPath, PathFound, PathNone, AsksList, ListNone}
use Rattle.mirror_pull.specs.Replying.{ListNext, GivesRow, RowFound, RowCut, GivesRows, RowsNone, RowsNext}
use Rattle.mirror_pull.specs.Replying.{TakesReplies, TakesEnd, TakesNone, TakesGood, TakesBad, ArePullRounds, RoundsNone}
use Rattle.mirror_pull.specs.Replying.{RoundsNext, AsksNext, NextNone, NextPath, NextFull, with_replies}
use Rattle.mirror_pull.proofs.Askings.{with_then}
use Rattle.mirror_pull.proofs.Freshness.{fresh_unasked, gone_partial, fresh_next, adds_of_gets, gets_all_then}
use Rattle.mirror_pull.proofs.Gains.{stays_itself}
use Rattle.mirror_pull.proofs.FrontRounds.{true_grows}
use Rattle.mirror_pull.proofs.Replies.{never_none}
use Rattle.mirror_pull.proofs.TrueRows.{full_fresh, gets_found, gets_full, is_gone, full_answers, row_found, row_full}
use Rattle.mirror_pull.proofs.TrueRows.{rows_none, tile_within}
use Rattle.mirror_pull.proofs.TrueTakes.{path_fresh, path_within, path_gone, round_next, taken_then, true_good}
use Rattle.mirror_pull.proofs.TrueWork.{IsWorking, wanted_front, round_may, work_none, work_step}

-- ---- one get

pub new_asks : (asked : List Path) (path : Path) (xs : List Reply) (found : Option (List ℕ)) →
    (Contains asked path → ⊥) → Asks asked path xs found → xs ≡ reply path found ∷ []
new_asks asked path xs found fresh (AsksNew f new) = refl
new_asks asked path xs found fresh (AsksAgain has) = absurd (fresh has)

pub may_split : (may : Path → Option (List ℕ) → Type 0) (xs ys : List Reply) → MayReply may (xs ++ ys) →
    MayReply may xs × MayReply may ys
may_split may [] ys m = (tt, m)
may_split may (x ∷ xs) ys m = let rest = may_split may xs ys m.1 in ((m.0, rest.0), rest.1)

may_one : (may : Path → Option (List ℕ) → Type 0) (path : Path) (found : Option (List ℕ)) (xs : List Reply) →
    xs ≡ reply path found ∷ [] → MayReply may xs → may path found
may_one may path found xs e m = let n = subst (λ (rs : List Reply). MayReply may rs) e m in n.0

grown : (before : List Path) (path : Path) (found : Option (List ℕ)) (xs : List Reply) → xs ≡ reply path found ∷ [] →
    with_replies before xs ≡ before ++ path ∷ []
grown before path found xs e = ap (λ (rs : List Reply). with_replies before rs) e

grown_two : (before : List Path) (path : Path) (found : Option (List ℕ)) (xs ys : List Reply) →
    ys ≡ reply path found ∷ [] → with_replies before (xs ++ ys) ≡ with_replies before xs ++ path ∷ []
grown_two before path found xs ys e = with_then before xs ys ∙ grown (with_replies before xs) path found ys e

-- ---- lists of paths, with the last one apart

pub contains_front : (qs : List Path) (rest : List Path) (p : Path) → Contains qs p → Contains (qs ++ rest) p
contains_front qs rest p c = (
  c.0,
  omega (arith, c.1, length-append qs rest),
  get_or_append_left qs rest p c.0 c.1 ∙ c.2,
)

last_lt : (qs : List Path) (path : Path) → length qs < length (qs ++ path ∷ [])
last_lt qs path = omega (arith, length-append qs (path ∷ []))

contains_last : (qs : List Path) (path : Path) → Contains (qs ++ path ∷ []) path
contains_last qs path = (length qs, last_lt qs path, get_or-append_seam qs path [] path)

fresh_front : (before qs rest : List Path) → AreFresh before (qs ++ rest) → AreFresh before qs
fresh_front before qs rest are = record {
  fresh = λ p c. are.fresh p (contains_front qs rest p c);
  apart = λ i j d lt within e.
      let less : i < length qs = omega (arith, lt, within) in
      are.apart i j d lt (omega (arith, within, length-append qs rest))
      (ap full_of (get_or_append_left qs rest d i less) ∙ (e ∙ ap full_of (sym (get_or_append_left qs rest d j within))));
}

last_fresh : (n : ℕ) (may : Path → Option (List ℕ) → Type 0) (before mid qs : List Path) (path : Path) →
    AreFresh before (qs ++ path ∷ []) → GetsAll n may qs before mid → IsFresh mid path
last_fresh n may before mid qs path are got =
    let ps = qs ++ path ∷ [] in
    subst (IsFresh mid) (get_or-append_seam qs path [] Checkpoint)
    (fresh_next before mid ps (length qs) (last_lt qs path) are
    (adds_of_gets n may (take (length qs) ps) before mid
    (subst (λ (l : List Path). GetsAll n may l before mid) (sym (take-append_seam qs (path ∷ []))) got)))

-- ---- the right edge

module _ (digest : List ℕ → List ℕ) (entries : List (List ℕ)) (may : Path → Option (List ℕ) → Type 0)
    (is : IsTrueSource digest entries may) where
  row_true : (before : List Path) (path : Path) (xs : List Reply) (row : List ℕ) → IsTilePath (length entries) path →
      IsFresh before path → MayReply may xs → GivesRow before path xs row →
      IsTrueRow digest entries may path before (with_replies before xs) row
  row_true before path xs row tile fresh m (RowFound a) =
      let e = new_asks before path xs (Some row) (fresh_unasked before path fresh) a in
      row_found digest entries may is path before (with_replies before xs) row tile (may_one may path (Some row) xs e m)
      (grown before path (Some row) xs e)
  row_true before path all row tile fresh m (RowCut {first = xs} {second = ys} bytes a b long) =
      let mays = may_split may xs ys m in
      let e = new_asks before path xs None (fresh_unasked before path fresh) a in
      let none = may_one may path None xs e mays.0 in
      let gone = is_gone digest entries may is path (tile_within (length entries) path tile) none in
      let mid = with_replies before xs in
      let at = grown before path None xs e in
      let full = full_fresh path (full_of path) before mid refl (gone_partial (length entries) path gone) at fresh in
      let f = new_asks mid (full_of path) ys (Some bytes) full b in
      let there = may_one may (full_of path) (Some bytes) ys f mays.1 in
      record {
        bytes_are = row_full digest entries may is path bytes tile gone there;
        gets = gets_full digest entries may is may path (full_of path) bytes before mid (with_replies before (xs ++ ys))
            (stays_itself may) gone none there refl at (grown_two before (full_of path) (Some bytes) xs ys f);
      }

  pub rows_true : (before ps : List Path) (xs : List Reply) (rows : List (List ℕ)) → AreFresh before ps →
      ((p : Path) → Contains ps p → IsTilePath (length entries) p) → MayReply may xs → GivesRows before ps xs rows →
      AreTrueRows digest entries may ps before (with_replies before xs) rows
  rows_true before ps xs rows are tiles m RowsNone =
      subst (λ (l : List Path). AreTrueRows digest entries may [] before l []) (sym (append-nil before))
      (rows_none digest entries may before)
  rows_true before ps all more are tiles m
      (RowsNext {paths = qs} {first = xs} {second = ys} {rows = rows} path row a b) =
      let mays = may_split may xs ys m in
      let mid = with_replies before xs in
      let old =
      rows_true before qs xs rows (fresh_front before qs (path ∷ []) are)
      (λ p c. tiles p (contains_front qs (path ∷ []) p c)) mays.0 a in
      let new =
      row_true mid path ys row (tiles path (contains_last qs path))
      (last_fresh (length entries) may before mid qs path are old.gets) mays.1 b in
      record {
        rows_are =
            ap (λ (l : List (List ℕ)). l ++ row ∷ []) old.rows_are ∙
            (ap (λ (r : List ℕ). map (true_bytes digest entries) qs ++ r ∷ []) new.bytes_are ∙
            sym (map-append (true_bytes digest entries) qs (path ∷ [])));
        gets = subst (λ (l : List Path). GetsAll (length entries) may (qs ++ path ∷ []) before l)
            (sym (with_then before xs ys))
            (gets_all_then (length entries) may may qs (path ∷ []) before mid (with_replies mid ys) (stays_itself may)
            old.gets new.gets);
      }

-- ---- items of replies

abbrev first_of : Reply → List Reply → Reply
first_of d [] = d
first_of d (r ∷ rs) = r

abbrev rest_of : List Reply → List Reply
rest_of [] = []
rest_of (r ∷ rs) = rs

no_reply : (r : Reply) (rs : List Reply) → [] ≡ r ∷ rs → ⊥
no_reply r rs e = let l : 0 ≡ suc (length rs) = ap length e in omega (arith, l)

module _ (digest : List ℕ → List ℕ) where
  pub takes_nothing : (v w : View) (zs : List Reply) (n : ℕ) → zs ≡ [] → TakesReplies digest v zs n w → w ≡ v
  takes_nothing v w zs n e (TakesEnd u) = refl
  takes_nothing v w zs n e (TakesNone {replies = rs} path p) = absurd (no_reply (reply path None) rs (sym e))
  takes_nothing v w zs n e (TakesGood {replies = rs} path bytes good p) =
      absurd (no_reply (reply path (Some bytes)) rs (sym e))
  takes_nothing v w zs n e (TakesBad {replies = rs} path bytes bad p) =
      absurd (no_reply (reply path (Some bytes)) rs (sym e))

  pub takes_none : (v w : View) (q : Path) (zs : List Reply) (n : ℕ) → zs ≡ reply q None ∷ [] →
      TakesReplies digest v zs n w → w ≡ v
  takes_none v w q zs n e (TakesEnd u) = refl
  takes_none v w q zs n e (TakesNone {replies = rs} {refused = k} path p) = takes_nothing v w rs k (ap rest_of e) p
  takes_none v w q zs n e (TakesGood path bytes good p) =
      absurd (never_none bytes (sym (ap (λ (r : Reply). r.found) (ap (first_of (reply q None)) e))))
  takes_none v w q zs n e (TakesBad path bytes bad p) =
      absurd (never_none bytes (sym (ap (λ (r : Reply). r.found) (ap (first_of (reply q None)) e))))

  -- the item is valid
  pub takes_item : (v w : View) (q : Path) (b : List ℕ) (zs : List Reply) (n : ℕ) → zs ≡ reply q (Some b) ∷ [] →
      IsGood digest v.origin [] (item_at q b) → TakesReplies digest v zs n w → w ≡ plus digest v (item_at q b)
  takes_item v w q b zs n e good (TakesEnd u) = absurd (no_reply (reply q (Some b)) [] e)
  takes_item v w q b zs n e good (TakesNone path p) =
      absurd (never_none b (ap (λ (r : Reply). r.found) (ap (first_of (reply q None)) e)))
  takes_item v w q b zs n e good (TakesGood {replies = rs} {refused = k} path bytes g p) =
      let head = ap (first_of (reply q None)) e in
      let at = ap (λ (r : Reply). r.path) head in
      let is = some_is bytes b (ap (λ (r : Reply). r.found) head) in
      takes_nothing (plus digest v (item_at path bytes)) w rs k (ap rest_of e) p ∙
      ((λ i. plus digest v (item_at (at i) bytes)) ∙ (λ i. plus digest v (item_at q (is i))))
    where
      some_is : (x y : List ℕ) → Some x ≡ Some y → x ≡ y
      some_is x y same = cc same
  takes_item v w q b zs n e good (TakesBad path bytes bad p) =
      let head = ap (first_of (reply q None)) e in
      let at = ap (λ (r : Reply). r.path) head in
      let is = some_is bytes b (ap (λ (r : Reply). r.found) head) in
      absurd (bad (subst (λ (x : List ℕ). IsGood digest v.origin [] (item_at path x)) (sym is)
      (subst (λ (x : Path). IsGood digest v.origin [] (item_at x b)) (sym at) good)))
    where
      some_is : (x y : List ℕ) → Some x ≡ Some y → x ≡ y
      some_is x y same = cc same

  -- the replies are split into two parts
  pub record TakesTwo (v w : View) (xs ys : List Reply) : Type 0 where
    pub middle : View
    pub count : ℕ
    pub more : ℕ
    pub first : TakesReplies digest v xs count middle
    pub second : TakesReplies digest middle ys more w

  pub takes_split : (v w : View) (xs ys zs : List Reply) (n : ℕ) → zs ≡ xs ++ ys → TakesReplies digest v zs n w →
      TakesTwo v w xs ys
  takes_split v w [] ys zs n e p = record {
    middle = v;
    count = 0;
    more = n;
    first = TakesEnd v;
    second = subst (λ (rs : List Reply). TakesReplies digest v rs n w) e p;
  }
  takes_split v w (r ∷ xs) ys zs n e (TakesEnd u) = absurd (no_reply r (xs ++ ys) e)
  takes_split v w (r ∷ xs) ys zs n e (TakesNone {replies = rs} {refused = k} path p) =
      let s = takes_split v w xs ys rs k (ap rest_of e) p in
      record {
        middle = s.middle;
        count = s.count;
        more = s.more;
        first = subst (λ (q : Reply). TakesReplies digest v (q ∷ xs) s.count s.middle) (ap (first_of r) e)
            (TakesNone path s.first);
        second = s.second;
      }
  takes_split v w (r ∷ xs) ys zs n e (TakesGood {replies = rs} {refused = k} path bytes good p) =
      let s = takes_split (plus digest v (item_at path bytes)) w xs ys rs k (ap rest_of e) p in
      record {
        middle = s.middle;
        count = s.count;
        more = s.more;
        first = subst (λ (q : Reply). TakesReplies digest v (q ∷ xs) s.count s.middle) (ap (first_of r) e)
            (TakesGood path bytes good s.first);
        second = s.second;
      }
  takes_split v w (r ∷ xs) ys zs n e (TakesBad {replies = rs} {refused = k} path bytes bad p) =
      let s = takes_split v w xs ys rs k (ap rest_of e) p in
      record {
        middle = s.middle;
        count = suc s.count;
        more = s.more;
        first = subst (λ (q : Reply). TakesReplies digest v (q ∷ xs) (suc s.count) s.middle) (ap (first_of r) e)
            (TakesBad path bytes bad s.first);
        second = s.second;
      }

  -- before the next get, nothing was found at these paths
  pub next_taken : (asked ps : List Path) (ys : List Reply) (next : Option Path) (v w : View) (n : ℕ) →
      AsksNext asked ps ys next → TakesReplies digest v ys n w → w ≡ v
  next_taken asked ps ys next v w n (NextNone paths) p = takes_nothing v w ys n refl p
  next_taken asked ps ys next v w n (NextPath path paths fresh) p = takes_nothing v w ys n refl p
  next_taken asked ps ys next v w n (NextFull path paths none fresh) p = go path None ys refl none p
    where
      go : (path : Path) (found : Option (List ℕ)) (zs : List Reply) → found ≡ None → Asks asked path zs found →
          TakesReplies digest v zs n w → w ≡ v
      go path found zs e (AsksNew f new) p =
          takes_none v w path zs n (ap (λ (o : Option (List ℕ)). reply path o ∷ []) e) p
      go path found zs e (AsksAgain has) p = takes_nothing v w zs n refl p

-- ---- one path, and the paths of a list

module _ (digest : List ℕ → List ℕ) (entries : List (List ℕ)) (size : ℕ) (may : Path → Option (List ℕ) → Type 0) where
  item_true : (v w : View) (path found : Path) (before after : List Path) (bytes : List ℕ) (zs : List Reply) (n : ℕ)
      (got : GetsAll (length entries) may (path ∷ []) before after) → got.founds ≡ found ∷ [] →
      IsGood digest v.origin [] (true_item digest entries found) → bytes ≡ true_bytes digest entries found →
      zs ≡ reply found (Some bytes) ∷ [] → TakesReplies digest v zs n w →
      TakesTrue digest entries may (path ∷ []) before after v w
  item_true v w path found before after bytes zs n got is good same e t = record {
    gets = got;
    taken = takes_item digest v w found bytes zs n e
        (subst (λ (b : List ℕ). IsGood digest v.origin [] (item_at found b)) (sym same) good) t ∙
        (ap (λ (b : List ℕ). plus digest v (item_at found b)) same ∙ ap (with_true digest entries v) (sym is));
  }

  path_true : (v w : View) (path : Path) (before : List Path) →
      MayTake digest entries size may v before (path ∷ []) → (xs : List Reply) (n : ℕ) → MayReply may xs →
      AsksPath before path xs → TakesReplies digest v xs n w →
      TakesTrue digest entries may (path ∷ []) before (with_replies before xs) v w
  path_true v w path before m xs n mays (PathFound {bytes = bytes} a) t =
      let fresh = fresh_unasked before path (path_fresh digest entries size may v path before m) in
      let within = path_within digest entries size may v path before m in
      let e = new_asks before path xs (Some bytes) fresh a in
      let answer = may_one may path (Some bytes) xs e mays in
      item_true v w path path before (with_replies before xs) bytes xs n
      (gets_found digest entries may m.source path bytes before (with_replies before xs) answer
      (grown before path (Some bytes) xs e)) refl
      (true_good digest entries size m.source.hash m.source.short m.within v.origin path within)
      (m.source.parts path within (Some bytes) answer) e t
  path_true v w path before m all n mays (PathNone {first = xs} {second = ys} {found = found} a b) t =
      go found b
    where
      fresh : IsFresh before path
      fresh = path_fresh digest entries size may v path before m

      e : xs ≡ reply path None ∷ []
      e = new_asks before path xs None (fresh_unasked before path fresh) a

      parts : MayReply may xs × MayReply may ys
      parts = may_split may xs ys mays

      none : may path None
      none = may_one may path None xs e parts.0

      mid : List Path
      mid = with_replies before xs

      at : mid ≡ before ++ path ∷ []
      at = grown before path None xs e

      gone : IsGone (length entries) path
      gone = path_gone digest entries size may v path before m none

      full : Contains mid (full_of path) → ⊥
      full = full_fresh path (full_of path) before mid refl (gone_partial (length entries) path gone) at fresh

      two : TakesTwo digest v w xs ys
      two = takes_split digest v w xs ys (xs ++ ys) n refl t

      kept : two.middle ≡ v
      kept = takes_none digest v two.middle path xs two.count e two.first

      go : (found : Option (List ℕ)) → Asks mid (full_of path) ys found →
          TakesTrue digest entries may (path ∷ []) before (with_replies before (xs ++ ys)) v w
      go None c =
          absurd (full_answers digest entries may m.source path gone
          (may_one may (full_of path) None ys (new_asks mid (full_of path) ys None full c) parts.1))
      go (Some bytes) c =
          let f = new_asks mid (full_of path) ys (Some bytes) full c in
          let there = may_one may (full_of path) (Some bytes) ys f parts.1 in
          item_true v w path (full_of path) before (with_replies before (xs ++ ys)) bytes ys two.more
          (gets_full digest entries may m.source may path (full_of path) bytes before mid (with_replies before (xs ++ ys))
          (stays_itself may) gone none there refl at (grown_two before (full_of path) (Some bytes) xs ys f)) refl
          (true_good digest entries size m.source.hash m.source.short m.within v.origin (full_of path) gone.full)
          (m.source.parts (full_of path) gone.full (Some bytes) there) f
          (subst (λ (u : View). TakesReplies digest u ys two.more w) kept two.second)

  pub may_front : (v : View) (asked qs rest : List Path) → MayTake digest entries size may v asked (qs ++ rest) →
      MayTake digest entries size may v asked qs
  may_front v asked qs rest m = record {
    source = m.source;
    within = m.within;
    clean = m.clean;
    paths_are = λ p c. m.paths_are p (contains_front qs rest p c);
    fresh = fresh_front asked qs rest m.fresh;
  }

  pub list_true : (v : View) (asked ps : List Path) (w : View) (xs : List Reply) (n : ℕ) → AsksList asked ps xs →
      MayTake digest entries size may v asked ps → MayReply may xs → TakesReplies digest v xs n w →
      TakesTrue digest entries may ps asked (with_replies asked xs) v w
  list_true v asked ps w xs n ListNone m mays t = record {
    gets = record { replies = []; founds = []; are = GetsNone; may_reply = tt; list = refl };
    taken = takes_nothing digest v w [] n refl t;
  }
  list_true v asked all w zs n (ListNext {paths = qs} {first = xs} {second = ys} path a b) m mays t =
      let ps = qs ++ path ∷ [] in
      let parts = may_split may xs ys mays in
      let two = takes_split digest v w xs ys (xs ++ ys) n refl t in
      let x = two.middle in
      let mid = with_replies asked xs in
      let old =
      list_true v asked qs x xs two.count a (may_front v asked qs (path ∷ []) m) parts.0 two.first in
      let next =
      subst (λ (q : Path). MayTake digest entries size may x mid (q ∷ [])) (get_or-append_seam qs path [] Checkpoint)
      (round_next digest entries size may may v x asked mid ps (length qs) (stays_itself may) (last_lt qs path) m
      (subst (λ (l : List Path). TakesTrue digest entries may l asked mid v x) (sym (take-append_seam qs (path ∷ [])))
      old)) in
      let new = path_true x w path mid next ys two.more parts.1 b two.second in
      subst (λ (l : List Path). TakesTrue digest entries may ps asked l v w) (sym (with_then asked xs ys)) (record {
        gets = gets_all_then (length entries) may may qs (path ∷ []) asked mid (with_replies mid ys) (stays_itself may)
            old.gets new.gets;
        taken = new.taken ∙
            (ap (λ (y : View). with_true digest entries y new.gets.founds) old.taken ∙
            sym (taken_then digest entries old.gets.founds new.gets.founds v));
      })

  pub takes_grow : (v w : View) (ps asked after : List Path) → TakesTrue digest entries may ps asked after v w →
      IsSubview v w
  takes_grow v w ps asked after t = subst (IsSubview v) (sym t.taken) (true_grows digest entries t.gets.founds v)

  -- ---- the rounds

  pub rounds_true : (root : List ℕ) (v : View) (asked : List Path) (x : View) (xs : List Reply) (rounds many : ℕ) →
      MayWork digest entries size root may v asked → ArePullRounds digest size root asked v xs rounds many x →
      MayReply may xs →
      IsWorking digest entries size root may may rounds v x asked (with_replies asked xs)
  rounds_true root v asked x xs rounds many m RoundsNone mays =
      subst (λ (l : List Path). IsWorking digest entries size root may may 0 v v asked l) (sym (append-nil asked))
      (work_none digest entries size root may v asked m)
  rounds_true root v asked w all rounds many m
      (RoundsNext {first = xs} {second = ys} {rounds = k} {refused = n} {more = more} {x = x} p r) mays =
      let parts = may_split may xs ys mays in
      let mid = with_replies asked xs in
      let after = with_replies mid ys in
      let old = rounds_true root v asked x xs k n m p parts.0 in
      let fronts = wanted_front digest entries size root may x mid old.next r.list r.left in
      let took =
      list_true x mid r.list w ys more r.asks
      (round_may digest entries size root may x mid old.next r.list fronts) parts.1 r.takes in
      let one : k + 1 ≡ suc k = omega arith in
      subst (λ (l : List Path). IsWorking digest entries size root may may (suc k) v w asked l)
      (sym (with_then asked xs ys))
      (subst (λ (c : ℕ). IsWorking digest entries size root may may c v w asked after) one
      (work_step digest entries size root may may v x asked mid k may w after r.list (stays_itself may) old r.left r.some
      (stays_itself may) (takes_grow x w r.list mid after took) took))
