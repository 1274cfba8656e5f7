-- The rule of lines, candidate after candidate.
use Rattle.std.proofs.Common.{◌≡◌, ◌≢◌, ◌⊎◌, inl, inr, ℕ, ◌+◌, ◌<◌, ◌≤◌, false, List, [], ◌∷◌, ◌++◌, length, get_or, take, All, Contains, Option, Some, None, refl, sym, ap, subst, ◌∙◌, arith, Result, Ok, Err, OnOk, Ordering, Less, nat_cmp, length-take}
use Rattle.std.specs.Cmp.Lexicographic.{slice_cmp}
use Rattle.std.specs.List.{AllByRecursion}
use Rattle.std.specs.List.Sorted.{IsSorted, IsStrictlySortedBy}
use Rattle.std.specs.Ordering.{is_gt, ordering_then}
use Rattle.std.proofs.lemmas.Cmp.{by_ranked, ranked}
use Rattle.std.proofs.lemmas.List.{get_or-take, take_all, take_more}
use Rattle.std.proofs.lemmas.List.Elements.{All-cons, All-contains, All-head, All-nil, All-push, All-tail, All-weaker, Contains-append_left, Contains-append_right, Contains-get_or, Contains-push, recursion_from_All}
use Rattle.copy_places.specs.Adding.{AddsFork, IsForkLine}
use Rattle.mirror_model.specs.Forks.{point_cmp}
use Rattle.copy_places.specs.Candidates.{IsOnePoint, IsSame, point_of, turn_cmp}
use Rattle.copy_places.specs.Lines.{AreLines, HasCandidate, HasSmallFirst, IsInSomeLine, IsListed, KeepsLines, fork_line_cmp}
use Rattle.copy_places.specs.Shown.{AreFork, ShowsEach, ShowsLine}
use Rattle.copy_places.specs.declared.candidate.Candidate.{Candidate}
use Rattle.copy_places.specs.declared.fork_line.ForkLine.{ForkLine}
use Rattle.copy_places.proofs.LineLists.{kept_itself, kept_then, lines_kept}
use Rattle.copy_places.proofs.Lines.{lines_added, lines_none}
use Rattle.copy_places.proofs.Points.{one_back}
use Rattle.copy_follow.specs.Lining.{AddsBeside, AddsEqual, AddsToCopy, AloneAreOne, HasEqual, HasLeft, IsBeside, IsEqualAbove, IsLeastOrIn}
use Rattle.copy_follow.specs.Rule.{ExceedsCopy, IsEqualLine, IsLeastOf, IsLeft, copy_point, larger_cmp}
use Rattle.copy_follow.specs.TurnsTaken.{IsLargerThan, IsLineUpTo, IsNextOf, IsRepeat}
use Rattle.copy_follow.proofs.OfCopy.{all_added, of_added}
use Rattle.copy_follow.proofs.Taken.{in_some_line, within_added}
use Rattle.copy_follow.proofs.TurnOrder.{again, next_of, root_first, root_tied, tied_size}

pub itself : (c : Candidate) → IsSame c c
itself c = record { size_is = refl; root_is = refl; note_is = refl }

pub exceeds_copy : (copy : Option Candidate) (c : Candidate) → IsLargerThan copy c → ExceedsCopy (copy_point copy) c.size.0
exceeds_copy None c lt = tt
exceeds_copy (Some held) c lt = lt

pub larger_than : (copy : Option Candidate) (c : Candidate) → ExceedsCopy (copy_point copy) c.size.0 → IsLargerThan copy c
larger_than None c lt = tt
larger_than (Some held) c lt = lt

-- two least roots of one size are one
pub one_least : (cs : List Candidate) (n : ℕ) (a b : Candidate) → IsLeastOf cs n a → IsLeastOf cs n b → a.root ≡ b.root
one_least cs n a b p q =
    root_tied a.root b.root
    (All-contains (λ c. c.size.0 ≡ n → is_gt (slice_cmp nat_cmp a.root c.root) ≡ false) cs b p.upto q.listed q.size_is)
    (All-contains (λ c. c.size.0 ≡ n → is_gt (slice_cmp nat_cmp b.root c.root) ≡ false) cs a q.upto p.listed p.size_is)

-- ---- the copy, and candidates of its size

beside_kept : (held : Candidate) (old new : List ForkLine) (c : Candidate) → KeepsLines old new → IsBeside held old c →
    IsBeside held new c
beside_kept held old new c kept h size apart = lines_kept old new c kept (h size apart)

-- a candidate that has no such line
pub beside_none : (held c : Candidate) (lines : List ForkLine) → IsBeside held lines c →
    AddsBeside held (c ∷ []) lines lines
beside_none held c lines so = record {
  shows = λ digest each. each;
  kept = kept_itself lines;
  each = All-cons (IsBeside held lines) c [] so (All-nil (IsBeside held lines));
  within = λ all. all;
  lines = λ first candidates known listed l. l;
  of_copy = λ first candidates listed all. all;
}

pub beside_added : {T E : Type 0} (r : Result T E) (held c : Candidate) (old new : List ForkLine) →
    c.size.0 ≡ held.size.0 → held.root ≢ c.root →
    OnOk r ((digest : List ℕ → List ℕ) → AreFork digest held c None → ShowsEach digest old → ShowsEach digest new) →
    OnOk r (KeepsLines old new) → OnOk r (IsInSomeLine new c) → OnOk r (AddsFork held c old new) →
    OnOk r (AddsBeside held (c ∷ []) old new)
beside_added (Ok t) held c old new size apart shows kept has adds = record {
  shows = λ digest each. shows digest (inr (inr (refl, sym size, apart))) each;
  kept = kept;
  each = All-cons (IsBeside held new) c [] (λ e a. has) (All-nil (IsBeside held new));
  within = λ all. within_added held c old new adds (λ one. apart one.1) all;
  lines = λ first candidates known listed l.
      lines_added first candidates held c old new adds (λ one. apart one.1) known
      (All-head (IsListed candidates) c [] listed) l;
  of_copy = λ first candidates listed all.
      of_added first candidates held c old new adds (λ one. apart one.1) (All-head (IsListed candidates) c [] listed) all;
}
beside_added (Err e) held c old new size apart shows kept has adds = tt

-- before the first candidate, and after one more
pub beside_first : (held : Candidate) (lines : List ForkLine) → AddsBeside held [] lines lines
beside_first held lines = record {
  shows = λ digest each. each;
  kept = kept_itself lines;
  each = All-nil (IsBeside held lines);
  within = λ all. all;
  lines = λ first candidates known listed l. l;
  of_copy = λ first candidates listed all. all;
}

pub beside_then : (held : Candidate) (cs : List Candidate) (i : ℕ) (x : Candidate) (old mid new : List ForkLine) →
    i < length cs → x ≡ get_or cs i x → AddsBeside held (take i cs) old mid → AddsBeside held (x ∷ []) mid new →
    AddsBeside held (take (i + 1) cs) old new
beside_then held cs i x old mid new lt is p q =
    subst (λ l. AddsBeside held l old new)
    (sym (take_more cs i x lt ∙ ap (λ (y : Candidate). take i cs ++ y ∷ []) (sym is))) both
  where
    front : (candidates done : List Candidate) → All (IsListed candidates) (done ++ x ∷ []) → All (IsListed candidates) done
    front candidates [] all = All-nil (IsListed candidates)
    front candidates (y ∷ ys) all =
        All-cons (IsListed candidates) y ys (All-head (IsListed candidates) y (ys ++ x ∷ []) all)
        (front candidates ys (All-tail (IsListed candidates) y (ys ++ x ∷ []) all))

    last : (candidates done : List Candidate) → All (IsListed candidates) (done ++ x ∷ []) → All (IsListed candidates) (x ∷ [])
    last candidates [] all = all
    last candidates (y ∷ ys) all = last candidates ys (All-tail (IsListed candidates) y (ys ++ x ∷ []) all)

    both : AddsBeside held (take i cs ++ x ∷ []) old new
    both = record {
      shows = λ digest each. q.shows digest (p.shows digest each);
      kept = kept_then old mid new p.kept q.kept;
      each = All-push (IsBeside held new) (take i cs) x
          (All-weaker (IsBeside held mid) (IsBeside held new) (λ c h. beside_kept held mid new c q.kept h) (take i cs) p.each)
          (All-head (IsBeside held new) x [] q.each);
      within = λ all. q.within (p.within all);
      lines = λ first candidates known listed l.
          q.lines first candidates known (last candidates (take i cs) listed)
          (p.lines first candidates known (front candidates (take i cs) listed) l);
      of_copy = λ first candidates listed all.
          q.of_copy first candidates (last candidates (take i cs) listed)
          (p.of_copy first candidates (front candidates (take i cs) listed) all);
    }

pub beside_all : (held : Candidate) (cs : List Candidate) (i : ℕ) (old new : List ForkLine) → length cs ≤ i →
    AddsBeside held (take i cs) old new → AddsBeside held cs old new
beside_all held cs i old new le h = subst (λ l. AddsBeside held l old new) (take_all i cs le) h

-- if there is a copy
pub to_copy_some : {T E : Type 0} (r : Result T E) (copy : Option Candidate) (held : Candidate) (cs : List Candidate)
    (old new : List ForkLine) → copy ≡ Some held → OnOk r (AddsBeside held cs old new) → OnOk r (AddsToCopy copy cs old new)
to_copy_some (Ok t) copy held cs old new is h = subst (λ o. AddsToCopy o cs old new) (sym is) (record {
  shows = h.shows;
  kept = h.kept;
  each = h.each;
  within = h.within;
  lines = λ first known l. h.lines first cs known each_listed l;
  of_copy = λ first all. h.of_copy first cs each_listed all;
})
  where
    each_listed : All (IsListed cs) cs
    each_listed k d lt = (get_or cs k d, Contains-get_or cs k d lt, itself (get_or cs k d))
to_copy_some (Err e) copy held cs old new is h = tt

pub to_copy_none : (copy : Option Candidate) (cs : List Candidate) (lines : List ForkLine) → copy ≡ None →
    AddsToCopy copy cs lines lines
to_copy_none copy cs lines is = subst (λ o. AddsToCopy o cs lines lines) (sym is) (record {
  shows = λ digest each. each;
  kept = kept_itself lines;
  each = λ k d lt. tt;
  within = λ all. all;
  lines = λ first known l. l;
  of_copy = λ first all. all;
})

-- ---- candidates of one size above the copy

less_root : (n m : ℕ) (r : Ordering) → n ≡ m → ordering_then (nat_cmp n m) r ≡ Less → r ≡ Less
less_root n m r e h = subst (λ o. ordering_then o r ≡ Less) (tied_size n m e) h

then_less : (o r : Ordering) → o ≡ Less → ordering_then o r ≡ Less
then_less o r e = ap (λ p. ordering_then p r) e

-- a lesser number comes first
pub first_less : (n m : ℕ) (r : Ordering) → n < m → ordering_then (nat_cmp n m) r ≡ Less
first_less n m r lt =
    by_ranked (n < m) (n ≡ m) (m < n) (nat_cmp n m) (ranked n m (nat_cmp n m) refl)
    (λ e less. ap (λ o. ordering_then o r) e) (λ e same. absurd (omega (arith, lt, same)))
    (λ e gt. absurd (omega (arith, lt, gt)))

none_rises : IsStrictlySortedBy larger_cmp []
unfolding IsStrictlySortedBy
none_rises = tt

rises_more : (p : ℕ × List ℕ) (ps : List (ℕ × List ℕ)) → AllByRecursion (λ q. larger_cmp p q ≡ Less) ps →
    IsStrictlySortedBy larger_cmp ps → IsStrictlySortedBy larger_cmp (p ∷ ps)
unfolding IsStrictlySortedBy
rises_more p ps a b = (a, b)

pub listed_of_take : (cs : List Candidate) (i : ℕ) (d : Candidate) → Contains (take i cs) d → Contains cs d
listed_of_take cs i d (k, lt, e) =
    let n = length-take i cs in
    (k, omega (arith, n, lt), sym (get_or-take i cs k d (omega (arith, n, lt))) ∙ e)

module _ (copy : Option Candidate) (cs : List Candidate) where
  -- the line of a candidate and the least root of its size
  equal_line : (least c : Candidate) (line : ForkLine) → IsLeastOf cs c.size.0 least → Contains cs c →
      least.root ≢ c.root → IsForkLine least c line → IsEqualLine cs line
  equal_line least c line l listed apart f = elim f.both [
    | inl s ↦ record {
      least = least;
      other = c;
      is_least = l;
      listed = listed;
      apart = apart;
      small_is = s.0;
      large_is = s.1;
    }
    | inr s ↦ absurd (turned s.0 s.1)
  ]
    where
      turned : IsSame c line.small → IsSame least line.large → ⊥
      turned s t =
          let sizes : line.small.size.0 ≡ line.large.size.0 = s.size_is ∙ sym l.size_is ∙ sym t.size_is in
          let less : slice_cmp nat_cmp line.small.root line.large.root ≡ Less =
          less_root line.small.size.0 line.large.size.0 (slice_cmp nat_cmp line.small.root line.large.root) sizes
          (f.small_first (λ one. apart one.1)) in
          root_first least.root c.root
          (subst (λ r. slice_cmp nat_cmp c.root r ≡ Less) t.root_is
          (subst (λ r. slice_cmp nat_cmp r line.large.root ≡ Less) s.root_is less))
          (All-contains (λ x. x.size.0 ≡ c.size.0 → is_gt (slice_cmp nat_cmp least.root x.root) ≡ false) cs c l.upto listed
          refl)

  small_size : (least c : Candidate) (line : ForkLine) → IsLeastOf cs c.size.0 least → IsForkLine least c line →
      line.small.size.0 ≡ c.size.0
  small_size least c line l f = elim f.both [ inl s ↦ s.0.size_is ∙ l.size_is | inr s ↦ s.0.size_is ]

  above_line : (c : Candidate) (line : ForkLine) → IsLargerThan copy c → IsEqualLine cs line →
      line.small.size.0 ≡ c.size.0 → IsEqualAbove copy cs line
  above_line c line lt is size =
      (is, subst (ExceedsCopy (copy_point copy)) (sym size) (exceeds_copy copy c lt))

  in_more : (old new : List ForkLine) (c : Candidate) → KeepsLines old new →
      (IsLargerThan copy c → IsLeastOrIn copy cs old c) → IsLargerThan copy c → IsLeastOrIn copy cs new c
  in_more old new c kept h lt =
      let k = h lt in record {
        least = k.least;
        is_least = k.is_least;
        so = elim k.so [ inl e ↦ inl e | inr line ↦ inr (lines_kept old new c kept line) ];
      }

  abbrev In : List ForkLine → Candidate → Type 0
  In lines c = IsLargerThan copy c → IsLeastOrIn copy cs lines c

  -- a candidate that has no such line
  pub equal_none : (c : Candidate) (lines : List ForkLine) → In lines c → AddsEqual copy cs (c ∷ []) lines lines
  equal_none c lines so = record {
    shows = λ digest each. each;
    kept = kept_itself lines;
    each = All-cons (In lines) c [] so (All-nil (In lines));
    only = λ all. all;
    lines = λ first l. l;
  }

  pub equal_least : (c least : Candidate) (lines : List ForkLine) → IsLeastOf cs c.size.0 least → least.root ≡ c.root →
      AddsEqual copy cs (c ∷ []) lines lines
  equal_least c least lines l e =
      equal_none c lines (λ lt. record { least = least; is_least = l; so = inl e })

  pub equal_added : {T E : Type 0} (r : Result T E) (least c : Candidate) (old new : List ForkLine) →
      IsLargerThan copy c → IsLeastOf cs c.size.0 least → Contains cs c → least.root ≢ c.root →
      OnOk r ((digest : List ℕ → List ℕ) → AreFork digest least c None → ShowsEach digest old → ShowsEach digest new) →
      OnOk r (KeepsLines old new) → OnOk r (IsInSomeLine new c) → OnOk r (AddsFork least c old new) →
      OnOk r (AddsEqual copy cs (c ∷ []) old new)
  equal_added (Ok t) least c old new lt l listed apart shows kept has adds =
      let is = equal_line least c adds.line l listed apart adds.is in record {
        shows = λ digest each. shows digest (inr (inr (refl, l.size_is, apart))) each;
        kept = kept;
        each = All-cons (In new) c [] (λ lt. record { least = least; is_least = l; so = inr has }) (All-nil (In new));
        only = λ all.
            all_added (IsEqualAbove copy cs) adds.line old new adds.adds
            (above_line c adds.line lt is (small_size least c adds.line l adds.is)) all;
        lines = λ first k.
            lines_added first cs least c old new adds (λ one. apart one.1) (inr (least, l.listed, itself least))
            (c, listed, itself c) k;
      }
  equal_added (Err e) least c old new lt l listed apart shows kept has adds = tt

  -- before the first candidate, and after one more
  pub equal_first : (lines : List ForkLine) → AddsEqual copy cs [] lines lines
  equal_first lines = record {
    shows = λ digest each. each;
    kept = kept_itself lines;
    each = All-nil (In lines);
    only = λ all. all;
    lines = λ first l. l;
  }

  pub equal_then : (i : ℕ) (x : Candidate) (old mid new : List ForkLine) → i < length cs → x ≡ get_or cs i x →
      AddsEqual copy cs (take i cs) old mid → AddsEqual copy cs (x ∷ []) mid new →
      AddsEqual copy cs (take (i + 1) cs) old new
  equal_then i x old mid new lt is p q =
      subst (λ l. AddsEqual copy cs l old new)
      (sym (take_more cs i x lt ∙ ap (λ (y : Candidate). take i cs ++ y ∷ []) (sym is))) both
    where
      both : AddsEqual copy cs (take i cs ++ x ∷ []) old new
      both = record {
        shows = λ digest each. q.shows digest (p.shows digest each);
        kept = kept_then old mid new p.kept q.kept;
        each = All-push (In new) (take i cs) x
            (All-weaker (In mid) (In new) (λ c h. in_more mid new c q.kept h) (take i cs) p.each)
            (All-head (In new) x [] q.each);
        only = λ all. q.only (p.only all);
        lines = λ first l. q.lines first (p.lines first l);
      }

  no_lines : (first : Option Candidate) → AreLines first cs []
  no_lines first = record {
    each = All-nil (HasCandidate first cs);
    small_first = All-nil HasSmallFirst;
    sorted = (lines_none first [] refl).sorted;
  }

  pub equal_all : (i : ℕ) (lines : List ForkLine) → length cs ≤ i → AddsEqual copy cs (take i cs) [] lines →
      HasEqual copy cs lines
  equal_all i lines le h = record {
    shows = λ digest. h.shows digest (All-nil (ShowsLine digest));
    each = subst (λ l. All (In lines) l) (take_all i cs le) h.each;
    only = h.only (All-nil (IsEqualAbove copy cs));
    are = λ first. h.lines first (no_lines first);
  }

  -- ---- candidates in no line

  module _ (lines : List ForkLine) where
    abbrev Left : ℕ → List (ℕ × List ℕ) → Type 0
    Left i larger = HasLeft copy cs lines i larger

    abbrev Told : List (ℕ × List ℕ) → Candidate → Type 0
    Told larger c = IsLargerThan copy c → IsInSomeLine lines c ⊎ Contains larger (c.size.0, c.root)

    abbrev LeftOf : List Candidate → ℕ × List ℕ → Type 0
    LeftOf done point = IsLeft (copy_point copy) done lines point

    pub left_none : Left 0 []
    left_none = record { each = All-nil (Told []); left = All-nil (LeftOf []); rising = λ alone. none_rises }

    left_more : (done : List Candidate) (x : Candidate) (p : ℕ × List ℕ) → LeftOf done p → LeftOf (done ++ x ∷ []) p
    left_more done x p l = record {
      candidate = l.candidate;
      listed = Contains-append_left done (x ∷ []) l.candidate l.listed;
      is = l.is;
      more = l.more;
      alone = l.alone;
    }

    module _ (rises : IsSorted turn_cmp cs) (i : ℕ) (x : Candidate) (lt : i < length cs) (is : x ≡ get_or cs i x) where
      more : take i cs ++ x ∷ [] ≡ take (i + 1) cs
      more = sym (take_more cs i x lt ∙ ap (λ (y : Candidate). take i cs ++ y ∷ []) (sym is))

      -- a candidate that adds no point
      pub left_told : (larger : List (ℕ × List ℕ)) → Left i larger → Told larger x → Left (i + 1) larger
      left_told larger h told = record {
        each = subst (λ l. All (Told larger) l) more (All-push (Told larger) (take i cs) x h.each told);
        left = subst (λ l. All (LeftOf l) larger) more
            (All-weaker (LeftOf (take i cs)) (LeftOf (take i cs ++ x ∷ [])) (left_more (take i cs) x) larger h.left);
        rising = h.rising;
      }

      -- a candidate that repeats the one before it
      pub left_again : IsRepeat cs i → (larger : List (ℕ × List ℕ)) → Left i larger → Left (i + 1) larger
      left_again r larger h =
          let a = again cs rises i x lt is r in
          left_told larger h (λ larger_x. elim (All-contains (Told larger) (take i cs) a.one h.each a.listed (as_one a.one a.same larger_x)) [
            | inl line ↦ inl (in_some_line lines x a.one (one_back a.one x a.same) line)
            | inr among ↦ inr (subst (Contains larger) (pair_same a.one x a.same) among)
          ])
        where
          as_one : (one : Candidate) → IsOnePoint one x → IsLargerThan copy x → IsLargerThan copy one
          as_one one p larger_x =
              larger_than copy one (subst (ExceedsCopy (copy_point copy)) (sym p.0) (exceeds_copy copy x larger_x))

          pair_same : (a b : Candidate) → IsOnePoint a b → ◌≡◌ {A = ℕ × List ℕ} (a.size.0, a.root) (b.size.0, b.root)
          pair_same a b p = λ i. (p.0 i, p.1 i)

      -- a candidate whose point is added
      pub left_added : (IsRepeat cs i → ⊥) → IsLargerThan copy x → (IsInSomeLine lines x → ⊥) →
          (larger : List (ℕ × List ℕ)) → Left i larger → Left (i + 1) ((x.size.0, x.root) ∷ larger)
      left_added fresh above alone larger h = record {
        each = subst (λ l. All (Told new) l) more
            (All-push (Told new) (take i cs) x
            (All-weaker (Told larger) (Told new) (λ c t. told_more c t) (take i cs) h.each)
            (λ lt. inr (0, omega arith, refl)));
        left = subst (λ l. All (LeftOf l) new) more
            (All-cons (LeftOf (take i cs ++ x ∷ [])) point larger (record {
              candidate = x;
              listed = Contains-push (take i cs) x;
              is = refl;
              more = exceeds_copy copy x above;
              alone = alone;
            })
            (All-weaker (LeftOf (take i cs)) (LeftOf (take i cs ++ x ∷ [])) (left_more (take i cs) x) larger h.left));
        rising = λ one. rises_more point larger (recursion_from_All (λ p. larger_cmp point p ≡ Less) larger (All-weaker (LeftOf (take i cs)) (λ p. larger_cmp point p ≡ Less) (less one) larger h.left)) (h.rising one);
      }
        where
          point : ℕ × List ℕ
          point = (x.size.0, x.root)

          new : List (ℕ × List ℕ)
          new = point ∷ larger

          told_more : (c : Candidate) → Told larger c → Told new c
          told_more c t lt = elim (t lt) [
            | inl line ↦ inl line
            | inr among ↦ inr (Contains-append_right (point ∷ []) larger (c.size.0, c.root) among)
          ]

          next : IsNextOf (take i cs) x
          next = next_of cs rises i x lt is fresh

          smaller : (d : Candidate) → Contains (take i cs) d → AloneAreOne copy cs lines → ExceedsCopy (copy_point copy) d.size.0 →
              (IsInSomeLine lines d → ⊥) → x.size.0 < d.size.0
          smaller d listed one above_d alone_d =
              let upto : x.size.0 ≤ d.size.0 = All-contains (λ c. x.size.0 ≤ c.size.0) (take i cs) d next.upto listed in
              let apart : IsOnePoint d x → ⊥ = All-contains (λ c. IsOnePoint c x → ⊥) (take i cs) d next.apart listed in
              let other : d.size.0 ≡ x.size.0 → ⊥ =
              λ e. apart (e, one d x (listed_of_take cs i d listed) (i, lt, sym is) (larger_than copy d above_d) above e alone_d alone) in
              omega (arith, upto, other)

          less : AloneAreOne copy cs lines → (p : ℕ × List ℕ) → LeftOf (take i cs) p → larger_cmp point p ≡ Less
          less one p l =
              subst (λ q. larger_cmp point q ≡ Less) (sym l.is)
              (first_less x.size.0 l.candidate.size.0 (slice_cmp nat_cmp x.root l.candidate.root)
              (smaller l.candidate l.listed one l.more l.alone))

    pub left_all : (i : ℕ) (larger : List (ℕ × List ℕ)) → length cs ≤ i → Left i larger → Left (length cs) larger
    left_all i larger le h = record {
      each = subst (λ l. All (Told larger) l) same h.each;
      left = subst (λ l. All (LeftOf l) larger) same h.left;
      rising = h.rising;
    }
      where
        same : take i cs ≡ take (length cs) cs
        same = take_all i cs le ∙ sym (take_all (length cs) cs (omega arith))

-- ---- the report

-- two lists of rising lines, the first upto the copy and the second above it
pub lines_join : (copy : Option Candidate) (xs ys : List ForkLine) → All (IsLineUpTo copy) xs →
    All (λ line. ExceedsCopy (copy_point copy) line.small.size.0) ys → IsStrictlySortedBy fork_line_cmp xs →
    IsStrictlySortedBy fork_line_cmp ys → IsStrictlySortedBy fork_line_cmp (xs ++ ys)
unfolding IsStrictlySortedBy
lines_join copy [] ys upto above p q = q
lines_join copy (x ∷ xs) ys upto above p q =
    (every xs p.0, lines_join copy xs ys (All-tail (IsLineUpTo copy) x xs upto) above p.1 q)
  where
    less : (copy : Option Candidate) (y : ForkLine) → IsLineUpTo copy x → ExceedsCopy (copy_point copy) y.small.size.0 →
        fork_line_cmp x y ≡ Less
    less None y w e = absurd w
    less (Some held) y w e = then_less (point_cmp (point_of x.small) (point_of y.small)) (point_cmp (point_of x.large) (point_of y.large)) (first_less x.small.size.0 y.small.size.0 (slice_cmp nat_cmp x.small.root y.small.root) (omega (arith, w, e)))

    every : (zs : List ForkLine) → AllByRecursion (λ y. fork_line_cmp x y ≡ Less) zs →
        AllByRecursion (λ y. fork_line_cmp x y ≡ Less) (zs ++ ys)
    every [] a =
        recursion_from_All (λ y. fork_line_cmp x y ≡ Less) ys (All-weaker (λ line. ExceedsCopy (copy_point copy) line.small.size.0)
        (λ y. fork_line_cmp x y ≡ Less) (λ y e. less copy y (All-head (IsLineUpTo copy) x xs upto) e) ys above)
    every (z ∷ zs) a = (a.0, every zs a.1)
