-- The facts that a report states about each candidate.
use Rattle.std.proofs.Common.{◌≡◌, ◌≢◌, ◌⊎◌, ◌↔◌, inl, inr, ℕ, ◌<◌, ◌≤◌, Bool, true, eqb-true, ◌==◌, List, [], ◌∷◌, ◌++◌, length, get_or, take, All, Contains, IfSome, Option, Some, None, refl, sym, ap, subst, ◌∙◌, arith}
use Rattle.std.specs.List.Sorted.{IsSorted}
use Rattle.std.proofs.lemmas.Bool.{cases_lt}
use Rattle.std.proofs.lemmas.List.{nil_from_length, take_all}
use Rattle.std.proofs.lemmas.List.Elements.{All-append, All-contains, All-weaker, Contains-append_left, Contains-append_right, Contains-get_or}
use Rattle.copy_places.specs.Lines.{AreLines, HasCandidate, HasSmallFirst, IsFirstOrListed, IsInSomeLine, KeepsLines}
use Rattle.copy_places.specs.Candidates.{IsOnePoint, turn_cmp}
use Rattle.copy_places.specs.Shown.{ShowsEach, ShowsLine}
use Rattle.copy_places.specs.declared.candidate.Candidate.{Candidate}
use Rattle.copy_places.specs.declared.fork_line.ForkLine.{ForkLine}
use Rattle.copy_places.proofs.LineLists.{lines_kept}
use Rattle.copy_follow.specs.Lining.{AddsToCopy, AloneAreOne, HasEqual, HasLeft, IsBeside, IsEqualAbove, IsLeastOrIn}
use Rattle.copy_follow.specs.Rule.{ExceedsCopy, FollowsRule, HasLine, HasOneRoot, IsEqualLine, IsLeastOf, IsLeft, IsOfCopy, copy_point}
use Rattle.copy_follow.specs.Says.{AgreesWithCopy, IsBehind, IsUnderCopy, SettlesEach}
use Rattle.copy_follow.specs.TurnsTaken.{HasTaken, IsAgreed, IsBeyond, IsLargerThan, IsLineOfRun, IsLineUpTo, IsOneOf}
use Rattle.copy_follow.specs.declared.report.Followed.{Followed}
use Rattle.copy_follow.proofs.Lining.{larger_than, lines_join, one_least}
use Rattle.copy_follow.proofs.OfCopy.{of_end}
use Rattle.copy_follow.proofs.TurnOrder.{none_above}

none_contained : {X : Type 0} (x : X) → Contains [] x → ⊥
none_contained x (k, lt, e) = absurd (omega (arith, lt))

-- if there is no line above an empty copy, no size has two roots
pub has_one_root : (copy : Option Candidate) (cs : List Candidate) (lines : List ForkLine) → copy ≡ None → lines ≡ [] →
    HasEqual copy cs lines → HasOneRoot cs
has_one_root copy cs lines none empty h least other l listed = elim k.so [
  | inl e ↦ one_least cs other.size.0 least k.least l k.is_least ∙ e
  | inr line ↦ absurd (none_contained line.line (subst (λ x. Contains x line.line) empty line.listed))
]
  where
    above : (o : Option Candidate) → o ≡ None → IsLargerThan o other
    above None e = tt
    above (Some held) e = absurd (cc e)

    k : IsLeastOrIn copy cs lines other
    k = All-contains (λ c. IsLargerThan copy c → IsLeastOrIn copy cs lines c) cs other h.each listed (above copy none)

-- ---- behind

first_of : (cs : List Candidate) (first : Candidate) → 0 < length cs → first ≡ get_or cs 0 first →
    (others : List Candidate) × (cs ≡ first ∷ others)
first_of [] first lt e = absurd (omega (arith, lt))
first_of (x ∷ xs) first lt e = (xs, ap (λ (y : Candidate). y ∷ xs) (sym e))

pub empty_by : {X : Type 0} (xs : List X) (r : Bool) → r ≡ (length xs == 0) → r ≡ true → xs ≡ []
empty_by xs r e t =
    let none : length xs ≡ 0 = eqb-true (length xs) 0 (sym e ∙ t) in nil_from_length xs none

some_same : (p q : ℕ × List ℕ) → Some p ≡ Some q → p ≡ q
some_same p q e = cc

same_first : (a b : Candidate) (xs ys : List Candidate) → a ∷ xs ≡ b ∷ ys → a ≡ b
same_first a b xs ys e = cc

-- the first candidate is smaller than the copy, and there is no other line
pub behind_first : (cs : List Candidate) → IsSorted turn_cmp cs → (copy : Option (ℕ × List ℕ)) (held : ℕ × List ℕ)
    (forks : List ForkLine) (larger : List (ℕ × List ℕ)) → copy ≡ Some held → forks ≡ [] → larger ≡ [] → (first : Candidate) →
    0 < length cs → first ≡ get_or cs 0 first → first.size.0 < held.0 → (point : ℕ × List ℕ) →
    (Some (first.size.0, first.root) ≡ Some point) ↔ IsBehind cs copy forks larger point
behind_first cs rises copy held forks larger is no_forks no_larger first some at less point =
    let o = first_of cs first some at in (
      λ e. record {
        no_forks = no_forks;
        no_larger = no_larger;
        smaller = λ k d lt. subst (λ c. IsUnderCopy c (get_or cs k d).size.0) (sym is)
            (let up : (get_or cs k d).size.0 ≤ first.size.0 =
            none_above cs rises first o.0 o.1 (get_or cs k d) (Contains-get_or cs k d lt) in
            let under : (get_or cs k d).size.0 < held.0 = omega (arith, up, less) in under);
        first = first;
        others = o.0;
        candidates_are = o.1;
        is = sym (some_same (first.size.0, first.root) point e);
      },
      λ b. ap (λ (x : Candidate). Some (x.size.0, x.root)) (same_first first b.first o.0 b.others (sym o.1 ∙ b.candidates_are))
          ∙ ap Some (sym b.is),
    )

-- ---- the lines

module _ (copy : Option Candidate) (cs : List Candidate) (forks turns equal : List ForkLine)
    (a : AddsToCopy copy cs forks turns) (e : HasEqual copy cs equal) where
  abbrev New : List ForkLine
  New = turns ++ equal

  kept_new : KeepsLines forks New
  kept_new line among = Contains-append_left turns equal line (a.kept line among)

  equal_new : KeepsLines equal New
  equal_new line among = Contains-append_right turns equal line among

  pub shows_new : (digest : List ℕ → List ℕ) → ShowsEach digest forks → ShowsEach digest New
  shows_new digest each = All-append (ShowsLine digest) turns equal (a.shows digest each) (e.shows digest)

  all_above : All (λ line. ExceedsCopy (copy_point copy) line.small.size.0) equal
  all_above = All-weaker (IsEqualAbove copy cs) (λ line. ExceedsCopy (copy_point copy) line.small.size.0) (λ line x. x.1) equal e.only

  -- the lines that are not above the copy are those of the turns
  pub of_copy_new : (first : Option Candidate) → All (IsLineOfRun first cs copy) forks →
      All (IsOfCopy first cs (copy_point copy)) New
  of_copy_new first all =
      All-append (IsOfCopy first cs (copy_point copy)) turns equal
      (All-weaker (IsLineOfRun first cs copy) (IsOfCopy first cs (copy_point copy)) (λ line h upto. of_end first cs copy line h) turns
      (a.of_copy first all))
      (All-weaker (λ line. ExceedsCopy (copy_point copy) line.small.size.0) (IsOfCopy first cs (copy_point copy))
      (λ line above upto. absurd (upto above)) equal all_above)

  -- a candidate above the copy that does not have the least root of its size is in a line
  pub in_new : (least c : Candidate) → IsLeastOf cs c.size.0 least → Contains cs c → IsLargerThan copy c →
      (least.root ≡ c.root) ⊎ IsInSomeLine equal c
  in_new least c l listed above =
      let k = All-contains (λ c. IsLargerThan copy c → IsLeastOrIn copy cs equal c) cs c e.each listed above in
      elim k.so [ inl same ↦ inl (one_least cs c.size.0 least k.least l k.is_least ∙ same) | inr line ↦ inr line ]

  -- so its line is that of the rule
  has_line : (least c : Candidate) → IsLeastOf cs c.size.0 least → least.root ≢ c.root → IsInSomeLine equal c →
      HasLine New least c
  has_line least c l apart q = elim q.is_in [ inl at ↦ absurd (not_small at) | inr at ↦ as_large at ]
    where
      is : IsEqualLine cs q.line
      is = (All-contains (IsEqualAbove copy cs) equal q.line e.only q.listed).0

      same_least : is.other.size.0 ≡ c.size.0 → least.root ≡ is.least.root
      same_least n = one_least cs c.size.0 least is.least l (subst (λ k. IsLeastOf cs k is.least) n is.is_least)

      not_small : IsOnePoint c q.line.small → ⊥
      not_small at =
          apart (same_least (sym is.is_least.size_is ∙ sym is.small_is.size_is ∙ sym at.0) ∙ sym is.small_is.root_is ∙ sym at.1)

      as_large : IsOnePoint c q.line.large → HasLine New least c
      as_large at =
          let n : is.other.size.0 ≡ c.size.0 = sym is.large_is.size_is ∙ sym at.0 in record {
            line = q.line;
            listed = equal_new q.line q.listed;
            small_is = (
              l.size_is ∙ sym n ∙ sym is.is_least.size_is ∙ sym is.small_is.size_is,
              same_least n ∙ sym is.small_is.root_is,
            );
            large_is = at;
          }

  -- two candidates of one size above the copy that are in no line have one root
  alone_one : AloneAreOne copy cs New
  alone_one x y listed_x listed_y above_x above_y size alone_x alone_y =
      let p = All-contains (λ c. IsLargerThan copy c → IsLeastOrIn copy cs equal c) cs x e.each listed_x above_x in
      let q = All-contains (λ c. IsLargerThan copy c → IsLeastOrIn copy cs equal c) cs y e.each listed_y above_y in
      let same : p.least.root ≡ q.least.root =
      one_least cs y.size.0 p.least q.least (subst (λ n. IsLeastOf cs n p.least) size p.is_least) q.is_least in
      sym (has_least x p alone_x) ∙ same ∙ has_least y q alone_y
    where
      has_least : (c : Candidate) (k : IsLeastOrIn copy cs equal c) → (IsInSomeLine New c → ⊥) → k.least.root ≡ c.root
      has_least c k alone = elim k.so [
        | inl same ↦ same
        | inr line ↦ absurd (alone (lines_kept equal New c equal_new line))
      ]

  module _ (larger : List (ℕ × List ℕ)) (left : HasLeft copy cs New (length cs) larger) where
    abbrev All_cs : List Candidate
    All_cs = take (length cs) cs

    all_cs : All_cs ≡ cs
    all_cs = take_all (length cs) cs (omega arith)

    told : (c : Candidate) → Contains cs c → IsLargerThan copy c →
        IsInSomeLine New c ⊎ Contains larger (c.size.0, c.root)
    told c listed above =
        All-contains (λ c. IsLargerThan copy c → IsInSomeLine New c ⊎ Contains larger (c.size.0, c.root)) All_cs c left.each
        (subst (λ l. Contains l c) (sym all_cs) listed) above

    only_turns : (o : Option Candidate) (line : ForkLine) → IsLineUpTo o line → ExceedsCopy (copy_point o) line.small.size.0 → ⊥
    only_turns None line w x = w
    only_turns (Some held) line w x = omega (arith, w, x)

    pub rule : All (IsLineUpTo copy) forks → FollowsRule (copy_point copy) cs New larger
    rule within = record {
      equal = λ least other l listed above apart. elim (in_new least other l listed (larger_than copy other above)) [
        | inl same ↦ absurd (apart same)
        | inr q ↦ has_line least other l apart q
      ];
      only = All-append (λ line. ExceedsCopy (copy_point copy) line.small.size.0 → IsEqualLine cs line) turns equal
          (All-weaker (IsLineUpTo copy) (λ line. ExceedsCopy (copy_point copy) line.small.size.0 → IsEqualLine cs line)
          (λ line w x. absurd (only_turns copy line w x)) turns (a.within within))
          (All-weaker (IsEqualAbove copy cs) (λ line. ExceedsCopy (copy_point copy) line.small.size.0 → IsEqualLine cs line)
          (λ line is x. is.0) equal e.only);
      left = λ point. (
        λ among. subst (λ l. IsLeft (copy_point copy) l New point) all_cs
            (All-contains (IsLeft (copy_point copy) All_cs New) larger point left.left among),
        λ l. elim (told l.candidate l.listed (larger_than copy l.candidate l.more)) [
          | inl line ↦ absurd (l.alone line)
          | inr among ↦ subst (Contains larger) (sym l.is) among
        ],
      );
      rising = left.rising alone_one;
    }

    -- ---- each candidate

    module _ (digest : List ℕ → List ℕ) (first : Option Candidate) (h : HasTaken digest first cs copy forks) where
      pub lines_new : AreLines first cs forks → AreLines first cs New
      lines_new l =
          let t = a.lines first (known copy h.one_of) l in
          let q = e.are first in record {
            each = All-append (HasCandidate first cs) turns equal t.each q.each;
            small_first = All-append HasSmallFirst turns equal t.small_first q.small_first;
            sorted = lines_join copy turns equal (a.within h.within) all_above t.sorted q.sorted;
          }
        where
          known : (o : Option Candidate) → IsOneOf first cs o → IfSome o (IsFirstOrListed first cs)
          known None k = tt
          known (Some held) k = k

      abbrev Settled : Candidate → Type 0
      Settled c =
          AgreesWithCopy digest (copy_point copy) c ⊎ (IsInSomeLine New c ⊎ Contains larger (c.size.0, c.root))

      agreed : (o : Option Candidate) (c : Candidate) → IsAgreed digest o c → AgreesWithCopy digest (copy_point o) c
      agreed None c x = x
      agreed (Some held) c x = x

      beyond : (o : Option Candidate) (c : Candidate) → IsBeyond o c → IfSome o (λ held. IsBeside held turns c) →
          (IsLargerThan o c → IsInSomeLine New c ⊎ Contains larger (c.size.0, c.root)) →
          IsInSomeLine New c ⊎ Contains larger (c.size.0, c.root)
      beyond None c b beside more = more tt
      beyond (Some held) c b beside more = elim (cases_lt held.size.0 c.size.0) [
        | inl lt ↦ more lt
        | inr ge ↦
            let size : c.size.0 ≡ held.size.0 = omega (arith, b.0, ge) in
            inl (lines_kept turns New c (λ line among. Contains-append_left turns equal line among)
            (beside size (λ root. b.1 (size, sym root))))
      ]

      settled : (k : ℕ) (d : Candidate) (lt : k < length cs) → Settled (get_or cs k d)
      settled k d lt = elim (h.each k d lt) [
        | inl x ↦ inl (agreed copy (get_or cs k d) x)
        | inr (inl line) ↦ inr (inl (lines_kept forks New (get_or cs k d) kept_new line))
        | inr (inr b) ↦ inr (beyond copy (get_or cs k d) b (a.each k d lt)
            (told (get_or cs k d) (Contains-get_or cs k d lt)))
      ]

      pub settles : (f : Followed) → f.copy ≡ copy_point copy → f.forks.items ≡ New → f.larger.items ≡ larger →
          ((point : ℕ × List ℕ) → (f.behind ≡ Some point) ↔ IsBehind cs f.copy f.forks.items f.larger.items point) →
          (copy ≡ None → equal ≢ []) → SettlesEach digest cs f
      settles f copy_is forks_are larger_are behind some = record {
        each = λ k d lt.
            subst (λ o. AgreesWithCopy digest o (get_or cs k d)
            ⊎ (IsInSomeLine f.forks.items (get_or cs k d) ⊎ Contains f.larger.items ((get_or cs k d).size.0, (get_or cs k d).root))) (sym copy_is)
            (subst (λ x. AgreesWithCopy digest (copy_point copy) (get_or cs k d)
            ⊎ (IsInSomeLine x (get_or cs k d) ⊎ Contains f.larger.items ((get_or cs k d).size.0, (get_or cs k d).root))) (sym forks_are)
            (subst (λ x. AgreesWithCopy digest (copy_point copy) (get_or cs k d)
            ⊎ (IsInSomeLine New (get_or cs k d) ⊎ Contains x ((get_or cs k d).size.0, (get_or cs k d).root))) (sym larger_are)
            (settled k d lt)));
        rule =
            subst (λ o. FollowsRule o cs f.forks.items f.larger.items) (sym copy_is)
            (subst (λ x. FollowsRule (copy_point copy) cs x f.larger.items) (sym forks_are)
            (subst (λ x. FollowsRule (copy_point copy) cs New x) (sym larger_are) (rule h.within)));
        behind = behind;
        some = λ none no_lines. some (none_back copy (sym copy_is ∙ none)) (empty_back turns (sym forks_are ∙ no_lines));
      }
        where
          none_back : (o : Option Candidate) → copy_point o ≡ None → o ≡ None
          none_back None x = refl
          none_back (Some held) x = absurd (cc x)

          empty_back : (xs : List ForkLine) → xs ++ equal ≡ [] → equal ≡ []
          empty_back [] x = x
          empty_back (y ∷ ys) x = absurd (cc x)
