-- A candidate that is not larger than the copy is in a fork line with it exactly if its root is not that of the copy's first entries.
use Rattle.std.proofs.Common.{◌≡◌, ◌≢◌, ◌⊎◌, inl, inr, ℕ, ◌<◌, ◌≤◌, List, [], length, take, drop, get_or, All, IfSome, Option, Some, None, sym, ap, subst, ◌∙◌, arith, take-append-drop, take_all, length-take}
use Rattle.std.proofs.lemmas.List.{append-nil}
use Rattle.std.proofs.lemmas.List.Elements.{All-contains}
use Rattle.tlog_hash.specs.Tree.{mth}
use Rattle.mirror_model.specs.Forks.{IsPrefix}
use Rattle.mirror_model.specs.Strings.{IsDigest}
use Rattle.copy_places.specs.Candidates.{IsOnePoint, point_of}
use Rattle.copy_places.specs.Forks.{HasPoint, LacksForkClash}
use Rattle.copy_places.specs.Lines.{AreLines, HasSmallFirst, IsFirst, IsInSomeLine}
use Rattle.copy_places.specs.Shown.{ShowsLine}
use Rattle.copy_places.specs.declared.candidate.Candidate.{Candidate}
use Rattle.copy_places.specs.declared.fork_line.ForkLine.{ForkLine}
use Rattle.copy_places.proofs.Agreeing.{agreeing_is_of_first}
use Rattle.copy_places.proofs.ForkLines.{fork_line_is_evidence}
use Rattle.copy_follow.specs.CopyForks.{CopyForksAreContradictions, HasEntriesOf, IsAgreementClear, IsForkOfCopy, IsFromCopy, IsSettledClear}
use Rattle.copy_follow.specs.Rule.{ExceedsCopy, IsCopyAt, IsLeft, IsLineOfCopy, IsOfCopy, OfFirst, OfLarger, OfSmaller}
use Rattle.copy_follow.specs.Says.{AgreesWithCopy, IsSettled, SettlesEach}
use Rattle.copy_follow.specs.declared.report.Followed.{Followed}
use Rattle.copy_follow.proofs.OfCopy.{first_upto}

module _ (digest : List ℕ → List ℕ) (hash : IsDigest digest) (entries : List (List ℕ)) where
  front : (n : ℕ) → IsPrefix (take n entries) entries
  front n = record { rest = drop n entries; is = take-append-drop n entries }

  whole : (n : ℕ) → n ≡ length entries → take n entries ≡ entries
  whole n e = take_all n entries (omega (arith, e))

  module _ (copy : ℕ × List ℕ) (point : HasPoint digest (record { size = copy.0; root = copy.1 }) entries) where
    -- a checkpoint of the copy's size and root
    at_copy : (c : Candidate) → IsCopyAt (Some copy) c → HasPoint digest (point_of c) entries
    at_copy c at = record { size_is = point.size_is ∙ at.0; root_is = point.root_is ∙ at.1 }

    root_at : (c : Candidate) → IsCopyAt (Some copy) c → c.root ≡ mth digest (take c.size.0 entries)
    root_at c at =
        sym at.1 ∙ sym point.root_is ∙ ap (mth digest) (sym (whole c.size.0 (sym at.0 ∙ sym point.size_is)))

    root_as : (a b : Candidate) → IsOnePoint a b → b.root ≡ mth digest (take b.size.0 entries) →
        a.root ≡ mth digest (take a.size.0 entries)
    root_as a b p e = p.1 ∙ e ∙ ap (λ n. mth digest (take n entries)) (sym p.0)

    module _ (first : Option Candidate) (known : IfSome first (λ c. HasPoint digest (point_of c) (take c.size.0 entries))) where
      -- a checkpoint of the first copy
      at_first : (c : Candidate) → IsFirst first c → HasPoint digest (point_of c) (take c.size.0 entries)
      at_first c is = by first known is
        where
          by : (o : Option Candidate) → IfSome o (λ c. HasPoint digest (point_of c) (take c.size.0 entries)) → IsFirst o c →
              HasPoint digest (point_of c) (take c.size.0 entries)
          by None h is = absurd is
          by (Some f) h is =
              subst (λ n. HasPoint digest (point_of c) (take n entries)) (sym is.size_is)
              (record { size_is = h.size_is ∙ sym is.size_is; root_is = h.root_is ∙ sym is.root_is })

      -- ---- a line with the candidate

      module _ (line : ForkLine) (shows : ShowsLine digest line) (small_first : HasSmallFirst line)
          (clear : line.large.size.0 ≤ copy.0 → LacksForkClash digest line.proof entries) (c : Candidate)
          (upto : c.size.0 ≤ copy.0) (root : c.root ≡ mth digest (take c.size.0 entries)) where
        as_small : IsOnePoint c line.small → IsCopyAt (Some copy) line.large → ⊥
        as_small p at =
            let size : length (take c.size.0 entries) ≡ c.size.0 =
            let e = length-take c.size.0 entries in let n = point.size_is in omega (arith, e, n, upto) in
            let same : copy.0 ≡ line.large.size.0 = at.0 in
            fork_line_is_evidence digest hash (point_of line.small) (point_of line.large) line.proof shows
            (take c.size.0 entries) entries (record { size_is = size ∙ p.0; root_is = sym root ∙ p.1 }) (at_copy line.large at)
            (clear (omega (arith, same))) (front c.size.0)

        as_large : IsOnePoint c line.large → IsFromCopy first copy line → ⊥
        as_large p from = elim from [
          | inl at ↦
              let same : copy.0 ≡ line.small.size.0 = at.0 in
              let up = first_upto line small_first in
              let large : c.size.0 ≡ line.large.size.0 = p.0 in
              by (omega (arith, same, up, large, upto)) entries (at_copy line.small at)
              (record { rest = []; is = append-nil entries })
          | inr of_first ↦
              let least = of_first.1 in
              let large : c.size.0 ≡ line.large.size.0 = p.0 in
              by (omega (arith, least, large, upto)) (take line.small.size.0 entries) (at_first line.small of_first.0)
              (front line.small.size.0)
        ]
          where
            by : c.size.0 ≡ copy.0 → (list : List (List ℕ)) → HasPoint digest (point_of line.small) list →
                IsPrefix list entries → ⊥
            by e list is prefix =
                let all : take c.size.0 entries ≡ entries = whole c.size.0 (e ∙ sym point.size_is) in
                let large : c.size.0 ≡ line.large.size.0 = p.0 in
                fork_line_is_evidence digest hash (point_of line.small) (point_of line.large) line.proof shows list entries is
                (record {
                  size_is = point.size_is ∙ sym e ∙ p.0;
                  root_is = ap (mth digest) (sym all) ∙ sym root ∙ p.1;
                })
                (clear (omega (arith, large, upto))) prefix

      -- ---- a candidate that does not agree

      -- the line of a candidate with another root
      in_line : (candidates : List Candidate) (lines : List ForkLine) (c : Candidate) → c.root ≢ mth digest (take c.size.0 entries) →
          (q : IsInSomeLine lines c) → IsLineOfCopy first candidates (Some copy) q.line → IsForkOfCopy first copy lines c
      in_line candidates lines c other q l = record { line = q.line; listed = q.listed; is = by l q.is_in }
        where
          by : IsLineOfCopy first candidates (Some copy) q.line → IsOnePoint c q.line.small ⊎ IsOnePoint c q.line.large →
              (IsOnePoint c q.line.small × IsCopyAt (Some copy) q.line.large)
              ⊎ (IsOnePoint c q.line.large × IsFromCopy first copy q.line)
          by (OfSmaller listed at) (inl p) = inl (p, at)
          by (OfSmaller listed at) (inr p) = absurd (other (root_as c q.line.large p (root_at q.line.large at)))
          by (OfLarger listed at) (inl p) = absurd (other (root_as c q.line.small p (root_at q.line.small at)))
          by (OfLarger listed at) (inr p) = inr (p, inl at)
          by (OfFirst listed f up) (inl p) =
              let h = at_first q.line.small f in absurd (other (root_as c q.line.small p (sym h.root_is)))
          by (OfFirst listed f up) (inr p) = inr (p, inr (f, up))

    -- a candidate that agrees
    agreed : (o : Option (ℕ × List ℕ)) → o ≡ Some copy → (c : Candidate) (agrees : AgreesWithCopy digest o c) →
        IsAgreementClear digest o c agrees entries → c.root ≡ mth digest (take c.size.0 entries)
    agreed None e c agrees clear = absurd agrees
    agreed (Some other) e c agrees clear =
        let there : HasPoint digest (record { size = other.0; root = other.1 }) entries =
        subst (λ (o : ℕ × List ℕ). HasPoint digest (record { size = o.0; root = o.1 }) entries) (sym (same other copy e)) point in
        let h = agreeing_is_of_first digest hash (point_of c) (record { size = other.0; root = other.1 }) agrees.1.proof
        agrees.1.shown entries there clear in
        sym h.root_is
      where
        same : (p q : ℕ × List ℕ) → Some p ≡ Some q → p ≡ q
        same p q e = cc

    -- a candidate above the copy
    not_above : (o : Option (ℕ × List ℕ)) → o ≡ Some copy → (n m : ℕ) → ExceedsCopy o m → n ≡ m → n ≤ copy.0 → ⊥
    not_above o is n m above e le =
        let lt : copy.0 < m = subst (λ p. ExceedsCopy p m) is above in omega (arith, lt, e, le)

module _ (digest : List ℕ → List ℕ) (hash : IsDigest digest) (followed : Followed) (first : Option Candidate)
    (candidates : List Candidate) (settles : SettlesEach digest candidates followed)
    (are : AreLines first candidates followed.forks.items) (all : All (IsOfCopy first candidates followed.copy) followed.forks.items)
    (shows : All (ShowsLine digest) followed.forks.items) (copy : ℕ × List ℕ) (is : followed.copy ≡ Some copy)
    (entries : List (List ℕ)) (h : HasEntriesOf digest first copy entries)
    (clear : All (λ line. line.large.size.0 ≤ copy.0 → LacksForkClash digest line.proof entries) followed.forks.items)
    (c : Candidate) (upto : c.size.0 ≤ copy.0) where
  abbrev Lines : List ForkLine
  Lines = followed.forks.items

  -- a candidate in a line of the copy
  no_root : (f : IsForkOfCopy first copy Lines c) → c.root ≡ mth digest (take c.size.0 entries) → ⊥
  no_root f root =
      let shown = All-contains (ShowsLine digest) Lines f.line shows f.listed in
      let sorted = All-contains HasSmallFirst Lines f.line are.small_first f.listed in
      let lacks = All-contains (λ line. line.large.size.0 ≤ copy.0 → LacksForkClash digest line.proof entries) Lines f.line clear
      f.listed in
      elim f.is [
        | inl p ↦ as_small digest hash entries copy h.point first h.first_point f.line shown sorted lacks c upto root p.0 p.1
        | inr p ↦ as_large digest hash entries copy h.point first h.first_point f.line shown sorted lacks c upto root p.0 p.1
      ]

  -- a line of the candidate is not above the copy
  of_copy : (q : IsInSomeLine Lines c) → IsLineOfCopy first candidates (Some copy) q.line
  of_copy q =
      let up = first_upto q.line (All-contains HasSmallFirst Lines q.line are.small_first q.listed) in
      let small : q.line.small.size.0 ≤ copy.0 =
      elim q.is_in [
        | inl p ↦ let e : c.size.0 ≡ q.line.small.size.0 = p.0 in omega (arith, e, upto)
        | inr p ↦ let e : c.size.0 ≡ q.line.large.size.0 = p.0 in omega (arith, e, up, upto)
      ] in
      subst (λ o. IsOfCopy first candidates o q.line) is
      (All-contains (IsOfCopy first candidates followed.copy) Lines q.line all q.listed)
      (λ above. omega (arith, above, small))

  in_some : c.root ≢ mth digest (take c.size.0 entries) → (settled : IsSettled digest followed c) →
      IsSettledClear digest followed c settled entries → IsForkOfCopy first copy Lines c
  in_some other (inl agrees) lacks =
      absurd (other (agreed digest hash entries copy h.point followed.copy is c agrees lacks))
  in_some other (inr (inl q)) lacks =
      in_line digest hash entries copy h.point first h.first_point candidates Lines c other q (of_copy q)
  in_some other (inr (inr larger)) lacks =
      let l : IsLeft followed.copy candidates Lines (c.size.0, c.root) =
      (settles.rule.left (c.size.0, c.root)).0 larger in
      absurd (not_above digest hash entries copy h.point followed.copy is c.size.0 l.candidate.size.0 l.more
      (ap (λ (p : ℕ × List ℕ). p.0) l.is) upto)

pub copy_forks_are_contradictions : CopyForksAreContradictions
copy_forks_are_contradictions digest hash followed first candidates settles are all shows copy is entries h clear k d listed upto lacks =
    let c = get_or candidates k d in (
      no_root digest hash followed first candidates settles are all shows copy is entries h clear c upto,
      λ other. in_some digest hash followed first candidates settles are all shows copy is entries h clear c upto other
          (settles.each k d listed) lacks,
    )
