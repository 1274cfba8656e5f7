-- The list of the held tree heads, in order.
use Rattle.std.proofs.Common.{◌≡◌, ℕ, List, map, get_or, sym, ap, subst}
use Rattle.std.specs.Prelude.{All, ◌↔◌, Result, Ok, Err, IfOk}
use Rattle.std.specs.List.{Contains}
use Rattle.std.specs.List.Sorted.{IsStrictlySortedBy}
use Rattle.std.proofs.lemmas.List.Elements.{All-get_or, Contains-get_or}
use Rattle.node_store.specs.Strings.{Strings}
use Rattle.mirror_model.specs.View.{View}
use Rattle.mirror_model.specs.Heads.{HasHead}
use Rattle.mirror_model.specs.Forks.{Point, point_cmp}
use Rattle.mirror_model.specs.Listed.{ListsHeads}
use Rattle.mirror_model.specs.Marks.{Points, State}
use Rattle.mirror_model.specs.Reports.{ReportsHeads, head_point}
use Rattle.mirror_model.specs.declared.reports.Head.{Head}
use Rattle.tlog_mirror.specs.Kept.{state_of, IsKeptWell}
use Rattle.mirror_trees.specs.Marked.{point_of}
use Rattle.tlog_mirror.specs.Points.{by_point, IsBuiltFlag}
use Rattle.tlog_mirror.proofs.PointLists.{mapped, source_of, sorted_out}
use Rattle.mirror_trees.specs.Best.{HasKept}
use Rattle.mirror_trees.specs.declared.held_note.HeldNote.{HeldNote}
use Rattle.tlog_mirror.proofs.ServedNotes.{head_from_kept, kept_head, with_head}

-- the sizes and roots of the kept notes
pub kept_points : (kept : List HeldNote) (p : ℕ × List ℕ) →
    Contains (map (λ (one : HeldNote). (one.size, one.root)) kept) p ↔ HasKept kept (point_of p)
kept_points kept p = (
  λ c. let s =
      source_of (λ (one : HeldNote). (one.size, one.root)) kept p c in record
      { one = s.0; is_kept = s.1; is = ap point_of s.2 },
  λ h.
      let pair : ℕ × List ℕ = (h.one.size, h.one.root) in
      let s : h.one.size ≡ p.0 = ap (λ (q : Point). q.size) h.is in
      let r : h.one.root ≡ p.1 = ap (λ (q : Point). q.root) h.is in
      let same : pair ≡ p = λ i. (s i, r i) in
      subst (Contains (map (λ (one : HeldNote). (one.size, one.root)) kept)) same
      (mapped (λ (one : HeldNote). (one.size, one.root)) kept h.one h.is_kept),
)

-- ---- the tree heads

module _ (digest : List ℕ → List ℕ) (origin : List ℕ) (kept : List HeldNote) (strings : Strings) (remembered : Points)
    (ok : IsKeptWell digest origin kept strings remembered) (old : State)
    (old_is : state_of origin kept strings remembered ≡ old) (points : List (ℕ × List ℕ))
    (sorted : IsStrictlySortedBy by_point points)
    (exact : (p : ℕ × List ℕ) → Contains points p ↔ HasKept kept (point_of p)) where
  abbrev own : View
  own = (state_of origin kept strings remembered).view

  head_listed : (point : Point) → Contains (map point_of points) point → HasHead own point.size point.root
  head_listed point c =
      let s = source_of point_of points point c in
      let h = (exact s.0).0 s.1 in
      head_from_kept digest origin kept strings remembered ok point.size point.root (subst (HasKept kept) s.2 h)

  listed_head : (point : Point) → HasHead own point.size point.root → Contains (map point_of points) point
  listed_head point h =
      let k = kept_head digest origin kept strings remembered ok point.size point.root h in
      mapped point_of points (point.size, point.root) ((exact (point.size, point.root)).1 k)

  reports : (heads : List Head) → map head_point heads ≡ map point_of points →
      All (IsBuiltFlag digest strings) heads → ReportsHeads digest old.view heads
  reports heads same flags = record {
    lists = record {
      sorted = subst (IsStrictlySortedBy point_cmp) (sym same) (sorted_out point_of point_cmp points sorted);
      exact = λ point. (
        λ c. subst (λ (o : State). HasHead o.view point.size point.root) old_is
            (head_listed point (subst (λ xs. Contains xs point) same c)),
        λ h. subst (λ xs. Contains xs point) (sym same)
            (listed_head point (subst (λ (o : State). HasHead o.view point.size point.root) (sym old_is) h)),
      );
    };
    flags = λ k d lt.
        let head = get_or heads k d in
        let c = mapped head_point heads head (Contains-get_or heads k d lt) in
        with_head digest origin kept strings remembered ok old old_is head.size head.root head.complete
        (head_listed (head_point head) (subst (λ xs. Contains xs (head_point head)) same c))
        (All-get_or (IsBuiltFlag digest strings) heads k d lt flags);
  }

  pub reported : {A E : Type 0} (items : A → List Head) (r : Result A E) →
      IfOk r (λ heads. map head_point (items heads) ≡ map point_of points) →
      IfOk r (λ heads. All (IsBuiltFlag digest strings) (items heads)) →
      IfOk r (λ heads. ReportsHeads digest old.view (items heads))
  reported items (Err e) p q = p
  reported items (Ok heads) p q = reports (items heads) p q

  -- the sizes and roots are those of the tree heads
  pub listed_points : ListsHeads old.view (map point_of points)
  listed_points = record {
    sorted = sorted_out point_of point_cmp points sorted;
    exact = λ point. (
      λ c. subst (λ (o : State). HasHead o.view point.size point.root) old_is (head_listed point c),
      λ h. listed_head point (subst (λ (o : State). HasHead o.view point.size point.root) (sym old_is) h),
    );
  }
