-- The forks that are found are those of the view.
use Rattle.std.proofs.Common.{◌≡◌, ◌≢◌, ℕ, ◌≤◌, List, [], ◌∷◌, length, map, Bool, refl, ap, subst}
use Rattle.std.proofs.Common.{inl, inr, arith}
use Rattle.std.specs.Prelude.{◌↔◌, Result, Ok, Err, Option}
use Rattle.std.specs.declared.cmp.Ordering.TheVariants.{Less}
use Rattle.std.specs.List.{Contains}
use Rattle.std.specs.List.Sorted.{IsStrictlySortedBy}
use Rattle.std.proofs.lemmas.List.{append-nil}
use Rattle.byte_streams.specs.declared.fault.StreamFault.{StreamFault}
use Rattle.byte_streams.specs.declared.fault.StreamFault.TheVariants.{ReadFault, WriteFault, OutOfMemory}
use Rattle.node_store.specs.Strings.{Strings}
use Rattle.mirror_model.specs.View.{View}
use Rattle.mirror_model.specs.Heads.{HasHead}
use Rattle.mirror_model.specs.Forks.{Point, point_cmp, IsPrefix, IsFork}
use Rattle.mirror_model.specs.Listed.{PointPair, pair_cmp}
use Rattle.mirror_model.specs.Marks.{Points, State}
use Rattle.mirror_model.specs.Reports.{ReportsForks, fork_pair}
use Rattle.mirror_model.specs.Texts.{IsForksText, forks_text}
use Rattle.mirror_model.specs.declared.reports.Fork.{Fork}
use Rattle.mirror_trees.proofs.PrefixSteps.{prefix_of_prefix}
use Rattle.mirror_trees.specs.Marked.{point_of}
use Rattle.tlog_mirror.specs.Forks.{AreForksOf, Departs, IsForkOf, IsPairOf, WritesForksOf}
use Rattle.tlog_mirror.specs.Points.{by_point}
use Rattle.tlog_mirror.proofs.BranchSteps.{not_both, less_size}
use Rattle.tlog_mirror.proofs.PointLists.{mapped, source_of}
use Rattle.mirror_trees.specs.Best.{HasKept}
use Rattle.tlog_mirror.specs.ForksWritten.{WritesForks}
use Rattle.tlog_mirror.specs.Kept.{state_of, IsKeptWell}
use Rattle.mirror_trees.specs.declared.held_note.HeldNote.{HeldNote}
use Rattle.tlog_mirror.proofs.ServedNotes.{head_from_kept, kept_head}

-- ---- the forks of the view

module _ (digest : List ℕ → List ℕ) (origin : List ℕ) (kept : List HeldNote) (strings : Strings) (remembered : Points)
    (ok : IsKeptWell digest origin kept strings remembered) (points : List (ℕ × List ℕ))
    (exact : (p : ℕ × List ℕ) → Contains points p ↔ HasKept kept (point_of p)) where
  abbrev own : View
  own = (state_of origin kept strings remembered).view

  held : (p : ℕ × List ℕ) → Contains points p → HasHead own p.0 p.1
  held p c = head_from_kept digest origin kept strings remembered ok p.0 p.1 ((exact p).0 c)

  listed : (p : ℕ × List ℕ) → HasHead own p.0 p.1 → Contains points p
  listed p h = (exact p).1 (kept_head digest origin kept strings remembered ok p.0 p.1 h)

  are_apart : (a b : ℕ × List ℕ) → by_point a b ≡ Less → point_of a ≢ point_of b
  are_apart a b less same =
      let s : a.0 ≡ b.0 = ap (λ (q : Point). q.size) same in
      let r : a.1 ≡ b.1 = ap (λ (q : Point). q.root) same in
      let one : a ≡ b = λ i. (s i, r i) in
      let self : by_point b b ≡ Less = subst (λ (q : ℕ × List ℕ). by_point q b ≡ Less) one less in
      not_both b b self self

  -- if a list is no prefix of one that is at least as long, that one is no prefix of it either
  not_extended : (xs ys : List (List ℕ)) → length xs ≤ length ys → (IsPrefix xs ys → ⊥) → IsPrefix ys xs → ⊥
  not_extended xs ys short not back =
      not ((prefix_of_prefix xs ys xs back short).0 (record { rest = []; is = append-nil xs }))

  abbrev Is : Fork → Type 0
  Is f = IsFork digest own (point_of f.small) (point_of f.large) × (by_point f.small f.large ≡ Less)

  twin_is : (f : Fork) → IsPairOf points f × (f.small.0 ≡ f.large.0) → Is f
  twin_is f w = (
    record {
      first_held = held f.small w.0.small;
      second_held = held f.large w.0.large;
      differ = are_apart f.small f.large w.0.order;
      conflict = inl w.1;
    },
    w.0.order,
  )

  departure_is : (f : Fork) → IsPairOf points f × Departs digest strings f.small f.large → Is f
  departure_is f w =
      let first_held = held f.small w.0.small in
      let second_held = held f.large w.0.large in
      let d = w.1 in
      let short = less_size f.small f.large w.0.order in (
        record {
          first_held = first_held;
          second_held = second_held;
          differ = are_apart f.small f.large w.0.order;
          conflict = inr (record {
            first = d.first;
            second = d.second;
            first_complete = record { head = first_held; tree = d.first_tree };
            second_complete = record { head = second_held; tree = d.second_tree };
            not_prefix = d.not_prefix;
            not_extension =
                not_extended d.first d.second
                (omega (arith, d.first_tree.size_is, d.second_tree.size_is, short)) d.not_prefix;
          });
        },
        w.0.order,
      )

  is_found : (f : Fork) → Is f → IsForkOf digest strings points f
  is_found f (i, less) = (
    record { small = listed f.small i.first_held; large = listed f.large i.second_held; order = less },
    elim i.conflict [
      | inl same ↦ inl same
      | inr d ↦ inr (record {
        first = d.first;
        second = d.second;
        first_tree = d.first_complete.tree;
        second_tree = d.second_complete.tree;
        not_prefix = d.not_prefix;
      })
    ],
  )

  abbrev from_pair : PointPair → Fork
  from_pair pair = record { small = (pair.small.size, pair.small.root); large = (pair.large.size, pair.large.root) }

  module _ (old : State) (old_is : state_of origin kept strings remembered ≡ old) where
    pub lists : (forks : List Fork) → IsStrictlySortedBy pair_cmp (map fork_pair forks) →
        ((f : Fork) → Contains forks f ↔ IsForkOf digest strings points f) →
        ReportsForks digest old.view forks
    lists forks sorted found = subst (λ (o : State). ReportsForks digest o.view forks) old_is (record {
      sorted = sorted;
      exact = λ pair. (
        λ c.
            let s = source_of fork_pair forks pair c in
            subst (λ (q : PointPair). IsFork digest own q.small q.large × (point_cmp q.small q.large ≡ Less)) s.2
            (let w = (found s.0).0 s.1 in elim w.1 [ inl t ↦ twin_is s.0 (w.0, t) | inr d ↦ departure_is s.0 (w.0, d) ]),
        λ w. mapped fork_pair forks (from_pair pair) ((found (from_pair pair)).1 (is_found (from_pair pair) w)),
      );
    })

    pub reports_forks : (forks : List Fork) → AreForksOf digest strings points forks → ReportsForks digest old.view forks
    reports_forks forks are = lists forks are.sorted are.exact

-- the answers of a writer of the forks
no_text : (fs : List Fork) → forks_text fs ≡ [] → fs ≡ []
no_text [] e = refl
no_text (f ∷ fs) e = absurd (cc e)

is_text : (digest : List ℕ → List ℕ) (v : View) (forks : List Fork) → ReportsForks digest v forks →
    IsForksText digest v (forks_text forks)
is_text digest v forks reported = record { forks = forks; are_forks = reported; is = refl }

pub written : (digest : List ℕ → List ℕ) (v : View) (held : Strings) (points : List (ℕ × List ℕ)) →
    ((forks : List Fork) → AreForksOf digest held points forks → ReportsForks digest v forks) →
    (old new : Option (List ℕ)) (r : Result Bool StreamFault) → WritesForksOf digest held points old new r →
    WritesForks digest v old new r
written digest v held points reported old new (Ok any) w = record {
  text = forks_text w.forks;
  is_text = is_text digest v w.forks (reported w.forks w.are_forks);
  written = w.written;
  tells = (λ h none. w.tells.0 h (no_text w.forks none), λ some. w.tells.1 (λ none. some (ap forks_text none)));
}
written digest v held points reported old new (Err WriteFault) w = record {
  text = forks_text w.forks;
  is_text = is_text digest v w.forks (reported w.forks w.are_forks);
  written = w.written;
}
written digest v held points reported old new (Err OutOfMemory) w = w
written digest v held points reported old new (Err ReadFault) w = w
