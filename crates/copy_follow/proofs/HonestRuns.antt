-- One honest place suffices for a whole run.
use Rattle.std.proofs.Common.{◌≡◌, ◌⊎◌, inl, inr, ℕ, ◌<◌, ◌≤◌, max, List, [], ◌∷◌, ◌++◌, length, take, Option, Some, None, Result, Ok, Err, IfErr, IfOk, refl, sym, ap, subst, ◌∙◌, arith, length-append}
use Rattle.std.proofs.lemmas.List.{append-nil, nil_from_length}
use Rattle.std.proofs.Math.Seq.{take-append_seam}
use Rattle.std.specs.List.{Contains}
use Rattle.std.specs.List.Sorted.{IsSorted}
use Rattle.tlog_hash.specs.Tree.{mth}
use Rattle.tlog_tiles.specs.declared.paths.Path.{Path}
use Rattle.signed_note.specs.Keys.{Key}
use Rattle.mirror_sources.specs.Recorded.{KeepsRecord}
use Rattle.mirror_folders.specs.Shelf.{Put}
use Rattle.copy_places.specs.declared.places.Places.{Places}
use Rattle.copy_follow.specs.Moments.{InTheEnd}
use Rattle.copy_follow.specs.OneHonest.{IsHonestFor}
use Rattle.copy_places.specs.Requests.{AsksAny}
use Rattle.copy_places.specs.Candidates.{IsOnePoint, turn_cmp}
use Rattle.copy_places.specs.GatheredFrom.{AreCandidates, GiveCandidates, GiveNone, GiveNoneFor, LacksCandidates, RefusesGiven}
use Rattle.copy_places.specs.declared.candidate.Candidate.{Candidate}
use Rattle.copy_places.specs.declared.candidate_fault.CandidateFault.{CandidateFault}
use Rattle.copy_places.specs.declared.candidate_fault.CandidateFault.TheVariants as none
use Rattle.copy_places.proofs.Requests.{any_same}
use Rattle.copy_follow.specs.Ending.{EndsAt}
use Rattle.copy_follow.specs.OneHonestRun.{HasNone, HasPart, HasReached, HasSize, HoldsPartOrNone, IsCopyFrom, IsFirstPoint, IsHonestAmong, IsHonestFirst, IsHonestListed, IsHonestRun, IsOfShelfOrMemory, KeepsPoint, ReachesLog, ReachesSize}
use Rattle.copy_follow.specs.Rule.{copy_point}
use Rattle.copy_follow.specs.RunStanding.{HadCopy, HoldsNoCopy, IsCopyOfRun, IsCopyRead, PrunedAs, PrunedUnder, size_of_copy}
use Rattle.copy_follow.specs.TurnsTaken.{IsLargerThan}
use Rattle.copy_follow.specs.Blame.{of_candidates}
use Rattle.copy_follow.specs.declared.follow_fault.FollowFault.{FollowFault}
use Rattle.copy_follow.specs.declared.follow_fault.FollowFault.TheVariants as fault
use Rattle.copy_follow.specs.declared.report.Followed.{Followed}
use Rattle.copy_follow.specs.declared.run.Run.{Run}
use Rattle.copy_follow.proofs.Ending.{Reported, ends_so}
use Rattle.copy_follow.proofs.OneHonestRun.{honest_part, never_ends, not_refused}

none_sorted : IsSorted turn_cmp []
none_sorted = λ k d low lt. absurd (omega (arith, lt))

-- ---- there are no candidates

module _ {S : Type 0} (may : S → Path → Option (List ℕ) → Type 0) (origin : List ℕ) (keys : List Key) (x y : Places S) where
  no_candidates : (f : CandidateFault) → GiveNone may origin keys x y f → GiveCandidates may origin keys x y []
  no_candidates f n = record { answers = n.answers; answer_each = n.answer_each; are_of = n.are_of }

  places_give : (e : CandidateFault) → GiveNoneFor may origin keys x y e →
      (GiveCandidates may origin keys x y [] → ⊥) → IsOfShelfOrMemory (of_candidates e)
  places_give none.NoCheckpoint h some = absurd (some (no_candidates _ h))
  places_give (none.Head f) h some = absurd (some (no_candidates _ h))
  places_give none.Source h some = absurd (some (no_candidates _ h.1))
  places_give none.OutOfMemory h some = inr refl

  given_opens : (note : List ℕ) (e : CandidateFault) → RefusesGiven origin keys note e → (cs : List Candidate) →
      AreCandidates may origin keys x y (Some note) cs → IsOfShelfOrMemory (of_candidates e)
  given_opens note none.NoCheckpoint h cs are = absurd h
  given_opens note (none.Head f) h cs are =
      absurd (not_refused note origin keys are.candidate.size.0 are.candidate.root f are.opens.is_open h.1 h.0)
  given_opens note none.Source h cs are = absurd h
  given_opens note none.OutOfMemory h cs are = inr refl

  -- if the greatest candidate is an honest place's, or one of the candidates is, there are candidates
  pub some_given : (digest : List ℕ → List ℕ) (puts : Option (List Put)) (given : Option (List ℕ)) (e : CandidateFault) →
      LacksCandidates may origin keys x y given e →
      IsHonestRun digest may puts x y origin (AreCandidates may origin keys x y given) → IsOfShelfOrMemory (of_candidates e)
  some_given digest puts None e lacks h = places_give e lacks (λ none. h.greatest [] none none_sorted)
  some_given digest puts (Some note) e lacks h = given_opens note e lacks h.some.0 h.some.1

  pub one_given : (digest : List ℕ → List ℕ) (puts held : Option (List Put)) (given : Option (List ℕ)) (e : CandidateFault) →
      LacksCandidates may origin keys x y given e →
      IsHonestAmong digest may puts x y origin held (AreCandidates may origin keys x y given) → IsOfShelfOrMemory (of_candidates e)
  one_given digest puts held None e lacks h =
      places_give e lacks (λ none. let o = h.among [] none in absurd (let lt : o.listed.0 < 0 = o.listed.1 in omega (arith, lt)))
  one_given digest puts held (Some note) e lacks h = given_opens note e lacks h.some.0 h.some.1

-- ---- the first of the candidates

known_same : (x y : Option (List Put)) (held : List Put) → x ≡ Some held → KeepsRecord x y → y ≡ x
known_same None y held is kept = absurd (cc is)
known_same (Some us) None held is kept = absurd kept
known_same (Some us) (Some vs) held is kept = ap Some kept

holds_same : (digest : List ℕ → List ℕ) (origin : List ℕ) (entries : List (List ℕ)) (x y : Option (List Put)) →
    HoldsPartOrNone digest origin entries x → KeepsRecord x y → y ≡ x
holds_same digest origin entries x y (HasPart h) kept = known_same x y h.held h.is kept
holds_same digest origin entries x y (HasNone held is none) kept = known_same x y held is kept

-- the first of the candidates, in the order of turns
pub record HasFirst (candidates : List Candidate) (size : ℕ) (root : List ℕ) : Type 0 where
  pub first : Candidate
  pub others : List Candidate
  pub are : candidates ≡ first ∷ others
  pub size_is : first.size.0 ≡ size
  pub root_is : first.root ≡ root

has_first : (candidates : List Candidate) (size : ℕ) (root : List ℕ) → IsFirstPoint candidates size root →
    HasFirst candidates size root
has_first [] size root h = absurd h
has_first (c ∷ cs) size root h = record { first = c; others = cs; are = refl; size_is = h.0; root_is = h.1 }

module _ (digest : List ℕ → List ℕ) {S : Type 0} (may : S → Path → Option (List ℕ) → Type 0) (origin : List ℕ)
    (x : Option (List Put)) (start new : Places S) (so : List Candidate → Type 0)
    (h : IsHonestRun digest may x start new origin so) (candidates : List Candidate) (gathered : so candidates)
    (rising : IsSorted turn_cmp candidates) where
  abbrev FirstOf : HasFirst candidates h.size h.root
  FirstOf = has_first candidates h.size h.root (h.greatest candidates gathered rising)

  -- after the requests for candidates
  pub honest_first : (failed : S → ℕ) (asked : S → Option (List Path)) (mid : Places S) →
      AsksAny may failed asked start mid → AsksAny may failed asked mid new → (y : Option (List Put)) → KeepsRecord x y →
      (copy : Option Candidate) → IsCopyOfRun digest origin x y copy → (list : List Candidate) → list ≡ candidates →
      (k : IsHonestFirst digest may y mid new origin copy list) × (k.first.size.0 ≡ h.size) × (k.first.root ≡ h.root)
  honest_first failed asked mid p q y kept copy known list are =
      let f = FirstOf in
      let same = holds_same digest origin h.entries x y h.holds kept in
      let k : IsHonestFirst digest may y mid new origin copy list = record {
        entries = h.entries;
        first = f.first;
        others = f.others;
        candidates_are = are ∙ f.are;
        honest = subst (λ o. IsHonestFor digest may o mid new h.entries f.first.size.0 f.first.root) (sym same)
            (subst (λ r. IsHonestFor digest may x mid new h.entries f.first.size.0 r) (sym f.root_is)
            (subst (λ n. IsHonestFor digest may x mid new h.entries n h.root) (sym f.size_is)
            (honest_part may failed asked start mid new new p q (any_same may failed asked new) x x (λ path bytes put. put)
            digest h.entries h.size h.root h.honest)));
        holds = subst (λ o. HoldsPartOrNone digest origin h.entries o) (sym same) h.holds;
        known = subst (λ o. IsCopyOfRun digest origin o y copy) (sym same) known;
      } in
      (k, f.size_is, f.root_is)

  -- ---- the answer

  -- a copy that was not smaller has the root of the log's first entries
  root_kept : (y : Option (List Put)) (copy : Option Candidate) (c : Candidate) → copy ≡ Some c →
      HadCopy digest origin x copy → IsCopyOfRun digest origin x y copy → c.root ≡ mth digest (take c.size.0 h.entries)
  root_kept y copy c is had known = root h.holds
    where
      by_stand : (first : List (List ℕ)) (w : Option (List Put)) → InTheEnd w (PrunedUnder digest origin c first) →
          c.size.0 ≡ length first → c.root ≡ mth digest first
      by_stand first None u size = absurd u
      by_stand first (Some now) u size =
          let all : c.size.0 ≡ length (first ++ u.more) = u.size_is in
          let none : u.more ≡ [] =
          nil_from_length u.more (omega (arith, size, all, length-append first u.more)) in
          u.root_is ∙ ap (mth digest) (ap (λ m. first ++ m) none ∙ append-nil first)

      root : HoldsPartOrNone digest origin h.entries x → c.root ≡ mth digest (take c.size.0 h.entries)
      root (HasNone held e none) = absurd (cc (is, had.none held e none))
      root (HasPart s) =
          let size : c.size.0 ≡ length s.first =
          (subst (IsCopyRead s.note (length s.first)) is (had.pruned s.held s.is s.note s.first s.copy)).1 in
          by_stand s.first y
          (subst (λ o. PrunedAs digest origin o s.first y) is (known.pruned s.held s.is s.note s.first s.copy)) size
          ∙ ap (mth digest) (sym (ap (λ n. take n h.entries) size ∙ ap (take (length s.first)) s.entries_are
          ∙ take-append_seam s.first s.more))

  module _ (y : Option (List Put)) (copy : Option Candidate) (had : HadCopy digest origin x copy)
      (known : IsCopyOfRun digest origin x y copy) (first : Candidate) (size_is : first.size.0 ≡ h.size)
      (root_is : first.root ≡ h.root) where
    under_size : (copy : Option Candidate) → IsLargerThan copy first → size_of_copy copy ≤ first.size.0
    under_size None larger = omega arith
    under_size (Some c) larger = omega (arith, larger)

    reached : (f : Followed) (now : Candidate) → f.copy ≡ copy_point (Some now) → f.old ≡ size_of_copy copy →
        (IsLargerThan copy first × IsOnePoint first now) ⊎ KeepsPoint copy first now →
        ReachesLog digest h.entries h.size (Ok f)
    reached f now is old (inl (larger, one)) =
        let less = under_size copy larger in
        let most : max h.size f.old ≡ h.size = omega (arith, old, less, size_is) in
        let size : now.size.0 ≡ max h.size f.old = sym one.0 ∙ size_is ∙ sym most in
        let root : now.root ≡ mth digest (take (max h.size f.old) h.entries) =
        sym one.1 ∙ (root_is ∙ (h.honest.root_is ∙ ap (λ k. mth digest (take k h.entries)) (sym most))) in
        is ∙ (λ i. Some (size i, root i))
    reached f now is old (inr k) =
        let before : f.old ≡ k.copy.size.0 = old ∙ ap size_of_copy k.is in
        let upto = k.upto in
        let most : max h.size f.old ≡ k.copy.size.0 = omega (arith, before, upto, size_is) in
        let size : now.size.0 ≡ max h.size f.old = sym k.same.0 ∙ sym most in
        let root : now.root ≡ mth digest (take (max h.size f.old) h.entries) =
        sym k.same.1 ∙ (root_kept y copy k.copy k.is had known ∙ ap (λ m. mth digest (take m h.entries)) (sym most)) in
        is ∙ (λ i. Some (size i, root i))

    pub report_reaches : (run : Run) (r : Result Followed FollowFault) → run.had ≡ size_of_copy copy →
        HasReached copy first run.copy → IfOk r (λ f. f.copy ≡ copy_point run.copy) → IfOk r (λ f. f.old ≡ run.had) →
        IfErr r (Reported candidates run) → ReachesLog digest h.entries h.size r
    report_reaches run (Ok f) had_is reaches is old ends =
        reached f reaches.now (is ∙ ap copy_point reaches.is) (old ∙ had_is) reaches.at
    report_reaches run (Err e) had_is reaches is old (inl memory) = inr memory
    report_reaches run (Err e) had_is reaches is old (inr none) = absurd (cc (none.0, reaches.is))

-- ---- one of the candidates

module _ (digest : List ℕ → List ℕ) {S : Type 0} (may : S → Path → Option (List ℕ) → Type 0) (origin : List ℕ)
    (x last : Option (List Put)) (start new : Places S) (so : List Candidate → Type 0)
    (h : IsHonestAmong digest may last start new origin x so) (candidates : List Candidate) (gathered : so candidates) where
  -- after the requests for candidates
  pub honest_listed : (failed : S → ℕ) (asked : S → Option (List Path)) (mid : Places S) →
      AsksAny may failed asked start mid → AsksAny may failed asked mid new → (y : Option (List Put)) → KeepsRecord x y →
      (copy : Option Candidate) → IsCopyOfRun digest origin x y copy → HadCopy digest origin x copy →
      (list : List Candidate) → list ≡ candidates →
      (k : IsHonestListed digest may last mid new origin y copy list) × (k.candidate.size.0 ≡ h.size)
  honest_listed failed asked mid p q y kept copy known had list are =
      let o = h.among candidates gathered in
      let same = holds_same digest origin h.entries x y h.holds kept in
      let k : IsHonestListed digest may last mid new origin y copy list = record {
        entries = h.entries;
        candidate = o.candidate;
        listed = subst (λ (l : List Candidate). Contains l o.candidate) (sym are) o.listed;
        honest = subst (λ r. IsHonestFor digest may last mid new h.entries o.candidate.size.0 r) (sym o.root_is)
            (subst (λ n. IsHonestFor digest may last mid new h.entries n h.root) (sym o.size_is)
            (honest_part may failed asked start mid new new p q (any_same may failed asked new) last last
            (λ path bytes put. put) digest h.entries h.size h.root h.honest));
        holds = subst (λ o. HoldsPartOrNone digest origin h.entries o) (sym same) h.holds;
        had = subst (λ o. HadCopy digest origin o copy) (sym same) had;
        known = subst (λ o. IsCopyOfRun digest origin o y copy) (sym same) known;
      } in
      (k, o.size_is)

  pub report_passes : (run : Run) (n : ℕ) (r : Result Followed FollowFault) → n ≡ h.size → HasSize n run.copy →
      IfOk r (λ f. f.copy ≡ copy_point run.copy) → IfErr r (Reported candidates run) → ReachesSize h.size r
  report_passes run n (Ok f) n_is s is ends =
      let upto = s.upto in
      let least : h.size ≤ s.now.size.0 = omega (arith, upto, n_is) in
      subst (IsCopyFrom h.size) (sym (is ∙ ap copy_point s.is)) least
  report_passes run n (Err e) n_is s is (inl memory) = inr memory
  report_passes run n (Err e) n_is s is (inr none) = absurd (cc (none.0, s.is))

-- the shelf has the copy or no checkpoint, and the turns ended with a fault
pub part_stands : (digest : List ℕ → List ℕ) (origin : List ℕ) (entries : List (List ℕ)) (x : Option (List Put))
    (e : FollowFault) → HoldsPartOrNone digest origin entries x → EndsAt (HoldsNoCopy digest origin x) e →
    IsOfShelfOrMemory e
part_stands digest origin entries x e h ends =
    let Stood = HoldsNoCopy digest origin x → ⊥ in
    never_ends Stood e (stood h)
    (ends_so (HoldsNoCopy digest origin x) (HoldsNoCopy digest origin x) (Stood → ⊥) (Stood → ⊥) e
    (λ lost stood. stood lost) (λ lost stood. stood lost) ends)
  where
    stood : HoldsPartOrNone digest origin entries x → HoldsNoCopy digest origin x → ⊥
    stood (HasPart h) lost = lost.no_pruned h.held h.is h.note h.first h.copy
    stood (HasNone held is none) lost = lost.not_none (record { held = held; is = is; none = none })
