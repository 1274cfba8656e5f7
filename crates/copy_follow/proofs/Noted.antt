-- The note of the copy at the end.
use Rattle.std.proofs.Common.{◌≡◌, ◌⊎◌, inl, inr, ℕ, List, [], ◌++◌, length, All, Option, Some, None, Result, Ok, Err, IfOk, ap, sym, subst, ◌∙◌}
use Rattle.std.specs.List.Sorted.{IsSorted}
use Rattle.tlog_hash.specs.Tree.{mth}
use Rattle.mirror_folders.specs.Shelf.{Put}
use Rattle.copy_follow.specs.Copies.{IsCopy}
use Rattle.copy_follow.specs.Pruned.{IsPrunedCopy}
use Rattle.copy_places.specs.Candidates.{note_of, turn_cmp}
use Rattle.copy_places.specs.Lines.{AreLines, IsListed}
use Rattle.copy_places.specs.declared.candidate.Candidate.{Candidate}
use Rattle.copy_places.specs.declared.fork_line.ForkLine.{ForkLine}
use Rattle.copy_follow.specs.Rule.{IsOfCopy, copy_point}
use Rattle.copy_follow.specs.Says.{HasLeastInTheEnd, HasLeastNote, IsNoteOfOne, IsNoteUpTo, IsOldNote, IsUpToOld, Says, SettlesEach}
use Rattle.copy_follow.specs.RunStanding.{HadCopy, IsCopyOfRun, IsCopyRead, IsFoundCopy, PrunedUnder, StandsUnder}
use Rattle.copy_follow.specs.TurnsTaken.{HasTaken, HasTakenRun, IsGrown, IsOneOf}
use Rattle.copy_follow.specs.declared.report.Followed.{Followed}
use Rattle.copy_follow.specs.declared.run.Run.{Run}
use Rattle.copy_follow.proofs.Standing.{end_weaker}

up_to_old : (first : Option Candidate) (c : Candidate) (note : List ℕ) (n : ℕ) → IsCopyRead note n first →
    IsGrown first (Some c) → n ≡ c.size.0 → IsNoteUpTo (note_of c) note
up_to_old None c note n read grown e = absurd read
up_to_old (Some o) c note n read grown e = subst (IsNoteUpTo (note_of c)) read.0 (grown.1 (read.1 ∙ e))

-- the number of entries, and the root
abbrev size_in : Option (ℕ × List ℕ) → ℕ
size_in None = 0
size_in (Some point) = point.0

abbrev root_in : Option (ℕ × List ℕ) → List ℕ
root_in None = []
root_in (Some point) = point.1

module _ (digest : List ℕ → List ℕ) (origin : List ℕ) (candidates : List Candidate) (f : Followed) (c : Candidate)
    (copy_is : f.copy ≡ copy_point (Some c)) where
  abbrev NoteOf : Option (List ℕ) → Type 0
  NoteOf old = IsNoteOfOne candidates f (note_of c) ⊎ IsOldNote old (note_of c)

  note_of_one : IsListed candidates c → IsNoteOfOne candidates f (note_of c)
  note_of_one (one, among, same) = record {
    candidate = one;
    listed = among;
    note_is = same.note_is;
    copy_is = copy_is ∙ (λ i. Some (same.size_is i, same.root_is i));
  }

  had_some : (first : Option Candidate) (note : List ℕ) (n : ℕ) → IsCopyRead note n first →
      IsOneOf first candidates (Some c) → NoteOf (Some note)
  had_some None note n read one = absurd read
  had_some (Some o) note n read (inl same) = inr (same.note_is ∙ read.0)
  had_some (Some o) note n read (inr listed) = inl (note_of_one listed)

  had_none : IsOneOf None candidates (Some c) → NoteOf None
  had_none (inl same) = absurd same
  had_none (inr listed) = inl (note_of_one listed)

  module _ (first : Option Candidate) (forks : List ForkLine) (h : HasTaken digest first candidates (Some c) forks) where
    -- "such" is the kind of the copy
    least : (such : List ℕ → List (List ℕ) → List Put → Type 0) (old : Option (List ℕ)) (entries more : List (List ℕ))
        (now : List Put) → such (note_of c) (entries ++ more) now → c.size.0 ≡ length (entries ++ more) →
        c.root ≡ mth digest (entries ++ more) → IsUpToOld old entries (length (entries ++ more)) (note_of c) → NoteOf old →
        HasLeastNote digest origin candidates such f old entries now
    least such old entries more now copy size root up_to_old had = record {
      note = note_of c;
      more = more;
      copy = copy;
      copy_is = copy_is ∙ (λ i. Some (size i, root i));
      least = λ k d lt e. h.noted k d lt (ap size_in (sym e ∙ copy_is), ap root_in (sym e ∙ copy_is));
      up_to_old = up_to_old;
      had = had;
    }

    least_some : (such : List ℕ → List (List ℕ) → List Put → Type 0) (note : List ℕ) (entries more : List (List ℕ))
        (now : List Put) → IsCopyRead note (length entries) first → such (note_of c) (entries ++ more) now →
        c.size.0 ≡ length (entries ++ more) → c.root ≡ mth digest (entries ++ more) →
        HasLeastNote digest origin candidates such f (Some note) entries now
    least_some such note entries more now read copy size root =
        least such (Some note) entries more now copy size root
        (λ e. up_to_old first c note (length entries) read h.grown (e ∙ sym size))
        (had_some first note (length entries) read h.one_of)

    least_none : (now : List Put) → first ≡ None → StandsUnder digest origin c [] now →
        HasLeastNote digest origin candidates (IsCopy digest origin) f None [] now
    least_none now none u =
        least (IsCopy digest origin) None [] u.more now u.copy u.size_is u.root_is tt
        (had_none (subst (λ o. IsOneOf o candidates (Some c)) none h.one_of))

    noted_some : (x w : Option (List Put)) → HadCopy digest origin x first → IsCopyOfRun digest origin x w (Some c) →
        HasLeastInTheEnd digest origin candidates x w f
    noted_some x w had k = record {
      some = λ held e note entries copy.
          end_weaker w (StandsUnder digest origin c entries)
          (HasLeastNote digest origin candidates (IsCopy digest origin) f (Some note) entries)
          (λ now u. least_some (IsCopy digest origin) note entries u.more now (had.some held e note entries copy) u.copy
          u.size_is u.root_is) (k.some held e note entries copy);
      pruned = λ held e note entries copy.
          end_weaker w (PrunedUnder digest origin c entries)
          (HasLeastNote digest origin candidates (IsPrunedCopy digest origin) f (Some note) entries)
          (λ now u. least_some (IsPrunedCopy digest origin) note entries u.more now (had.pruned held e note entries copy)
          u.copy u.size_is u.root_is) (k.pruned held e note entries copy);
      none = λ held e none some.
          end_weaker w (StandsUnder digest origin c [])
          (HasLeastNote digest origin candidates (IsCopy digest origin) f None [])
          (λ now u. least_none now (had.none held e none) u) (k.none held e none);
    }

noted : (digest : List ℕ → List ℕ) (origin : List ℕ) (candidates : List Candidate) (f : Followed) (copy : Option Candidate)
    (first : Option Candidate) (forks : List ForkLine) → f.copy ≡ copy_point copy →
    HasTaken digest first candidates copy forks → (x w : Option (List Put)) → HadCopy digest origin x first →
    IsCopyOfRun digest origin x w copy → HasLeastInTheEnd digest origin candidates x w f
noted digest origin candidates f None first forks is h x w had k = record {
  some = λ held e note entries copy. absurd (k.some held e note entries copy);
  pruned = λ held e note entries copy. absurd (k.pruned held e note entries copy);
  none = λ held e none some. absurd (some is);
}
noted digest origin candidates f (Some c) first forks is h x w had k =
    noted_some digest origin candidates f c is first forks h x w had k

-- the facts that a report states, after all turns
pub says_by : (digest : List ℕ → List ℕ) (origin : List ℕ) (so : List Candidate → Type 0) (x w : Option (List Put))
    (first : Option Candidate) (candidates : List Candidate) (run : Run) {E : Type 0} (r : Result Followed E) →
    IfOk r (λ f. f.copy ≡ copy_point run.copy) →
    IfOk r (λ f. (digest : List ℕ → List ℕ) (first : Option Candidate) →
    HasTakenRun digest first candidates run → SettlesEach digest candidates f) →
    IfOk r (λ f. (digest : List ℕ → List ℕ) (first : Option Candidate) →
    HasTakenRun digest first candidates run → AreLines first candidates f.forks.items) →
    IfOk r (λ f. (digest : List ℕ → List ℕ) (first : Option Candidate) →
    HasTakenRun digest first candidates run → All (IsOfCopy first candidates f.copy) f.forks.items) →
    HasTakenRun digest first candidates run → IsFoundCopy origin x first → HadCopy digest origin x first → IsCopyOfRun digest origin x w run.copy →
    so candidates → IsSorted turn_cmp candidates → IfOk r (Says digest origin so x w)
says_by digest origin so x w first candidates run (Err e) copy settles lines of_copy h found had k gathered rising = tt
says_by digest origin so x w first candidates run (Ok f) copy settles lines of_copy h found had k gathered rising = record {
  candidates = candidates;
  gathered = gathered;
  rising = rising;
  settles = settles digest first h;
  first = first;
  found = found;
  lines = lines digest first h;
  of_copy = of_copy digest first h;
  noted = noted digest origin candidates f run.copy first run.forks.items copy h.taken x w had k;
}

-- the same of candidates of which more is known
pub says_so : (digest : List ℕ → List ℕ) (origin : List ℕ) (so other : List Candidate → Type 0) →
    ((candidates : List Candidate) → so candidates → other candidates) → (x w : Option (List Put)) {E : Type 0}
    (r : Result Followed E) → IfOk r (Says digest origin so x w) → IfOk r (Says digest origin other x w)
says_so digest origin so other f x w (Err e) h = tt
says_so digest origin so other f x w (Ok done) h = record {
  candidates = h.candidates;
  gathered = f h.candidates h.gathered;
  rising = h.rising;
  settles = h.settles;
  first = h.first;
  found = h.found;
  lines = h.lines;
  of_copy = h.of_copy;
  noted = h.noted;
}
