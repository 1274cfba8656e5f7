-- Runs that bring a copy to one note after the other.
use Rattle.std.proofs.Common.{◌≡◌, ◌≢◌, ◌⊎◌, ℕ, ◌≤◌, List, [], ◌++◌, length, take, drop, Option, Some, None, refl, sym, ap, subst, ◌∙◌, inl, inr, arith, ◌<◌, get_or, map, All, append_assoc, length-append, take-append-drop}
use Rattle.std.specs.Prelude.{Contains, Result}
use Rattle.std.proofs.Math.ListN.{get_or-map}
use Rattle.std.proofs.Math.Seq.{take-append_seam}
use Rattle.std.proofs.lemmas.Bool.{cases_lt}
use Rattle.std.proofs.lemmas.List.{append-nil, append_cancel_left, length-map, take-append-le}
use Rattle.std.proofs.lemmas.List.Elements.{Contains-get_or, All-append, All-contains, All-weaker, Contains-append_left}
use Rattle.tlog_tiles.specs.declared.paths.Path.{Path}
use Rattle.tlog_tiles.specs.declared.paths.Path.TheVariants.{Checkpoint, Tile, Entries}
use Rattle.tlog_tiles.specs.Tiles.{IsWithin}
use Rattle.mirror_sources.specs.Recorded.{AddsToRecord, KeepsRecord}
use Rattle.mirror_folders.specs.Shelf.{Put, HasPut, Stands}
use Rattle.mirror_folders.specs.Holding.{IsMoment, HoldsFiles}
use Rattle.mirror_folders.specs.FileLaws.{IsFileOf}
use Rattle.mirror_folders.specs.Files.{served_bytes}
use Rattle.mirror_folders.proofs.AllFiles.{files_are_all}
use Rattle.mirror_folders.proofs.Standing.{stands_more}
use Rattle.copy_places.proofs.Prefixes.{within_more}
use Rattle.copy_follow.specs.Copies.{IsCopy}
use Rattle.copy_follow.specs.Moments.{AtEachMoment, IsGrownCopy, KeepsCopy, PutsBeyond}
use Rattle.copy_follow.specs.Pruned.{IsGrownPruned, IsPrunedCopy, LeavesPruned}
use Rattle.copy_follow.proofs.Growth.{adds_then}
use Rattle.copy_follow.proofs.WholeMoments.{at_kept, beyond_same, whole_same}
use Rattle.copy_places.specs.Candidates.{note_of}
use Rattle.copy_places.specs.declared.candidate.Candidate.{Candidate}
use Rattle.copy_follow.specs.Runs.{IsGrownUnder, IsPrunedUnder, KeepsCopies, KeepsEach, KeepsPrunedCopies, KeepsPrunedCopy, RunsKeepCopies}

-- ---- moments of two calls

-- two lists are equal, and each is cut in two. The shorter first part begins the longer one
front_of : (a b c d : List Put) → a ++ b ≡ c ++ d → length a ≤ length c → c ≡ a ++ drop (length a) c
front_of a b c d same le =
    let begins : take (length a) c ≡ a =
    sym (take-append-le (length a) c d le) ∙ (ap (take (length a)) (sym same) ∙ take-append_seam a b) in
    sym (take-append-drop (length a) c) ∙ ap (λ (l : List Put). l ++ drop (length a) c) begins

module _ (held first last mid new : List Put) (mid_is : mid ≡ held ++ first) (new_is : new ≡ mid ++ last)
    (now : List Put) (at : IsMoment held new now) where
  both : at.so_far ++ at.later ≡ first ++ last
  both = append_cancel_left held (at.so_far ++ at.later) (first ++ last)
      (sym (append_assoc held at.so_far at.later)
      ∙ (ap (λ (l : List Put). l ++ at.later) (sym at.now_is)
      ∙ (sym at.new_is ∙ (new_is ∙ (ap (λ (l : List Put). l ++ last) mid_is ∙ append_assoc held first last)))))

  -- a moment of both calls is one of the first call or of the second
  moment_cases : IsMoment held mid now ⊎ IsMoment mid new now
  moment_cases = elim (cases_lt (length first) (length at.so_far)) [
    | inl more ↦
        let e : at.so_far ≡ first ++ drop (length first) at.so_far =
        front_of first last at.so_far at.later (sym both) (omega arith) in
        inr (record {
          so_far = drop (length first) at.so_far;
          later = at.later;
          now_is = at.now_is
              ∙ (ap (λ (l : List Put). held ++ l) e
              ∙ (sym (append_assoc held first (drop (length first) at.so_far))
              ∙ ap (λ (l : List Put). l ++ drop (length first) at.so_far) (sym mid_is)));
          new_is = at.new_is;
        })
    | inr upto ↦
        let e : first ≡ at.so_far ++ drop (length at.so_far) first =
        front_of at.so_far at.later first last both upto in
        inl (record {
          so_far = at.so_far;
          later = drop (length at.so_far) first;
          now_is = at.now_is;
          new_is = mid_is
              ∙ (ap (λ (l : List Put). held ++ l) e
              ∙ (sym (append_assoc held at.so_far (drop (length at.so_far) first))
              ∙ ap (λ (l : List Put). l ++ drop (length at.so_far) first) (sym at.now_is)));
        })
  ]

-- a fact at each moment of each of two calls holds at each moment of both together
splice : (held mid first last : List Put) (w : Option (List Put)) (so : List Put → Type 0) → mid ≡ held ++ first →
    AddsToRecord (Some mid) w last → ((now : List Put) → IsMoment held mid now → so now) → AtEachMoment mid w so →
    AtEachMoment held w so
splice held mid first last None so mid_is recorded f g = absurd g
splice held mid first last (Some new) so mid_is recorded f g = λ now at.
    elim (moment_cases held first last mid new mid_is recorded now at) [
      | inl early ↦ f now early
      | inr late ↦ g now late
    ]

-- the end is a moment
end_is : (held mid puts : List Put) → mid ≡ held ++ puts → IsMoment held mid mid
end_is held mid puts is = record { so_far = puts; later = []; now_is = is; new_is = sym (append-nil mid) }

-- a fact at each moment, and its consequence
at_each_weaker : (held : List Put) (w : Option (List Put)) (so also : List Put → Type 0) →
    ((new now : List Put) → w ≡ Some new → IsMoment held new now → so now → also now) → AtEachMoment held w so →
    AtEachMoment held w also
at_each_weaker held None so also f g = absurd g
at_each_weaker held (Some new) so also f g = λ now at. f new now refl at (g now at)

-- ---- files that stay on the shelf

-- a file of some entries is within them
file_within : (n : ℕ) (path : Path) → path ≢ Checkpoint → IsFileOf n path → IsWithin n path
file_within n Checkpoint other file = absurd (other refl)
file_within n (Tile level index width) other file = file.within
file_within n (Entries index width) other file = file.within

not_within : (n k : ℕ) → n ≤ k → (put : Put) → (IsWithin k put.0 → ⊥) → IsWithin n put.0 → ⊥
not_within n k le put beyond within = beyond (within_more n k put.0 le within)

-- puts beyond more entries are puts beyond fewer
beyond_fewer : (n k : ℕ) (held : List Put) (w : Option (List Put)) → n ≤ k → PutsBeyond k held w → PutsBeyond n held w
beyond_fewer n k held w le b = record {
  puts = b.puts;
  recorded = b.recorded;
  are_beyond = All-weaker (λ (put : Put). ¬ IsWithin k put.0) (λ (put : Put). ¬ IsWithin n put.0) (not_within n k le) b.puts
      b.are_beyond;
}

beyond_then : (n : ℕ) (held mid : List Put) (w : Option (List Put)) (b : PutsBeyond n held (Some mid)) →
    PutsBeyond n mid w → PutsBeyond n held w
beyond_then n held mid w b b' = record {
  puts = b.puts ++ b'.puts;
  recorded = adds_then (Some held) (Some mid) w b.puts b'.puts b.recorded b'.recorded;
  are_beyond = All-append (λ (put : Put). ¬ IsWithin n put.0) b.puts b'.puts b.are_beyond b'.are_beyond;
}

-- the files of some entries stay on the shelf while others are put
files_stay : (digest : List ℕ → List ℕ) (entries : List (List ℕ)) (held puts new now : List Put) →
    HoldsFiles digest entries held → new ≡ held ++ puts → All (λ put. ¬ IsWithin (length entries) put.0) puts →
    IsMoment held new now → HoldsFiles digest entries now
files_stay digest entries held puts new now files new_is beyond at path other listed =
    let split : at.so_far ++ at.later ≡ puts =
    append_cancel_left held (at.so_far ++ at.later) puts
    (sym (append_assoc held at.so_far at.later)
    ∙ (ap (λ (l : List Put). l ++ at.later) (sym at.now_is) ∙ (sym at.new_is ∙ new_is))) in
    let within = file_within (length entries) path other ((files_are_all (length entries) path).0 listed) in
    subst (λ (l : List Put). Stands l path (served_bytes digest [] entries path)) (sym at.now_is)
    (stands_more held at.so_far path (served_bytes digest [] entries path) (files path other listed)
    (λ bytes has. absurd (All-contains (λ (put : Put). ¬ IsWithin (length entries) put.0) puts (path, bytes) beyond
    (subst (λ (l : List Put). Contains l (path, bytes)) split
    (Contains-append_left at.so_far at.later (path, bytes) has)) within)))

-- ---- two runs in sequence

module _ (digest : List ℕ → List ℕ) (origin : List ℕ) (notes : List (List ℕ)) where
  abbrev Grown : List (List ℕ) → List Put → Type 0
  Grown entries puts = IsGrownUnder digest origin notes entries puts

  -- a copy that has grown twice has grown
  grown_more : (entries more : List (List ℕ)) (now : List Put) → HoldsFiles digest entries now →
      Grown (entries ++ more) now → Grown entries now
  grown_more entries more now files g = record {
    note = g.note;
    listed = g.listed;
    grown = record {
      more = more ++ g.grown.more;
      copy = subst (λ (l : List (List ℕ)). IsCopy digest origin g.note l now) (append_assoc entries more g.grown.more)
          g.grown.copy;
      kept = files;
    };
  }

  module _ (mid : List Put) (w : Option (List Put)) (second : KeepsCopies digest origin notes (Some mid) w)
      (entries : List (List ℕ)) (g : Grown entries mid) where
    longer : length entries ≤ length (entries ++ g.grown.more)
    longer = omega (arith, length-append entries g.grown.more)

    -- the puts after a copy has grown
    grown_beyond : PutsBeyond (length entries) mid w
    grown_beyond = beyond_fewer (length entries) (length (entries ++ g.grown.more)) mid w longer
        (second.beyond mid refl g.note (entries ++ g.grown.more) g.grown.copy)

    stay : (new now : List Put) → w ≡ Some new → IsMoment mid new now → HoldsFiles digest entries now
    stay new now is at =
        files_stay digest entries mid grown_beyond.puts new now g.grown.kept
        (subst (λ o. AddsToRecord (Some mid) o grown_beyond.puts) is grown_beyond.recorded) grown_beyond.are_beyond at

    -- a copy that has grown stays grown
    grown_stays : AtEachMoment mid w (Grown entries)
    grown_stays = at_each_weaker mid w
        (λ now. IsCopy digest origin g.note (entries ++ g.grown.more) now ⊎ Grown (entries ++ g.grown.more) now)
        (Grown entries)
        (λ new now is at so. elim so [
          | inl still ↦ record {
            note = g.note;
            listed = g.listed;
            grown = record { more = g.grown.more; copy = still; kept = stay new now is at };
          }
          | inr more ↦ grown_more entries g.grown.more now (stay new now is at) more
        ])
        (second.copy mid refl g.note (entries ++ g.grown.more) g.grown.copy)

  module _ (held mid : List Put) (w : Option (List Put)) (second : KeepsCopies digest origin notes (Some mid) w) where
    module _ (note : List ℕ) (entries : List (List ℕ)) where
      abbrev So : List Put → Type 0
      So now = IsCopy digest origin note entries now ⊎ Grown entries now

      copy_then : (b : PutsBeyond (length entries) held (Some mid)) →
          ((now : List Put) → IsMoment held mid now → So now) → So mid →
          AtEachMoment held w So × PutsBeyond (length entries) held w
      copy_then b f (inl still) =
          let b' = second.beyond mid refl note entries still in (
            splice held mid b.puts b'.puts w So b.recorded b'.recorded f (second.copy mid refl note entries still),
            beyond_then (length entries) held mid w b b',
          )
      copy_then b f (inr grown) =
          let b' = grown_beyond mid w second entries grown in (
            splice held mid b.puts b'.puts w So b.recorded b'.recorded f
                (at_each_weaker mid w (Grown entries) So (λ new now is at so. inr so)
                (grown_stays mid w second entries grown)),
            beyond_then (length entries) held mid w b b',
          )

    abbrev SoNone : List Put → Type 0
    SoNone now = (HasPut now Checkpoint → ⊥) ⊎ Grown [] now

    none_then : (b : PutsBeyond 0 held (Some mid)) → ((now : List Put) → IsMoment held mid now → SoNone now) →
        SoNone mid → AtEachMoment held w SoNone × PutsBeyond 0 held w
    none_then b f (inl none) =
        let b' = second.beyond_none mid refl none in (
          splice held mid b.puts b'.puts w SoNone b.recorded b'.recorded f (second.none mid refl none),
          beyond_then 0 held mid w b b',
        )
    none_then b f (inr grown) =
        let b' = grown_beyond mid w second [] grown in (
          splice held mid b.puts b'.puts w SoNone b.recorded b'.recorded f
              (at_each_weaker mid w (Grown []) SoNone (λ new now is at so. inr so)
              (grown_stays mid w second [] grown)),
          beyond_then 0 held mid w b b',
        )

  module _ (old w : Option (List Put)) where
    two_copy : (mid : Option (List Put)) → KeepsCopies digest origin notes old mid →
        KeepsCopies digest origin notes mid w → (held : List Put) → old ≡ Some held → (note : List ℕ)
        (entries : List (List ℕ)) → IsCopy digest origin note entries held →
        AtEachMoment held w (λ now. IsCopy digest origin note entries now ⊎ Grown entries now)
        × PutsBeyond (length entries) held w
    two_copy None first second held is note entries copy = absurd (first.copy held is note entries copy)
    two_copy (Some mid) first second held is note entries copy =
        let b = first.beyond held is note entries copy in
        let f = first.copy held is note entries copy in
        copy_then held mid w second note entries b f (f mid (end_is held mid b.puts b.recorded))

    two_none : (mid : Option (List Put)) → KeepsCopies digest origin notes old mid →
        KeepsCopies digest origin notes mid w → (held : List Put) → old ≡ Some held → (HasPut held Checkpoint → ⊥) →
        AtEachMoment held w (λ now. (HasPut now Checkpoint → ⊥) ⊎ Grown [] now) × PutsBeyond 0 held w
    two_none None first second held is none = absurd (first.none held is none)
    two_none (Some mid) first second held is none =
        let b = first.beyond_none held is none in
        let f = first.none held is none in
        none_then held mid w second b f (f mid (end_is held mid b.puts b.recorded))

    pub two_runs : (mid : Option (List Put)) → KeepsCopies digest origin notes old mid →
        KeepsCopies digest origin notes mid w → KeepsCopies digest origin notes old w
    two_runs mid first second = record {
      copy = λ held is note entries copy. (two_copy mid first second held is note entries copy).0;
      none = λ held is none. (two_none mid first second held is none).0;
      beyond = λ held is note entries copy. (two_copy mid first second held is note entries copy).1;
      beyond_none = λ held is none. (two_none mid first second held is none).1;
    }

  pub one_run : (note : List ℕ) (old w : Option (List Put)) → Contains notes note → KeepsCopy digest origin note old w →
      KeepsCopies digest origin notes old w
  one_run note old w listed k = record {
    copy = λ held is old_note entries copy.
        at_each_weaker held w
        (λ now. IsCopy digest origin old_note entries now ⊎ IsGrownCopy digest origin note entries now)
        (λ now. IsCopy digest origin old_note entries now ⊎ Grown entries now)
        (λ new now e at so. elim so [
          | inl still ↦ inl still
          | inr grown ↦ inr (record { note = note; listed = listed; grown = grown })
        ])
        (k.copy held is old_note entries copy);
    none = λ held is none.
        at_each_weaker held w
        (λ now. (HasPut now Checkpoint → ⊥) ⊎ IsGrownCopy digest origin note [] now)
        (λ now. (HasPut now Checkpoint → ⊥) ⊎ Grown [] now)
        (λ new now e at so. elim so [
          | inl still ↦ inl still
          | inr grown ↦ inr (record { note = note; listed = listed; grown = grown })
        ])
        (k.none held is none);
    beyond = k.beyond;
    beyond_none = k.beyond_none;
  }

  -- a call that puts nothing
  pub no_run : (old w : Option (List Put)) → KeepsRecord old w → KeepsCopies digest origin notes old w
  no_run old w kept =
      let k = whole_same digest origin [] old w kept in
      record {
        copy = λ held is note entries copy.
            at_kept old w held is kept (λ now. IsCopy digest origin note entries now ⊎ Grown entries now) (inl copy);
        none = λ held is none.
            at_kept old w held is kept (λ now. (HasPut now Checkpoint → ⊥) ⊎ Grown [] now) (inl none);
        beyond = k.beyond;
        beyond_none = k.beyond_none;
      }

-- ---- runs over a copy whose partial files may be replaced by full ones

module _ (digest : List ℕ → List ℕ) (origin : List ℕ) (notes : List (List ℕ)) where
  abbrev Replaced : List (List ℕ) → List Put → Type 0
  Replaced entries puts = IsPrunedUnder digest origin notes entries puts

  abbrev Either : List ℕ → List (List ℕ) → List Put → Type 0
  Either note entries now = IsPrunedCopy digest origin note entries now ⊎ Replaced entries now

  -- a copy that has grown twice has grown
  replaced_more : (entries more : List (List ℕ)) (now : List Put) → Replaced (entries ++ more) now → Replaced entries now
  replaced_more entries more now g = record {
    note = g.note;
    listed = g.listed;
    more = more ++ g.more;
    copy = subst (λ (l : List (List ℕ)). IsPrunedCopy digest origin g.note l now) (append_assoc entries more g.more) g.copy;
  }

  module _ (held mid : List Put) (w : Option (List Put)) (second : KeepsPrunedCopies digest origin notes (Some mid) w)
      (note : List ℕ) (entries : List (List ℕ)) (b : PutsBeyond (length entries) held (Some mid))
      (f : (now : List Put) → IsMoment held mid now → Either note entries now) where
    replaced_then : Either note entries mid → KeepsPrunedCopy digest origin notes note entries held w
    replaced_then (inl still) =
        let k = second mid refl note entries still in
        record {
          moments = splice held mid b.puts k.beyond.puts w (Either note entries) b.recorded k.beyond.recorded f k.moments;
          beyond = beyond_then (length entries) held mid w b k.beyond;
        }
    replaced_then (inr g) =
        let all = entries ++ g.more in
        let k = second mid refl g.note all g.copy in
        let b' = beyond_fewer (length entries) (length all) mid w (omega (arith, length-append entries g.more)) k.beyond in
        record {
          moments = splice held mid b.puts b'.puts w (Either note entries) b.recorded b'.recorded f
              (at_each_weaker mid w (Either g.note all) (Either note entries)
              (λ new now is at so. elim so [
                | inl still ↦ inr (record { note = g.note; listed = g.listed; more = g.more; copy = still })
                | inr more ↦ inr (replaced_more entries g.more now more)
              ])
              k.moments);
          beyond = beyond_then (length entries) held mid w b b';
        }

  replaced_runs : (old mid w : Option (List Put)) → KeepsPrunedCopies digest origin notes old mid →
      KeepsPrunedCopies digest origin notes mid w → KeepsPrunedCopies digest origin notes old w
  replaced_runs old None w first second held is note entries copy = absurd (first held is note entries copy).moments
  replaced_runs old (Some mid) w first second held is note entries copy =
      let k = first held is note entries copy in
      replaced_then held mid w second note entries k.beyond k.moments
      (k.moments mid (end_is held mid k.beyond.puts k.beyond.recorded))

  replaced_one : {T E : Type 0} (note : List ℕ) (old w : Option (List Put)) (r : Result T E) → Contains notes note →
      LeavesPruned digest origin note old w r → KeepsPrunedCopies digest origin notes old w
  replaced_one note old w r listed leaves held is old_note entries copy =
      let k = leaves held is old_note entries copy in
      record {
        moments = at_each_weaker held w
            (λ now. IsPrunedCopy digest origin old_note entries now ⊎ IsGrownPruned digest origin note entries now)
            (Either old_note entries)
            (λ new now e at so. elim so [
              | inl still ↦ inl still
              | inr grown ↦ inr (record { note = note; listed = listed; more = grown.more; copy = grown.copy })
            ])
            k.moments;
        beyond = k.beyond;
      }

  -- ---- runs over each copy

  -- a call that puts nothing
  pub each_none : (old w : Option (List Put)) → KeepsRecord old w → KeepsEach digest origin notes old w
  each_none old w kept = record {
    whole = no_run digest origin notes old w kept;
    pruned = λ held is note entries copy. record {
      moments = at_kept old w held is kept (Either note entries) (inl copy);
      beyond = beyond_same (length entries) held old w is kept;
    };
  }

  -- a call that brings a copy to one of the notes
  pub each_one : {T E : Type 0} (note : List ℕ) (old w : Option (List Put)) (r : Result T E) → Contains notes note →
      KeepsCopy digest origin note old w → LeavesPruned digest origin note old w r → KeepsEach digest origin notes old w
  each_one note old w r listed keeps leaves = record {
    whole = one_run digest origin notes note old w listed keeps;
    pruned = replaced_one note old w r listed leaves;
  }

  -- two runs in sequence
  pub each_then : (old w mid : Option (List Put)) → KeepsEach digest origin notes old mid →
      KeepsEach digest origin notes mid w → KeepsEach digest origin notes old w
  each_then old w mid first second = record {
    whole = two_runs digest origin notes old w mid first.whole second.whole;
    pruned = replaced_runs old mid w first.pruned second.pruned;
  }

pub runs_keep_copies : RunsKeepCopies
runs_keep_copies = record {
  one = λ digest origin notes note old new listed k. one_run digest origin notes note old new listed k;
  nothing = λ digest origin notes old new kept. no_run digest origin notes old new kept;
  two = λ digest origin notes old mid new first second. two_runs digest origin notes old new mid first second;
}

-- the note of a candidate of a list is one of their notes
pub listed_note : (candidates : List Candidate) (i : ℕ) (candidate : Candidate) → i < length candidates →
    candidate ≡ get_or candidates i candidate → Contains (map note_of candidates) (note_of candidate)
listed_note candidates i candidate inside is =
    let within : i < length (map note_of candidates) = omega (arith, length-map candidates note_of, inside) in
    subst (λ n. Contains (map note_of candidates) n)
    (get_or-map note_of candidates i candidate ∙ ap note_of (sym is))
    (Contains-get_or (map note_of candidates) i (note_of candidate) within)
