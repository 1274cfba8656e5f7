-- One honest place suffices for a run, turn after turn.
use Rattle.std.proofs.Common.{◌≡◌, ◌≢◌, ◌⊎◌, inl, inr, ℕ, ◌+◌, ◌-◌, ◌<◌, ◌≤◌, List, [], ◌∷◌, ◌++◌, length, map, take, get_or, Option, Some, None, Result, Ok, Err, OnOk, refl, sym, ap, subst, ◌∙◌, arith, length-append, length-take}
use Rattle.std.proofs.lemmas.Bool.{cases_lt}
use Rattle.std.proofs.lemmas.List.{append-nil, get_or-take, get_or_default, nil_from_length, take_all, take_more}
use Rattle.std.proofs.lemmas.List.Elements.{Contains-append_left, Contains-push_cases}
use Rattle.std.proofs.Math.Seq.{take-append-add}
use Rattle.std.specs.List.{Contains}
use Rattle.std.specs.List.Sorted.{IsSorted}
use Rattle.tlog_hash.specs.Tree.{mth}
use Rattle.tlog_hash.proofs.Trees.{mth-none}
use Rattle.tlog_tiles.specs.declared.paths.Path.{Path}
use Rattle.tlog_tiles.specs.declared.paths.Path.TheVariants as path
use Rattle.tlog_checkpoint.specs.declared.Checkpoint.{Checkpoint}
use Rattle.signed_note.specs.Keys.{Key}
use Rattle.mirror_model.specs.Heads.{IsOpenHead}
use Rattle.mirror_model.specs.Refusals.{ReadsHead}
use Rattle.mirror_model.specs.declared.fault.TakeFault.{TakeFault}
use Rattle.mirror_model.specs.declared.fault.TakeFault.TheVariants as taking
use Rattle.mirror_model.proofs.RefusedHeads.{head_notes_are_read_once, open_heads_are_read}
use Rattle.mirror_sources.specs.Recorded.{AddsToRecord}
use Rattle.mirror_folders.specs.Shelf.{Put, RecordsSome}
use Rattle.log_reader.proofs.Kept.{kept_once}
use Rattle.copy_places.specs.TruePlaces.{IsTruePlace}
use Rattle.copy_places.specs.Giving.{MayGive}
use Rattle.copy_places.specs.declared.places.Places.{Places}
use Rattle.copy_places.proofs.Giving.{part_weaker}
use Rattle.copy_follow.specs.OneHonest.{HoldsFirst, HoldsNone, HoldsPruned, IsHonestFor, IsHonestNote}
use Rattle.copy_follow.specs.Pruned.{IsPrunedCopy}
use Rattle.copy_follow.specs.Taken.{FilesAreClear, MayTake, WasPut}
use Rattle.copy_follow.proofs.OneHonest.{edges_clear}
use Rattle.copy_places.specs.Requests.{AsksAny}
use Rattle.copy_places.specs.Candidates.{IsOnePoint, note_of, turn_cmp}
use Rattle.copy_places.specs.declared.candidate.Candidate.{Candidate}
use Rattle.copy_places.proofs.Requests.{any_same, any_then}
use Rattle.copy_follow.specs.Ending.{EndsAt, EndsRun, HasFalseRoot}
use Rattle.copy_follow.specs.OneHonestRun.{HasNone, HasPart, HasReached, HasSize, HoldsPart, HoldsPartOrNone, IsHonestFirst, IsHonestListed, IsHonestTurn, IsOfShelfOrMemory, KeepsPoint, StepsUp}
use Rattle.copy_follow.specs.Runs.{KeepsEach}
use Rattle.copy_follow.specs.RunStanding.{HadCopy, HasStanding, HoldsNoCopy, IsCopyNow, IsCopyOfRun, IsCopyRead, IsHeadOf, KnowsAfter, PrunedAs, StandsOrNone}
use Rattle.copy_follow.specs.TurnsTaken.{IsAbove, IsLargerThan, IsRepeat, SaysTurn}
use Rattle.copy_follow.specs.declared.follow_fault.FollowFault.{FollowFault}
use Rattle.copy_follow.specs.declared.follow_fault.FollowFault.TheVariants as fault
use Rattle.copy_follow.specs.declared.run.Outcome.{Outcome}
use Rattle.copy_follow.specs.declared.run.Outcome.TheVariants as turn
use Rattle.copy_follow.proofs.Runs.{each_none, each_then}
use Rattle.copy_follow.proofs.Standing.{standing_as, standing_none}
use Rattle.copy_follow.proofs.TurnOrder.{again, falls, none_above}

-- ---- an honest place, call after call

module _ (take also : Path → List ℕ → Type 0) (f : (path : Path) (bytes : List ℕ) → also path bytes → take path bytes)
    (digest : List ℕ → List ℕ) (log : List (List ℕ)) where
  files_clear : FilesAreClear digest log take → FilesAreClear digest log also
  files_clear c = record {
    tile = λ level index some bytes row taken is.
        c.tile level index some bytes row (f (path.Tile level index 256) bytes taken) is;
    bundle = λ index width bytes es taken is.
        c.bundle index width bytes es (part_weaker also take f (path.Entries index width) bytes taken) is;
  }

module _ {S : Type 0} (may : S → Path → Option (List ℕ) → Type 0) (failed : S → ℕ) (asked : S → Option (List Path))
    (x y z w : Places S) (p : AsksAny may failed asked x y) (q : AsksAny may failed asked y z)
    (r : AsksAny may failed asked z w) where
  true_part : (digest : List ℕ → List ℕ) (entries : List (List ℕ)) (index : ℕ) → IsTruePlace digest entries may x w index →
      IsTruePlace digest entries may y z index
  true_part digest entries index t =
      let a = p.each index t.none in
      let b = q.each index t.none in
      let c = r.each index t.none in
      let first = a.more in
      let second = b.more in
      let third = c.more in
      let same = t.answers in
      let few = t.asked in
      record {
        none = t.none;
        listed = let lt = t.listed in omega (arith, lt, p.count);
        gives = λ path within answer h. t.gives path within answer (a.later.stays path answer h);
        asked = omega (arith, first, second, third, same, few);
        answers = omega (arith, first, second, third, same);
      }

  given_part : (path : Path) (bytes : List ℕ) → MayGive may y path bytes → MayGive may x path bytes
  given_part path bytes g = record {
    index = g.index;
    listed = let lt = g.listed in omega (arith, lt, p.count);
    may_be = λ d. (p.each g.index d).later.stays path (Some bytes) (g.may_be d);
  }

  module _ (a b : Option (List Put)) (puts : (path : Path) (bytes : List ℕ) → WasPut a path bytes → WasPut b path bytes) where
    take_part : (path : Path) (bytes : List ℕ) → MayTake may y a path bytes → MayTake may x b path bytes
    take_part path bytes (inl put) = inl (puts path bytes put)
    take_part path bytes (inr given) = inr (given_part path bytes given)

    -- a place that is honest in a call is honest in a part of it, if no more was put
    pub honest_part : (digest : List ℕ → List ℕ) (entries : List (List ℕ)) (size : ℕ) (root : List ℕ) →
        IsHonestFor digest may b x w entries size root → IsHonestFor digest may a y z entries size root
    honest_part digest entries size root h = record {
      one = record {
        short = h.one.short;
        upto = h.one.upto;
        place = record {
          index = h.one.place.index;
          place = true_part digest entries h.one.place.index h.one.place.place;
        };
        clear = files_clear (MayTake may x b) (MayTake may y a) take_part digest (take size entries) h.one.clear;
      };
      root_is = h.root_is;
      edges = edges_clear (MayTake may x b) (MayTake may y a) take_part digest (take size entries) h.edges;
    }

-- ---- faults

-- if the shelf has the copy, a turn ends only since the shelf failed, or memory was refused
pub never_ends : (A : Type 0) (e : FollowFault) → A → EndsAt (A → ⊥) e → IsOfShelfOrMemory e
never_ends A fault.NoCheckpoint a h = absurd h
never_ends A (fault.Head f) a h = absurd h
never_ends A fault.CopyDamaged a h = absurd (h a)
never_ends A fault.CopyInUse a h = absurd (h a)
never_ends A fault.ShelfFault a h = inl refl
never_ends A fault.Contradiction a h = absurd h
never_ends A fault.Collision a h = absurd h
never_ends A fault.NoFile a h = absurd h
never_ends A fault.Source a h = absurd h
never_ends A fault.OutOfMemory a h = inr refl

-- the same for the first read of the shelf
pub never_damaged : (digest : List ℕ → List ℕ) (origin : List ℕ) (entries : List (List ℕ)) (puts : Option (List Put))
    (e : FollowFault) → HoldsPartOrNone digest origin entries puts → EndsRun (HoldsNoCopy digest origin puts) ⊥ e →
    (e ≡ fault.CopyDamaged → RecordsSome puts path.Checkpoint) → IsOfShelfOrMemory e
never_damaged digest origin entries puts fault.NoCheckpoint h ends some = absurd ends
never_damaged digest origin entries puts (fault.Head f) h ends some = absurd ends
never_damaged digest origin entries puts fault.CopyDamaged (HasPart h) ends some =
    absurd (ends.no_pruned h.held h.is h.note h.first h.copy)
never_damaged digest origin entries puts fault.CopyDamaged (HasNone held is none) ends some =
    absurd (none (subst (λ o. RecordsSome o path.Checkpoint) is (some refl)))
never_damaged digest origin entries puts fault.CopyInUse h ends some = absurd ends
never_damaged digest origin entries puts fault.ShelfFault h ends some = inl refl
never_damaged digest origin entries puts fault.Contradiction h ends some = absurd ends
never_damaged digest origin entries puts fault.Collision h ends some = absurd ends
never_damaged digest origin entries puts fault.NoFile h ends some = absurd ends
never_damaged digest origin entries puts fault.Source h ends some = absurd ends
never_damaged digest origin entries puts fault.OutOfMemory h ends some = inr refl

-- a note that opens is not refused
pub not_refused : (note origin : List ℕ) (keys : List Key) (size : ℕ) (root : List ℕ) (f : TakeFault) →
    IsOpenHead note origin keys size root → ReadsHead note origin keys (Err f) → f ≢ taking.OutOfMemory → ⊥
not_refused note origin keys size root f head refused memory =
    let read = (open_heads_are_read note origin keys size root).0 head in
    let one : Result Checkpoint TakeFault = Ok read.checkpoint in
    let other : Result Checkpoint TakeFault = Err f in
    let same : one ≡ other =
    head_notes_are_read_once note origin keys one other read.is_open refused (λ e. cc e) (λ e. memory (cc e)) in
    cc same

-- ---- a turn

-- the root of an honest candidate without entries is the hash of the empty list
pub no_false_root : (digest : List ℕ → List ℕ) {S : Type 0} (may : S → Path → Option (List ℕ) → Type 0)
    (puts : Option (List Put)) (x y : Places S) (origin : List ℕ) (c : Candidate) →
    IsHonestTurn digest may puts x y origin c → HasFalseRoot digest c → ⊥
no_false_root digest may puts x y origin c h f =
    f.1 (h.honest.root_is ∙ (ap (λ n. mth digest (take n h.entries)) f.0 ∙ mth-none digest))

-- the note of an honest candidate is one to which bring_copy may bring the copy
pub honest_note : (digest : List ℕ → List ℕ) {S : Type 0} (may : S → Path → Option (List ℕ) → Type 0)
    (puts : Option (List Put)) (x y : Places S) (origin : List ℕ) (c : Candidate) → IsHeadOf origin c →
    IsHonestTurn digest may puts x y origin c → IsHonestNote digest may puts x y origin (note_of c)
honest_note digest may puts x y origin c head h = record {
  entries = h.entries;
  size = c.size.0;
  root = c.root;
  is_head = head;
  honest = h.honest;
  holds = h.holds;
}

-- a candidate that is honest in a call is honest in its first part
pub honest_before : (digest : List ℕ → List ℕ) {S : Type 0} (may : S → Path → Option (List ℕ) → Type 0) (failed : S → ℕ)
    (asked : S → Option (List Path)) (puts : Option (List Put)) (x y z : Places S) (origin : List ℕ) (c : Candidate) →
    AsksAny may failed asked x y → AsksAny may failed asked y z → IsHonestTurn digest may puts x z origin c →
    IsHonestTurn digest may puts x y origin c
honest_before digest may failed asked puts x y z origin c p q h = record {
  entries = h.entries;
  honest = honest_part may failed asked x x y z (any_same may failed asked x) p q puts puts (λ path bytes put. put) digest
      h.entries c.size.0 c.root h.honest;
  holds = h.holds;
}

-- ---- the content of the shelf

module _ (digest : List ℕ → List ℕ) (origin : List ℕ) (entries : List (List ℕ)) where
  -- a copy of fewer than n entries
  part_first : (n : ℕ) (first more : List (List ℕ)) → entries ≡ first ++ more → length first < n → n ≤ length entries →
      (puts : Option (List Put)) (now : List Put) → puts ≡ Some now → (note : List ℕ) →
      IsPrunedCopy digest origin note first now → HoldsFirst digest origin (take n entries) puts
  part_first n first more are less upto puts now is note copy =
      let k = n - length first in
      let sum : n ≡ length first + k = omega (arith, less) in
      let all : length entries ≡ length first + length more = ap length are ∙ length-append first more in
      HoldsPruned now is note first (take k more) copy
      (ap (take n) are ∙ ap (λ m. take m (first ++ more)) sum ∙ take-append-add first more k)
      (omega (arith, length-take k more, less, sum, all, upto))

  smaller : (c : Candidate) (copy : Option Candidate) (first : List (List ℕ)) (puts : Option (List Put)) →
      PrunedAs digest origin copy first puts → IsLargerThan copy c → length first < c.size.0
  smaller c None first puts s lt = absurd s
  smaller c (Some d) first None s lt = absurd s
  smaller c (Some d) first (Some now) s lt =
      let size : d.size.0 ≡ length (first ++ s.more) = s.size_is in
      omega (arith, size, lt, length-append first s.more)

  -- the copy that was read, if a candidate is larger
  pub first_of_log : (c : Candidate) (copy : Option Candidate) (puts : Option (List Put)) → c.size.0 ≤ length entries →
      HoldsPartOrNone digest origin entries puts → IsCopyOfRun digest origin puts puts copy → IsLargerThan copy c →
      HoldsFirst digest origin (take c.size.0 entries) puts
  first_of_log c copy puts upto (HasNone held is none) known larger = HoldsNone held is none
  first_of_log c copy puts upto (HasPart h) known larger =
      part_first c.size.0 h.first h.more h.entries_are
      (smaller c copy h.first puts (known.pruned h.held h.is h.note h.first h.copy) larger) upto puts h.held h.is h.note h.copy

  -- the same after turns that did not change it
  part_later : (c : Candidate) (copy : Option Candidate) (puts now : Option (List Put)) → c.size.0 ≤ length entries →
      HoldsPart digest origin entries puts → HadCopy digest origin puts copy → IsCopyOfRun digest origin puts now copy →
      IsLargerThan copy c → HoldsFirst digest origin (take c.size.0 entries) now
  part_later c copy puts now upto h had known larger =
      later copy now (had.pruned h.held h.is h.note h.first h.copy) (known.pruned h.held h.is h.note h.first h.copy) larger
    where
      later : (copy : Option Candidate) (now : Option (List Put)) → IsCopyRead h.note (length h.first) copy →
          PrunedAs digest origin copy h.first now → IsLargerThan copy c → HoldsFirst digest origin (take c.size.0 entries) now
      later None now read s lt = absurd s
      later (Some d) None read s lt = absurd s
      later (Some d) (Some w) read s lt =
          let size : d.size.0 ≡ length h.first = read.1 in
          let all : d.size.0 ≡ length (h.first ++ s.more) = s.size_is in
          let none : s.more ≡ [] =
          nil_from_length s.more (omega (arith, size, all, length-append h.first s.more)) in
          part_first c.size.0 h.first h.more h.entries_are (omega (arith, size, lt)) upto (Some w) w refl (note_of d)
          (subst (λ l. IsPrunedCopy digest origin (note_of d) l w) (ap (λ m. h.first ++ m) none ∙ append-nil h.first) s.copy)

  none_later : (c : Candidate) (now : Option (List Put)) → StandsOrNone digest origin None now →
      HoldsFirst digest origin (take c.size.0 entries) now
  none_later c None h = absurd h
  none_later c (Some w) h = HoldsNone w refl h

  pub first_later : (c : Candidate) (copy : Option Candidate) (puts now : Option (List Put)) → c.size.0 ≤ length entries →
      HoldsPartOrNone digest origin entries puts → HadCopy digest origin puts copy → IsCopyOfRun digest origin puts now copy →
      IsLargerThan copy c → HoldsFirst digest origin (take c.size.0 entries) now
  first_later c copy puts now upto (HasPart h) had known larger = part_later c copy puts now upto h had known larger
  first_later c copy puts now upto (HasNone held is none) had known larger =
      none_later c now (subst (λ o. StandsOrNone digest origin o now) (had.none held is none) (known.none held is none))

  -- the shelf has the copy of a run
  pub stands_now : (copy : Option Candidate) (puts now : Option (List Put)) → HoldsPartOrNone digest origin entries puts →
      IsCopyOfRun digest origin puts now copy → HasStanding digest origin copy now
  stands_now copy puts now (HasPart h) known =
      standing_as digest origin copy h.first now (known.pruned h.held h.is h.note h.first h.copy)
  stands_now copy puts now (HasNone held is none) known = standing_none digest origin copy now (known.none held is none)

  -- the puts before the last turns are in the list of puts after them
  pub put_later : (notes : List (List ℕ)) (copy : Option Candidate) (puts now last : Option (List Put)) →
      HoldsPartOrNone digest origin entries puts → IsCopyOfRun digest origin puts now copy →
      KeepsEach digest origin notes now last → (path : Path) (bytes : List ℕ) → WasPut now path bytes → WasPut last path bytes
  put_later notes copy puts now last h known keeps path bytes put =
      later copy now (stands_now copy puts now h known) keeps put
    where
      added : (held : List Put) (last : Option (List Put)) (puts : List Put) → AddsToRecord (Some held) last puts →
          Contains held (path, bytes) → WasPut last path bytes
      added held None puts adds put = tt
      added held (Some all) puts adds put =
          subst (λ (l : List Put). Contains l (path, bytes)) (sym adds) (Contains-append_left held puts (path, bytes) put)

      later : (copy : Option Candidate) (now : Option (List Put)) → HasStanding digest origin copy now →
          KeepsEach digest origin notes now last → WasPut now path bytes → WasPut last path bytes
      later None now s keeps put =
          let b = keeps.whole.beyond_none s.held s.is s.none in
          added s.held last b.puts b.recorded (subst (λ o. WasPut o path bytes) s.is put)
      later (Some d) now s keeps put =
          let b = (keeps.pruned s.held s.puts_are (note_of d) (s.entries ++ s.under.more) s.under.copy).beyond in
          added s.held last b.puts b.recorded (subst (λ o. WasPut o path bytes) s.puts_are put)

-- ---- the copy of a run

-- a candidate is larger than the copy, or not
larger_or : (copy : Option Candidate) (c : Candidate) →
    IsLargerThan copy c ⊎ ((o : Candidate) × (copy ≡ Some o) × (c.size.0 ≤ o.size.0))
larger_or None c = inl tt
larger_or (Some o) c = elim (cases_lt o.size.0 c.size.0) [
  | inl lt ↦ inl lt
  | inr le ↦ inr (o, refl, le)
]

module _ (read : Option Candidate) (first : Candidate) where
  abbrev At : Candidate → Type 0
  At now = (IsLargerThan read first × IsOnePoint first now) ⊎ KeepsPoint read first now

  at_upto : (now : Candidate) → At now → first.size.0 ≤ now.size.0
  at_upto now (inl h) = let same = h.1.0 in omega (arith, same)
  at_upto now (inr k) =
      let upto = k.upto in
      let same = k.same.0 in omega (arith, upto, same)

  at_moved : (now next : Candidate) → IsOnePoint next now → At now → At next
  at_moved now next e (inl h) = inl (h.0, (h.1.0 ∙ sym e.0, h.1.1 ∙ sym e.1))
  at_moved now next e (inr k) = inr (record {
    copy = k.copy;
    is = k.is;
    upto = k.upto;
    same = (k.same.0 ∙ sym e.0, k.same.1 ∙ sym e.1);
  })

  reached_up : (c : Candidate) (old new : Option Candidate) → c.size.0 ≤ first.size.0 → HasReached read first old →
      StepsUp c old new → HasReached read first new
  reached_up c old new upto h (inl same) = record { now = h.now; is = same ∙ h.is; at = h.at }
  reached_up c old new upto h (inr up) =
      let n = up.1 in
      let one : IsOnePoint c h.now = above (subst (λ o. IsAbove o c) h.is up.0) in
      record {
        now = n.now;
        is = n.is;
        at = at_moved h.now n.now (n.same.size_is ∙ one.0, n.same.root_is ∙ one.1) h.at;
      }
    where
      above : IsAbove (Some h.now) c → IsOnePoint c h.now
      above (inl lt) = let le = at_upto h.now h.at in absurd (omega (arith, le, lt, upto))
      above (inr a) = a.0

  -- the copy that was read is not smaller than the first candidate
  reached_read : (o : Candidate) → read ≡ Some o → first.size.0 ≤ o.size.0 → HasReached read first read
  reached_read o is upto = record {
    now = o;
    is = is;
    at = inr (record { copy = o; is = is; upto = upto; same = (refl, refl) });
  }

  reached_now : (copy : Option Candidate) → IsLargerThan read first → IsCopyNow first copy → HasReached read first copy
  reached_now copy larger n = record {
    now = n.now;
    is = n.is;
    at = inl (larger, (sym n.same.size_is, sym n.same.root_is));
  }

  -- a copy of at least n entries has at least n entries after a turn
  sized_up : (n : ℕ) (c : Candidate) (old new : Option Candidate) → HasSize n old → StepsUp c old new → HasSize n new
  sized_up n c old new h (inl same) = record { now = h.now; is = same ∙ h.is; upto = h.upto }
  sized_up n c old new h (inr up) =
      let k = up.1 in
      let le : h.now.size.0 ≤ c.size.0 = above (subst (λ o. IsAbove o c) h.is up.0) in
      record {
        now = k.now;
        is = k.is;
        upto = let first = h.upto in let size = k.same.size_is in omega (arith, first, le, size);
      }
    where
      above : IsAbove (Some h.now) c → h.now.size.0 ≤ c.size.0
      above (inl lt) = omega (arith, lt)
      above (inr a) = let size = a.0.0 in omega (arith, size)

  sized_now : (n : ℕ) (c : Candidate) (copy : Option Candidate) → n ≤ c.size.0 → IsCopyNow c copy → HasSize n copy
  sized_now n c copy le k = record {
    now = k.now;
    is = k.is;
    upto = let size = k.same.size_is in omega (arith, le, size);
  }

-- ---- turn after turn

module _ (digest : List ℕ → List ℕ) {S : Type 0} (may : S → Path → Option (List ℕ) → Type 0) (failed : S → ℕ)
    (asked : S → Option (List Path)) (origin : List ℕ) (x : Option (List Put)) (start : Places S)
    (read : Option Candidate) (cs : List Candidate) where
  abbrev Any : Places S → Places S → Type 0
  Any a b = AsksAny may failed asked a b

  abbrev First : Places S → Type 0
  First new = IsHonestFirst digest may x start new origin read cs

  abbrev Listed : Places S → Option (List Put) → Type 0
  Listed new last = IsHonestListed digest may last start new origin x read cs

  abbrev Known : Option (List Put) → Option Candidate → Type 0
  Known y copy =
      (first : Option (List Put)) → IsCopyOfRun digest origin first x read → IsCopyOfRun digest origin first y copy

  -- the copy is the one that was read, or it has at least the candidate's size. The latter holds if a candidate of that size and
  -- root had its turn
  pub record Passes (i : ℕ) (c : Candidate) (copy : Option Candidate) : Type 0 where
    pub kept : (copy ≡ read) ⊎ HasSize c.size.0 copy
    pub had : (d : Candidate) → Contains (take i cs) d → IsOnePoint d c → HasSize c.size.0 copy

  -- before a turn, with a place that is honest to the end: the run begins, or the first candidate had its turn
  pub record Reaching (i : ℕ) (y : Option (List Put)) (now : Places S) (copy : Option Candidate) : Type 0 where
    pub begun : i ≡ 0 → (y ≡ x) × (copy ≡ read)
    pub reached : 1 ≤ i → IsSorted turn_cmp cs → (new : Places S) → AsksAny may failed asked now new →
        (h : IsHonestFirst digest may x start new origin read cs) → HasReached read h.first copy
    pub passed : IsSorted turn_cmp cs → (new : Places S) (last : Option (List Put)) → AsksAny may failed asked now new →
        KeepsEach digest origin (map note_of cs) y last →
        (h : IsHonestListed digest may last start new origin x read cs) → Passes i h.candidate copy

  pub reach_begin : (copy : Option Candidate) → copy ≡ read → Reaching 0 x start copy
  reach_begin copy is = record {
    begun = λ e. (refl, is);
    reached = λ some. absurd (omega (arith, some));
    passed = λ rises new last r k h. record {
      kept = inl is;
      had = λ d listed. absurd (let lt : listed.0 < 0 = listed.1 in omega (arith, lt));
    };
  }

  first_at : (new : Places S) (h : First new) (i : ℕ) → i ≡ 0 → h.first ≡ get_or cs i h.first
  first_at new h i e =
      sym (ap (λ k. get_or cs k h.first) e ∙ ap (λ (l : List Candidate). get_or l 0 h.first) h.candidates_are)

  first_turn : (a b new : Places S) → Any start a → Any a b → Any b new → (h : First new) → IsLargerThan read h.first →
      (y : Option (List Put)) → y ≡ x → IsHonestTurn digest may y a b origin h.first
  first_turn a b new p q r h larger y e =
      subst (λ o. IsHonestTurn digest may o a b origin h.first) (sym e) (record {
        entries = h.entries;
        honest = honest_part may failed asked start a b new p q r x x (λ path bytes put. put) digest h.entries
            h.first.size.0 h.first.root h.honest;
        holds = first_of_log digest origin h.entries h.first read x h.honest.one.upto h.holds h.known larger;
      })

  module _ (i : ℕ) (y : Option (List Put)) (a b : Places S) (copy : Option Candidate) (before : Reaching i y a copy)
      (p : Any start a) (q : Any a b) where
    abbrev Suffices : (Candidate → Type 0) → Type 0
    Suffices so = IsRepeat cs i ⊎ ((c : Candidate) → c ≡ get_or cs i c → HasStanding digest origin copy y →
        IsLargerThan copy c → IsHonestTurn digest may y a b origin c → so c)

    -- the turn of the first candidate, if it is larger
    turn_suffices : (so : Candidate → Type 0) → Suffices so → Known y copy → (new : Places S) → Any b new → (h : First new) →
        i ≡ 0 → IsLargerThan read h.first → so h.first
    turn_suffices so (inl repeats) known new r h e larger = let some = repeats.0 in absurd (omega (arith, some, e))
    turn_suffices so (inr suffices) known new r h e larger =
        let begun = before.begun e in
        suffices h.first (first_at new h i e) (stands_now digest origin h.entries copy x y h.holds (known x h.known))
        (subst (λ o. IsLargerThan o h.first) (sym begun.1) larger)
        (first_turn a b new p q r h larger y begun.0)

    -- a turn that ends the run
    pub reach_fails : (e : FollowFault) → Suffices (λ c. IsOfShelfOrMemory e) →
        EndsAt (HasStanding digest origin copy y → ⊥) e → Known y copy → IsSorted turn_cmp cs → First b →
        IsOfShelfOrMemory e
    reach_fails e suffices ends known rises h = elim (cases_lt 0 i) [
      | inl more ↦ stood (before.reached (omega (arith, more)) rises b q h)
      | inr none ↦
          let start : i ≡ 0 = omega (arith, none) in
          elim (larger_or read h.first) [
            | inl larger ↦
                turn_suffices (λ c. IsOfShelfOrMemory e) suffices known b (any_same may failed asked b) h start larger
            | inr o ↦ stood (subst (HasReached read h.first) (sym (before.begun start).1)
                (reached_read read h.first o.0 o.1 o.2))
          ]
    ]
      where
        stood : HasReached read h.first copy → IsOfShelfOrMemory e
        stood r =
            never_ends (HasStanding digest origin copy y) e
            (stands_now digest origin h.entries copy x y h.holds (known x h.known)) ends

    module _ (lt : i < length cs) (c : Candidate) (is : c ≡ get_or cs i c) (z : Option (List Put)) (next : Option Candidate)
        (suffices : Suffices (λ c. IsCopyNow c next)) (steps : StepsUp c copy next) where
      reach_first : Known y copy → IsSorted turn_cmp cs → (new : Places S) → Any b new → (h : First new) →
          HasReached read h.first next
      reach_first known rises new r h =
          let up = none_above cs rises h.first h.others h.candidates_are c (i, lt, sym is) in
          elim (cases_lt 0 i) [
            | inl more ↦
                reached_up read h.first c copy next up
                (before.reached (omega (arith, more)) rises new (any_then may failed asked a b new q r) h) steps
            | inr none ↦
                let e : i ≡ 0 = omega (arith, none) in
                elim (larger_or read h.first) [
                  | inl larger ↦
                      reached_now read h.first next larger
                      (turn_suffices (λ c. IsCopyNow c next) suffices known new r h e larger)
                  | inr o ↦
                      reached_up read h.first c copy next up
                      (subst (HasReached read h.first) (sym (before.begun e).1) (reached_read read h.first o.0 o.1 o.2)) steps
                ]
          ]

      module _ (rises : IsSorted turn_cmp cs) (new : Places S) (last : Option (List Put)) (r : Any b new)
          (keeps : KeepsEach digest origin (map note_of cs) y last) (h : Listed new last) (known : Known y copy)
          (done : Passes i h.candidate copy) where
        abbrev Sized : Option Candidate → Type 0
        Sized o = HasSize h.candidate.size.0 o

        grown : Sized copy → Sized next
        grown s = sized_up read h.candidate h.candidate.size.0 c copy next s steps

        -- the turn of a candidate of that size and root
        turn_now : IsOnePoint c h.candidate → IsLargerThan copy c → (copy ≡ read) ⊎ Sized copy →
            ((d : Candidate) → d ≡ get_or cs i d → HasStanding digest origin copy y → IsLargerThan copy d →
            IsHonestTurn digest may y a b origin d → IsCopyNow d next) → Sized next
        turn_now one larger (inr s) turns = grown s
        turn_now one larger (inl same) turns =
            let size : c.size.0 ≡ h.candidate.size.0 = one.0 in
            let root : c.root ≡ h.candidate.root = one.1 in
            let upto = h.honest.one.upto in
            sized_now read h.candidate h.candidate.size.0 c next (omega (arith, size))
            (turns c is (stands_now digest origin h.entries copy x y h.holds (known x h.known)) larger (record {
              entries = h.entries;
              honest = subst (λ n. IsHonestFor digest may y a b h.entries n c.root) (sym size)
                  (subst (λ o. IsHonestFor digest may y a b h.entries h.candidate.size.0 o) (sym root)
                  (honest_part may failed asked start a b new p q r y last
                  (put_later digest origin h.entries (map note_of cs) copy x y last h.holds (known x h.known) keeps)
                  digest h.entries h.candidate.size.0 h.candidate.root h.honest));
              holds = first_later digest origin h.entries c copy x y (omega (arith, size, upto)) h.holds
                  (subst (λ o. HadCopy digest origin x o) (sym same) h.had) (known x h.known) larger;
            }))

        turned : IsOnePoint c h.candidate → Sized next
        turned one = elim suffices [
          | inl repeats ↦
              let one_before = again cs rises i c lt is repeats in
              grown (done.had one_before.one one_before.listed
              (one_before.same.0 ∙ one.0, one_before.same.1 ∙ one.1))
          | inr turns ↦ elim (larger_or copy c) [
            | inl larger ↦ turn_now one larger done.kept turns
            | inr o ↦
                let le = o.2 in
                let size = one.0 in
                grown (record { now = o.0; is = o.1; upto = omega (arith, le, size) })
          ]
        ]

        kept_next : (next ≡ read) ⊎ Sized next
        kept_next = elim done.kept [
          | inr s ↦ inr (grown s)
          | inl same ↦ elim steps [
            | inl stays ↦ inl (stays ∙ same)
            | inr up ↦ elim (cases_lt h.listed.0 i) [
              | inl earlier ↦
                  inr (grown (done.had h.candidate (taken_before earlier) (refl, refl)))
              | inr later ↦
                  inr (sized_now read h.candidate h.candidate.size.0 c next
                  (falls cs rises i c lt is h.listed.0 h.candidate later h.listed.1 (sym h.listed.2)) up.1)
            ]
          ]
        ]
          where
            taken_before : h.listed.0 < i → Contains (take i cs) h.candidate
            taken_before less = (
              h.listed.0,
              let n = length-take i cs in
                  let within = h.listed.1 in omega (arith, n, less, within),
              get_or-take i cs h.listed.0 h.candidate less ∙ h.listed.2,
            )

        passes_next : Passes (i + 1) h.candidate next
        passes_next = record {
          kept = kept_next;
          had = λ d listed one.
              elim (Contains-push_cases (take i cs) (get_or cs i c) d
              (subst (λ (l : List Candidate). Contains l d) (take_more cs i c lt) listed)) [
                | inl before ↦ grown (done.had d before one)
                | inr now ↦ turned (let e : c ≡ d = is ∙ now in (ap (λ k. k.size.0) e ∙ one.0, ap (λ k. k.root) e ∙ one.1))
              ];
        }

      pub reach_turn : Known y copy → KeepsEach digest origin (map note_of cs) y z → Reaching (i + 1) z b next
      reach_turn known kept = record {
        begun = λ e. absurd (omega (arith, e));
        reached = λ some rises new r h. reach_first known rises new r h;
        passed = λ rises new last r keeps h.
            let all = each_then digest origin (map note_of cs) y last z kept keeps in
            passes_next rises new last r all h known
            (before.passed rises new last (any_then may failed asked a b new q r) all h);
      }

  -- all candidates had their turn
  pub reach_all : (i : ℕ) (y : Option (List Put)) (now : Places S) (copy : Option Candidate) → length cs ≤ i →
      Reaching i y now copy → IsSorted turn_cmp cs → (h : First now) → HasReached read h.first copy
  reach_all i y now copy le before rises h =
      let some : length cs ≡ length (h.first ∷ h.others) = ap length h.candidates_are in
      before.reached (omega (arith, le, some)) rises now (any_same may failed asked now) h

  pub pass_all : (i : ℕ) (y : Option (List Put)) (now : Places S) (copy : Option Candidate) → length cs ≤ i →
      Reaching i y now copy → IsSorted turn_cmp cs → (h : Listed now y) → HasSize h.candidate.size.0 copy
  pass_all i y now copy le before rises h =
      (before.passed rises now y (any_same may failed asked now)
      (each_none digest origin (map note_of cs) y y (kept_once y)) h).had h.candidate
      (subst (λ (l : List Candidate). Contains l h.candidate) (sym (take_all i cs le)) h.listed) (refl, refl)

-- ---- one turn

-- the outcome of a turn, and the copy of the run after it
pub steps_up : (digest : List ℕ → List ℕ) (c : Candidate) (t : Outcome) (old new : Option Candidate) →
    SaysTurn digest old c t → KnowsAfter c t old new → StepsUp c old new
steps_up digest c turn.Agrees old new says knows = inl knows
steps_up digest c turn.Brought old new says knows = inr (says, knows)
steps_up digest c (turn.Forks proof) old new says knows = inl knows
steps_up digest c turn.Contradicts old new says knows = inl knows
steps_up digest c (turn.NotHad f) old new says knows = inl knows

-- the candidate at an index
pub same_at : (cs : List Candidate) (i : ℕ) → i < length cs → (c d : Candidate) → c ≡ get_or cs i c → d ≡ get_or cs i d → c ≡ d
same_at cs i lt c d e f = e ∙ get_or_default cs i c d lt ∙ sym f

pub steps_at : {T E : Type 0} (r : Result T E) (cs : List Candidate) (i : ℕ) → i < length cs → (c : Candidate) →
    c ≡ get_or cs i c → (old new : Option Candidate) → OnOk r (StepsUp c old new) →
    OnOk r ((d : Candidate) → d ≡ get_or cs i d → StepsUp d old new)
steps_at (Err e) cs i lt c is old new h = tt
steps_at (Ok t) cs i lt c is old new h = λ d e. subst (λ k. StepsUp k old new) (same_at cs i lt c d is e) h
