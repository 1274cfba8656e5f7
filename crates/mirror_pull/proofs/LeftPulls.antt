-- A pull keeps each file that an honest source gave before it failed.
use Rattle.std.proofs.Common.{◌≡◌, ◌⊎◌, ℕ, ◌+◌, ◌^◌, ◌<◌, ◌≤◌, List, [], ◌∷◌, ◌++◌, length, get_or, take}
use Rattle.std.proofs.Common.{arith, length-take, length-append, append_assoc, Contains, Option, Some, None, Result, Ok, Err}
use Rattle.std.proofs.Common.{refl, sym, ◌∙◌, ap, subst, inl, inr}
use Rattle.std.proofs.Common.{drop}
use Rattle.std.proofs.lemmas.List.{append-nil, get_or_append_left, length-map}
use Rattle.std.proofs.Math.Seq.{drop-append_seam}
use Rattle.signed_note.specs.Keys.{Key}
use Rattle.tlog_tiles.specs.declared.paths.Path.{Path}
use Rattle.tlog_tiles.specs.declared.paths.Path.TheVariants.{Checkpoint}
use Rattle.tlog_tiles.specs.Edge.{edge_of}
use Rattle.node_store.specs.Strings.{HasAll}
use Rattle.mirror_model.specs.View.{View, IsSubview}
use Rattle.mirror_model.specs.Strings.{IsDigest}
use Rattle.mirror_model.specs.Edge.{edge_rows, edge_strings}
use Rattle.mirror_model.specs.Front.{IsFront}
use Rattle.mirror_model.specs.Item.{plus}
use Rattle.mirror_model.specs.Listed.{ListsFront}
use Rattle.mirror_model.specs.Rounds.{true_strings}
use Rattle.mirror_model.specs.TrueLaws.{AreShort}
use Rattle.mirror_model.specs.declared.items.Item.TheVariants as item
use Rattle.mirror_model.proofs.Fetching.{answered_is_not_again}
use Rattle.mirror_model.proofs.StringSets.{held_from_holds, held_more}
use Rattle.mirror_model.proofs.TrueItems.{front_is_within, front_is_widest}
use Rattle.mirror_model.proofs.Views.{within_itself, within_plus}
use Rattle.mirror_sources.specs.Replies.{Reply, reply, asked_paths, MayReply}
use Rattle.mirror_sources.specs.Recorded.{AddsToRecord}
use Rattle.mirror_sources.specs.Honest.{Gets, GetsNone, IsHonest}
use Rattle.mirror_pull.specs.Honest.{AreFrontRounds, NoClashAmong, with_true}
use Rattle.mirror_pull.specs.Parts.{MayTake, MayWork}
use Rattle.mirror_pull.specs.Repeated.{FetchesFiles, KeepsFound, KeepsHonestly}
use Rattle.mirror_pull.specs.Replying.{Asks, AsksNew, AsksAgain, AsksNext, NextNone, NextPath, NextFull}
use Rattle.mirror_pull.specs.Replying.{IsInRounds, RoundsOver, RoundUnder, IsUnanswered, GetFailed, MemoryRefused}
use Rattle.mirror_pull.specs.Replying.{StopsTaking, StopsAsking, StopsClashed, StopsExhausted, EndsEarly, EndsAsking}
use Rattle.mirror_pull.specs.Replying.{EndsClashed, EndsExhausted, EndsTaking, IsBehindHead, FollowsReplies, with_replies}
use Rattle.mirror_pull.specs.declared.fault.PullFault.{PullFault}
use Rattle.mirror_pull.specs.declared.fault.PullFault.TheVariants.{NoCheckpoint, NoEdge, Head, Source, Collision}
use Rattle.mirror_pull.specs.declared.fault.PullFault.TheVariants.{OutOfMemory}
use Rattle.mirror_pull.specs.declared.pulling.Pulled.{Pulled}
use Rattle.mirror_pull.proofs.Askings.{paths_then}
use Rattle.mirror_pull.proofs.BegunPulls.{is_begun, may_go_on}
use Rattle.mirror_pull.proofs.Freshness.{gets_then}
use Rattle.mirror_pull.proofs.FrontRounds.{answer, gets_each, true_grows}
use Rattle.mirror_pull.proofs.Gains.{stays_itself}
use Rattle.mirror_pull.proofs.Orders.{sorted_differ}
use Rattle.mirror_pull.proofs.Repeated.{fetches_none, fetches_then, fetches_from, joined}
use Rattle.mirror_pull.proofs.TrueReplies.{may_split, rows_true, list_true, may_front, rounds_true, takes_split}
use Rattle.mirror_pull.proofs.TrueReplies.{next_taken, contains_front}
use Rattle.mirror_pull.proofs.TrueRows.{edge_tile}
use Rattle.mirror_pull.proofs.TrueWork.{wanted_front, round_may}

-- ---- the files of rounds

module _ (digest : List ℕ → List ℕ) (hash : IsDigest digest) (entries : List (List ℕ)) (short : AreShort entries)
    (size : ℕ) (le : size ≤ length entries) (less : size < 256 ^ 8) where
  small : length (take size entries) ≤ 256 ^ 8
  small = omega (arith, length-take size entries, le, less)

  abbrev pub HasEdge : View → Type 0
  HasEdge v = HasAll v.strings (edge_strings digest (edge_rows digest (take size entries)))

  edge_stays : (v w : View) → IsSubview v w → HasEdge v → HasEdge w
  edge_stays v w within edge =
      held_more v.strings w.strings (edge_strings digest (edge_rows digest (take size entries))) within.strings_are edge

  -- the first paths of a front were found, or their full paths were, and the files were taken
  pub front_fetched : (v w : View) (list before after founds : List Path) (xs : List Reply) → HasEdge v →
      list ≡ before ++ after → ListsFront digest v (take size entries) list →
      Gets (length entries) before xs founds → w ≡ with_true digest entries v founds →
      FetchesFiles digest (take size entries) v w before
  front_fetched v w list before after founds xs edge is lists got taken =
      let at : (p : Path) → Contains before p → Contains list p =
      λ p c. subst (λ (l : List Path). Contains l p) (sym is) (contains_front before after p c) in
      let front : (p : Path) → Contains before p → IsFront digest v.strings (take size entries) p =
      λ p c. (lists.exact p).0 (at p c) in
      record {
        grows = subst (IsSubview v) (sym taken) (true_grows digest entries founds v);
        within = λ p c. front_is_within digest v.strings (take size entries) small edge p (front p c);
        widest = λ p c. front_is_widest digest v.strings (take size entries) p (front p c);
        apart = λ i j d lt within e.
            let long : length list ≡ length before + length after =
            ap length is ∙ length-append before after in
            let there = λ (k : ℕ) (l : k < length before).
            ap (λ (q : List Path). get_or q k d) is ∙ get_or_append_left before after d k l in
            sorted_differ list lists.sorted i j d lt (omega (arith, within, long))
            (there i (omega (arith, lt, within)) ∙ (e ∙ sym (there j within)));
        lacked = λ p c held.
            answered_is_not_again digest v.strings (take size entries) small edge p held (front p c);
        held = λ p c. subst
            (λ (u : View). HasAll u.strings (true_strings digest (take size entries) p)) (sym taken)
            (held_from_holds (with_true digest entries v founds).strings (true_strings digest (take size entries) p)
            (answer digest hash entries short size v founds le less edge p (front p c)
            (gets_each (length entries) before founds xs got p c)));
      }

  -- rounds
  pub record RoundsFetch (v w : View) (files : List Path) (xs : List Reply) : Type 0 where
    pub founds : List Path
    pub gets : Gets (length entries) files xs founds
    pub fetches : FetchesFiles digest (take size entries) v w files

  rounds_join : (v x w : View) (fs gs : List Path) (xs ys : List Reply) → RoundsFetch v x fs xs →
      RoundsFetch x w gs ys → RoundsFetch v w (fs ++ gs) (xs ++ ys)
  rounds_join v x w fs gs xs ys p q = record {
    founds = p.founds ++ q.founds;
    gets = gets_then (length entries) fs p.founds gs q.founds xs ys p.gets q.gets;
    fetches = fetches_then digest (take size entries) v x w fs gs p.fetches q.fetches;
  }

  pub rounds_fetch : (lists : List (List Path)) (v w : View) (xs : List Reply) → HasEdge v →
      AreFrontRounds digest entries size v w lists xs → RoundsFetch v w (joined lists) xs
  rounds_fetch [] v w xs edge rounds = record {
    founds = [];
    gets = subst (λ (rs : List Reply). Gets (length entries) [] rs []) (sym rounds.1) GetsNone;
    fetches = fetches_none digest (take size entries) v w (subst (IsSubview v) (sym rounds.0) (within_itself v));
  }
  rounds_fetch (list ∷ lists) v w xs edge rounds =
      let x = rounds.0 in
      let round = rounds.3 in
      let fetched =
      front_fetched v x list list [] round.founds rounds.1 edge (sym (append-nil list)) round.front round.gets
      round.taken in
      let rest = rounds_fetch lists x w rounds.2 (edge_stays v x fetched.grows edge) rounds.4 in
      subst (λ (rs : List Reply). RoundsFetch v w (list ++ joined lists) rs) (sym rounds.5)
      (rounds_join v x w list (joined lists) rounds.1 rounds.2
      (record { founds = round.founds; gets = round.gets; fetches = fetched }) rest)

-- ---- the last gets of a round that the source ended

asks_few : (asked : List Path) (path : Path) (xs : List Reply) (found : Option (List ℕ)) → Asks asked path xs found →
    length xs ≤ 1
asks_few asked path xs found (AsksNew f new) = omega arith
asks_few asked path xs found (AsksAgain has) = omega arith

next_few : (asked ps : List Path) (xs : List Reply) (next : Option Path) → AsksNext asked ps xs next → length xs ≤ 1
next_few asked ps xs next (NextNone paths) = omega arith
next_few asked ps xs next (NextPath path paths fresh) = omega arith
next_few asked ps xs next (NextFull path paths none fresh) = asks_few asked path xs None none

-- the source failed in the rounds of a pull
pub record IsLeftBehind (digest : List ℕ → List ℕ) (keys : List Key) (v w : View) (replies : List Reply)
    (tried : List Path) : Type 0 where
  pub path : Path
  pub tried_is : tried ≡ path ∷ []
  pub at : IsBehindHead digest keys v replies w (Some path)

-- the source failed before the tree head was taken, or in the rounds
left_where : (digest : List ℕ → List ℕ) (keys : List Key) (v w : View) (e : PullFault) (replies : List Reply)
    (tried : List Path) → e ≡ Source → EndsEarly digest keys v w e replies tried →
    (w ≡ v) ⊎ IsLeftBehind digest keys v w replies tried
left_where digest keys v w e replies tried is (EndsAsking kept u) = inl kept
left_where digest keys v w e replies tried is (EndsClashed note rows given t) =
    let no : Collision ≡ Source = is in absurd cc
left_where digest keys v w e replies tried is (EndsExhausted note rows given t) =
    let no : OutOfMemory ≡ Source = is in absurd cc
left_where digest keys v w e replies tried is (EndsTaking stops) = inr (taking e replies tried is stops)
  where
    asking : (e : PullFault) (replies : List Reply) (tried : List Path) → e ≡ Source →
        IsUnanswered (λ rs next. IsBehindHead digest keys v rs w next) e replies tried →
        IsLeftBehind digest keys v w replies tried
    asking e replies tried is (GetFailed {path = path} at) = record { path = path; tried_is = refl; at = at }
    asking e replies tried is (MemoryRefused at) = let no : OutOfMemory ≡ Source = is in absurd cc

    taking : (e : PullFault) (replies : List Reply) (tried : List Path) → e ≡ Source →
        StopsTaking digest (IsBehindHead digest keys v) e replies tried w →
        IsLeftBehind digest keys v w replies tried
    taking e replies tried is (StopsAsking u) = asking e replies tried is u
    taking e replies tried is (StopsClashed path bytes at t) = let no : Collision ≡ Source = is in absurd cc
    taking e replies tried is (StopsExhausted path bytes at t) = let no : OutOfMemory ≡ Source = is in absurd cc

-- if two lists of replies extend a list of paths to the same list, they have the same paths
same_paths : (asked : List Path) (xs ys : List Reply) → with_replies asked xs ≡ with_replies asked ys →
    asked_paths xs ≡ asked_paths ys
same_paths asked xs ys e =
    sym (drop-append_seam asked (asked_paths xs)) ∙
    (ap (λ (l : List Path). drop (length asked) l) e ∙ drop-append_seam asked (asked_paths ys))

-- the rounds of such a pull: complete rounds, then the first gets of another round
record RoundsLeft (digest : List ℕ → List ℕ) (entries : List (List ℕ)) (size : ℕ) (v w : View) (rest : List Reply)
    : Type 0 where
  files : List Path
  founds : List Path
  replies : List Reply
  gets : Gets (length entries) files replies founds
  fetches : FetchesFiles digest (take size entries) v w files
  last : List Reply
  last_few : length last ≤ 1
  paths_are : asked_paths rest ≡ asked_paths replies ++ asked_paths last

module _ (digest : List ℕ → List ℕ) (entries : List (List ℕ)) (size : ℕ) (root : List ℕ)
    (may : Path → Option (List ℕ) → Type 0) (v : View) (asked : List Path)
    (m : MayWork digest entries size root may v asked) where
  in_rounds_left : (rest : List Reply) (w : View) (next : Option Path) (path : Path) → next ≡ Some path →
      MayReply may rest → IsInRounds digest size root asked v rest w next → RoundsLeft digest entries size v w rest
  in_rounds_left rest w next path is mays (RoundsOver few p) = absurd (none_next path is)
    where
      none_next : (path : Path) → None ≡ Some path → ⊥
      none_next path e = cc e
  in_rounds_left all w next path is mays
      (RoundUnder {first = xs} {second = ys} {rounds = k} {refused = n} {x = x} list few p left r) =
      let parts = may_split may xs ys mays in
      let mid = with_replies asked xs in
      let working = rounds_true digest entries size may root v asked x xs k n m p parts.0 in
      let fronts = wanted_front digest entries size root may x mid working.next list left in
      let more = subst (MayReply may) r.replies_are parts.1 in
      let mores = may_split may r.first r.second more in
      let two = takes_split digest x w r.first r.second ys r.refused r.replies_are r.takes in
      let may_take =
      subst (λ (l : List Path). MayTake digest entries size may x mid l) r.paths_are
      (round_may digest entries size root may x mid working.next list fronts) in
      let took =
      list_true digest entries size may x mid r.before two.middle r.first two.count r.asked_first
      (may_front digest entries size may x mid r.before r.after may_take) mores.0 two.first in
      let same =
      next_taken digest (with_replies mid r.first) r.after r.second next two.middle w two.more r.asks two.second in
      let done =
      rounds_fetch digest m.source.hash entries m.source.short size m.within m.small working.lists v x working.replies
      m.edge working.worked in
      let last =
      front_fetched digest m.source.hash entries m.source.short size m.within m.small x w list r.before r.after
      took.gets.founds took.gets.replies working.next.edge r.paths_are fronts took.gets.are (same ∙ took.taken) in
      record {
        files = joined working.lists ++ r.before;
        founds = done.founds ++ took.gets.founds;
        replies = working.replies ++ took.gets.replies;
        gets = gets_then (length entries) (joined working.lists) done.founds r.before took.gets.founds working.replies
            took.gets.replies done.gets took.gets.are;
        fetches = fetches_then digest (take size entries) v x w (joined working.lists) r.before done.fetches last;
        last = r.second;
        last_few = next_few (with_replies mid r.first) r.after r.second next r.asks;
        paths_are = paths_then xs ys ∙
            ((λ i. same_paths asked xs working.replies working.list i ++ asked_paths (r.replies_are i)) ∙
            (ap (λ (l : List Path). asked_paths working.replies ++ l)
            (paths_then r.first r.second ∙
            ap (λ (l : List Path). l ++ asked_paths r.second)
            (same_paths mid r.first took.gets.replies took.gets.list)) ∙
            (sym (append_assoc (asked_paths working.replies) (asked_paths took.gets.replies) (asked_paths r.second)) ∙
            ap (λ (l : List Path). l ++ asked_paths r.second)
            (sym (paths_then working.replies took.gets.replies)))));
      }

-- ---- the pull

module _ (digest : List ℕ → List ℕ) (hash : IsDigest digest) (entries : List (List ℕ)) (keys : List Key)
    (note : List ℕ) (size : ℕ) (v w : View) (may : Path → Option (List ℕ) → Type 0) (old new : Option (List Path))
    (is : IsHonest digest entries v.origin keys note size may) (clean : NoClashAmong digest entries v size) where
  keeps : (replies : List Reply) (tried : List Path) → MayReply may replies →
      AddsToRecord old new (asked_paths replies ++ tried) → IsLeftBehind digest keys v w replies tried →
      KeepsFound digest entries note size v w old new
  keeps replies tried mays recorded left =
      let b = left.at in
      let g = b.gives in
      let read = g.checkpoint in
      let parts = may_split may b.first b.rest (subst (MayReply may) b.replies_are mays) in
      let begin = subst (MayReply may) g.replies_are parts.0 in
      let started =
      is_begun {taken = b.note} {found = b.note} {none = []} {asked = Checkpoint ∷ []} {read = read} hash v is clean
      (stays_itself may) refl (λ fresh. refl) refl (λ fresh. begin.0) g.is_open in
      let rows =
      rows_true digest entries may started.source (Checkpoint ∷ []) (edge_of read.size) g.edge b.rows started.fresh
      (edge_tile read.size (length entries) started.honestly.honest.within) begin.1 g.given in
      let x = plus digest v (item.Head b.note b.rows) in
      let on = may_go_on started rows refl {rest = may} {w = x} {shown = b.note} (stays_itself may) refl refl in
      let r =
      in_rounds_left digest entries read.size read.root may x (with_replies (Checkpoint ∷ []) g.edge) on.may_work b.rest w
      (Some left.path) left.path refl parts.1
      (subst (λ (l : List Path). IsInRounds digest read.size read.root l x b.rest w (Some left.path))
      (ap asked_paths g.replies_are) b.rounds) in
      let edge = rows.gets.replies in
      let last = asked_paths r.last ++ left.path ∷ [] in
      let first_are : asked_paths b.first ≡ Checkpoint ∷ asked_paths edge =
      ap asked_paths g.replies_are ∙
      ap (λ (l : List Path). Checkpoint ∷ l) (same_paths (Checkpoint ∷ []) g.edge edge rows.gets.list) in
      let all : asked_paths replies ++ tried ≡ asked_paths (reply Checkpoint (Some b.note) ∷ edge ++ r.replies) ++ last =
      (λ i. asked_paths (b.replies_are i) ++ left.tried_is i) ∙
      (ap (λ (l : List Path). l ++ left.path ∷ []) (paths_then b.first b.rest) ∙
      ((λ i. (first_are i ++ r.paths_are i) ++ left.path ∷ []) ∙
      (append_assoc (Checkpoint ∷ asked_paths edge) (asked_paths r.replies ++ asked_paths r.last) (left.path ∷ []) ∙
      (ap (λ (l : List Path). (Checkpoint ∷ asked_paths edge) ++ l)
      (append_assoc (asked_paths r.replies) (asked_paths r.last) (left.path ∷ [])) ∙
      (sym (append_assoc (Checkpoint ∷ asked_paths edge) (asked_paths r.replies) last) ∙
      ap (λ (l : List Path). (Checkpoint ∷ l) ++ last) (sym (paths_then edge r.replies))))))) in
      subst (λ (n : ℕ). KeepsFound digest entries note n v w old new) started.honestly.size_is
      (subst (λ (b : List ℕ). KeepsFound digest entries b read.size v w old new) started.same (record {
        edge = edge;
        edge_founds = rows.gets.founds;
        edge_gets = rows.gets.are;
        files = r.files;
        founds = r.founds;
        replies = r.replies;
        gets = r.gets;
        fetches = fetches_from digest (take read.size entries) v x w r.files
            (within_plus digest v (item.Head b.note b.rows)) r.fetches;
        last = last;
        last_few = omega (
          arith,
          r.last_few,
          length-map r.last (λ (q : Reply). q.path),
          length-append (asked_paths r.last) (left.path ∷ []),
        );
        recorded = subst (AddsToRecord old new) all recorded;
      }))

pub kept_honestly :
    (digest : List ℕ → List ℕ) → IsDigest digest → (keys : List Key) (v w : View)
    (may : Path → Option (List ℕ) → Type 0) (old new : Option (List Path)) (result : Result Pulled PullFault) →
    FollowsReplies digest keys v w may old new result → KeepsHonestly digest keys v w may old new result
kept_honestly digest hash keys v w may old new (Ok p) follows = λ entries note size is clean. tt
kept_honestly digest hash keys v w may old new (Err NoCheckpoint) follows =
    λ entries note size is clean e. let no : NoCheckpoint ≡ Source = e in absurd cc
kept_honestly digest hash keys v w may old new (Err NoEdge) follows =
    λ entries note size is clean e. let no : NoEdge ≡ Source = e in absurd cc
kept_honestly digest hash keys v w may old new (Err (Head f)) follows =
    λ entries note size is clean e. let no : Head f ≡ Source = e in absurd cc
kept_honestly digest hash keys v w may old new (Err Collision) follows =
    λ entries note size is clean e. let no : Collision ≡ Source = e in absurd cc
kept_honestly digest hash keys v w may old new (Err OutOfMemory) follows =
    λ entries note size is clean e. let no : OutOfMemory ≡ Source = e in absurd cc
kept_honestly digest hash keys v w may old new (Err Source) ends =
    λ entries note size is clean e. elim
    (left_where digest keys v w Source ends.replies ends.tried refl ends.are) [
      | inl kept ↦ inl kept
      | inr left ↦ inr
          (keeps digest hash entries keys note size v w may old new is clean ends.replies ends.tried ends.may_reply
          ends.recorded left)
    ]
