-- A pull from an honest source, from its checkpoint to its outcome.
use Rattle.std.proofs.Common.{◌≡◌, ◌≢◌, ◌⊎◌, ℕ, suc, ◌*◌, ◌^◌, ◌<◌, ◌≤◌, List, [], ◌∷◌, ◌++◌, length, get_or}
use Rattle.std.proofs.Common.{map, take, arith, length-take, Contains}
use Rattle.std.proofs.Common.{Option, Some, None, Err, Bool, refl, sym, ◌∙◌, ap, subst}
use Rattle.std.proofs.Common.{inl, inr}
use Rattle.std.specs.Prelude.{max}
use Rattle.std.proofs.lemmas.List.Elements.{Contains-get_or, Contains-append_cases}
use Rattle.signed_note.specs.Keys.{Key}
use Rattle.tlog_shape.specs.Edge.{width_of, edge_index_of, IsTop}
use Rattle.tlog_hash.specs.Tree.{mth, tree_of, tree_within}
use Rattle.tlog_hash.specs.Nodes.{Node}
use Rattle.tlog_tiles.specs.declared.paths.Path.{Path}
use Rattle.tlog_tiles.specs.declared.paths.Path.TheVariants.{Checkpoint, Tile, Entries}
use Rattle.tlog_tiles.specs.Edge.{edge_of}
use Rattle.tlog_tiles.specs.Row.{row_text}
use Rattle.tlog_tiles.specs.Tiles.{IsWithin, IsEdgeTile}
use Rattle.tlog_tiles.proofs.EdgeLemmas.{edge_is}
use Rattle.node_store.specs.Strings.{Strings, Has, HasAll}
use Rattle.mirror_model.specs.View.{View}
use Rattle.mirror_model.specs.Strings.{IsDigest}
use Rattle.mirror_model.specs.Edge.{edge_levels, edge_row, edge_rows, edge_strings}
use Rattle.mirror_model.specs.Front.{InFront}
use Rattle.mirror_model.specs.Heads.{HasHead}
use Rattle.mirror_model.specs.TrueLaws.{IsWidest, edge_bytes}
use Rattle.mirror_model.specs.Complete.{IsComplete}
use Rattle.mirror_model.specs.declared.items.Item.TheVariants as item
use Rattle.mirror_model.specs.Item.{strings_of, plus, IsGoodHead}
use Rattle.mirror_model.proofs.StringSets.{clash_contradicts, held_from_holds}
use Rattle.mirror_model.proofs.TrueItems.{edges_are_true, edge_is_of_paths, prefixes_serve_same}
use Rattle.mirror_model.proofs.EdgeStrings.{edge_strings_within}
use Rattle.mirror_model.proofs.Fetching.{plus_holds}
use Rattle.mirror_sources.specs.Files.{full_of}
use Rattle.mirror_sources.specs.Source.{StaysWithin}
use Rattle.mirror_sources.specs.Recorded.{AddsToRecord}
use Rattle.mirror_sources.specs.Replies.{Reply, asked_paths}
use Rattle.mirror_sources.specs.Honest.{IsHonest, true_bytes}
use Rattle.mirror_pull.proofs.Askings.{paths_then, may_then, may_stays}
use Rattle.mirror_pull.specs.Asking.{AreFresh, AddsTo}
use Rattle.mirror_pull.specs.Taking.{TakesHead, GainsStrings}
use Rattle.mirror_pull.specs.Honest.{NoClashAmong, AreFrontRounds, with_head, HonestGets, HonestOutcome}
use Rattle.mirror_pull.specs.declared.pulling.Pulled.{Pulled}
use Rattle.mirror_pull.specs.Parts.{IsTrueSource, MayWork, HasWorked, GetsAll, IsOutside}
use Rattle.mirror_pull.specs.declared.fault.PullFault.{PullFault}
use Rattle.mirror_pull.specs.declared.fault.PullFault.TheVariants.{NoCheckpoint, NoEdge, Head, Source, Collision}
use Rattle.mirror_pull.specs.declared.fault.PullFault.TheVariants.{OutOfMemory}
use Rattle.mirror_pull.proofs.Freshness.{cases_first, each_place, gets_each_asked, edge_apart}
use Rattle.mirror_pull.proofs.Gains.{head_notes}
use Rattle.mirror_pull.proofs.TrueRows.{source_stays}
use Rattle.mirror_pull.proofs.TrueTakes.{InTrees, clean_gained, plus_only, plus_clean}
use Rattle.mirror_pull.proofs.Orders.{kind_of}
use Rattle.mirror_pull.proofs.FrontRounds.{front_rounds_end}

-- ---- the rows of the right edge

map_same : (f g : Path → List ℕ) (ps : List Path) → ((p : Path) → Contains ps p → f p ≡ g p) → map f ps ≡ map g ps
map_same f g [] same = refl
map_same f g (p ∷ ps) same =
    λ i. same p (0, omega arith, refl) i ∷ map_same f g ps (λ q c. same q (suc c.0, omega (arith, c.1), c.2)) i

map_twice : {A B C : Type 0} (f : B → C) (g : A → B) (xs : List A) → map f (map g xs) ≡ map (λ x. f (g x)) xs
map_twice f g [] = refl
map_twice f g (x ∷ xs) = λ i. f (g x) ∷ map_twice f g xs i

bytes_of_edge : (digest : List ℕ → List ℕ) (entries : List (List ℕ)) →
    map (true_bytes digest entries) (edge_of (length entries)) ≡ edge_bytes digest entries
bytes_of_edge digest entries =
    let n = length entries in
    let at = λ (level : ℕ). Tile level (edge_index_of n level) (width_of n level) in
    ap (map (true_bytes digest entries)) (edge_is_of_paths n)
    ∙ (map_twice (true_bytes digest entries) at (edge_levels n) ∙
    sym (map_twice row_text (edge_row digest entries) (edge_levels n)))

pub rows_of_edge : (digest : List ℕ → List ℕ) (entries : List (List ℕ)) (size : ℕ) → size ≤ length entries →
    map (true_bytes digest entries) (edge_of size) ≡ edge_bytes digest (take size entries)
rows_of_edge digest entries size le =
    let long : length (take size entries) ≡ size = omega (arith, length-take size entries, le) in
    sym (map_same (true_bytes digest (take size entries)) (true_bytes digest entries) (edge_of size)
    (λ p c. same_bytes p ((edge_is size p).0 c)))
    ∙ (ap (λ (n : ℕ). map (true_bytes digest (take size entries)) (edge_of n)) (sym long) ∙
    bytes_of_edge digest (take size entries))
  where
    same_bytes : (p : Path) → IsEdgeTile size p → true_bytes digest (take size entries) p ≡ true_bytes digest entries p
    same_bytes Checkpoint h = absurd h
    same_bytes (Tile level index width) h = (prefixes_serve_same digest entries size le).tile level index width h.within
    same_bytes (Entries index width) h = absurd h

-- ---- the checkpoint, before the right edge

edge_no_checkpoint : (size : ℕ) (path : Path) → IsEdgeTile size path → Checkpoint ≢ full_of path
edge_no_checkpoint size Checkpoint h e = h
edge_no_checkpoint size (Tile level index width) h e = let k : 0 ≡ 1 = ap kind_of e in omega (arith, k)
edge_no_checkpoint size (Entries index width) h e = h

pub edge_fresh : (size : ℕ) (asked : List Path) → asked ≡ Checkpoint ∷ [] → AreFresh asked (edge_of size)
edge_fresh size asked is = record {
  fresh = λ path c before has same.
      elim (cases_first Checkpoint [] before (subst (λ (l : List Path). Contains l before) is has)) [
        | inl e ↦ edge_no_checkpoint size path ((edge_is size path).0 c) (ap full_of e ∙ same)
        | inr none ↦ omega (arith, none.1)
      ];
  apart = edge_apart size;
}

-- ---- the paths that were requested before the rounds were fetched

settled_edge : (size : ℕ) (edge path : Path) → IsEdgeTile size edge → full_of edge ≡ full_of path → IsWithin size path →
    IsWidest size path → ⊥
settled_edge size Checkpoint path h same within widest = h
settled_edge size (Entries i w) path h same within widest = h
settled_edge size (Tile l i w) Checkpoint h same within widest = within
settled_edge size (Tile l i w) (Entries index width) h same within widest =
    let k : 1 ≡ 2 = ap kind_of same in omega (arith, k)
settled_edge size (Tile l i w) (Tile level index width) h same within widest =
    let at : Tile l i 256 ≡ Tile level index width = same ∙ sym (ap (Tile level index) widest) in
    h.widest 256 h.partial (subst (IsWithin size) (sym at) within)

settled_checkpoint : (size : ℕ) (path : Path) → Checkpoint ≡ full_of path → IsWithin size path → ⊥
settled_checkpoint size Checkpoint same within = within
settled_checkpoint size (Tile level index width) same within = let k : 0 ≡ 1 = ap kind_of same in omega (arith, k)
settled_checkpoint size (Entries index width) same within = let k : 0 ≡ 2 = ap kind_of same in omega (arith, k)

pub edge_settled :
    (n size : ℕ) (may : Path → Option (List ℕ) → Type 0) (asked after : List Path) → asked ≡ Checkpoint ∷ [] →
    GetsAll n may (edge_of size) asked after → (before : Path) → Contains after before → (path : Path) →
    full_of before ≡ full_of path → IsWithin size path → IsWidest size path → ⊥
edge_settled n size may asked after is got before has path same within widest =
    elim (Contains-append_cases asked (asked_paths got.replies) before
    (subst (λ (l : List Path). Contains l before) got.list has)) [
      | inl old ↦ elim (cases_first Checkpoint [] before (subst (λ (l : List Path). Contains l before) is old)) [
        | inl e ↦ settled_checkpoint size path (ap full_of e ∙ same) within
        | inr none ↦ omega (arith, none.1)
      ]
      | inr new ↦
          (let place =
          each_place (edge_of size) (asked_paths got.replies)
          (gets_each_asked n (edge_of size) got.founds got.replies got.are) before new in
          settled_edge size place.path path ((edge_is size place.path).0 place.listed)
          (sym place.same ∙ same) within widest)
    ]

-- ---- the parts of the list of requests

pub none_asked : (none : List Path) (path : Path) → none ≡ [] → Contains none path → ⊥
none_asked none path is has = let h = subst (λ (l : List Path). Contains l path) is has in omega (arith, h.1)

pub first_asked : (none asked : List Path) → none ≡ [] → asked ≡ none ++ Checkpoint ∷ [] → asked ≡ Checkpoint ∷ []
first_asked none asked is grown = grown ∙ ap (λ (l : List Path). l ++ Checkpoint ∷ []) is

empty_front : (digest : List ℕ → List ℕ) (held : Strings) (start : ℕ) (x : Node) →
    InFront digest held (tree_of []) start x → ⊥
unfolding tree_of tree_within
empty_front digest held start x h = h

-- ---- the pull

module _ (digest : List ℕ → List ℕ) (hash : IsDigest digest) (keys : List Key) (entries : List (List ℕ)) (v : View)
    (note : List ℕ) (size : ℕ) (may : Path → Option (List ℕ) → Type 0)
    (is : IsHonest digest entries v.origin keys note size may) (clean : NoClashAmong digest entries v size) where
  pub pull_source : IsTrueSource digest entries may
  pull_source = record { hash = hash; short = is.short; parts = is.parts }

  long : length (take size entries) ≡ size
  long = omega (arith, length-take size entries, is.within)

  module _ (small : size < 256 ^ 8) where
    true_edge_small : length (take size entries) < 256 ^ 8
    true_edge_small = omega (arith, long, small)

    head_strings : (y : List ℕ) →
        Contains (strings_of digest (item.Head note (edge_bytes digest (take size entries)))) y →
        InTrees digest entries size y
    head_strings y c =
        let e = edges_are_true digest hash (take size entries) true_edge_small in
        inr (edge_strings_within digest (take size entries) y (subst (λ ss. Contains ss y) e.strings_are c))

    good_head : IsGoodHead digest v.origin keys note (edge_bytes digest (take size entries))
    good_head =
        let e = edges_are_true digest hash (take size entries) true_edge_small in
        record {
          size = size;
          root = mth digest (take size entries);
          is_head = is.is_head;
          has_edge =
              record {
                widths =
                    e.has_edge.widths
                    ∙ ap (λ (n : ℕ). map (λ width. 32 * width) (map (width_of n) (edge_levels n))) long;
                root_is = e.has_edge.root_is;
              };
        }

    -- taking the tree head fails only for a reason from outside
    pub head_fault : (w : View) (taken : List ℕ) (rows : List (List ℕ)) (e : PullFault) → taken ≡ note →
        rows ≡ edge_bytes digest (take size entries) →
        TakesHead {T = Bool} digest keys v (item.Head taken rows) (Err e) w → IsOutside e
    head_fault w taken rows e same are t =
        go e (subst
        (λ n. TakesHead {T = Bool} digest keys v (item.Head n (edge_bytes digest (take size entries)))
        (Err e) w) same (subst (λ r. TakesHead {T = Bool} digest keys v (item.Head taken r) (Err e) w) are t))
      where
        go : (e : PullFault) →
            TakesHead {T = Bool} digest keys v (item.Head note (edge_bytes digest (take size entries))) (Err e) w →
            IsOutside e
        go NoCheckpoint t = absurd t
        go NoEdge t = absurd t
        go (Head f) t = absurd (t.1 good_head)
        go Source t = absurd t
        go Collision t =
            absurd (clash_contradicts digest (with_head digest entries v note size).strings
            (plus_clean digest entries size v
            (item.Head note (edge_bytes digest (take size entries))) head_strings clean) t.1)
        go OutOfMemory t = inl refl

    -- after the tree head, the rounds may go on
    pub rounds_may :
        (edge_may later : Path → Option (List ℕ) → Type 0) (w : View) (root : List ℕ) (asked after : List Path) →
        StaysWithin may later → w ≡ with_head digest entries v note size → root ≡ mth digest (take size entries) →
        HasHead w size root →
        asked ≡ Checkpoint ∷ [] → GetsAll (length entries) edge_may (edge_of size) asked after →
        MayWork digest entries size root later w after
    rounds_may edge_may later w root asked after stays taken root_is head begun got =
        let x = item.Head note (edge_bytes digest (take size entries)) in
        let e = edges_are_true digest hash (take size entries) true_edge_small in
        let held : HasAll (plus digest v x).strings (edge_strings digest (edge_rows digest (take size entries))) =
        held_from_holds (plus digest v x).strings (edge_strings digest (edge_rows digest (take size entries)))
        (λ y c. (plus_holds digest v x y).string_held (inr (subst (λ ss. Contains ss y) (sym e.strings_are) c))) in
        record {
          source = source_stays digest entries may later stays pull_source;
          within = is.within;
          small = small;
          clean = subst (λ (u : View). NoClashAmong digest entries u size) (sym taken)
              (clean_gained digest entries size v (plus digest v x)
              (plus_only digest entries size v x head_strings) clean);
          root_is = root_is;
          head = head;
          edge = subst (λ (u : View). HasAll u.strings (edge_strings digest (edge_rows digest (take size entries))))
              (sym taken) held;
          fetched =
              λ before has path same within widest. absurd
              (edge_settled (length entries) size edge_may asked after begun got before has path same within widest);
        }

    -- an empty log has no rounds
    no_rounds : (lists : List (List Path)) (x w : View) (xs : List Reply) → size ≡ 0 →
        AreFrontRounds digest entries size x w lists xs → length lists ≡ 0
    no_rounds [] x w xs none rounds = refl
    no_rounds (list ∷ lists) x w xs none rounds =
        let round = rounds.3 in
        let front =
        (round.front.exact (get_or list 0 Checkpoint)).0
        (Contains-get_or list 0 Checkpoint (omega (arith, round.some))) in
        absurd (empty_front digest x.strings 0 front.node
        (subst (λ (n : ℕ). InFront digest x.strings (tree_of (take n entries)) 0 front.node) none front.is))

    module _ (rest : Path → Option (List ℕ) → Type 0) (w x : View) (rounds : ℕ) (mid after : List Path)
        (taken : w ≡ with_head digest entries v note size)
        (working : HasWorked digest entries size rest rounds w x mid after) where
      pub worked_few : (top : ℕ) → IsTop size top → rounds ≤ max 1 top
      worked_few top is_top =
          let e = edges_are_true digest hash (take size entries) true_edge_small in
          let i = item.Head note (edge_bytes digest (take size entries)) in
          let held : HasAll (plus digest v i).strings (edge_strings digest (edge_rows digest (take size entries))) =
          held_from_holds (plus digest v i).strings (edge_strings digest (edge_rows digest (take size entries)))
          (λ y c. (plus_holds digest v i y).string_held
          (inr (subst (λ ss. Contains ss y) (sym e.strings_are) c))) in
          let edge =
          subst (λ (u : View). HasAll u.strings (edge_strings digest (edge_rows digest (take size entries))))
          (sym taken) held in
          omega (
            arith,
            front_rounds_end digest hash entries is.short size top w x working.lists working.replies is.within small is_top
                edge working.worked,
            working.count,
          )

      pub worked_none : size ≡ 0 → rounds ≡ 0
      worked_none none = sym working.count ∙ no_rounds working.lists w x working.replies none working.worked

      pub worked_strings : (y : List ℕ) → Has x.strings y → Has v.strings y ⊎ InTrees digest entries size y
      worked_strings y h = elim (working.strings y h) [
        | inl a ↦ plus_only digest entries size v
            (item.Head note (edge_bytes digest (take size entries))) head_strings y
            (subst (λ (u : View). Has u.strings y) taken a)
        | inr b ↦ inr b
      ]

      pub worked_complete : (root : List ℕ) → root ≡ mth digest (take size entries) → HasHead x size root →
          IsComplete digest x size root
      worked_complete root root_is head =
          record {
            entries =
                take size entries;
            complete =
                record {
                  head = head;
                  tree = record { size_is = long; root_is = sym root_is; are_held = working.whole };
                };
          }

      pub worked_gets :
          (edge_may : Path → Option (List ℕ) → Type 0) (none asked : List Path) (old new : Option (List Path)) →
          StaysWithin may edge_may → StaysWithin may rest → may Checkpoint (Some note) → none ≡ [] →
          asked ≡ Checkpoint ∷ [] →
          GetsAll (length entries) edge_may (edge_of size) asked mid → AddsTo none after old new →
          HonestGets digest entries note size v x may old new rounds
      worked_gets edge_may none asked old new stays later answered is_none begun got recorded = record {
        edge = got.replies;
        edge_founds = got.founds;
        edge_gets = got.are;
        lists = working.lists;
        replies = working.replies;
        count = working.count;
        worked = subst
            (λ (u : View). AreFrontRounds digest entries size u x working.lists working.replies) taken working.worked;
        may_reply = (
          answered,
          may_then may got.replies working.replies (may_stays may edge_may got.replies stays got.may_reply)
              (may_stays may rest working.replies later working.may_reply),
        );
        recorded = subst (AddsToRecord old new)
            (sym (recorded.list ∙ ap (λ (l : List Path). l ++ recorded.more) is_none) ∙
            (working.list ∙
            (ap (λ (l : List Path). l ++ asked_paths working.replies)
            (got.list ∙ ap (λ (l : List Path). l ++ asked_paths got.replies) begun) ∙
            ap (λ (l : List Path). Checkpoint ∷ l) (sym (paths_then got.replies working.replies))))) recorded.adds.recorded;
      }

      pub worked_notes : GainsStrings w x → (other : List ℕ) → Has x.notes other → Has v.notes other ⊎ (other ≡ note)
      worked_notes gains other h =
          head_notes digest v note (edge_bytes digest (take size entries)) other
          (subst (λ (u : View). Has u.notes other) taken (gains.same_notes other h))

      pub worked_note : GainsStrings w x → Has x.notes note
      worked_note gains =
          gains.grows.notes_are note
          (subst (λ (u : View). Has u.notes note) (sym taken)
          ((plus_holds digest v (item.Head note (edge_bytes digest (take size entries))) note).note_held
          (inr (0, omega arith, refl))))

-- ---- from the checkpoint that was read

pub some_same : (a b : List ℕ) → Some a ≡ Some b → a ≡ b
some_same a b e = cc e

pub never_none : (b : List ℕ) → None ≡ Some b → ⊥
never_none b e = cc e

-- the size of a checkpoint is within the limit
pub read_small :
    (digest : List ℕ → List ℕ) (entries : List (List ℕ)) (origin : List ℕ) (keys : List Key) (note : List ℕ) (size : ℕ)
    (may : Path → Option (List ℕ) → Type 0) → IsHonest digest entries origin keys note size may →
    size < 256 ^ 8
read_small digest entries origin keys note size may is =
    let limit : size ≤ 9223372036854775807 = is.is_head.is_checkpoint.in_range in omega (arith, limit)

-- the source is honest for the size of the checkpoint that was read
pub record IsReadHonestly (digest : List ℕ → List ℕ) (entries : List (List ℕ)) (keys : List Key) (v : View)
    (taken : List ℕ) (size : ℕ) (at : ℕ) (root : List ℕ) (may : Path → Option (List ℕ) → Type 0) : Type 0 where
  pub size_is : at ≡ size
  pub root_is : root ≡ mth digest (take at entries)
  pub honest : IsHonest digest entries v.origin keys taken at may
  pub clean : NoClashAmong digest entries v at

pub read_honestly :
    (digest : List ℕ → List ℕ) (entries : List (List ℕ)) (keys : List Key) (v : View) (note taken : List ℕ)
    (size at : ℕ) (root : List ℕ) (may : Path → Option (List ℕ) → Type 0) →
    IsHonest digest entries v.origin keys note size may → NoClashAmong digest entries v size → taken ≡ note →
    at ≡ size → root ≡ mth digest (take size entries) → IsReadHonestly digest entries keys v taken size at root may
read_honestly digest entries keys v note taken size at root may is clean same size_is root_is = record {
  size_is = size_is;
  root_is = root_is ∙ ap (λ (n : ℕ). mth digest (take n entries)) (sym size_is);
  honest = subst (λ (n : ℕ). IsHonest digest entries v.origin keys taken n may) (sym size_is)
      (subst (λ (b : List ℕ). IsHonest digest entries v.origin keys b size may) (sym same) is);
  clean = subst (λ (n : ℕ). NoClashAmong digest entries v n) (sym size_is) clean;
}

pub head_done : (digest : List ℕ → List ℕ) (entries : List (List ℕ)) (v w : View) (note taken : List ℕ) (size : ℕ)
    (rows : List (List ℕ)) → taken ≡ note → rows ≡ edge_bytes digest (take size entries) →
    w ≡ plus digest v (item.Head taken rows) → w ≡ with_head digest entries v note size
head_done digest entries v w note taken size rows same are is =
    is ∙ ((λ i. plus digest v (item.Head (same i) rows)) ∙ (λ i. plus digest v (item.Head note (are i))))

pub outcome_read :
    (digest : List ℕ → List ℕ) (entries : List (List ℕ)) (note taken : List ℕ) (size at : ℕ) (v w : View)
    (may : Path → Option (List ℕ) → Type 0) (old new : Option (List Path)) (p : Pulled) → taken ≡ note → at ≡ size →
    HonestOutcome digest entries taken at v w may old new p → HonestOutcome digest entries note size v w may old new p
outcome_read digest entries note taken size at v w may old new p same size_is h =
    subst (λ (n : ℕ). HonestOutcome digest entries note n v w may old new p) size_is
    (subst (λ (b : List ℕ). HonestOutcome digest entries b at v w may old new p) same h)
