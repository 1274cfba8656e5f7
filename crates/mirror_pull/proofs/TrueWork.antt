-- The rounds of a pull from an honest source.
use Rattle.std.proofs.Common.{◌≡◌, ◌⊎◌, ℕ, ◌+◌, ◌^◌, ◌<◌, ◌≤◌, List, [], ◌∷◌, ◌++◌, length, get_or}
use Rattle.std.proofs.Common.{take, arith, length-take, length-append, append_assoc, Contains, Option, refl, sym, ◌∙◌}
use Rattle.std.proofs.Common.{ap, subst, inl, inr}
use Rattle.std.specs.FinSet as set
use Rattle.std.proofs.lemmas.List.{append-nil}
use Rattle.std.proofs.lemmas.List.Elements.{Contains-get_or, Contains-append_cases}
use Rattle.tlog_hash.specs.Tree.{mth, strings}
use Rattle.tlog_tiles.specs.declared.paths.Path.{Path}
use Rattle.tlog_tiles.specs.Tiles.{IsWithin}
use Rattle.node_store.specs.Strings.{Has, HasAll, NoClash}
use Rattle.mirror_model.specs.View.{View, IsSubview}
use Rattle.mirror_model.specs.Edge.{edge_rows, edge_strings}
use Rattle.mirror_model.specs.Front.{IsFront}
use Rattle.mirror_model.specs.Rounds.{true_strings}
use Rattle.mirror_model.specs.TrueLaws.{IsWidest}
use Rattle.mirror_model.specs.Listed.{ListsMissing, ListsFront}
use Rattle.mirror_model.proofs.StringSets.{has_left, has_right, has_cases, held_from_holds, held_more}
use Rattle.mirror_model.proofs.StringSets.{no_clash_within}
use Rattle.mirror_model.proofs.Views.{head_stays}
use Rattle.mirror_model.proofs.TrueItems.{front_is_within, front_is_widest}
use Rattle.mirror_model.proofs.Fetching.{missing_is_front_list, answered_is_not_again}
use Rattle.mirror_model.proofs.Fronts.{front_empty}
use Rattle.mirror_sources.specs.Source.{StaysWithin}
use Rattle.mirror_sources.specs.Replies.{Reply, asked_paths, MayReply}
use Rattle.mirror_pull.specs.Asking.{IsFresh}
use Rattle.mirror_pull.specs.Honest.{IsFrontRound, AreFrontRounds}
use Rattle.mirror_pull.specs.Parts.{MayTake, MayWork, TakesTrue, HasWorked}
use Rattle.mirror_pull.specs.Replying.{IsLeftToAsk, with_replies}
use Rattle.mirror_pull.proofs.Askings.{with_then, may_then, may_stays}
use Rattle.mirror_pull.proofs.Replies.{unasked_all}
use Rattle.mirror_pull.proofs.Freshness.{each_place, gets_each_asked}
use Rattle.mirror_pull.proofs.TrueRows.{source_stays}
use Rattle.mirror_pull.proofs.TrueTakes.{InTrees, clean_gained, paths_only}
use Rattle.mirror_pull.proofs.Orders.{sorted_differ, widest_same, has_top}
use Rattle.mirror_pull.proofs.FrontRounds.{front_round_takes, front_rounds_end}

-- ---- rounds in order

rounds_push :
    (digest : List ℕ → List ℕ) (entries : List (List ℕ)) (size : ℕ) (lists : List (List Path)) (v x w : View)
    (list : List Path) (xs first : List Reply) →
    AreFrontRounds digest entries size v x lists xs → IsFrontRound digest entries size x w list first →
    AreFrontRounds digest entries size v w (lists ++ list ∷ []) (xs ++ first)
rounds_push digest entries size [] v x w list xs first rounds round = (
  w,
  first,
  [],
  subst (λ (y : View). IsFrontRound digest entries size y w list first) rounds.0 round,
  (refl, refl),
  ap (λ (l : List Reply). l ++ first) rounds.1 ∙ sym (append-nil first),
)
rounds_push digest entries size (l ∷ ls) v x w list xs first rounds round = (
  rounds.0,
  rounds.1,
  rounds.2 ++ first,
  rounds.3,
  rounds_push digest entries size ls rounds.0 x w list rounds.2 first rounds.4 round,
  ap (λ (g : List Reply). g ++ first) rounds.5 ∙ append_assoc rounds.1 rounds.2 first,
)

-- the rounds up to here, and more may follow
pub record IsWorking (digest : List ℕ → List ℕ) (entries : List (List ℕ)) (size : ℕ) (root : List ℕ)
    (may later : Path → Option (List ℕ) → Type 0) (rounds : ℕ) (v w : View) (before after : List Path)
    : Type 0 where
  pub lists : List (List Path)
  pub replies : List Reply
  pub count : length lists ≡ rounds
  pub worked : AreFrontRounds digest entries size v w lists replies
  pub may_reply : MayReply may replies
  pub list : after ≡ with_replies before replies
  pub strings : (y : List ℕ) → Has w.strings y → Has v.strings y ⊎ InTrees digest entries size y
  pub next : MayWork digest entries size root later w after

module _ (digest : List ℕ → List ℕ) (entries : List (List ℕ)) (size : ℕ) (root : List ℕ) where
  module _ (may : Path → Option (List ℕ) → Type 0) (v : View) (asked : List Path)
      (m : MayWork digest entries size root may v asked) where
    first : List (List ℕ)
    first = take size entries

    long : length (take size entries) ≡ size
    long = omega (arith, length-take size entries, m.within)

    small : length (take size entries) ≤ 256 ^ 8
    small = omega (arith, long, m.small)

    clean_first : NoClash digest (set.union v.strings (set.from_list (strings digest (take size entries))))
    clean_first =
        let es = set.from_list (strings digest entries) in
        let fs = set.from_list (strings digest (take size entries)) in
        no_clash_within digest (set.union v.strings fs) (set.union v.strings (set.union es fs))
        (λ q h. elim (has_cases v.strings fs q h) [
          | inl a ↦ has_left v.strings (set.union es fs) q a
          | inr b ↦ has_right v.strings (set.union es fs) q (has_right es fs q b)
        ]) m.clean

    pub front_whole : (path : Path) → IsFront digest v.strings (take size entries) path →
        IsWithin size path × IsWidest size path
    front_whole path f = (
      subst (λ n. IsWithin n path) long (front_is_within digest v.strings (take size entries) small m.edge path f),
      subst (λ n. IsWidest n path) long (front_is_widest digest v.strings (take size entries) path f),
    )

    -- no path with the level and index of a front's path was requested
    front_fresh : (path : Path) → IsFront digest v.strings (take size entries) path → IsFresh asked path
    front_fresh path f before has same =
        let whole = front_whole path f in
        answered_is_not_again digest v.strings (take size entries) small m.edge path
        (m.fetched before has path same whole.0 whole.1) f

    pub wanted_front : (paths : List Path) → IsLeftToAsk digest size root asked v paths →
        ListsFront digest v (take size entries) paths
    wanted_front paths wanted =
        let lists : ListsMissing digest v (length (take size entries)) (mth digest (take size entries)) wanted.missing =
        subst (λ n. ListsMissing digest v n (mth digest (take size entries)) wanted.missing) (sym long)
        (subst (λ r. ListsMissing digest v size r wanted.missing) m.root_is wanted.lists) in
        let fronts =
        missing_is_front_list digest m.source.hash v (take size entries) clean_first wanted.missing lists in
        let same =
        unasked_all asked wanted.missing paths wanted.unasked
        (λ path listed has. front_fresh path ((fronts.exact path).0 listed) path has refl) in
        subst (ListsFront digest v (take size entries)) (sym same) fronts

    pub round_may : (paths : List Path) → ListsFront digest v (take size entries) paths →
        MayTake digest entries size may v asked paths
    round_may paths fronts = record {
      source = m.source;
      within = m.within;
      clean = m.clean;
      paths_are = λ path c. front_whole path ((fronts.exact path).0 c);
      fresh = record {
        fresh = λ path c. front_fresh path ((fronts.exact path).0 c);
        apart = λ i j d lt within e.
            let whole =
            λ (k : ℕ) (l : k < length paths). front_whole (get_or paths k d)
            ((fronts.exact (get_or paths k d)).0 (Contains-get_or paths k d l)) in
            sorted_differ paths fronts.sorted i j d lt within
            (widest_same size (get_or paths i d) (get_or paths j d) (whole i (omega (arith, lt, within))).1
            (whole j within).1 e);
      };
    }

    -- if no path is missing, the whole tree is held
    pub none_missing : (paths : List Path) → ListsFront digest v (take size entries) paths → length paths ≡ 0 →
        HasAll v.strings (strings digest (take size entries))
    none_missing paths fronts none =
        held_from_holds v.strings (strings digest (take size entries))
        ((front_empty digest v.strings (take size entries) small).0
        (λ path f. let c = (fronts.exact path).1 f in omega (arith, c.1, none)))

    pub after_round :
        (later : Path → Option (List ℕ) → Type 0) (w : View) (after paths : List Path) → StaysWithin may later →
        IsSubview v w → ListsFront digest v (take size entries) paths →
        TakesTrue digest entries may paths asked after v w →
        MayWork digest entries size root later w after
    after_round later w after paths stays grows fronts t =
        let takes =
        front_round_takes digest m.source.hash entries m.source.short size v paths t.gets.founds t.gets.replies m.within
        m.small m.edge fronts t.gets.are in
        let taken =
        λ (path : Path) (f : IsFront digest v.strings (take size entries) path). subst
        (λ (x : View). HasAll x.strings (true_strings digest (take size entries) path)) (sym t.taken)
        (takes.taken path f) in
        record {
          source = source_stays digest entries may later stays m.source;
          within = m.within;
          small = m.small;
          clean = clean_gained digest entries size v w
              (paths_only digest entries size may v w asked after paths paths (round_may paths fronts)
              (λ p c. c) t) m.clean;
          root_is = m.root_is;
          head = head_stays v w grows size root m.head;
          edge = held_more v.strings w.strings
              (edge_strings digest (edge_rows digest (take size entries))) grows.strings_are m.edge;
          fetched =
              λ before has path same within widest. elim
              (Contains-append_cases asked (asked_paths t.gets.replies) before
              (subst (λ (l : List Path). Contains l before) t.gets.list has)) [
                | inl old ↦ held_more v.strings w.strings (true_strings digest (take size entries) path)
                    grows.strings_are
                    (m.fetched before old path same within widest)
                | inr got ↦
                    (let place =
                    each_place paths (asked_paths t.gets.replies)
                    (gets_each_asked (length entries) paths t.gets.founds t.gets.replies t.gets.are) before got in
                    let f = (fronts.exact place.path).0 place.listed in
                    let is : place.path ≡ path =
                    widest_same size place.path path (front_whole place.path f).1 widest (sym place.same ∙ same) in
                    subst (λ (p : Path). HasAll w.strings (true_strings digest (take size entries) p)) is
                    (taken place.path f))
              ];
        }

  -- ---- the steps of the loop

  module _ (may now : Path → Option (List ℕ) → Type 0) (v x : View) (before mid : List Path) (rounds : ℕ) where
    pub work_step :
        (later : Path → Option (List ℕ) → Type 0) (w : View) (after paths : List Path) → StaysWithin may now →
        IsWorking digest entries size root may now rounds v x before mid → IsLeftToAsk digest size root mid x paths →
        1 ≤ length paths → StaysWithin now later → IsSubview x w →
        TakesTrue digest entries now paths mid after x w →
        IsWorking digest entries size root may later (rounds + 1) v w before after
    work_step later w after paths began working wanted some stays grows t =
        let fronts = wanted_front now x mid working.next paths wanted in
        record {
          lists = working.lists ++ paths ∷ [];
          replies = working.replies ++ t.gets.replies;
          count = omega (arith, length-append working.lists (paths ∷ []), working.count);
          worked = rounds_push digest entries size working.lists v x w paths working.replies t.gets.replies
              working.worked
              (record {
                founds = t.gets.founds;
                some = some;
                front = fronts;
                gets = t.gets.are;
                taken = t.taken;
              });
          may_reply = may_then may working.replies t.gets.replies working.may_reply
              (may_stays may now t.gets.replies began t.gets.may_reply);
          list = t.gets.list ∙
              (ap (λ (l : List Path). l ++ asked_paths t.gets.replies) working.list ∙
              sym (with_then before working.replies t.gets.replies));
          strings =
              λ y h. elim
              (paths_only digest entries size now x w mid after paths paths
              (round_may now x mid working.next paths fronts)
              (λ p c. c) t y h) [ inl old ↦ working.strings y old | inr new ↦ inr new ];
          next = after_round now x mid working.next later w after paths stays grows fronts t;
        }

    pub work_done : (paths : List Path) → IsWorking digest entries size root may now rounds v x before mid →
        IsLeftToAsk digest size root mid x paths → length paths ≡ 0 →
        HasWorked digest entries size may rounds v x before mid
    work_done paths working wanted none = record {
      lists = working.lists;
      replies = working.replies;
      count = working.count;
      worked = working.worked;
      may_reply = working.may_reply;
      list = working.list;
      whole = none_missing now x mid working.next paths (wanted_front now x mid working.next paths wanted) none;
      strings = working.strings;
    }

  pub work_none : (may : Path → Option (List ℕ) → Type 0) (v : View) (before : List Path) →
      MayWork digest entries size root may v before → IsWorking digest entries size root may may 0 v v before before
  work_none may v before m =
      record {
        lists =
            [];
        replies =
            [];
        count = refl;
        worked = (refl, refl);
        may_reply = tt;
        list = sym (append-nil before);
        strings = λ y h. inl h;
        next = m;
      }

  -- a pull never has eight such rounds
  pub never_eight :
      (start now : Path → Option (List ℕ) → Type 0) (v x : View) (before mid : List Path) (rounds : ℕ) → 8 ≤ rounds →
      MayWork digest entries size root start v before →
      IsWorking digest entries size root start now rounds v x before mid → ⊥
  never_eight start now v x before mid rounds many m working =
      let t = has_top size m.small in
      let few =
      front_rounds_end digest m.source.hash entries m.source.short size t.top v x working.lists working.replies m.within
      m.small t.is m.edge working.worked in
      omega (arith, few, many, working.count, t.is.within)
