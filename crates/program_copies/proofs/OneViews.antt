-- The served log of a view with one note, and of a view without notes.
use Rattle.std.proofs.Common.{◌≡◌, ℕ, ◌^◌, ◌≤◌, List, [], ◌∷◌, length, Some, None, true, refl, sym, ap, subst, arith}
use Rattle.std.proofs.Common.{◌∙◌}
use Rattle.std.specs.FinSet as set
use Rattle.std.specs.List.{Contains}
use Rattle.std.specs.List.Sorted.{IsStrictlySortedBy}
use Rattle.std.specs.Ordering.{is_le}
use Rattle.std.specs.declared.cmp.Ordering.{Ordering}
use Rattle.std.specs.Cmp.Lexicographic.{nat_list_cmp_total}
use Rattle.std.specs.Cmp.{tied_itself}
use Rattle.std.proofs.lemmas.List.Elements.{All-contains_itself, All-cons, All-contains, All-nil, All-weaker, recursion_from_All}
use Rattle.tlog_hash.specs.Tree.{mth, strings}
use Rattle.tlog_tiles.specs.declared.paths.Path.{Path}
use Rattle.tlog_tiles.specs.declared.paths.Path.TheVariants.{Checkpoint, Tile, Entries}
use Rattle.node_store.specs.Strings.{Has, HasAll, NoClash}
use Rattle.mirror_model.specs.Complete.{IsTreeOf}
use Rattle.mirror_model.specs.Forks.{IsFork, Point, point_cmp}
use Rattle.mirror_model.specs.Front.{path_cmp}
use Rattle.mirror_model.specs.HeadLaws.{IsSameHead}
use Rattle.mirror_model.specs.Heads.{HasHead, HoldsHead, IsHead}
use Rattle.mirror_model.specs.Listed.{ListsForks, ListsHeads, ListsMissing, pair_cmp}
use Rattle.mirror_model.specs.Reports.{IsFlagged, ReportsHeads}
use Rattle.mirror_model.specs.Served.{IsAtMost, IsCompleteNote, IsServedList, Replies, Served}
use Rattle.mirror_model.specs.Strings.{IsDigest}
use Rattle.mirror_model.specs.Texts.{IsForksText, IsMissingText, IsStatusText}
use Rattle.mirror_model.specs.View.{nothing, View}
use Rattle.mirror_model.proofs.HeadNotes.{head_once}
use Rattle.mirror_model.proofs.Missing.{built_none}
use Rattle.mirror_model.proofs.OneLists.{only}
use Rattle.mirror_model.proofs.StringSets.{has_empty, has_from_listed, held_from_all, only_listed}
use Rattle.copy_reader.specs.Statuses.{copy_heads, copy_status}
use Rattle.program_copies.specs.CopyLaws.{copy_view}

itself : (s : List ℕ) → IsAtMost s s
itself s = ap is_le (tied_itself nat_list_cmp_total s)

first_listed : {X : Type 0} (x : X) → Contains (x ∷ []) x
first_listed x = (0, omega arith, refl)

-- an element of a list with one element is that element
one_item : {X : Type 0} (x y : X) → Contains (x ∷ []) y → y ≡ x
one_item {X} x y h = All-contains (λ z. z ≡ x) (x ∷ []) y (All-cons (λ z. z ≡ x) x [] refl (All-nil (λ z. z ≡ x))) h

no_item : {X : Type 0} (x : X) → Contains [] x → ⊥
no_item {X} x h = All-contains (λ (z : X). ⊥) [] x (All-nil (λ (z : X). ⊥)) h

no_order : {K : Type 0} (cmp : K → K → Ordering) → IsStrictlySortedBy cmp []
unfolding IsStrictlySortedBy
no_order cmp = tt

one_order : {K : Type 0} (cmp : K → K → Ordering) (x : K) → IsStrictlySortedBy cmp (x ∷ [])
unfolding IsStrictlySortedBy
one_order cmp x = (tt, tt)

-- the set of a list has all strings of the list
holds_all : (all : List (List ℕ)) → HasAll (set.from_list all) all
holds_all all =
    held_from_all (set.from_list all) all
    (recursion_from_All (Has (set.from_list all)) all
    (All-weaker (Contains all) (Has (set.from_list all)) (λ s c. has_from_listed all s c) all (All-contains_itself all)))

-- ---- one note, whose tree head is complete

module _ (digest : List ℕ → List ℕ) (origin note : List ℕ) (entries : List (List ℕ))
    (head : IsHead note origin (length entries) (mth digest entries)) where
  abbrev n : ℕ
  n = length entries

  abbrev root : List ℕ
  root = mth digest entries

  abbrev v : View
  v = copy_view digest origin note entries

  once_held : (other : List ℕ) (m : ℕ) (r : List ℕ) → HoldsHead v other m r → IsSameHead origin origin n m root r
  once_held other m r c =
      head_once note origin origin n m root r head (subst (λ k. IsHead k origin m r) (only_listed note other c.is_held) c.is_head)

  once : (other : List ℕ) (m : ℕ) (r : List ℕ) → IsCompleteNote digest v other m r → IsSameHead origin origin n m root r
  once other m r c = once_held other m r c.holds

  holds : HoldsHead v note n root
  holds = record { is_held = has_from_listed (note ∷ []) note (first_listed note); is_head = head }

  tree : IsTreeOf digest v.strings n root entries
  tree = record { size_is = refl; root_is = refl; are_held = holds_all (strings digest entries) }

  pub one_served : Served digest v note n root entries
  one_served = record {
    holds = holds;
    tree = tree;
    greatest_size = λ other m r c. let s = once other m r c in omega (arith, s.size_is);
    least_root = λ other r c. let s = once other n r c in subst (IsAtMost root) (s.root_is) (itself root);
    least_note = λ other c. subst (IsAtMost note) (sym (only_listed note other c.holds.is_held)) (itself note);
  }

  pub one_list : IsServedList digest v entries
  one_list = record { note = note; size = n; root = root; served = one_served }

  -- the served list has the note's number of entries
  pub one_size : (others : List (List ℕ)) → IsServedList digest v others → length others ≡ n
  one_size others is =
      let s = once_held is.note is.size is.root is.served.holds in is.served.tree.size_is ∙ sym s.size_is

  abbrev the_point : Point
  the_point = record { size = n; root = root }

  -- the only tree head
  pub one_head : (m : ℕ) (r : List ℕ) → HasHead v m r → (m ≡ n) × (r ≡ root)
  one_head m r is = let s = once_held is.note m r is.holds in (sym s.size_is, sym s.root_is)

  one_point : (p : Point) → HasHead v p.size p.root → p ≡ the_point
  one_point p is = let s = one_head p.size p.root is in λ i. record { size = s.0 i; root = s.1 i }

  has_head : (p : Point) → p ≡ the_point → HasHead v p.size p.root
  has_head p e = subst (λ (q : Point). HasHead v q.size q.root) (sym e) (record { note = note; holds = holds })

  lists_heads : ListsHeads v (the_point ∷ [])
  lists_heads = record {
    sorted = one_order point_cmp the_point;
    exact = λ p. (
      λ c. has_head p (one_item the_point p c),
      λ is. subst (λ (q : Point). Contains (the_point ∷ []) q) (sym (one_point p is)) (first_listed the_point),
    );
  }

  reports_heads : ReportsHeads digest v (copy_heads (Some the_point))
  reports_heads = record {
    lists = lists_heads;
    flags = All-cons (IsFlagged digest v) (record { size = n; root = root; complete = true }) []
        (λ t. record { entries = entries; complete = record { head = record { note = note; holds = holds }; tree = tree } }, λ is. refl)
        (All-nil (IsFlagged digest v));
  }

  pub one_status : (text : List ℕ) → text ≡ copy_status origin (Some the_point) → IsStatusText digest v text
  one_status text e = record {
    heads = copy_heads (Some the_point);
    served = Some the_point;
    are_heads = reports_heads;
    is_served = (note, entries, one_served);
    is = e;
  }

  no_fork : (a b : Point) → IsFork digest v a b → ⊥
  no_fork a b is = is.differ (one_point a is.first_held ∙ sym (one_point b is.second_held))

  lists_forks : ListsForks digest v []
  lists_forks = record {
    sorted = no_order pair_cmp;
    exact = λ pair. (λ c. absurd (no_item pair c), λ is. absurd (no_fork pair.small pair.large is.0));
  }

  pub one_forks : (text : List ℕ) → text ≡ [] → IsForksText digest v text
  one_forks text e = record { forks = []; are_forks = lists_forks; is = e }

  -- no other list is served
  pub only_list : IsDigest digest → NoClash digest (set.from_list (strings digest entries)) → (others : List (List ℕ)) →
      IsServedList digest v others → others ≡ entries
  only_list hash clear others is =
      let s = once_held is.note is.size is.root is.served.holds in
      only digest v.strings hash clear n root others entries
      (record {
        size_is = one_size others is;
        root_is = is.served.tree.root_is ∙ sym s.root_is;
        are_held = is.served.tree.are_held;
      }) tree

  module _ (hash : IsDigest digest) (clear : NoClash digest (set.from_list (strings digest entries)))
      (small : n ≤ 256 ^ 8) where
    lists_missing : ListsMissing digest v n root []
    lists_missing = record {
      sorted = no_order path_cmp;
      exact = λ path. (
        λ c. absurd (no_item path c),
        λ is. absurd (built_none digest v.strings hash clear n root small (record { entries = entries; is = tree }) path is),
      );
    }

    pub one_missing : (m : ℕ) (r text : List ℕ) → m ≡ n → r ≡ root → text ≡ [] → IsMissingText digest v m r text
    one_missing m r text sizes roots e =
        subst (λ k. IsMissingText digest v k r text) (sym sizes)
        (subst (λ k. IsMissingText digest v n k text) (sym roots)
        (record {
          head = record { note = note; holds = holds };
          paths = [];
          are_missing = lists_missing;
          is = e;
        }))

-- ---- no note

module _ (digest : List ℕ → List ℕ) (origin : List ℕ) where
  abbrev none : View
  none = nothing origin

  pub no_head : (m : ℕ) (r : List ℕ) → HasHead none m r → ⊥
  no_head m r is = has_empty is.note is.holds.is_held

  pub no_list : (entries : List (List ℕ)) → IsServedList digest none entries → ⊥
  no_list entries is = has_empty is.note is.served.holds.is_held

  pub none_status : (text : List ℕ) → text ≡ copy_status origin None → IsStatusText digest none text
  none_status text e = record {
    heads = [];
    served = None;
    are_heads = record {
      lists = record { sorted = no_order point_cmp; exact = λ p. (λ c. absurd (no_item p c), λ is. absurd (no_head p.size p.root is)) };
      flags = All-nil (IsFlagged digest none);
    };
    is_served = λ note size root entries is. has_empty note is.holds.is_held;
    is = e;
  }

  pub none_forks : (text : List ℕ) → text ≡ [] → IsForksText digest none text
  none_forks text e = record {
    forks = [];
    are_forks = record {
      sorted = no_order pair_cmp;
      exact = λ pair. (
        λ c. absurd (no_item pair c),
        λ is. absurd (no_head pair.small.size pair.small.root is.0.first_held),
      );
    };
    is = e;
  }

  pub no_file : (path : Path) (body : List ℕ) → Replies digest none path body → ⊥
  no_file Checkpoint body is = has_empty body is.served.holds.is_held
  no_file (Tile level index width) body is = no_list is.entries is.served
  no_file (Entries index width) body is = no_list is.entries is.served
