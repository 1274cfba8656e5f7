-- Two lists with the same size and root and all strings held are equal; consequences for served entries and forks.
use Rattle.std.proofs.Common.{◌≡◌, ℕ, ◌+◌, ◌-◌, ◌<◌, ◌≤◌, List, [], ◌∷◌, ◌++◌, length, take, drop, sym, refl, ap, ◌∙◌}
use Rattle.std.proofs.Common.{subst, arith, length-append, length-take, length-drop, take-append-drop}
use Rattle.std.specs.List.{AllByRecursion}
use Rattle.std.proofs.Common.{true, false}
use Rattle.std.specs.Ordering.{nat_cmp, ordering_reverse, is_le}
use Rattle.std.specs.declared.cmp.Ordering.{Ordering}
use Rattle.std.specs.declared.cmp.Ordering.TheVariants.{Less, Equal, Greater}
use Rattle.std.specs.Cmp.Lexicographic.{slice_cmp, nat_list_cmp_total}
use Rattle.std.specs.FinSet.{slice_cmp-IsAntisymmetric, nat_cmp-IsAntisymmetric}
use Rattle.tlog_shape.specs.Split.{split_of}
use Rattle.tlog_shape.proofs.Splits.{split_of-below}
use Rattle.tlog_hash.specs.Tree.{mth, strings}
use Rattle.tlog_hash.proofs.Trees.{mth-one, mth-append, length-mth, strings-one, left-strings, right-strings}
use Rattle.tlog_hash.proofs.Trees.{join-string, induction}
use Rattle.node_store.specs.Strings.{Strings, Has, NoClash}
use Rattle.tlog_hash.proofs.PairStrings.{left_is, right_is}
use Rattle.mirror_model.specs.Complete.{IsLawful, IsTreeOf}
use Rattle.mirror_model.specs.Served.{IsServedList, IsAtMost, IsCompleteNote}
use Rattle.mirror_model.specs.Forks.{IsPrefix}
use Rattle.tlog_tiles.specs.declared.paths.Path.TheVariants.{Checkpoint, Tile, Entries}
use Rattle.tlog_tiles.specs.Tiles.{tile_bytes, bundle_bytes}
use Rattle.mirror_model.specs.View.{View}
use Rattle.tlog_hash.specs.Rows.{part}
use Rattle.mirror_model.specs.Heads.{IsHead}
use Rattle.mirror_model.specs.ReplyLaws.{ServedRootIsTreeHash, RangeHashIsOne, ReplyIsOne, ServedIsOne}
use Rattle.mirror_model.specs.Strings.{IsDigest}
use Rattle.mirror_model.specs.CompleteLaws.{CompleteListIsOne, CompleteListHasRoot, CompleteKeepsItsList}
use Rattle.mirror_model.specs.ForkLaws.{ForkMeansNoPrefix}
use Rattle.mirror_model.proofs.StringSets.{all_from_held}
use Rattle.mirror_model.proofs.Views.{complete_stays}
use Rattle.std.proofs.lemmas.List.{append-nil, nil_from_length}
use Rattle.std.proofs.Common.{inl, inr}

module _ (digest : List ℕ → List ℕ) (held : Strings) (size : (s : List ℕ) → length (digest s) ≡ 32)
    (clean : NoClash digest held) where
  -- the claim for a list
  abbrev IsOnly : List (List ℕ) → Type 0
  IsOnly xs =
      (ys : List (List ℕ)) → length ys ≡ length xs → mth digest ys ≡ mth digest xs →
      AllByRecursion (Has held) (strings digest xs) → AllByRecursion (Has held) (strings digest ys) → xs ≡ ys

  only_none : IsOnly []
  only_none [] len root p q = refl
  only_none (y ∷ ys) len root p q = absurd (omega arith)

  only_one : (x : List ℕ) → IsOnly (x ∷ [])
  only_one x [] len root p q = absurd (omega arith)
  only_one x (y ∷ z ∷ ys) len root p q = absurd (omega arith)
  only_one x (y ∷ []) len root p q =
      let held_x : Has held (0 ∷ x) = (subst (AllByRecursion (Has held)) (strings-one digest x) p).0 in
      let held_y : Has held (0 ∷ y) = (subst (AllByRecursion (Has held)) (strings-one digest y) q).0 in
      let same : 0 ∷ x ≡ 0 ∷ y =
      clean.same (0 ∷ x) (0 ∷ y) held_x held_y (sym (mth-one digest x) ∙ sym root ∙ mth-one digest y) in
      ap (λ s. drop 1 s ∷ []) same

  -- the claim for two lists in order, both split at the same place
  only_append : (xs ys xs' ys' : List (List ℕ)) → 2 ≤ length xs + length ys →
      length xs ≡ split_of (length xs + length ys) → length xs' ≡ length xs → length ys' ≡ length ys → IsOnly xs →
      IsOnly ys → mth digest (xs' ++ ys') ≡ mth digest (xs ++ ys) →
      AllByRecursion (Has held) (strings digest (xs ++ ys)) → AllByRecursion (Has held) (strings digest (xs' ++ ys')) →
      xs ++ ys ≡ xs' ++ ys'
  only_append xs ys xs' ys' two at sx sy only_x only_y root p q =
      let two' : 2 ≤ length xs' + length ys' = omega arith in
      let sum : length xs' + length ys' ≡ length xs + length ys = omega arith in
      let at' : length xs' ≡ split_of (length xs' + length ys') = sx ∙ at ∙ ap split_of (sym sum) in
      let has = join-string digest (Has held) xs ys two at p in
      let has' = join-string digest (Has held) xs' ys' two' at' q in
      let same : 1 ∷ mth digest xs ++ mth digest ys ≡ 1 ∷ mth digest xs' ++ mth digest ys' =
      clean.same _ _ has has'
      (sym (mth-append digest xs ys two at) ∙ sym root ∙ mth-append digest xs' ys' two' at') in
      let lens : length (mth digest xs) ≡ length (mth digest xs') =
      length-mth digest size xs ∙ sym (length-mth digest size xs') in
      let l : xs ≡ xs' =
      only_x xs' sx (sym (left_is (mth digest xs) (mth digest ys) (mth digest xs') (mth digest ys') lens same))
      (left-strings digest (Has held) xs ys two at p) (left-strings digest (Has held) xs' ys' two' at' q) in
      let r : ys ≡ ys' =
      only_y ys' sy (sym (right_is (mth digest xs) (mth digest ys) (mth digest xs') (mth digest ys') lens same))
      (right-strings digest (Has held) xs ys two at p) (right-strings digest (Has held) xs' ys' two' at' q) in
      λ i. l i ++ r i

  only_join : (xs : List (List ℕ)) → 2 ≤ length xs → IsOnly (take (split_of (length xs)) xs) →
      IsOnly (drop (split_of (length xs)) xs) → IsOnly xs
  only_join xs two only_l only_r ys len root p q =
      let k = split_of (length xs) in
      let below : k < length xs = split_of-below (length xs) two in
      let a : length (take k xs) ≡ k = length-take k xs ∙ omega arith in
      let b : length (drop k xs) ≡ length xs - k = length-drop k xs in
      let a' : length (take k ys) ≡ k = length-take k ys ∙ omega arith in
      let b' : length (drop k ys) ≡ length ys - k = length-drop k ys in
      let whole : xs ≡ take k xs ++ drop k xs = sym (take-append-drop k xs) in
      let whole' : ys ≡ take k ys ++ drop k ys = sym (take-append-drop k ys) in
      let total : length (take k xs) + length (drop k xs) ≡ length xs = omega arith in
      whole ∙ only_append (take k xs) (drop k xs) (take k ys) (drop k ys) (omega arith) (a ∙ ap split_of (sym total))
      (a' ∙ sym a) (omega arith) only_l only_r
      (ap (mth digest) (sym whole') ∙ root ∙ ap (mth digest) whole)
      (subst (λ zs. AllByRecursion (Has held) (strings digest zs)) whole p)
      (subst (λ zs. AllByRecursion (Has held) (strings digest zs)) whole' q)
      ∙ sym whole'

  pub only : (n : ℕ) (root : List ℕ) (xs ys : List (List ℕ)) → IsTreeOf digest held n root xs →
      IsTreeOf digest held n root ys → xs ≡ ys
  only n root xs ys p q =
      induction IsOnly only_none only_one only_join xs ys (q.size_is ∙ sym p.size_is) (q.root_is ∙ sym p.root_is)
      (all_from_held held _ p.are_held) (all_from_held held _ q.are_held)

pub one_list : CompleteListIsOne
one_list digest hash v lawful size root first second p q =
    only digest v.strings hash lawful.no_clash size root first second p.tree q.tree

pub list_has_root : CompleteListHasRoot
list_has_root digest v size root entries c = (c.tree.size_is, c.tree.root_is)

pub complete_is_same : CompleteKeepsItsList
complete_is_same digest hash v w a clean size root before after p q =
    only digest w.strings hash clean size root before after (complete_stays digest v w a size root before p).tree q.tree

-- two lists of the same length are equal if one is a prefix of the other
pub prefix_same : (xs ys : List (List ℕ)) → length xs ≡ length ys → IsPrefix xs ys → xs ≡ ys
prefix_same xs ys len p =
    let none : length p.rest ≡ 0 = omega (arith, length-append xs p.rest, ap length p.is) in
    sym (append-nil xs) ∙ ap (λ zs. xs ++ zs) (sym (nil_from_length p.rest none)) ∙ p.is

pub forks_tell : ForkMeansNoPrefix
forks_tell digest hash v lawful a b first second differ p q = (
  λ f. elim f.conflict [
    | inl same ↦
        let len : length first ≡ length second = p.tree.size_is ∙ same ∙ sym q.tree.size_is in (
          λ pre. differ (same_point same (prefix_same first second len pre)),
          λ pre. differ (same_point same (sym (prefix_same second first (sym len) pre))),
        )
    | inr d ↦
        let one : d.first ≡ first = one_list digest hash v lawful a.size a.root d.first first d.first_complete p in
        let two : d.second ≡ second =
        one_list digest hash v lawful b.size b.root d.second second d.second_complete q in (
          λ pre. d.not_prefix (along one two pre),
          λ pre. d.not_extension (along two one pre),
        )
  ],
  λ neither. record {
    first_held =
        p.head;
    second_held =
        q.head;
    differ =
        differ;
    conflict =
        inr (record {
          first =
              first;
          second =
              second;
          first_complete = p;
          second_complete = q;
          not_prefix = neither.0;
          not_extension = neither.1;
        });
  },
)
  where
    same_point : a.size ≡ b.size → first ≡ second → a ≡ b
    same_point same e =
        let root : a.root ≡ b.root =
        sym p.tree.root_is ∙ ap (mth digest) e ∙ q.tree.root_is in λ i. record { size = same i; root = root i }

    along : {x x' y y' : List (List ℕ)} → x ≡ x' → y ≡ y' → IsPrefix x' y' → IsPrefix x y
    along e f pre = record { rest = pre.rest; is = ap (λ z. z ++ pre.rest) e ∙ pre.is ∙ sym f }

-- two strings are equal if each is at most the other
pub at_most_both : (x y : List ℕ) → IsAtMost x y → IsAtMost y x → x ≡ y
at_most_both x y a b =
    slice_cmp-IsAntisymmetric nat_cmp-IsAntisymmetric x y
    (tie (slice_cmp nat_cmp y x) (slice_cmp nat_cmp x y) (nat_list_cmp_total.antisymm x y) a b)
  where
    tie : (o p : Ordering) → p ≡ ordering_reverse o → is_le p ≡ true → is_le o ≡ true → p ≡ Equal
    tie Equal p e a b = e
    tie Less p e a b = absurd (let no_le : false ≡ true = ap is_le (sym e) ∙ a in cc no_le)
    tie Greater p e a b = absurd (let no_le : false ≡ true = b in cc no_le)

pub serves_one : ServedIsOne
serves_one digest hash v lawful note other size n root r first second p q =
    let is_p : IsCompleteNote digest v note size root =
    record { holds = p.holds; built = record { entries = first; is = p.tree } } in
    let is_q : IsCompleteNote digest v other n r =
    record { holds = q.holds; built = record { entries = second; is = q.tree } } in
    let le : n ≤ size = p.greatest_size other n r is_q in
    let ge : size ≤ n = q.greatest_size note size root is_p in
    let size_is : size ≡ n = omega arith in
    let q_size : IsCompleteNote digest v other size r =
    subst (λ m. IsCompleteNote digest v other m r) (sym size_is) is_q in
    let p_size : IsCompleteNote digest v note n root = subst (λ m. IsCompleteNote digest v note m root) size_is is_p in
    let root_is : root ≡ r = at_most_both root r (p.least_root other r q_size) (q.least_root note root p_size) in
    let q_root : IsCompleteNote digest v other size root =
    subst (λ h. IsCompleteNote digest v other size h) (sym root_is) q_size in
    let p_root : IsCompleteNote digest v note n r = subst (λ h. IsCompleteNote digest v note n h) root_is p_size in
    record {
      note_is = at_most_both note other (p.least_note other q_root) (q.least_note note p_root);
      size_is = size_is;
      root_is = root_is;
      entries_are =
          only digest v.strings hash lawful.no_clash size root first second p.tree
          (record {
            size_is =
                q.tree.size_is ∙ sym size_is;
            root_is = q.tree.root_is ∙ sym root_is;
            are_held = q.tree.are_held;
          });
    }

-- at most one list is served
pub one_served : (digest : List ℕ → List ℕ) → IsDigest digest → (v : View) → IsLawful digest v →
    (first second : List (List ℕ)) → IsServedList digest v first → IsServedList digest v second → first ≡ second
one_served digest hash v lawful first second p q =
    (serves_one digest hash v lawful p.note q.note p.size q.size p.root q.root first second p.served
    q.served).entries_are

pub replies_once : ReplyIsOne
replies_once digest hash v lawful Checkpoint first second p q =
    (serves_one digest hash v lawful first second p.size q.size p.root q.root p.entries q.entries p.served
    q.served).note_is
replies_once digest hash v lawful (Tile level index width) first second p q =
    p.bytes_are ∙
    ap (λ es. tile_bytes digest es level index width)
    (one_served digest hash v lawful p.entries q.entries p.served q.served) ∙ sym q.bytes_are
replies_once digest hash v lawful (Entries index width) first second p q =
    p.bytes_are ∙
    ap (λ es. bundle_bytes es index width) (one_served digest hash v lawful p.entries q.entries p.served q.served) ∙
    sym q.bytes_are

pub ranges_hash_once : RangeHashIsOne
ranges_hash_once digest hash v lawful start len first second p q =
    p.hash_is ∙
    ap (λ es. mth digest (part start len es)) (one_served digest hash v lawful p.entries q.entries p.served q.served) ∙
    sym q.hash_is

pub serves_truth : ServedRootIsTreeHash
serves_truth digest v note size root entries p = record {
  is_held = p.holds.is_held;
  is_head =
      subst (λ n. IsHead note v.origin n (mth digest entries)) (sym p.tree.size_is)
      (subst (IsHead note v.origin size) (sym p.tree.root_is) p.holds.is_head);
}
