-- The served parts are those of the list that is found once.
use Rattle.std.proofs.Common.{◌≡◌, ℕ, ◌+◌, ◌*◌, ◌<◌, ◌≤◌, List, [], ◌∷◌, length, map, get_or, slice_index_or}
use Rattle.std.proofs.Common.{Option, Some, None, Bor, sym, subst, ◌∙◌, arith}
use Rattle.std.specs.Prelude.{Result, Ok, Err, IfOk, IfSome, IfNone, All}
use Rattle.std.proofs.lemmas.List.{get_or-map, length-map}
use Rattle.std.proofs.lemmas.List.Elements.{All-contains, All-from_recursion, All-get_or, All-from_get_or, All-take}
use Rattle.std.proofs.lemmas.List.Elements.{All-drop, Contains-get_or}
use Rattle.tlog_hash.specs.Tree.{mth, strings}
use Rattle.tlog_hash.specs.Rows.{part}
use Rattle.tlog_tiles.specs.Tiles.{tile_bytes, bundle_bytes, IsTileWithin}
use Rattle.node_store.specs.Strings.{Strings, Has}
use Rattle.mirror_model.specs.View.{View}
use Rattle.mirror_model.specs.Complete.{IsTreeOf}
use Rattle.mirror_model.specs.Served.{Served, IsServedList, IsRangeHash, IsServedTile, IsServedBundle, IsServedNote}
use Rattle.mirror_model.specs.Served.{IsCompleteNote}
use Rattle.mirror_model.proofs.StringSets.{all_from_held}
use Rattle.mirror_model.proofs.FullBundles.{strings_leaf}
use Rattle.mirror_model.proofs.OneLists.{serves_one, only}
use Rattle.mirror_model.specs.Reports.{SaysServed}
use Rattle.mirror_trees.specs.Tops.{Top, IsWhole, IsListOf, IsServedAs, IsServedTop, TopHasServed}
use Rattle.mirror_trees.specs.Tops.{ProofsAreServed}

module _ (digest : List ℕ → List ℕ) (v : View) where
  -- two served lists have one length
  size_once : (note other : List ℕ) (size n : ℕ) (root r : List ℕ) (first second : List (List ℕ)) →
      Served digest v note size root first → Served digest v other n r second → length first ≡ length second
  size_once note other size n root r first second p q =
      let is_p : IsCompleteNote digest v note size root =
      record { holds = p.holds; built = record { entries = first; is = p.tree } } in
      let is_q : IsCompleteNote digest v other n r =
      record { holds = q.holds; built = record { entries = second; is = q.tree } } in
      let le : n ≤ size = p.greatest_size other n r is_q in
      let ge : size ≤ n = q.greatest_size note size root is_p in
      p.tree.size_is ∙ omega (arith, le, ge) ∙ sym q.tree.size_is

  module _ (top : Top) (is : IsServedTop digest v top) where
    abbrev entries : List (List ℕ)
    entries = is.served.entries

    pub list_of : IsListOf digest top entries
    list_of =
        subst (λ (s : Strings). IsTreeOf digest s top.size top.root entries) (sym is.strings_are) is.served.served.tree

    pub listed : IsServedList digest v entries
    listed = record { note = top.note; size = top.size; root = top.root; served = is.served.served }

    same_size : (other : List (List ℕ)) → IsServedList digest v other → length other ≡ top.size
    same_size other q =
        sym (size_once top.note q.note top.size q.size top.root q.root entries other is.served.served q.served) ∙
        is.served.served.tree.size_is

    within_entries : (level index width : ℕ) → IsTileWithin top.size level index width →
        IsTileWithin (length entries) level index width
    within_entries level index width = subst (λ n. IsTileWithin n level index width) (sym is.served.served.tree.size_is)

    -- ---- a range

    pub range_some : (start len : ℕ) (r : Option (List ℕ)) →
        IfSome r (λ hash. (es : List (List ℕ)) → IsListOf digest top es →
        (start + len ≤ length es) × (hash ≡ mth digest (part start len es))) →
        IfSome r (λ hash. IsRangeHash digest v start len hash)
    range_some start len None h = h
    range_some start len (Some hash) h =
        let found =
        h entries list_of in record { entries = entries; served = listed; within = found.0; hash_is = found.1 }

    pub range_none : (start len : ℕ) (r : Option (List ℕ)) →
        IfNone r ((es : List (List ℕ)) → IsListOf digest top es → length es < start + len) →
        IfNone r ((hash : List ℕ) → IsRangeHash digest v start len hash → ⊥)
    range_none start len (Some hash) h = h
    range_none start len None h = λ hash q.
        let short : length entries < start + len = h entries list_of in
        let size : length q.entries ≡ top.size = same_size q.entries q.served in
        omega (arith, short, size, q.within, is.served.served.tree.size_is)

    -- ---- tiles and bundles

    module _ {A E : Type 0} (bytes_of : A → List ℕ) (level index width : ℕ) where
      pub tile_some :
          (r : Result (Option A) E) → IfOk r (λ o. IfSome o (λ b. IsTileWithin top.size level index width)) →
          IfOk r (λ o. IfSome o
          (λ b. (es : List (List ℕ)) → IsListOf digest top es →
          bytes_of b ≡ tile_bytes digest es level index width)) →
          IfOk r (λ o. IfSome o (λ b. IsServedTile digest v level index width (bytes_of b)))
      tile_some (Err e) w h = h
      tile_some (Ok None) w h = h
      tile_some (Ok (Some b)) w h =
          record {
            entries =
                entries;
            served = listed;
            within = within_entries level index width w;
            bytes_are = h entries list_of;
          }

      pub tile_none :
          (r : Result (Option A) E) → IfOk r (λ o. IfNone o (IsTileWithin top.size level index width → ⊥)) →
          IfOk r (λ o. IfNone o ((bytes : List ℕ) → IsServedTile digest v level index width bytes → ⊥))
      tile_none (Err e) h = h
      tile_none (Ok (Some b)) h = h
      tile_none (Ok None) h =
          λ bytes q. h (subst (λ n. IsTileWithin n level index width) (same_size q.entries q.served) q.within)

    module _ {A E : Type 0} (bytes_of : A → List ℕ) (index width : ℕ) where
      pub bundle_some :
          (r : Result (Option A) E) → IfOk r (λ o. IfSome o (λ b. IsTileWithin top.size 0 index width)) →
          IfOk r (λ o. IfSome o
          (λ b. (es : List (List ℕ)) → IsListOf digest top es → bytes_of b ≡ bundle_bytes es index width)) →
          IfOk r (λ o. IfSome o (λ b. IsServedBundle digest v index width (bytes_of b)))
      bundle_some (Err e) w h = h
      bundle_some (Ok None) w h = h
      bundle_some (Ok (Some b)) w h =
          record {
            entries =
                entries;
            served = listed;
            within = within_entries 0 index width w;
            bytes_are = h entries list_of;
          }

      pub bundle_none :
          (r : Result (Option A) E) → IfOk r (λ o. IfNone o (IsTileWithin top.size 0 index width → ⊥)) →
          IfOk r (λ o. IfNone o ((bytes : List ℕ) → IsServedBundle digest v index width bytes → ⊥))
      bundle_none (Err e) h = h
      bundle_none (Ok (Some b)) h = h
      bundle_none (Ok None) h =
          λ bytes q. h (subst (λ n. IsTileWithin n 0 index width) (same_size q.entries q.served) q.within)

  -- ---- nothing is served

  module _ (nothing : SaysServed digest v None) where
    nothing_listed : (es : List (List ℕ)) → IsServedList digest v es → ⊥
    nothing_listed es q = nothing q.note q.size q.root es q.served

    pub no_range : (start len : ℕ) (hash : List ℕ) → IsRangeHash digest v start len hash → ⊥
    no_range start len hash q = nothing_listed q.entries q.served

    pub no_tile : (level index width : ℕ) (bytes : List ℕ) → IsServedTile digest v level index width bytes → ⊥
    no_tile level index width bytes q = nothing_listed q.entries q.served

    pub no_bundle : (index width : ℕ) (bytes : List ℕ) → IsServedBundle digest v index width bytes → ⊥
    no_bundle index width bytes q = nothing_listed q.entries q.served

  pub note_served : (note : List ℕ) (size : ℕ) (root : List ℕ) → IsServedAs digest v note size root →
      IsServedNote digest v note
  note_served note size root h = record { size = size; root = root; entries = h.entries; served = h.served }

-- ---- the entries of a bundle are short

module _ (digest : List ℕ → List ℕ) (top : Top) (whole : IsWhole digest top) where
  short_entry : (i : ℕ) (d : List ℕ) → i < length whole.built.entries → length (get_or whole.built.entries i d) < 65536
  short_entry i d lt =
      let es = whole.built.entries in
      let leaf : List ℕ → List ℕ = λ e. 0 ∷ e in
      let within : i < length (map leaf es) = subst (λ n. i < n) (sym (length-map es leaf)) lt in
      let found = Contains-get_or (map leaf es) i (0 ∷ d) within in
      let held =
      All-contains (Has top.strings) (strings digest es) (get_or (map leaf es) i (0 ∷ d))
      (All-from_recursion (Has top.strings) (strings digest es)
      (all_from_held top.strings (strings digest es) whole.built.is.are_held))
      (strings_leaf digest es (get_or (map leaf es) i (0 ∷ d)) found) in
      let upto =
      whole.leaves_short (get_or es i d) (subst (Has top.strings) (get_or-map leaf es i d (0 ∷ d) lt) held) in
      omega (arith, upto)

  all_short : All (λ (e : List ℕ). length e < 65536) whole.built.entries
  all_short = All-from_get_or (λ (e : List ℕ). length e < 65536) whole.built.entries [] (λ i lt. short_entry i [] lt)

  pub lent_short :
      (lent : List (Bor (List ℕ))) (index width : ℕ) →
      ((es : List (List ℕ)) → IsListOf digest top es →
      map (λ (e : Bor (List ℕ)). e.now) lent ≡ part (256 * index) width es) →
      (k : ℕ) (d : Bor (List ℕ)) → k < length lent → length (slice_index_or lent k d).now < 65536
  lent_short lent index width is k d lt =
      let es = whole.built.entries in
      let same = is es whole.built.is in
      let short =
      All-take (λ (e : List ℕ). length e < 65536) width _
      (All-drop (λ (e : List ℕ). length e < 65536) (256 * index) es all_short) in
      let shorts : All (λ (e : List ℕ). length e < 65536) (map (λ (e : Bor (List ℕ)). e.now) lent) =
      subst (All (λ (e : List ℕ). length e < 65536)) (sym same) short in
      let within : k < length (map (λ (e : Bor (List ℕ)). e.now) lent) =
      subst (λ n. k < n) (sym (length-map lent (λ (e : Bor (List ℕ)). e.now))) lt in
      let at_k =
      All-get_or (λ (e : List ℕ). length e < 65536)
      (map (λ (e : Bor (List ℕ)). e.now) lent) k d.now within shorts in
      subst (λ (e : List ℕ). length e < 65536) (get_or-map (λ (e : Bor (List ℕ)). e.now) lent k d d.now lt) at_k

-- ---- the list that is found is the served one

pub top_has_served : TopHasServed
top_has_served digest hash v lawful top is es = (
  λ tree. record {
    note = top.note;
    size = top.size;
    root = top.root;
    served = subst (Served digest v top.note top.size top.root)
        (only digest v.strings hash lawful.no_clash top.size top.root is.served.entries es is.served.served.tree
        (subst (λ (s : Strings). IsTreeOf digest s top.size top.root es) is.strings_are tree)) is.served.served;
  },
  λ q.
      let same =
      serves_one digest hash v lawful top.note q.note top.size q.size top.root q.root is.served.entries es
      is.served.served q.served in
      subst (λ (s : Strings). IsTreeOf digest s top.size top.root es) (sym is.strings_are)
      (subst (IsTreeOf digest v.strings top.size top.root) same.entries_are is.served.served.tree),
)

pub proofs_are_served : ProofsAreServed
proofs_are_served digest v top is ask result made =
    record {
      entries =
          is.served.entries;
      served = listed digest v top is;
      answers = made is.served.entries (list_of digest v top is);
    }
