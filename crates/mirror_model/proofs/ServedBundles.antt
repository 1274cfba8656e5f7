-- The served bundles have exactly the served entries.
use Rattle.std.proofs.Common.{min, zero, suc, ◌≡◌, ℕ, ◌+◌, ◌-◌, ◌*◌, ◌^◌, ◌<◌, ◌≤◌, List, [], ◌∷◌, ◌++◌, length, map}
use Rattle.std.proofs.Common.{take, drop, sym, refl, ap, ◌∙◌, subst, inl, inr, arith, length-take, length-drop}
use Rattle.std.proofs.Common.{take-append-drop}
use Rattle.std.specs.List.{Contains}
use Rattle.std.proofs.lemmas.List.{nil_from_length, drop-drop, take_min}
use Rattle.std.proofs.lemmas.List.Concat.{flat_map-cons}
use Rattle.std.proofs.lemmas.List.Elements.{All-weaker, All-contains_itself}
use Rattle.std.proofs.lemmas.Bool.{cases_lt}
use Rattle.tlog_hash.specs.Tree.{strings}
use Rattle.tlog_hash.specs.Rows.{part}
use Rattle.tlog_hash.specs.Blocks.{joined_up}
use Rattle.tlog_tiles.specs.Bundle.{IsBundle}
use Rattle.tlog_tiles.specs.Tiles.{bundle_bytes, IsTileWithin}
use Rattle.tlog_tiles.proofs.TileLemmas.{served_is_read}
use Rattle.mirror_model.specs.View.{View}
use Rattle.mirror_model.specs.Complete.{IsLawful}
use Rattle.mirror_model.specs.Served.{IsServedList, IsServedBundle}
use Rattle.mirror_model.specs.TrueLaws.{AreShort}
use Rattle.mirror_model.specs.Strings.{IsDigest}
use Rattle.mirror_model.specs.ServedLaws.{IsWidestBundle, AreBundles, ServedBundlesAreAllEntries}
use Rattle.mirror_model.specs.ServedLaws.{AllEntriesAreInBundles}
use Rattle.mirror_model.proofs.FullBundles.{strings_leaf}
use Rattle.mirror_model.proofs.ItemBytes.{bundle_is_one}
use Rattle.mirror_model.proofs.OneLists.{one_served}
use Rattle.mirror_model.proofs.StringSets.{holds_from_held}

tagged : (es : List (List ℕ)) (e : List ℕ) → Contains es e → Contains (map (λ e. 0 ∷ e) es) (0 ∷ e)
tagged [] e (k, lt, is) = absurd (omega (arith, lt))
tagged (x ∷ es) e (zero, lt, is) = (0, omega arith, ap (λ (y : List ℕ). 0 ∷ y) is)
tagged (x ∷ es) e (suc k, lt, is) = let r = tagged es e (k, omega (arith, lt), is) in (suc r.0, omega (arith, r.1), r.2)

module _ (digest : List ℕ → List ℕ) (hash : IsDigest digest) (v : View) (lawful : IsLawful digest v)
    (entries : List (List ℕ)) (served : IsServedList digest v entries) where
  -- the served entries are short enough for bundles
  short : AreShort entries
  short = All-weaker (Contains entries) (λ e. length e < 2 ^ 16) each entries (All-contains_itself entries)
    where
      each : (e : List ℕ) → Contains entries e → length e < 2 ^ 16
      each e c =
          let held = holds_from_held v.strings (strings digest entries) served.served.tree.are_held in
          let few = lawful.leaves_short e (held (0 ∷ e) (strings_leaf digest entries (0 ∷ e) (tagged entries e c))) in
          omega (arith, few)

  -- the number of entries of the bundle with that index
  abbrev full : ℕ → ℕ
  full index = min 256 (length entries - 256 * index)

  -- a bundle within the entries is served
  is_served : (index width : ℕ) → 1 ≤ width → width ≤ 256 → 256 * index + width ≤ length entries →
      IsServedBundle digest v index width (bundle_bytes entries index width)
  is_served index width some upto fits =
      let one : (256 * index + width) * 256 ^ 0 ≡ 256 * index + width = omega arith in
      record {
        entries =
            entries;
        served =
            served;
        within =
            record { level_fits = omega arith; some = some; upto = upto; within = omega (arith, one, fits) };
        bytes_are =
            refl;
      }

  -- a served bundle is within the served entries
  pub record IsPartServed (index width : ℕ) (bytes : List ℕ) : Type 0 where
    pub some : 1 ≤ width
    pub fits : 256 * index + width ≤ length entries
    pub upto : width ≤ 256
    pub is_bundle : IsBundle width bytes (part (256 * index) width entries)

  only_served : (index width : ℕ) (bytes : List ℕ) → IsServedBundle digest v index width bytes →
      IsPartServed index width bytes
  only_served index width bytes s =
      let same : s.entries ≡ entries = one_served digest hash v lawful s.entries entries s.served served in
      let within : IsTileWithin (length entries) 0 index width =
      subst (λ es. IsTileWithin (length es) 0 index width) same s.within in
      let one : (256 * index + width) * 256 ^ 0 ≡ 256 * index + width = omega arith in
      let is : bytes ≡ bundle_bytes entries index width = s.bytes_are ∙ ap (λ es. bundle_bytes es index width) same in
      record {
        some =
            within.some;
        fits =
            omega (arith, one, within.within);
        upto =
            within.upto;
        is_bundle =
            subst (λ b. IsBundle width b (part (256 * index) width entries)) (sym is)
            ((served_is_read digest hash entries short).bundle index width within);
      }

  first_and_rest : (index : ℕ) →
      part (256 * index) (full index) entries ++ drop (256 * (index + 1)) entries ≡ drop (256 * index) entries
  first_and_rest index =
      let rest = drop (256 * index) entries in
      let wide : full index ≡ min 256 (length rest) = ap (λ n. min 256 n) (sym (length-drop (256 * index) entries)) in
      let next : 256 * (index + 1) ≡ 256 * index + 256 = omega arith in
      (λ i. (ap (λ n. take n rest) wide ∙ take_min 256 rest) i
      ++ (ap (λ n. drop n entries) next ∙ sym (drop-drop 256 (256 * index) entries)) i)
      ∙ take-append-drop 256 rest

  from_index : (bundles : List (List (List ℕ))) (index : ℕ) → AreBundles digest v index bundles →
      joined_up bundles ≡ drop (256 * index) entries
  from_index [] index none =
      elim (cases_lt (256 * index) (length entries)) [
        | inl lt ↦ absurd
            (none 1 (bundle_bytes entries index 1) (is_served index 1 (omega arith) (omega arith) (omega (arith, lt))))
        | inr le ↦ sym
            (nil_from_length (drop (256 * index) entries) (omega (arith, le, length-drop (256 * index) entries)))
      ]
  from_index (es ∷ more) index b =
      let w = b.0 in
      let s = only_served index (length es) w.bytes w.served in
      let is : es ≡ part (256 * index) (length es) entries =
      bundle_is_one (length es) w.bytes es w.is_bundle ∙
      sym (bundle_is_one (length es) w.bytes (part (256 * index) (length es) entries) s.is_bundle) in
      let most =
      w.widest (full index) (bundle_bytes entries index (full index))
      (is_served index (full index) (omega (arith, s.fits, s.some)) (omega arith)
      (omega (arith, s.fits, s.some))) in
      let wide : length es ≡ full index = omega (arith, most, s.fits, s.upto) in
      flat_map-cons (λ y. y) es more
      ∙ (λ i. (is ∙ ap (λ n. part (256 * index) n entries) wide) i ++ from_index more (index + 1) b.1 i)
      ∙ first_and_rest index

  -- the bundles from an index on
  pub record HasBundles (index : ℕ) : Type 0 where
    pub bundles : List (List (List ℕ))
    pub are : AreBundles digest v index bundles

  none_from : (index : ℕ) → length entries ≤ 256 * index → HasBundles index
  none_from index le =
      record {
        bundles =
            [];
        are = λ width bytes s. let p = only_served index width bytes s in omega (arith, p.some, p.fits, le);
      }

  bundles_from : (count index : ℕ) → length entries ≤ 256 * (index + count) → HasBundles index
  bundles_from zero index le = none_from index (omega (arith, le))
  bundles_from (suc count) index le =
      elim (cases_lt (256 * index) (length entries)) [
        | inr past ↦ none_from index past
        | inl lt ↦
            let es = part (256 * index) (full index) entries in
            let len : length es ≡ full index =
            length-take (full index) (drop (256 * index) entries) ∙
            omega (arith, length-drop (256 * index) entries) in
            let rest = bundles_from count (index + 1) (omega (arith, le)) in
            let fits : 256 * index + full index ≤ length entries = omega (arith, lt) in
            let s = is_served index (full index) (omega (arith, lt)) (omega arith) fits in
            let p = only_served index (full index) (bundle_bytes entries index (full index)) s in
            let first : IsWidestBundle digest v index es = record {
              bytes = bundle_bytes entries index (full index);
              served = subst (λ n. IsServedBundle digest v index n (bundle_bytes entries index (full index)))
                  (sym len) s;
              is_bundle = subst (λ n. IsBundle n (bundle_bytes entries index (full index)) es) (sym len) p.is_bundle;
              widest = λ width other o. (let q = only_served index width other o in omega (arith, len, q.fits, q.upto));
            } in
            record { bundles = es ∷ rest.bundles; are = (first, rest.are) }
      ]

pub bundles_are_all : ServedBundlesAreAllEntries
bundles_are_all digest hash v lawful entries served bundles are =
    from_index digest hash v lawful entries served bundles 0 are

pub bundles_are_served : AllEntriesAreInBundles
bundles_are_served digest hash v lawful entries served =
    let all =
    bundles_from digest hash v lawful entries served (length entries) 0 (omega arith) in (all.bundles, all.are)
