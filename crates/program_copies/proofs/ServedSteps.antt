-- Served entries, written bundle after bundle.
use Rattle.std.proofs.Common.{◌≡◌, ℕ, zero, suc, ◌+◌, ◌-◌, ◌*◌, ◌/◌, ◌%◌, ◌^◌, ◌<◌, ◌≤◌, min, All, List, [], ◌∷◌, ◌++◌, length, drop, map}
use Rattle.std.proofs.Common.{Bool, Option, sym, ap, ◌∙◌, subst, arith}
use Rattle.std.specs.Io.KnownBytes.{Appends}
use Rattle.byte_streams.specs.Streams.{AppendsPrefix}
use Rattle.std.proofs.lemmas.List.{length-take, length-drop}
use Rattle.std.proofs.lemmas.List.Elements.{All-contains_itself, All-drop, All-take, All-weaker}
use Rattle.std.specs.List.{Contains}
use Rattle.tlog_hash.specs.Tree.{strings}
use Rattle.node_store.specs.Strings.{Has, Strings}
use Rattle.mirror_model.specs.Complete.{IsTreeOf}
use Rattle.mirror_model.specs.TrueLaws.{AreShort}
use Rattle.mirror_model.proofs.FullBundles.{strings_leaf}
use Rattle.mirror_model.proofs.StringSets.{holds_from_held}
use Rattle.tlog_hash.specs.Rows.{part}
use Rattle.tlog_tiles.specs.Bundle.{IsBundle}
use Rattle.tlog_tiles.specs.Tiles.{bundle_bytes}
use Rattle.program_copies.specs.Texts.{bundle_width, entries_text}
use Rattle.program_copies.specs.Served.{WritesAll, WritesFirst}
use Rattle.program_copies.specs.Shown.{AppendsFrom, BeginsFrom, IsNext}
use Rattle.program_copies.proofs.Parts.{entries_begin, entries_on, part_on, part_within, prefix_whole}

tagged : (es : List (List ℕ)) (e : List ℕ) → Contains es e → Contains (map (λ e. 0 ∷ e) es) (0 ∷ e)
tagged [] e (k, lt, is) = absurd (omega (arith, lt))
tagged (x ∷ es) e (zero, lt, is) = (0, omega arith, ap (λ (y : List ℕ). 0 ∷ y) is)
tagged (x ∷ es) e (suc k, lt, is) = let r = tagged es e (k, omega (arith, lt), is) in (suc r.0, omega (arith, r.1), r.2)

-- the entries of a held tree are short if all held entries are
pub short_list : (digest : List ℕ → List ℕ) (held : Strings) →
    ((entry : List ℕ) → Has held (0 ∷ entry) → length entry ≤ 65535) → (size : ℕ) (root : List ℕ) (entries : List (List ℕ)) →
    IsTreeOf digest held size root entries → AreShort entries
short_list digest held few size root entries tree =
    All-weaker (Contains entries) (λ (e : List ℕ). length e < 2 ^ 16) each entries (All-contains_itself entries)
  where
    each : (e : List ℕ) → Contains entries e → length e < 2 ^ 16
    each e c =
        let found = holds_from_held held (strings digest entries) tree.are_held in
        let upto = few e (found (0 ∷ e) (strings_leaf digest entries (0 ∷ e) (tagged entries e c))) in
        omega (arith, upto)

module _ (entries : List (List ℕ)) (short : All (λ e. length e < 2 ^ 16) entries) (base64 : Bool) where
  -- the bytes of a bundle of these entries are a bundle of its width
  pub served_bundle : (index : ℕ) (bytes : List ℕ) → 256 * index < length entries →
      bytes ≡ bundle_bytes entries index (bundle_width (length entries) index) →
      IsBundle (bundle_width (length entries) index) bytes (part (256 * index) (bundle_width (length entries) index) entries)
  served_bundle index bytes lt is =
      let w = bundle_width (length entries) index in
      record {
        count = length-take w (drop (256 * index) entries) ∙ ap (λ n. min w n) (length-drop (256 * index) entries) ∙ omega arith;
        fits = All-take (λ (e : List ℕ). length e < 2 ^ 16) w (drop (256 * index) entries)
            (All-drop (λ (e : List ℕ). length e < 2 ^ 16) (256 * index) entries short);
        text = is;
      }

  joined : (from at next : ℕ) → from ≤ at → at < next → next ≤ length entries → next ≤ 256 * (at / 256) + 256 →
      part from (at - from) entries
      ++ part (at % 256) (next - at) (part (256 * (at / 256)) (bundle_width (length entries) (at / 256)) entries)
      ≡ part from (next - from) entries
  joined from at next low rises within same =
      let w = bundle_width (length entries) (at / 256) in
      let e : 256 * (at / 256) + at % 256 ≡ at = omega arith in
      let f : from + (at - from) ≡ at = omega (arith, low) in
      let g : at - from + (next - at) ≡ next - from = omega (arith, low, rises) in
      ap (λ (ys : List (List ℕ)). part from (at - from) entries ++ ys)
      (part_within (256 * (at / 256)) (at % 256) (next - at) w entries (omega (arith, within, same, rises))
      ∙ ap (λ n. part n (next - at) entries) (e ∙ sym f))
      ∙ (part_on from (at - from) (next - at) entries ∙ ap (λ n. part from n entries) g)

  -- one more bundle
  pub served_then : (from at to next : ℕ) (bytes : List ℕ) (a b c : Option (List ℕ)) → from ≤ at → to ≤ length entries →
      bytes ≡ bundle_bytes entries (at / 256) (bundle_width (length entries) (at / 256)) →
      WritesAll entries base64 from at a b → IsNext at to next → AppendsFrom bytes (length entries) at base64 b c next →
      WritesAll entries base64 from next a c
  served_then from at to next bytes a b c low within is w n more =
      let found = served_bundle (at / 256) bytes (omega (arith, n.rises, n.within, within)) is in
      subst (λ (es : List (List ℕ)). Appends a c (entries_text base64 es))
      (joined from at next low n.rises (omega (arith, n.within, within)) n.same)
      (entries_on base64 a b c _ _ w (more _ found))

  -- the writing of one more bundle ended early
  pub served_early : (from at to : ℕ) (bytes : List ℕ) (a b c : Option (List ℕ)) → from ≤ at → at < to → to ≤ length entries →
      bytes ≡ bundle_bytes entries (at / 256) (bundle_width (length entries) (at / 256)) →
      WritesAll entries base64 from at a b → BeginsFrom bytes (length entries) at to base64 b c →
      WritesFirst entries base64 from to a c
  served_early from at to bytes a b c low lt within is w more =
      let found = served_bundle (at / 256) bytes (omega (arith, lt, within)) is in
      let ends = more _ found in
      let n = ends.1 in
      record {
        upto = ends.0;
        within = n.within;
        written = subst (λ (es : List (List ℕ)). AppendsPrefix a c (entries_text base64 es))
            (joined from at ends.0 low n.rises (omega (arith, n.within, within)) n.same)
            (entries_begin base64 a b c _ _ w ends.2);
      }

  -- no more bundles were read
  pub served_stop : (from at to : ℕ) (a b : Option (List ℕ)) → at ≤ to → WritesAll entries base64 from at a b →
      WritesFirst entries base64 from to a b
  served_stop from at to a b upto w = record { upto = at; within = upto; written = prefix_whole a b _ w }
