-- Entries of a copy, written bundle after bundle.
use Rattle.std.proofs.Common.{◌≡◌, ℕ, ◌+◌, ◌-◌, ◌*◌, ◌/◌, ◌%◌, ◌<◌, ◌≤◌, min, List, ◌++◌, length, drop, Bool, Option}
use Rattle.std.proofs.Common.{sym, ap, ◌∙◌, subst, arith}
use Rattle.std.proofs.lemmas.List.{length-take, length-drop, length-append}
use Rattle.tlog_hash.specs.Rows.{part}
use Rattle.log_reader.specs.EdgeRows.{Edge}
use Rattle.log_reader.specs.Ways.{HasEdgeHashes, IsShownBundle}
use Rattle.program_copies.specs.Texts.{bundle_width, entries_text}
use Rattle.program_copies.specs.Shown.{AppendsFrom, AreShownFrom, BeginsFrom, IsNext, WritesShown, WritesSomeShown}
use Rattle.program_copies.proofs.Parts.{entries_begin, entries_on, prefix_whole}
use Rattle.program_copies.proofs.ShownBundles.{shown_bundle, shown_on, shown_part}

-- a part of a bundle has the requested number of entries
part_count : (size at next : ℕ) (entries : List (List ℕ)) → length entries ≡ bundle_width size (at / 256) → next ≤ size →
    at < next → next ≤ 256 * (at / 256) + 256 → length (part (at % 256) (next - at) entries) ≡ next - at
part_count size at next entries count within rises same =
    let s = at % 256 in
    let len : length (part s (next - at) entries) ≡ min (next - at) (length entries - s) =
    length-take (next - at) (drop s entries) ∙ ap (λ n. min (next - at) n) (length-drop s entries) in
    omega (arith, len, count, within, rises, same)

module _ (digest : List ℕ → List ℕ) (edge : Edge) (base64 : Bool) where
  -- one more bundle
  pub shown_then : (hashes : HasEdgeHashes edge) (from at to next : ℕ) (bytes : List ℕ) (a b c : Option (List ℕ)) → to ≤ edge.size →
      WritesShown digest edge base64 from at a b → IsShownBundle digest edge (at / 256) bytes → IsNext at to next →
      AppendsFrom bytes edge.size at base64 b c next → WritesShown digest edge base64 from next a c
  shown_then hashes from at to next bytes a b c within w shown is more =
      let found = shown_bundle digest edge hashes (at / 256) bytes (omega (arith, is.rises, is.within, within)) shown in
      let new = part (at % 256) (next - at) found.0 in
      let count : length new ≡ next - at =
      part_count edge.size at next found.0 found.1.count (omega (arith, is.within, within)) is.rises is.same in
      let all = length-append w.entries new in
      record {
        entries = w.entries ++ new;
        count = omega (arith, all, count, w.count, is.rises);
        shown = shown_on digest edge from w.entries new w.shown
            (subst (λ n. AreShownFrom digest edge n new) (sym w.count)
            (shown_part digest edge at (next - at) bytes (bundle_width edge.size (at / 256)) found.0 shown (omega arith) found.1));
        written = entries_on base64 a b c w.entries new w.written (more found.0 found.1);
      }

  -- the writing of one more bundle ended early
  pub shown_early : (hashes : HasEdgeHashes edge) (from at to : ℕ) (bytes : List ℕ) (a b c : Option (List ℕ)) → to ≤ edge.size →
      at < to → WritesShown digest edge base64 from at a b → IsShownBundle digest edge (at / 256) bytes →
      BeginsFrom bytes edge.size at to base64 b c → WritesSomeShown digest edge base64 from to a c
  shown_early hashes from at to bytes a b c within lt w shown more =
      let found = shown_bundle digest edge hashes (at / 256) bytes (omega (arith, lt, within)) shown in
      let ends = more found.0 found.1 in
      let next = ends.0 in
      let is = ends.1 in
      let new = part (at % 256) (next - at) found.0 in
      let count : length new ≡ next - at =
      part_count edge.size at next found.0 found.1.count (omega (arith, is.within, within)) is.rises is.same in
      let all = length-append w.entries new in
      record {
        entries = w.entries ++ new;
        within = omega (arith, all, count, w.count, is.rises, is.within);
        shown = shown_on digest edge from w.entries new w.shown
            (subst (λ n. AreShownFrom digest edge n new) (sym w.count)
            (shown_part digest edge at (next - at) bytes (bundle_width edge.size (at / 256)) found.0 shown (omega arith) found.1));
        written = entries_begin base64 a b c w.entries new w.written ends.2;
      }

  -- no more bundles were read
  pub shown_stop : (from at to : ℕ) (a b : Option (List ℕ)) → at ≤ to → WritesShown digest edge base64 from at a b →
      WritesSomeShown digest edge base64 from to a b
  shown_stop from at to a b upto w = record {
    entries = w.entries;
    within = omega (arith, w.count, upto);
    shown = w.shown;
    written = prefix_whole a b (entries_text base64 w.entries) w.written;
  }
