-- Shown entries are those of each list of the copy's size and root.
use Rattle.std.proofs.Common.{◌≡◌, ℕ, ◌+◌, ◌-◌, ◌*◌, ◌/◌, ◌%◌, ◌^◌, ◌<◌, ◌≤◌, min, All, List, [], ◌∷◌, ◌++◌, length, drop}
use Rattle.std.proofs.Common.{get_or, Option, inl, inr, refl, sym, ap, ◌∙◌, subst, arith}
use Rattle.std.specs.FinSet as set
use Rattle.std.specs.Io.KnownBytes.{Appends}
use Rattle.std.proofs.lemmas.List.{ext_get_or, get_or-drop, get_or-take, length-drop, length-take}
use Rattle.std.proofs.lemmas.List.Elements.{All-head, All-tail}
use Rattle.byte_streams.specs.Streams.{AppendsPrefix}
use Rattle.signed_note.specs.Keys.{Key}
use Rattle.tlog_hash.specs.Rows.{part}
use Rattle.tlog_hash.specs.Tree.{mth, strings}
use Rattle.tlog_shape.specs.declared.TheConstants.{MAX_SIZE}
use Rattle.tlog_tiles.specs.Bundle.{bundle_text}
use Rattle.tlog_tiles.proofs.BundleLemmas.{entry_one}
use Rattle.node_store.specs.Strings.{NoClash}
use Rattle.mirror_folders.specs.Shelf.{Put}
use Rattle.mirror_model.specs.Strings.{IsDigest}
use Rattle.log_reader.specs.EdgeRows.{Edge, hash_of_edge}
use Rattle.log_reader.specs.Holding.{row_width}
use Rattle.log_reader.specs.Truth.{IsTrueBundle}
use Rattle.log_reader.specs.Ways.{HasEdgeHashes, IsShownBundle}
use Rattle.log_reader.proofs.ShownBundles.{shown_bundles_are_true}
use Rattle.program_copies.specs.Copied.{IsOpenCopy}
use Rattle.program_copies.specs.EntriesLaws.{IsEntriesClear, ShownEntriesAreTrue, shown_strings}
use Rattle.program_copies.specs.Shown.{AreShownFrom, IsShownEntry}
use Rattle.program_copies.specs.Texts.{entries_text}

-- the bytes determine the entries of a bundle, also if the widths are not known
bundle_same : (xs ys : List (List ℕ)) → All (λ e. length e < 2 ^ 16) xs → All (λ e. length e < 2 ^ 16) ys →
    bundle_text xs ≡ bundle_text ys → xs ≡ ys
bundle_same [] [] p q e = refl
bundle_same [] (y ∷ ys) p q e = absurd (cc e)
bundle_same (x ∷ xs) [] p q e = absurd (cc e)
bundle_same (x ∷ xs) (y ∷ ys) p q e =
    let P : List ℕ → Type 0 = λ (z : List ℕ). length z < 2 ^ 16 in
    let one = entry_one x y (bundle_text xs) (bundle_text ys) (All-head P x xs p) (All-head P y ys q) e in
    let rest : xs ≡ ys = bundle_same xs ys (All-tail P x xs p) (All-tail P y ys q) one.1 in
    λ i. one.0 i ∷ rest i

module _ (digest : List ℕ → List ℕ) (hash : IsDigest digest) (edge : Edge) (hashes : HasEdgeHashes edge) (small : edge.size < 2 ^ 64)
    (entries : List (List ℕ)) (size_is : length entries ≡ edge.size) (root_is : mth digest entries ≡ hash_of_edge digest edge) where
  -- a shown bundle is the true one
  true_bundle : (index : ℕ) (bytes : List ℕ) (shown : IsShownBundle digest edge index bytes) →
      NoClash digest (set.from_list (strings digest entries ++ shown_strings digest edge shown)) → IsTrueBundle entries index bytes
  true_bundle index bytes (inl end) clear =
      (shown_bundles_are_true digest hash edge hashes small index bytes entries).0 end
      (record { size_is = size_is; root_is = root_is; clear = clear })
  true_bundle index bytes (inr full) clear =
      (shown_bundles_are_true digest hash edge hashes small index bytes entries).1 full
      (record { size_is = size_is; root_is = root_is; clear = clear })

  -- a shown entry is the list's entry of its number
  true_entry : (number : ℕ) (entry : List ℕ) (s : IsShownEntry digest edge number entry) →
      NoClash digest (set.from_list (strings digest entries ++ shown_strings digest edge s.shown)) → entry ≡ get_or entries number []
  true_entry number entry s clear =
      let index = number / 256 in
      let at = number % 256 in
      let w = row_width (length entries) 0 index in
      let is : IsTrueBundle entries index s.bytes = true_bundle index s.bytes s.shown clear in
      let due : List (List ℕ) = part (256 * index) w entries in
      let same : s.entries ≡ due =
      bundle_same s.entries due s.is_bundle.fits is.fits (sym s.is_bundle.text ∙ is.text) in
      let lt : at < w = subst (λ n. at < n) is.count (subst (λ (l : List (List ℕ)). at < length l) same s.within) in
      let place : 256 * index + at ≡ number = omega arith in
      sym s.entry_is
      ∙ (ap (λ (l : List (List ℕ)). get_or l at []) same
      ∙ (get_or-take w (drop (256 * index) entries) at [] lt
      ∙ (get_or-drop (256 * index) entries at [] ∙ ap (λ n. get_or entries n []) place)))

  -- shown entries are a part of the list
  true_part : (from : ℕ) (found : List (List ℕ)) (shown : AreShownFrom digest edge from found) → from + length found ≤ edge.size →
      ((k : ℕ) (lt : k < length found) →
      NoClash digest (set.from_list (strings digest entries ++ shown_strings digest edge (shown k lt).shown))) →
      found ≡ part from (length found) entries
  true_part from found shown within clear =
      let n = length found in
      let len : length (part from n entries) ≡ min n (length entries - from) =
      length-take n (drop from entries) ∙ ap (λ m. min n m) (length-drop from entries) in
      ext_get_or [] found (part from n entries) (omega (arith, len, within, size_is))
      (λ k lt. true_entry (from + k) (get_or found k []) (shown k lt) (clear k lt)
      ∙ (sym (get_or-drop from entries k []) ∙ sym (get_or-take n (drop from entries) k [] lt)))

-- a list without clashes, in the words of the copy's edge
module _ (digest : List ℕ → List ℕ) (hash : IsDigest digest) (origin : List ℕ) (keys : List Key) (held : Option (List Put))
    (edge : Edge) (opened : IsOpenCopy digest origin keys held edge) (from to : ℕ) (within : to ≤ edge.size) (entries : List (List ℕ)) where
  copied_part : (found : List (List ℕ)) (shown : AreShownFrom digest edge from found) → from + length found ≤ to →
      IsEntriesClear digest edge opened.root from found shown entries → found ≡ part from (length found) entries
  copied_part found shown upto c =
      let size : edge.size ≤ MAX_SIZE = opened.checkpoint.opens.is_checkpoint.in_range in
      true_part digest hash edge opened.hashes (omega (arith, size)) entries c.size_is (c.root_is ∙ sym opened.leads) from found shown
      (omega (arith, upto, within)) c.clear

pub shown_entries_are_true : ShownEntriesAreTrue
shown_entries_are_true digest hash origin keys held from to base64 old new entries = (
  λ all c.
      let found = all.written.entries in
      let n : length found ≡ to - from = omega (arith, all.written.count) in
      let same : found ≡ part from (to - from) entries =
      copied_part digest hash origin keys held all.edge all.opened from to all.within entries found all.written.shown
      (omega (arith, all.written.count)) c
      ∙ ap (λ m. part from m entries) n in
      subst (λ (es : List (List ℕ)). Appends old new (entries_text base64 es)) same all.written.written,
  λ some c.
      let found = some.written.entries in
      let n : length found ≡ from + length found - from = omega arith in
      let same : found ≡ part from (from + length found - from) entries =
      copied_part digest hash origin keys held some.edge some.opened from to some.within entries found some.written.shown
      some.written.within c
      ∙ ap (λ m. part from m entries) n in
      record {
        upto = from + length found;
        within = some.written.within;
        written = subst (λ (es : List (List ℕ)). AppendsPrefix old new (entries_text base64 es)) same some.written.written;
      },
)
