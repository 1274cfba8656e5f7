-- Honest rounds take the front, and they are few.
use Rattle.std.proofs.Common.{min, zero, suc, ◌≡◌, ◌⊎◌, ℕ, ◌+◌, ◌-◌, ◌*◌, ◌^◌, ◌<◌, ◌≤◌, List, [], ◌∷◌, length, take}
use Rattle.std.proofs.Common.{get_or, length-take, refl, sym, ap, subst, inl, inr, arith}
use Rattle.std.specs.Prelude.{Contains, max}
use Rattle.std.proofs.lemmas.Bool.{cases_lt}
use Rattle.std.proofs.lemmas.List.Elements.{All-take, Contains-get_or}
use Rattle.tlog_shape.specs.Edge.{IsTop}
use Rattle.tlog_hash.specs.Tree.{strings}
use Rattle.tlog_tiles.specs.declared.paths.Path.{Path}
use Rattle.tlog_tiles.specs.declared.paths.Path.TheVariants.{Checkpoint, Tile, Entries}
use Rattle.tlog_tiles.specs.Tiles.{tile_bytes, bundle_bytes, IsTileWithin}
use Rattle.node_store.specs.Strings.{Strings, Has, HasAll}
use Rattle.mirror_model.specs.View as view
use Rattle.mirror_model.specs.View.{View}
use Rattle.mirror_model.specs.Edge.{edge_rows, edge_strings}
use Rattle.mirror_model.specs.Front.{IsFront}
use Rattle.mirror_model.specs.Rounds.{true_strings, IsRound, AreRounds, last_held}
use Rattle.mirror_model.specs.declared.items.Item.TheVariants as item
use Rattle.mirror_model.specs.Item.{strings_of, plus}
use Rattle.mirror_model.specs.TrueLaws.{AreShort}
use Rattle.mirror_model.specs.Strings.{IsDigest}
use Rattle.mirror_model.proofs.StringSets.{HoldsAll, holds_from_held, held_from_holds, held_more}
use Rattle.mirror_model.proofs.Views.{within_itself, within_trans, within_plus}
use Rattle.mirror_model.proofs.TrueItems.{front_bundle, front_within, prefixes_serve_same, tiles_are_true}
use Rattle.mirror_model.proofs.TrueItems.{bundles_are_true}
use Rattle.mirror_model.proofs.ManyRounds.{rounds_complete}
use Rattle.mirror_model.proofs.Fronts.{front_empty}
use Rattle.mirror_sources.specs.Files.{full_of}
use Rattle.mirror_sources.specs.Replies.{Reply}
use Rattle.mirror_sources.specs.Honest.{IsGone, Gets, GetsNone, GetsFound, GetsFull}
use Rattle.mirror_pull.specs.Honest.{AreFrontRounds, true_item, with_true}
use Rattle.mirror_pull.specs.PullLaws.{HonestRoundIsRound, HonestRoundsAreFew}
use Rattle.mirror_model.proofs.FullBundles.{full_bundles_serve}
use Rattle.mirror_model.proofs.Fetching.{plus_holds}
use Rattle.tlog_tiles.proofs.EdgeLemmas.{contains_none}

-- ---- the paths with a file

at_first : (x : Path) (xs : List Path) → Contains (x ∷ xs) x
at_first x xs = (0, omega arith, refl)

at_later : (x : Path) (xs : List Path) (y : Path) → Contains xs y → Contains (x ∷ xs) y
at_later x xs y c = (suc c.0, omega (arith, c.1), c.2)

first_or_later : (x : Path) (xs : List Path) (y : Path) (k : ℕ) → k < length (x ∷ xs) → get_or (x ∷ xs) k y ≡ y →
    (x ≡ y) ⊎ Contains xs y
first_or_later x xs y zero lt e = inl e
first_or_later x xs y (suc k) lt e = inr (k, omega (arith, lt), e)

-- the bytes of each path were found at the path, or at the full path if its file may be deleted
pub gets_each : (n : ℕ) (list founds : List Path) (xs : List Reply) → Gets n list xs founds → (path : Path) → Contains list path →
    Contains founds path ⊎ (IsGone n path × Contains founds (full_of path))
gets_each n list founds xs GetsNone path c = absurd (contains_none path c)
gets_each n list founds xs (GetsFound p bytes {paths = ps} {founds = fs} {replies = xs'} g) path c =
    elim (first_or_later p ps path c.0 c.1 c.2) [
      | inl same ↦ inl (subst (λ q. Contains (p ∷ fs) q) same (at_first p fs))
      | inr later ↦ elim
          (gets_each n ps fs xs' g path later) [
            | inl a ↦ inl (at_later p fs path a)
            | inr b ↦ inr
                (b.0, at_later p fs (full_of path) b.1)
          ]
    ]
gets_each n list founds xs (GetsFull p bytes {paths = ps} {founds = fs} {replies = xs'} gone g) path c =
    elim (first_or_later p ps path c.0 c.1 c.2) [
      | inl same ↦ inr (
        subst (λ q. IsGone n q) same gone,
        subst (λ q. Contains (full_of p ∷ fs) (full_of q)) same (at_first (full_of p) fs),
      )
      | inr later ↦ elim
          (gets_each n ps fs xs' g path later) [
            | inl a ↦ inl (at_later (full_of p) fs path a)
            | inr b ↦ inr
                (b.0, at_later (full_of p) fs (full_of path) b.1)
          ]
    ]

-- ---- the held strings after true bytes were taken

module _ (digest : List ℕ → List ℕ) (entries : List (List ℕ)) where
  pub true_grows : (founds : List Path) (v : View) → view.IsSubview v (with_true digest entries v founds)
  true_grows [] v = within_itself v
  true_grows (path ∷ paths) v =
      let next = plus digest v (true_item digest entries path) in
      within_trans v next (with_true digest entries next paths) (within_plus digest v (true_item digest entries path))
      (true_grows paths next)

  true_held : (founds : List Path) (v : View) (path : Path) → Contains founds path → (y : List ℕ) →
      Contains (strings_of digest (true_item digest entries path)) y → Has (with_true digest entries v founds).strings y
  true_held [] v path c y h = absurd (contains_none path c)
  true_held (p ∷ ps) v path c y h =
      let next = plus digest v (true_item digest entries p) in
      elim (first_or_later p ps path c.0 c.1 c.2) [
        | inl same ↦ (true_grows ps next).strings_are y
            ((plus_holds digest v (true_item digest entries p) y).string_held
            (inr (subst (λ q. Contains (strings_of digest (true_item digest entries q)) y) (sym same) h)))
        | inr later ↦ true_held ps next path later y h
      ]

-- ---- one round

module _ (digest : List ℕ → List ℕ) (hash : IsDigest digest) (entries : List (List ℕ)) (short : AreShort entries)
    (size : ℕ) (v : View) (founds : List Path) (le : size ≤ length entries) (less : size < 256 ^ 8)
    (edge : HasAll v.strings (edge_strings digest (edge_rows digest (take size entries)))) where
  long : length (take size entries) ≡ size
  long = omega (arith, length-take size entries, le)

  small : length (take size entries) ≤ 256 ^ 8
  small = omega (arith, long, less)

  short_first : AreShort (take size entries)
  short_first = All-take (λ entry. length entry < 2 ^ 16) size entries short

  held_edge : HoldsAll v.strings (edge_strings digest (edge_rows digest (take size entries)))
  held_edge = holds_from_held v.strings (edge_strings digest (edge_rows digest (take size entries))) edge

  pub answer :
      (path : Path) → IsFront digest v.strings (take size entries) path →
      Contains founds path ⊎ (IsGone (length entries) path × Contains founds (full_of path)) →
      HoldsAll (with_true digest entries v founds).strings (true_strings digest (take size entries) path)
  answer Checkpoint f found y c = absurd f.path_is
  answer (Tile level index width) f (inl found) y c =
      let within : IsTileWithin (length (take size entries)) level index width =
      front_within digest v.strings (take size entries) small held_edge (Tile level index width) f in
      let same : tile_bytes digest (take size entries) level index width ≡ tile_bytes digest entries level index width =
      (prefixes_serve_same digest entries size le).tile level index width
      (subst (λ n. IsTileWithin n level index width) long within) in
      let t = tiles_are_true digest hash (take size entries) short_first level index width
      (record { some = within.some; most = within.upto }) in
      true_held digest entries founds v (Tile level index width) found y
      (subst (λ bytes. Contains (strings_of digest (item.Tile width bytes)) y) same
      (subst (λ ss. Contains ss y) (sym t.strings_are) c))
  answer (Tile level index width) f (inr gone) y c = absurd (omega (arith, f.path_is.width_is, gone.0.partial))
  answer (Entries index width) f (inl found) y c =
      let within : IsTileWithin (length (take size entries)) 0 index width =
      front_within digest v.strings (take size entries) small held_edge (Entries index width) f in
      let same : bundle_bytes (take size entries) index width ≡ bundle_bytes entries index width =
      (prefixes_serve_same digest entries size le).bundle index width
      (subst (λ n. IsTileWithin n 0 index width) long within) in
      let b = bundles_are_true digest hash (take size entries) short_first index width within in
      true_held digest entries founds v (Entries index width) found y
      (subst (λ bytes. Contains (strings_of digest (item.Bundle width bytes)) y) same
      (subst (λ ss. Contains ss y) (sym b.strings_are) c))
  answer (Entries index width) f (inr gone) y c =
      let b = front_bundle digest v.strings (take size entries) small held_edge index width f in
      let partial : width < 256 = gone.0.partial in
      let wide : width ≡ min 256 (length (take size entries) - 256 * index) = f.path_is.width_is in
      let total : 256 * index + width ≡ size = omega (arith, long, wide, partial, b.0, b.2) in
      let within : IsTileWithin (length entries) 0 index 256 = gone.0.full in
      let one : (256 * index + 256) * 256 ^ 0 ≡ 256 * index + 256 = omega arith in
      let full : 256 * index + 256 ≤ length entries = omega (arith, one, within.within) in
      let t = bundles_are_true digest hash entries short index 256 within in
      elim (full_bundles_serve digest entries size index width le total b.0 partial full y c) [
        | inl served ↦ true_held digest entries founds v (Entries index 256) gone.1 y
            (subst (λ ss. Contains ss y) (sym t.strings_are) served)
        | inr on_edge ↦ (true_grows digest entries founds v).strings_are y (held_edge y on_edge)
      ]

pub front_round_takes : HonestRoundIsRound
front_round_takes digest hash entries short size v list founds replies le less edge lists got = record {
  edge = edge;
  grows = (true_grows digest entries founds v).strings_are;
  taken = λ path f. held_from_holds (with_true digest entries v founds).strings
      (true_strings digest (take size entries) path)
      (answer digest hash entries short size v founds le less edge path f
      (gets_each (length entries) list founds replies got path ((lists.exact path).1 f)));
}

-- ---- rounds in order

-- a given number of rounds leads from the held strings to strings with a front that is not empty
record Reaches (digest : List ℕ → List ℕ) (entries : List (List ℕ)) (held : Strings) (count : ℕ) : Type 0 where
  more : List Strings
  count_is : length more ≡ count
  rounds : AreRounds digest entries held more
  path : Path
  front : IsFront digest (last_held held more) entries path

module _ (digest : List ℕ → List ℕ) (hash : IsDigest digest) (entries : List (List ℕ)) (short : AreShort entries)
    (size : ℕ) (le : size ≤ length entries) (less : size < 256 ^ 8) where
  reaches : (lists : List (List Path)) (count : ℕ) (v w : View) (xs : List Reply) → count < length lists →
      HasAll v.strings (edge_strings digest (edge_rows digest (take size entries))) →
      AreFrontRounds digest entries size v w lists xs → Reaches digest (take size entries) v.strings count
  reaches [] count v w xs lt edge rounds = absurd (omega (arith, lt))
  reaches (list ∷ lists) zero v w xs lt edge rounds =
      let round = rounds.3 in
      let first = get_or list 0 Checkpoint in
      record {
        more =
            [];
        count_is =
            refl;
        rounds =
            tt;
        path =
            first;
        front = (round.front.exact first).0 (Contains-get_or list 0 Checkpoint (omega (arith, round.some)));
      }
  reaches (list ∷ lists) (suc count) v w xs lt edge rounds =
      let between = rounds.0 in
      let round = rounds.3 in
      let takes : IsRound digest (take size entries) v.strings between.strings =
      subst (λ (x : View). IsRound digest (take size entries) v.strings x.strings) (sym round.taken)
      (front_round_takes digest hash entries short size v list round.founds rounds.1 le less edge round.front
      round.gets) in
      let r = reaches lists count between w rounds.2 (omega (arith, lt))
      (held_more v.strings between.strings
      (edge_strings digest (edge_rows digest (take size entries))) takes.grows edge) rounds.4 in
      record {
        more =
            between.strings ∷ r.more;
        count_is =
            ap suc r.count_is;
        rounds = (takes, r.rounds);
        path = r.path;
        front = r.front;
      }

pub front_rounds_end : HonestRoundsAreFew
front_rounds_end digest hash entries short size top v w lists replies le less is_top edge rounds =
    let es = take size entries in
    let long : length es ≡ size = omega (arith, length-take size entries, le) in
    elim (cases_lt (max 1 top) (length lists)) [
      | inr enough ↦ enough
      | inl many ↦
          (let r = reaches digest hash entries short size le less lists (max 1 top) v w replies many edge rounds in
          let last = last_held v.strings r.more in
          let tree =
          rounds_complete digest v.strings es top r.more (omega (arith, long, less))
          (subst (λ n. IsTop n top) (sym long) is_top) r.rounds
          (subst (λ n. max 1 top ≤ n) (sym r.count_is) (omega arith)) in
          absurd ((front_empty digest last es (omega (arith, long, less))).1
          (holds_from_held last (strings digest es) tree) r.path r.front))
    ]
