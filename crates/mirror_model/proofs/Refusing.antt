-- Tiles and bundles are refused exactly if they are not valid, and for only one reason.
use Rattle.std.proofs.Common.{◌≡◌, ◌≢◌, ◌⊎◌, inl, inr, ℕ, ◌*◌, List, [], length, Ok, Err, refl, sym, ◌∙◌}
use Rattle.std.specs.Prelude.{Result}
use Rattle.std.proofs.lemmas.List.{append-nil}
use Rattle.tlog_tiles.specs.Bundle.{ReadsBundle}
use Rattle.tlog_tiles.specs.declared.bundle.BundleFault.{BundleFault}
use Rattle.tlog_tiles.specs.declared.bundle.BundleFault.TheVariants as bundling
use Rattle.tlog_tiles.proofs.BundleLemmas.{answer_one}
use Rattle.mirror_model.specs.Item.{IsGoodTile, IsGoodBundle}
use Rattle.mirror_model.specs.Steps.{Refused}
use Rattle.mirror_model.specs.Answered.{answer_of}
use Rattle.mirror_model.specs.Refusals.{JudgesTile, JudgesBundle}
use Rattle.mirror_model.specs.RefusalLaws.{TilesAreJudged, BundlesAreJudged}
use Rattle.mirror_model.specs.declared.fault.TakeFault.{TakeFault}
use Rattle.mirror_model.specs.declared.fault.TakeFault.TheVariants.{Note, Checkpoint, OtherOrigin, NoTrustedSignature}
use Rattle.mirror_model.specs.declared.fault.TakeFault.TheVariants.{EdgeCount, EdgeLength, EdgeMismatch, RowLength}
use Rattle.mirror_model.specs.declared.fault.TakeFault.TheVariants.{BundleShort, BundleLong, Collision, OutOfMemory}

-- the answer of a take
abbrev pub Taken : Type 0
Taken = Result (Unit {0}) TakeFault

pub not_done : (done : Unit {0}) → answer_of (Ok done) ≡ Refused → ⊥
not_done done e = cc e

pub not_clashed : answer_of (Err Collision) ≡ Refused → ⊥
not_clashed e = cc e

pub not_exhausted : answer_of (Err OutOfMemory) ≡ Refused → ⊥
not_exhausted e = cc e

-- ---- tiles

module _ (width : ℕ) (bytes : List ℕ) where
  -- a tile has only one refusal
  tile_refused : (a : Taken) → JudgesTile width bytes a → answer_of a ≡ Refused →
      (a ≡ Err RowLength) × (length bytes ≢ 32 * width)
  tile_refused (Ok done) h e = absurd (not_done done e)
  tile_refused (Err (Note fault)) h e = absurd h
  tile_refused (Err (Checkpoint fault)) h e = absurd h
  tile_refused (Err OtherOrigin) h e = absurd h
  tile_refused (Err NoTrustedSignature) h e = absurd h
  tile_refused (Err EdgeCount) h e = absurd h
  tile_refused (Err EdgeLength) h e = absurd h
  tile_refused (Err EdgeMismatch) h e = absurd h
  tile_refused (Err RowLength) h e = (refl, h)
  tile_refused (Err BundleShort) h e = absurd h
  tile_refused (Err BundleLong) h e = absurd h
  tile_refused (Err Collision) h e = absurd (not_clashed e)
  tile_refused (Err OutOfMemory) h e = absurd (not_exhausted e)

  tile_taken : (a : Taken) → JudgesTile width bytes a → answer_of a ≢ Refused → a ≢ Err OutOfMemory →
      IsGoodTile width bytes
  tile_taken (Ok done) h no_refusal memory = h
  tile_taken (Err (Note fault)) h no_refusal memory = absurd h
  tile_taken (Err (Checkpoint fault)) h no_refusal memory = absurd h
  tile_taken (Err OtherOrigin) h no_refusal memory = absurd h
  tile_taken (Err NoTrustedSignature) h no_refusal memory = absurd h
  tile_taken (Err EdgeCount) h no_refusal memory = absurd h
  tile_taken (Err EdgeLength) h no_refusal memory = absurd h
  tile_taken (Err EdgeMismatch) h no_refusal memory = absurd h
  tile_taken (Err RowLength) h no_refusal memory = absurd (no_refusal refl)
  tile_taken (Err BundleShort) h no_refusal memory = absurd h
  tile_taken (Err BundleLong) h no_refusal memory = absurd h
  tile_taken (Err Collision) h no_refusal memory = h
  tile_taken (Err OutOfMemory) h no_refusal memory = absurd (memory refl)

pub tiles_are_judged : TilesAreJudged
tiles_are_judged width bytes = record {
  refused = λ a h e good. (tile_refused width bytes a h e).1 good.length_is;
  taken = tile_taken width bytes;
  once = λ a b p q e f. (tile_refused width bytes a p e).0 ∙ sym (tile_refused width bytes b q f).0;
}

-- ---- bundles

pub bundle_not_short : (width : ℕ) (bytes : List ℕ) → ReadsBundle width bytes (Err bundling.BundleShort) →
    IsGoodBundle width bytes → ⊥
bundle_not_short width bytes h good =
    h [] (record { front = bytes; entries = good.entries; parts = sym (append-nil bytes); is_bundle = good.is_bundle })

pub bundle_not_long : (width : ℕ) (bytes : List ℕ) → ReadsBundle width bytes (Err bundling.BundleLong) →
    IsGoodBundle width bytes → ⊥
bundle_not_long width bytes h good =
    let one : Result (List (List ℕ)) BundleFault = Ok good.entries in
    let other : Result (List (List ℕ)) BundleFault = Err bundling.BundleLong in
    let same : one ≡ other = answer_one width bytes one other (λ e. cc e) (λ e. cc e) good.is_bundle h in
    cc same

module _ (width : ℕ) (bytes : List ℕ) where
  -- a bundle has two refusals, and only one of them applies
  short_or_long : Taken → Type 0
  short_or_long a =
      ((a ≡ Err BundleShort) × ReadsBundle width bytes (Err bundling.BundleShort))
      ⊎ ((a ≡ Err BundleLong) × ReadsBundle width bytes (Err bundling.BundleLong))

  bundle_refused : (a : Taken) → JudgesBundle width bytes a → answer_of a ≡ Refused → short_or_long a
  unfolding short_or_long
  bundle_refused (Ok done) h e = absurd (not_done done e)
  bundle_refused (Err (Note fault)) h e = absurd h
  bundle_refused (Err (Checkpoint fault)) h e = absurd h
  bundle_refused (Err OtherOrigin) h e = absurd h
  bundle_refused (Err NoTrustedSignature) h e = absurd h
  bundle_refused (Err EdgeCount) h e = absurd h
  bundle_refused (Err EdgeLength) h e = absurd h
  bundle_refused (Err EdgeMismatch) h e = absurd h
  bundle_refused (Err RowLength) h e = absurd h
  bundle_refused (Err BundleShort) h e = inl (refl, h)
  bundle_refused (Err BundleLong) h e = inr (refl, h)
  bundle_refused (Err Collision) h e = absurd (not_clashed e)
  bundle_refused (Err OutOfMemory) h e = absurd (not_exhausted e)

  bundle_taken : (a : Taken) → JudgesBundle width bytes a → answer_of a ≢ Refused → a ≢ Err OutOfMemory →
      IsGoodBundle width bytes
  bundle_taken (Ok done) h no_refusal memory = h
  bundle_taken (Err (Note fault)) h no_refusal memory = absurd h
  bundle_taken (Err (Checkpoint fault)) h no_refusal memory = absurd h
  bundle_taken (Err OtherOrigin) h no_refusal memory = absurd h
  bundle_taken (Err NoTrustedSignature) h no_refusal memory = absurd h
  bundle_taken (Err EdgeCount) h no_refusal memory = absurd h
  bundle_taken (Err EdgeLength) h no_refusal memory = absurd h
  bundle_taken (Err EdgeMismatch) h no_refusal memory = absurd h
  bundle_taken (Err RowLength) h no_refusal memory = absurd h
  bundle_taken (Err BundleShort) h no_refusal memory = absurd (no_refusal refl)
  bundle_taken (Err BundleLong) h no_refusal memory = absurd (no_refusal refl)
  bundle_taken (Err Collision) h no_refusal memory = h
  bundle_taken (Err OutOfMemory) h no_refusal memory = absurd (memory refl)

  not_both : ReadsBundle width bytes (Err bundling.BundleShort) → ReadsBundle width bytes (Err bundling.BundleLong) → ⊥
  not_both p q =
      let one : Result (List (List ℕ)) BundleFault = Err bundling.BundleShort in
      let other : Result (List (List ℕ)) BundleFault = Err bundling.BundleLong in
      let same : one ≡ other = answer_one width bytes one other (λ e. cc e) (λ e. cc e) p q in
      cc same

pub bundles_are_judged : BundlesAreJudged
unfolding short_or_long
bundles_are_judged width bytes = record {
  refused =
      λ a h e good. elim
      (bundle_refused width bytes a h e)
      [ inl p ↦ bundle_not_short width bytes p.1 good | inr p ↦ bundle_not_long width bytes p.1 good ];
  taken = bundle_taken width bytes;
  once = λ a b p q e f.
      elim (bundle_refused width bytes a p e) [
        | inl x ↦ elim
            (bundle_refused width bytes b q f) [ inl y ↦ x.0 ∙ sym y.0 | inr y ↦ absurd (not_both width bytes x.1 y.1) ]
        | inr x ↦ elim
            (bundle_refused width bytes b q f) [ inl y ↦ absurd (not_both width bytes y.1 x.1) | inr y ↦ x.0 ∙ sym y.0 ]
      ];
}
