-- Small plays: a take that is repeated in the next play.
use Rattle.std.proofs.Common.{◌≡◌, ℕ, zero, suc, List, [], ◌∷◌, sym, refl, ap, ◌∙◌, subst, inl, inr, arith}
use Rattle.std.specs.Prelude.{Some, slice_get, replicate}
use Rattle.std.specs.List.{Contains}
use Rattle.std.specs.FinSet as set
use Rattle.tlog_hash.specs.Tree.{tree_of, tree_within, fold_of, pairs_of, joins}
use Rattle.tlog_hash.specs.Sum.{sum_digest}
use Rattle.tlog_shape.specs.Split.{split_of, power_within}
use Rattle.node_store.specs.Strings.{Has, NoClash}
use Rattle.mirror_model.specs.View.{View, nothing}
use Rattle.mirror_model.specs.Item.{plus, strings_of, IsGoodTile}
use Rattle.mirror_model.specs.PlayExamples.{two_zeros, RetriesSpanPlays, RetryInNextPlayCounts}
use Rattle.mirror_model.proofs.StringSets.{has_cases, has_empty, has_right, has_from_listed, only_listed}

pub spans_plays : RetriesSpanPlays
spans_plays = record {
  next = (refl, tt);
  later = (refl, tt);
  not_last = λ h. h.0;
  not_another_mirror = λ h. absurd (cc h.0);
  not_after_another = λ h. absurd (cc h.0);
}

-- ---- the view with the tile

one_string : strings_of sum_digest two_zeros ≡ (1 ∷ replicate 64 0) ∷ []
unfolding joins pairs_of tree_of tree_within fold_of split_of power_within
one_string = refl

is_good : IsGoodTile 2 (replicate 64 0)
is_good = record { is_width = record { some = omega arith; most = omega arith }; length_is = refl }

module _ (origin : List ℕ) where
  only_that : (q : List ℕ) → Has (plus sum_digest (nothing origin) two_zeros).strings q → q ≡ 1 ∷ replicate 64 0
  only_that q h = elim (has_cases set.empty (set.from_list (strings_of sum_digest two_zeros)) q h) [
    | inl a ↦ absurd (has_empty q a)
    | inr b ↦ only_listed (1 ∷ replicate 64 0) q (subst (λ ss. Has (set.from_list ss) q) one_string b)
  ]

  no_clash : NoClash sum_digest (plus sum_digest (nothing origin) two_zeros).strings
  no_clash = record { same = λ x y hx hy e. only_that x hx ∙ sym (only_that y hy) }

  holds_it : Has (plus sum_digest (nothing origin) two_zeros).strings (1 ∷ replicate 64 0)
  holds_it =
      has_right set.empty (set.from_list (strings_of sum_digest two_zeros)) (1 ∷ replicate 64 0)
      (has_from_listed (strings_of sum_digest two_zeros) (1 ∷ replicate 64 0)
      (subst (λ ss. Contains ss (1 ∷ replicate 64 0)) (sym one_string) (0, omega arith, refl)))

pub retry_counts : RetryInNextPlayCounts
retry_counts origin keys = record {
  leaves = record {
    final = plus sum_digest (nothing origin) two_zeros ∷ [];
    of_origin = of_origin;
    played = (
      nothing origin ∷ [],
      (
        nothing origin ∷ [],
        record { before = nothing origin; after = nothing origin; found = refl; takes = inl refl; set = refl },
        refl,
      ),
      (
        plus sum_digest (nothing origin) two_zeros ∷ [],
        (
          plus sum_digest (nothing origin) two_zeros ∷ [],
          record {
            before = nothing origin;
            after = plus sum_digest (nothing origin) two_zeros;
            found = refl;
            takes = (is_good, no_clash origin, refl);
            set = refl;
          },
          refl,
        ),
        refl,
      ),
    );
    retried = (refl, tt);
    is = refl;
  };
  holds = holds_it origin;
}
  where
    of_origin : (mirror : ℕ) (v : View) → slice_get (nothing origin ∷ []) mirror ≡ Some v → v.origin ≡ origin
    of_origin zero v is = let same : nothing origin ≡ v = cc is in ap (λ (w : View). w.origin) (sym same)
    of_origin (suc n) v is = absurd (cc is)
