use Rattle.std.proofs.Common.{◌≡◌, map, List, [], ◌∷◌, ap, refl, ◌∙◌}
use Rattle.tlog_hash.specs.Tree.{leaf_hash}
use Rattle.tlog_tiles.specs.declared.bundle.BundleFault.TheVariants.{BundleShort, BundleLong}
use Rattle.log_reader.proofs.Refusing.{no_leaves}
use Rattle.log_reader.proofs.verify.leaves_of.Goals as goal

twice : {A B C : Type 0} (f : B → C) (g : A → B) (xs : List A) → map (λ x. f (g x)) xs ≡ map f (map g xs)
twice f g [] = refl
twice f g (x ∷ xs) = ap (λ l. f (g x) ∷ l) (twice f g xs)

pub returns-in_ok-row-in-Ok-clause-leaves : goal.returns-in_ok-row-in-Ok-clause-leaves
returns-in_ok-row-in-Ok-clause-leaves g c = record {
  entries = map (λ e. e.now) c.in-Ok.entries.items;
  is_bundle = c.in-Ok.ensures;
  row_is = c.in_ok-row-in-Ok.ensures
      ∙ (ap (λ l. map (λ e. leaf_hash g.H.TreeHash.digest e.now) l) c.deref.ensures.value
      ∙ twice (leaf_hash g.H.TreeHash.digest) (λ e. e.now) c.in-Ok.entries.items);
}

pub returns-in-Err-BundleShort-clause-none : goal.returns-in-Err-BundleShort-clause-none
returns-in-Err-BundleShort-clause-none g c =
    no_leaves g.H.TreeHash.digest c.args.width c.args.bytes.now BundleShort (λ e. cc)
    (rw c.in-Err-BundleShort.field-0-is at c.in-Err-BundleShort.ensures)

pub returns-in-Err-BundleLong-clause-none : goal.returns-in-Err-BundleLong-clause-none
returns-in-Err-BundleLong-clause-none g c =
    no_leaves g.H.TreeHash.digest c.args.width c.args.bytes.now BundleLong (λ e. cc)
    (rw c.in-Err-BundleLong.field-0-is at c.in-Err-BundleLong.ensures)
