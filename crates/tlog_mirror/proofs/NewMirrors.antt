-- An empty mirror has the invariant.
use Rattle.std.proofs.Common.{◌≡◌, ℕ, List, [], sym, subst}
use Rattle.std.specs.FinSet as set
use Rattle.std.specs.List.Sorted.{IsStrictlySortedBy}
use Rattle.std.proofs.lemmas.List.Elements.{All-nil}
use Rattle.node_store.specs.Strings.{Strings}
use Rattle.mirror_model.specs.Origin.{IsOrigin}
use Rattle.mirror_model.specs.Forks.{point_cmp}
use Rattle.mirror_model.specs.Heads.{IsHead}
use Rattle.mirror_model.specs.Marks.{Points}
use Rattle.mirror_model.proofs.Views.{nothing_is_lawful}
use Rattle.mirror_trees.proofs.EmptySets.{empty_settled}
use Rattle.tlog_mirror.specs.Kept.{note_bytes, IsKeptWell}
use Rattle.mirror_trees.specs.declared.held_note.HeldNote.{HeldNote}

module _ (digest : List ℕ → List ℕ) (origin : List ℕ) where
  empty_well : IsOrigin origin → IsKeptWell digest origin [] set.empty set.empty
  unfolding IsStrictlySortedBy
  empty_well is = record {
    sound = record {
      origin = is;
      lawful = nothing_is_lawful digest origin;
      marks = λ point h. absurd (let none = set.contains-empty point_cmp point in cc (h, none));
    };
    settled = empty_settled digest set.empty set.empty (λ i. set.empty);
    rising = tt;
    said = All-nil (λ (k : HeldNote). IsHead (note_bytes k) origin k.size k.root);
  }

  pub new_well :
      IsOrigin origin → (kept : List HeldNote) (strings : Strings) (remembered : Points) → kept ≡ [] →
      strings ≡ set.empty → remembered ≡ set.empty → IsKeptWell digest origin kept strings remembered
  new_well is kept strings remembered no_notes no_strings no_marks =
      subst (λ k. IsKeptWell digest origin k strings remembered) (sym no_notes)
      (subst (λ s. IsKeptWell digest origin [] s remembered) (sym no_strings)
      (subst (λ (m : Points). IsKeptWell digest origin [] set.empty m) (sym no_marks) (empty_well is)))
