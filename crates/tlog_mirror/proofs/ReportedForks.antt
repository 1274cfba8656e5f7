-- The forks that the marks give are those of the tree heads.
use Rattle.std.proofs.Common.{◌≡◌, ◌≢◌, ℕ, List, [], length, map, Bool, sym, ap, subst, ◌∙◌}
use Rattle.std.specs.Prelude.{◌↔◌, Result, Ok, Err, Option, IfOk, IfErr, OnOk, OnErr, IsTrue}
use Rattle.std.specs.Io.KnownBytes.{Appends}
use Rattle.std.specs.List.{Contains}
use Rattle.std.specs.List.Sorted.{IsStrictlySortedBy}
use Rattle.byte_streams.specs.Streams.{AppendsPrefix}
use Rattle.byte_streams.specs.declared.fault.StreamFault.{StreamFault}
use Rattle.byte_streams.specs.declared.fault.StreamFault.TheVariants.{ReadFault, WriteFault, OutOfMemory}
use Rattle.node_store.specs.Strings.{Strings}
use Rattle.mirror_model.specs.Listed.{pair_cmp}
use Rattle.mirror_model.specs.Reports.{fork_pair}
use Rattle.mirror_model.specs.Texts.{forks_text}
use Rattle.mirror_model.specs.declared.reports.Fork.{Fork}
use Rattle.tlog_mirror.specs.Branches.{AreBranches, AreCalm, all_forks}
use Rattle.tlog_mirror.specs.Forks.{AreForksOf, IsForkOf, WritesForksOf}
use Rattle.tlog_mirror.specs.Points.{by_point}
use Rattle.tlog_mirror.specs.declared.branches.Branch.{Branch}
use Rattle.tlog_mirror.proofs.AllForks.{all_exact, all_sorted}
use Rattle.tlog_mirror.proofs.BranchSteps.{head_of}
use Rattle.tlog_mirror.proofs.PointLists.{sorted_out}

module _ (digest : List ℕ → List ℕ) (held : Strings) (points : List (ℕ × List ℕ))
    (sorted : IsStrictlySortedBy by_point points) (branches : List Branch) (each : AreBranches digest held branches)
    (heads : map head_of branches ≡ points) (again : List Branch) (same : again ≡ branches) (calm : List Bool)
    (are_calm : AreCalm branches calm) (marks : List Bool) (len : length marks ≡ length again) where
  abbrev pub found : List Fork
  found = all_forks calm 0 marks again

  rising : IsStrictlySortedBy by_point (map head_of branches)
  rising = subst (IsStrictlySortedBy by_point) (sym heads) sorted

  pub found_forks : AreForksOf digest held points found
  found_forks = record {
    sorted = sorted_out fork_pair pair_cmp found
        (all_sorted digest held branches each rising calm are_calm 0 marks again same (len ∙ ap length same));
    exact = λ fork. subst (λ ps. Contains found fork ↔ IsForkOf digest held ps fork) (ap (map head_of) same ∙ heads)
        (all_exact digest held branches each rising calm are_calm 0 marks again same (len ∙ ap length same) fork);
  }

  -- the answers of a writer of these forks
  pub found_written : (old new : Option (List ℕ)) (r : Result Bool StreamFault) →
      OnOk r (Appends old new (forks_text found)) → OnErr r (AppendsPrefix old new (forks_text found)) →
      IfOk r (λ any. IsTrue any ↔ (found ≢ [])) → IfErr r (λ e. e ≡ WriteFault) →
      WritesForksOf digest held points old new r
  found_written old new (Ok any) whole part tells fault =
      record { forks = found; are_forks = found_forks; written = whole; tells = tells }
  found_written old new (Err WriteFault) whole part tells fault =
      record { forks = found; are_forks = found_forks; written = part }
  found_written old new (Err ReadFault) whole part tells fault = absurd (cc fault)
  found_written old new (Err OutOfMemory) whole part tells fault = absurd (cc fault)
