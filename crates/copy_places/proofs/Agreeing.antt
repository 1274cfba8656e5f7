-- If two points agree, the first entries of a list with the second point have the first one.
use Rattle.std.proofs.Common.{◌≡◌, inl, inr, ℕ, ◌≤◌, List, [], length, take, Some, None, sym, ap, ◌∙◌, arith, take-append-drop, take_all, length-take}
use Rattle.tlog_hash.specs.Tree.{mth}
use Rattle.tlog_hash.proofs.Trees.{mth-none}
use Rattle.tlog_proof.specs.declared.proof.Proof.TheVariants.{Inclusion, Consistency}
use Rattle.mirror_model.specs.Strings.{IsDigest}
use Rattle.mirror_model.specs.Forks.{IsPrefix, Point}
use Rattle.copy_places.specs.Agreeing.{AgreeingIsOfFirst, IsAgreeProof}
use Rattle.copy_places.specs.Forks.{HasPoint, LacksForkClash}
use Rattle.copy_places.proofs.ForkLines.{lengths, proof_root}

by_agree : (digest : List ℕ → List ℕ) → IsDigest digest → (small large : Point) (m : ℕ) (g : List ℕ) (n : ℕ)
    (root : List ℕ) (path : List (List ℕ)) → IsAgreeProof digest small large m g n root path →
    (entries : List (List ℕ)) → HasPoint digest large entries →
    LacksForkClash digest (Some (Consistency m g n root path)) entries →
    HasPoint digest small (take small.size entries)
by_agree digest hash small large m g n root path f entries is clean =
    let fits : small.size ≤ length entries = omega (arith, f.first_is, f.second_is, f.grows, is.size_is) in
    let size : length (take small.size entries) ≡ small.size =
    let e = length-take small.size entries in omega (arith, e, fits) in
    let prefix : IsPrefix (take small.size entries) entries =
    record { rest = _; is = take-append-drop small.size entries } in
    elim f.accepted.1 [
      | inl grown ↦ record {
        size_is = size;
        root_is =
            sym (proof_root digest hash n m g root path (take small.size entries) entries (lengths path f.hashes.2)
            f.accepted.0 (omega (arith, f.grows)) (f.first_is ∙ sym size) (f.second_is ∙ sym is.size_is)
            (f.root_is ∙ sym is.root_is) clean grown.1 prefix)
            ∙ f.first_root_is;
      }
      | inr same ↦ absurd (omega (arith, f.grows, same.0))
    ]

pub agreeing_is_of_first : AgreeingIsOfFirst
agreeing_is_of_first digest hash small large None (inl (sizes, roots)) entries is clean =
    let all : take small.size entries ≡ entries = take_all small.size entries (omega (arith, is.size_is, sizes)) in
    record {
      size_is = ap length all ∙ is.size_is ∙ sym sizes;
      root_is = ap (mth digest) all ∙ is.root_is ∙ sym roots;
    }
agreeing_is_of_first digest hash small large None (inr (none, root)) entries is clean =
    let empty : take small.size entries ≡ [] = ap (λ k. take k entries) none in
    record {
      size_is = ap length empty ∙ sym none;
      root_is = ap (mth digest) empty ∙ mth-none digest ∙ sym root;
    }
agreeing_is_of_first digest hash small large (Some (Inclusion size index root leaf path)) shown entries is clean =
    absurd shown
agreeing_is_of_first digest hash small large (Some (Consistency m g n root path)) f entries is clean =
    by_agree digest hash small large m g n root path f entries is clean
