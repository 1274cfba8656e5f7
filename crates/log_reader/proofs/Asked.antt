-- The proofs of the definitions for a list, if nothing is refused.
use Rattle.std.proofs.Common.{◌≡◌, ℕ, ◌<◌, ◌≤◌, false, List, [], length, get_or, take, Ok, sym, subst, ◌∙◌, arith}
use Rattle.std.specs.Prelude.{nat_eq}
use Rattle.std.proofs.lemmas.Bool.{le-ltb, lt-leb}
use Rattle.std.proofs.lemmas.Bool.Decides.{nat_tests}
use Rattle.std.proofs.lemmas.List.{get_or-take, length-take-le, take-take, take_all}
use Rattle.tlog_hash.specs.Tree.{leaf_hash, mth}
use Rattle.tlog_proof.specs.Consistency.{proof_of}
use Rattle.tlog_proof.specs.Inclusion.{path_of}
use Rattle.tlog_proof.specs.Made.{Holds, asked_proof}
use Rattle.tlog_proof.specs.declared.proof.Ask.TheVariants.{Inclusion as AskInclusion, Consistency as AskConsistency}
use Rattle.tlog_proof.specs.declared.proof.Proof.TheVariants.{Inclusion, Consistency}
use Rattle.tlog_proof.proofs.ConsistenciesMade.{made_consistency_holds}
use Rattle.tlog_proof.proofs.Inclusions.{made_inclusion_holds}

not_zero : (m : ℕ) → 0 < m → nat_eq m 0 ≡ false
not_zero m some = grind (arith, nat_tests)

module _ (digest : List ℕ → List ℕ) (entries : List (List ℕ)) where
  pub inclusion_asked : (size index : ℕ) → size ≤ length entries → index < size →
      asked_proof digest entries (AskInclusion size index)
      ≡ Ok (Inclusion size index (mth digest (take size entries)) (leaf_hash digest (get_or entries index []))
      (path_of digest index (take size entries)))
  inclusion_asked size index within below = rw (le-ltb (length entries) size within, lt-leb size index below)

  pub consistency_asked : (first second : ℕ) → second ≤ length entries → 0 < first → first ≤ second →
      asked_proof digest entries (AskConsistency first second)
      ≡ Ok (Consistency first (mth digest (take first entries)) second (mth digest (take second entries))
      (proof_of digest first (take second entries)))
  consistency_asked first second within some upto =
      rw (le-ltb (length entries) second within, not_zero first some, le-ltb second first upto)

  all : take (length entries) entries ≡ entries
  all = take_all (length entries) entries (omega arith)

  -- the inclusion proof of an entry among all
  module _ (size index : ℕ) (root leaf : List ℕ) (path : List (List ℕ)) (size_is : size ≡ length entries) (below : index < size)
      (root_is : root ≡ mth digest entries) (leaf_is : leaf ≡ leaf_hash digest (get_or entries index []))
      (path_is : path ≡ path_of digest index entries) where
    inclusion_same : Inclusion (length entries) index (mth digest entries) (leaf_hash digest (get_or entries index []))
        (path_of digest index entries) ≡ Inclusion size index root leaf path
    inclusion_same = λ i. Inclusion (sym size_is i) index (sym root_is i) (sym leaf_is i) (sym path_is i)

    pub inclusion_is : asked_proof digest entries (AskInclusion (length entries) index) ≡ Ok (Inclusion size index root leaf path)
    inclusion_is =
        inclusion_asked (length entries) index (omega arith) (omega (arith, size_is, below))
        ∙ ((λ i. Ok (Inclusion (length entries) index (mth digest (all i)) (leaf_hash digest (get_or entries index []))
        (path_of digest index (all i)))) ∙ (λ i. Ok (inclusion_same i)))

    pub inclusion_holds : Holds digest (Inclusion size index root leaf path)
    inclusion_holds =
        subst (Holds digest) inclusion_same (made_inclusion_holds digest entries index (omega (arith, size_is, below)))

  -- the consistency proof from the first entries to all
  module _ (first second : ℕ) (first_root second_root : List ℕ) (path : List (List ℕ)) (second_is : second ≡ length entries)
      (some : 0 < first) (upto : first ≤ second) (first_is : first_root ≡ mth digest (take first entries))
      (root_is : second_root ≡ mth digest entries) (path_is : path ≡ proof_of digest first entries) where
    consistency_same : Consistency first (mth digest (take first entries)) (length entries) (mth digest entries)
        (proof_of digest first entries) ≡ Consistency first first_root second second_root path
    consistency_same = λ i. Consistency first (sym first_is i) (sym second_is i) (sym root_is i) (sym path_is i)

    pub consistency_is : asked_proof digest entries (AskConsistency first (length entries))
        ≡ Ok (Consistency first first_root second second_root path)
    consistency_is =
        consistency_asked first (length entries) (omega arith) some (omega (arith, second_is, upto))
        ∙ ((λ i. Ok (Consistency first (mth digest (take first entries)) (length entries) (mth digest (all i))
        (proof_of digest first (all i)))) ∙ (λ i. Ok (consistency_same i)))

    pub consistency_holds : Holds digest (Consistency first first_root second second_root path)
    consistency_holds =
        subst (Holds digest) consistency_same
        (made_consistency_holds digest entries first some (omega (arith, second_is, upto))).1

-- a proof in the tree of the first entries is one of all entries at that size
module _ (digest : List ℕ → List ℕ) (entries : List (List ℕ)) (size : ℕ) (within : size ≤ length entries) where
  abbrev firsts : List (List ℕ)
  firsts = take size entries

  long : length firsts ≡ size
  long = length-take-le size entries within

  all_firsts : take (length firsts) firsts ≡ firsts
  all_firsts = take_all (length firsts) firsts (omega arith)

  pub first_inclusion : (index : ℕ) → index < size →
      asked_proof digest firsts (AskInclusion (length firsts) index) ≡ asked_proof digest entries (AskInclusion size index)
  first_inclusion index below =
      let entry : get_or firsts index [] ≡ get_or entries index [] = get_or-take size entries index [] below in
      inclusion_asked digest firsts (length firsts) index (omega arith) (omega (arith, long, below))
      ∙ ((λ i. Ok (Inclusion (long i) index (mth digest (all_firsts i)) (leaf_hash digest (entry i))
      (path_of digest index (all_firsts i)))) ∙ sym (inclusion_asked digest entries size index within below))

  pub first_consistency : (first : ℕ) → 0 < first → first ≤ size →
      asked_proof digest firsts (AskConsistency first (length firsts)) ≡ asked_proof digest entries (AskConsistency first size)
  first_consistency first some upto =
      let begin : take first firsts ≡ take first entries = take-take first size entries upto in
      consistency_asked digest firsts first (length firsts) (omega arith) some (omega (arith, long, upto))
      ∙ ((λ i. Ok (Consistency first (mth digest (begin i)) (long i) (mth digest (all_firsts i))
      (proof_of digest first (all_firsts i)))) ∙ sym (consistency_asked digest entries first size within some upto))
