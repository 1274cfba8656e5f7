-- The served checkpoint, found once: the note, its size and root, and the strings of the mirror (C2SP tlog-tiles,
-- "Checkpoints").
use Rattle.std.specs.Prelude.{◌≡◌, ◌↔◌, ℕ, ◌≤◌, List, ◌∷◌, length, refl, Result}
use Rattle.std.specs.Coded.{Coded, code_by, coded×, coded_ℕ, coded_list}
use Rattle.node_store.specs.Strings.{Strings, Has, NoClash}
use Rattle.mirror_model.specs.View.{View, strings_code}
use Rattle.mirror_model.specs.Complete.{IsTreeOf, IsBuilt, IsLawful}
use Rattle.mirror_model.specs.Served.{Served, IsServedList}
use Rattle.mirror_model.specs.Strings.{IsDigest}
use Rattle.tlog_proof.specs.Answers.{AnswersAs}
use Rattle.tlog_proof.specs.Made.{asked_proof}
use Rattle.tlog_proof.specs.declared.make.ProofFault.{ProofFault}
use Rattle.tlog_proof.specs.declared.make.ProofFault.TheVariants.{OutOfMemory}
use Rattle.tlog_proof.specs.declared.proof.Ask.{Ask}
use Rattle.tlog_proof.specs.declared.proof.Proof.{Proof}

-- the served checkpoint by itself: a note with its size and root, and the strings that hold its tree
pub record Top : Type 0 where
  pub note : List ℕ
  pub size : ℕ
  pub root : List ℕ
  pub strings : Strings

-- tops in one order of codes, which a model of a top needs; it means nothing for a log
abbrev pub top_code : Coded Top
top_code =
    code_by (List ℕ × (ℕ × (List ℕ × Strings)))
    (coded× (coded_list coded_ℕ) (coded× coded_ℕ (coded× (coded_list coded_ℕ) strings_code)))
    (λ t. (t.note, (t.size, (t.root, t.strings))))
    (λ p. record { note = p.0; size = p.1.0; root = p.1.1.0; strings = p.1.1.1 }) (λ _. refl)

module _ (digest : List ℕ → List ℕ) where
  -- the tree of the top is held, no two of its strings have one digest, and entries have at most 65,535 bytes
  pub record IsWhole (top : Top) : Type 0 where
    pub built : IsBuilt digest top.strings top.size top.root
    pub no_clash : NoClash digest top.strings
    pub leaves_short : (entry : List ℕ) → Has top.strings (0 ∷ entry) → length entry ≤ 65535

  -- the entries are a list of the top: there is only one, as the laws say
  abbrev pub IsListOf : Top → List (List ℕ) → Type 0
  IsListOf top entries = IsTreeOf digest top.strings top.size top.root entries

  -- the note, its size and its root are those that the view serves
  pub record IsServedAs (v : View) (note : List ℕ) (size : ℕ) (root : List ℕ) : Type 0 where
    pub entries : List (List ℕ)
    pub served : Served digest v note size root entries

  -- the top is the one that the view serves
  pub record IsServedTop (v : View) (top : Top) : Type 0 where
    pub strings_are : top.strings ≡ v.strings
    pub served : IsServedAs v top.note top.size top.root

-- the top of a lawful view has exactly the served entries
abbrev pub TopHasServed : Type 0
TopHasServed =
    (digest : List ℕ → List ℕ) → IsDigest digest → (v : View) → IsLawful digest v → (top : Top) →
    IsServedTop digest v top →
    (entries : List (List ℕ)) → IsListOf digest top entries ↔ IsServedList digest v entries

-- the answer to the question is the one for the served entries, unless memory was refused
pub record IsServedProof (digest : List ℕ → List ℕ) (v : View) (ask : Ask)
    (result : Result Proof ProofFault) : Type 0 where
  pub entries : List (List ℕ)
  pub served : IsServedList digest v entries
  pub answers : AnswersAs OutOfMemory (λ proof. proof) result (asked_proof digest entries ask)

-- a proof that is right for each list of the view's top is right for the served entries
abbrev pub ProofsAreServed : Type 0
ProofsAreServed =
    (digest : List ℕ → List ℕ) (v : View) (top : Top) → IsServedTop digest v top →
    (ask : Ask) (result : Result Proof ProofFault) →
    ((entries : List (List ℕ)) → IsListOf digest top entries →
    AnswersAs OutOfMemory (λ proof. proof) result (asked_proof digest entries ask)) →
    IsServedProof digest v ask result
