use Rattle.std.proofs.Common.{◌∷◌, [], take, get_or, Ok, sym, ap, ◌∙◌, length, arith}
use Rattle.std.proofs.lemmas.Result.{IfOk-from_err}
use Rattle.tlog_hash.specs.Tree.{mth}
use Rattle.tlog_text.specs.Answers.{seen}
use Rattle.tlog_proof.specs.Made.{asked_proof}
use Rattle.tlog_proof.specs.declared.proof.Proof.TheVariants.{Inclusion}
use Rattle.tlog_proof.proofs.Lengths.{path_writable, proof_writable}
use Rattle.tlog_proof.proofs.Parts.{mth-part_one}
use Rattle.tlog_proof.proofs.proof.prove.Goals as goal

-- the hash of a range of one entry is its leaf hash
pub returns-in_ok-leaf-in-Inclusion-clause-answer : goal.returns-in_ok-leaf-in-Inclusion-clause-answer
returns-in_ok-leaf-in-Inclusion-clause-answer g c = λ es listed.
    let d = g.R.Ranges.digest in
    let size = c.in-Inclusion.size in
    let index = c.in-Inclusion.index in
    let root = (c.in_ok-root-in-Inclusion.ensures.ok es listed).1 in
    let leaf = c.in_ok-leaf-in-Inclusion.ensures.ok es listed in
    ap (asked_proof d es) c.in-Inclusion.is
    ∙ ap (seen (λ path. Inclusion size index (mth d (take size es)) (d (0 ∷ get_or es index [])) path))
    (c.in_ok-path-in-Inclusion.ensures es listed)
    ∙ (λ j. Ok
    (Inclusion size index (sym root j) (sym (leaf.1 ∙ mth-part_one d es index (omega (arith, leaf.0))) j)
    (sym c.new.ensures j)))

pub returns-in_ok-leaf-in-Inclusion-clause-writable : goal.returns-in_ok-leaf-in-Inclusion-clause-writable
returns-in_ok-leaf-in-Inclusion-clause-writable g c = λ es listed small.
    let fit =
    path_writable g.R.Ranges.digest es c.in-Inclusion.size c.in-Inclusion.index c.in_ok-path-in-Inclusion.path.items
    small (c.in_ok-path-in-Inclusion.ensures es listed) in
    (fit.0, fit.1, omega (arith, fit.2, ap length c.new.ensures))

pub returns-in_ok-second_root-in-Consistency-clause-writable :
    goal.returns-in_ok-second_root-in-Consistency-clause-writable
returns-in_ok-second_root-in-Consistency-clause-writable g c = λ es listed small.
    let fit =
    proof_writable g.R.Ranges.digest es c.in-Consistency.first c.in-Consistency.second
    c.in_ok-path-in-Consistency.path.items small (c.in_ok-path-in-Consistency.ensures es listed) in
    (fit.0, fit.1, omega (arith, fit.2, ap length c.new-in-Consistency.ensures))

pub returns-in_err-path-in-Inclusion-clause-writable : goal.returns-in_err-path-in-Inclusion-clause-writable
returns-in_err-path-in-Inclusion-clause-writable g c = IfOk-from_err c.from_residual.result _ c.from_residual.ensures.0

pub returns-in_err-root-in-Inclusion-clause-writable : goal.returns-in_err-root-in-Inclusion-clause-writable
returns-in_err-root-in-Inclusion-clause-writable g c = let exit = c.from_residual-in_err-root-in-Inclusion in IfOk-from_err exit.result _ exit.ensures.0

pub returns-in_err-leaf-in-Inclusion-clause-writable : goal.returns-in_err-leaf-in-Inclusion-clause-writable
returns-in_err-leaf-in-Inclusion-clause-writable g c = let exit = c.from_residual-in_err-leaf-in-Inclusion in IfOk-from_err exit.result _ exit.ensures.0

pub returns-in_err-path-in-Consistency-clause-writable : goal.returns-in_err-path-in-Consistency-clause-writable
returns-in_err-path-in-Consistency-clause-writable g c = let exit = c.from_residual-in_err-path-in-Consistency in IfOk-from_err exit.result _ exit.ensures.0

pub returns-in_err-first_root-in-Consistency-clause-writable : goal.returns-in_err-first_root-in-Consistency-clause-writable
returns-in_err-first_root-in-Consistency-clause-writable g c = let exit = c.from_residual-in_err-first_root-in-Consistency in IfOk-from_err exit.result _ exit.ensures.0

pub returns-in_err-second_root-in-Consistency-clause-writable : goal.returns-in_err-second_root-in-Consistency-clause-writable
returns-in_err-second_root-in-Consistency-clause-writable g c = let exit = c.from_residual-in_err-second_root-in-Consistency in IfOk-from_err exit.result _ exit.ensures.0
