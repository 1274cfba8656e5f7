use Rattle.std.proofs.Common.{Ok, Err, ap, rules, subst, sym, ◌∙◌}
use Rattle.std.specs.Prelude.{string_bytes}
use Rattle.copy_reader.specs.Proofs.{IsTrueText}
use Rattle.copy_reader.specs.WholeCopies.{IsShelfFailure}
use Rattle.copy_reader.proofs.Damage.{damage_exit}
use Rattle.program_copies.specs.Damages.{NamesProof}
use Rattle.program_copies.specs.GivenFiles.{IsEdgeTo}
use Rattle.program_copies.proofs.Damages.{opened_names_proof, proof_names, proof_names_before}
use Rattle.program_copies.proofs.TrueProofs.{passed_on, proof_read}
use Rattle.program_copies.proofs.proving.asked_proof.Goals as goal

pub returns-in_err-opened-clause-honest : goal.returns-in_err-opened-clause-honest
returns-in_err-opened-clause-honest g c = λ entries log.
    passed_on IsShelfFailure c.in_err-opened.field-0.0 c.from_residual.result c.from_residual.ensures
    (c.in_err-opened.ensures.honest entries log.size_is log.root_is log.files)

pub returns-in_err-text-clause-honest : goal.returns-in_err-text-clause-honest
returns-in_err-text-clause-honest g c = λ entries log.
    passed_on IsShelfFailure c.in_err-text.field-0.0 c.from_residual-in_err-text.result c.from_residual-in_err-text.ensures
    (proof_read (λ text. string_bytes text) g.H.TreeHash.digest c.args.size c.args.root.now (g.D.Shelf.puts c.args.shelf.now)
    (g.D.Shelf.puts c.open_reader.new.shelf) c.in_ok-opened.ensures.same c.args.ask c.in_ok-opened.opened
    c.read_proof_text.new.reader c.in_ok-opened.ensures.size c.in_ok-opened.ensures.honest (Err c.in_err-text.field-0.0)
    c.in_err-text.ensures.honest entries log)

pub returns-clause-given : goal.returns-clause-given
returns-clause-given g c = record {
  within = search rules;
  is = search rules;
  whole = λ entries log. subst (λ bytes. IsTrueText g.H.TreeHash.digest c.args.ask entries bytes)
      (sym (ap (λ v. v.items) c.into_bytes.ensures.value))
      (proof_read (λ text. string_bytes text) g.H.TreeHash.digest c.args.size c.args.root.now (g.D.Shelf.puts c.args.shelf.now)
      (g.D.Shelf.puts c.open_reader.new.shelf) c.in_ok-opened.ensures.same c.args.ask c.in_ok-opened.opened
      c.read_proof_text.new.reader c.in_ok-opened.ensures.size c.in_ok-opened.ensures.honest (Ok c.in_ok-text.text)
      c.in_ok-text.ensures.honest entries log);
}

pub returns-in_err-opened-clause-damage : goal.returns-in_err-opened-clause-damage
returns-in_err-opened-clause-damage g c =
    damage_exit (NamesProof g.H.TreeHash.digest (g.D.Shelf.puts c.args.shelf.now) c.args.ask c.args.size c.args.root.now)
    c.from_residual.result c.in_err-opened.field-0.0 c.from_residual.ensures
    (opened_names_proof g.H.TreeHash.digest c.args.size c.args.root.now (g.D.Shelf.puts c.args.shelf.now) c.args.ask
    c.in_err-opened.field-0.0 c.in_err-opened.ensures.damage)

pub returns-in_err-text-clause-damage : goal.returns-in_err-text-clause-damage
returns-in_err-text-clause-damage g c =
    let digest = g.H.TreeHash.digest in
    let after = g.D.Shelf.puts c.open_reader.new.shelf in
    let to : IsEdgeTo digest c.args.size c.args.root.now c.in_ok-opened.opened.edge = record {
      hashes = c.root-root.ensures.hashes;
      size_is = c.in_ok-opened.ensures.size;
      leads = c.root-root.ensures.leads ∙ c.in_ok-opened.ensures.root;
    } in
    damage_exit (NamesProof digest (g.D.Shelf.puts c.args.shelf.now) c.args.ask c.args.size c.args.root.now)
    c.from_residual-in_err-text.result c.in_err-text.field-0.0 c.from_residual-in_err-text.ensures
    (proof_names_before digest c.args.size c.args.root.now (g.D.Shelf.puts c.args.shelf.now) after c.in_ok-opened.ensures.same
    c.args.ask c.in_err-text.field-0.0
    (proof_names digest c.args.size c.args.root.now after c.args.ask c.in_ok-opened.opened.edge to c.in_err-text.field-0.0
    c.in_err-text.ensures.damage))
