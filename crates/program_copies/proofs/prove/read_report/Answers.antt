use Rattle.std.proofs.Common.{ℕ, List, refl}
use Rattle.std.specs.Prelude.{string_bytes}
use Rattle.copy_reader.proofs.Damage.{damage_exit}
use Rattle.copy_reader.specs.Damage.{NamesProofDamage}
use Rattle.copy_reader.specs.WholeCopies.{IsShelfFailure}
use Rattle.program_copies.specs.Proofs.{IsProvable}
use Rattle.program_copies.proofs.Reading.{passed_on, read_fails, read_true}
use Rattle.program_copies.proofs.prove.read_report.Goals as goal

pub returns-in_err-text-clause-honest : goal.returns-in_err-text-clause-honest
returns-in_err-text-clause-honest g c =
    passed_on
    (λ fault. (entries : List (List ℕ)) → IsProvable g.H.TreeHash.digest c.args.reader.now (g.D.Shelf.puts c.args.shelf.now) entries →
    IsShelfFailure fault) c.in_err-text.field-0.0 c.from_residual.result c.from_residual.ensures
    (read_fails (λ text. string_bytes text) g.H.TreeHash.digest c.args.reader.now c.read_proof_text.new.reader
    (g.D.Shelf.puts c.args.shelf.now) c.args.ask c.in_err-text.field-0.0 c.in_err-text.ensures.honest)

pub returns-clause-report : goal.returns-clause-report
returns-clause-report g c = record {
  is = c.in_ok-text.ensures.text;
  whole = read_true (λ text. string_bytes text) g.H.TreeHash.digest c.args.reader.now c.read_proof_text.new.reader
      (g.D.Shelf.puts c.args.shelf.now) c.args.ask c.in_ok-text.text c.in_ok-text.ensures.honest;
  status = refl;
}

pub returns-in_err-text-clause-damage : goal.returns-in_err-text-clause-damage
returns-in_err-text-clause-damage g c =
    damage_exit (NamesProofDamage g.H.TreeHash.digest (g.D.Shelf.puts c.args.shelf.now) c.args.reader.now.edge c.args.ask)
    c.from_residual.result c.in_err-text.field-0.0 c.from_residual.ensures c.in_err-text.ensures.damage
