use Rattle.std.proofs.Common.{List, arith, subst, sym, ◌∙◌}
use Rattle.std.proofs.lemmas.Grind.{common_steps}
use Rattle.log_reader.proofs.Kept.{kept_twice}
use Rattle.std.specs.Prelude.{All}
use Rattle.std.proofs.lemmas.List.Elements.{All-push}
use Rattle.copy_reader.proofs.WholeCopies.{files_later}
use Rattle.tlog_mirror.specs.Compared.{IsCompared}
use Rattle.tlog_mirror.specs.declared.compared.Compared.{Compared}
use Rattle.copy_reader.proofs.Damage.{damage_exit}
use Rattle.copy_reader.specs.Damage.{NamesDamage}
use Rattle.copy_reader.specs.declared.fault.CopyFault.TheVariants.{OutOfMemory}
use Rattle.program_copies.proofs.Damages.{damage_then}
use Rattle.program_copies.proofs.Reading.{ends_by, ends_no_memory}
use Rattle.program_copies.proofs.compare.compare_all.Goals as goal

pub returns-in_err-compare_one-clause-honest : goal.returns-in_err-compare_one-clause-honest
returns-in_err-compare_one-clause-honest g c = λ entries is files.
    let before = c.loop-head.invariant.honest entries is files in
    let read = c.in_err-compare_one.ensures.honest entries before.0
    (files_later g.H.TreeHash.digest (g.D.Shelf.puts c.args.shelf.now) (g.D.Shelf.puts c.loop-head.shelf)
    c.loop-head.invariant.same entries files) in
    record {
      reader_is = read.reader_is;
      answer = ends_by c.in_err-compare_one.field-0.0 c.from_residual.result c.from_residual.ensures read.answer _;
    }

pub returns-in_err-push-clause-honest : goal.returns-in_err-push-clause-honest
returns-in_err-push-clause-honest g c = λ entries is files.
    let before = c.loop-head.invariant.honest entries is files in
    let read = c.in_ok-compare_one.ensures.honest entries before.0
    (files_later g.H.TreeHash.digest (g.D.Shelf.puts c.args.shelf.now) (g.D.Shelf.puts c.loop-head.shelf)
    c.loop-head.invariant.same entries files) in
    record {
      reader_is = read.reader_is;
      answer = ends_no_memory c.from_residual-in_err-push.result c.from_residual-in_err-push.ensures _;
    }

pub returns-in_err-compare_one-clause-damage : goal.returns-in_err-compare_one-clause-damage
returns-in_err-compare_one-clause-damage g c =
    damage_then g.H.TreeHash.digest (g.D.Shelf.puts c.args.shelf.now) (g.D.Shelf.puts c.loop-head.shelf)
    c.loop-head.invariant.same c.args.reader.now.edge c.loop-head.reader.edge c.loop-head.invariant.edge
    c.in_err-compare_one.field-0.0 c.from_residual.result c.from_residual.ensures c.in_err-compare_one.ensures.damage

pub returns-in_err-push-clause-damage : goal.returns-in_err-push-clause-damage
returns-in_err-push-clause-damage g c =
    damage_exit (NamesDamage g.H.TreeHash.digest (g.D.Shelf.puts c.args.shelf.now) c.args.reader.now.edge)
    c.from_residual-in_err-push.result OutOfMemory c.from_residual-in_err-push.ensures tt

pub loop-head-preserved : goal.loop-head-preserved
loop-head-preserved g c = record {
  edge = c.compare_one.ensures.edge ∙ c.loop-head.invariant.edge;
  root = c.compare_one.ensures.root ∙ c.loop-head.invariant.root;
  heads = grind (arith, common_steps);
  each = grind (arith, common_steps);
  same = kept_twice (g.D.Shelf.puts c.args.shelf.now) (g.D.Shelf.puts c.loop-head.shelf) (g.D.Shelf.puts c.compare_one.new.shelf)
      c.loop-head.invariant.same c.in_ok-compare_one.ensures.same;
  counted = c.in_ok-compare_one.ensures.counted ∙ c.loop-head.invariant.counted;
  honest = λ entries is files.
      let before = c.loop-head.invariant.honest entries is files in
      let read = c.in_ok-compare_one.ensures.honest entries before.0
      (files_later g.H.TreeHash.digest (g.D.Shelf.puts c.args.shelf.now) (g.D.Shelf.puts c.loop-head.shelf)
      c.loop-head.invariant.same entries files) in (
        read.reader_is,
        subst (λ (l : List Compared). All (IsCompared g.H.TreeHash.digest entries) l) (sym c.in_ok-push.ensures.items)
            (All-push (IsCompared g.H.TreeHash.digest entries) c.loop-head.compared.items c.in_ok-compare_one.field-0 before.1
            read.answer),
      );
}
