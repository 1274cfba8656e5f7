use Rattle.std.proofs.Common.{◌≡◌, ◌<◌, ◌≤◌, ◌++◌, true, length, take, refl, subst, ap, ◌∙◌, arith}
use Rattle.std.proofs.lemmas.List.{take_all}
use Rattle.tlog_hash.specs.Rows.{part}
use Rattle.tlog_hash.specs.Tree.{mth}
use Rattle.tlog_proof.specs.Consistency.{proof_of, subproof_of}
use Rattle.tlog_proof.specs.declared.proof.Proof.TheVariants.{Consistency}
use Rattle.log_reader.specs.Nodes.{IsNodeRange}
use Rattle.std.proofs.lemmas.Result.{IfOk-from_err}
use Rattle.log_reader.proofs.Exits.{checked_counted, checked_holds, checked_ok, checked_true, counted_exit, failed_exit}
use Rattle.log_reader.proofs.Asked.{consistency_holds, consistency_is}
use Rattle.log_reader.proofs.NodeNumbers.{whole_node}
use Rattle.log_reader.proofs.FalseFiles.{names_checked, names_exit}
use Rattle.log_reader.specs.FalseFiles.{NamesFalseIfFile}
use Rattle.log_reader.proofs.Requested.{requests_from_start}
use Rattle.log_reader.proofs.reader.LogReader.consistency.Goals as goal

pub add_subproof-requires-clause-node : goal.add_subproof-requires-clause-node
add_subproof-requires-clause-node g c =
    let size = c.size-second.result in
    let some : 0 < size = omega (arith, c.requires.some, c.requires.within, c.size-second.ensures) in
    subst (λ m. IsNodeRange m 0 size) c.size-second.ensures (whole_node size some c.size-second.type_inv)

pub returns-in_err-first_root : goal.returns-in_err-first_root
returns-in_err-first_root g c =
    let failed = g.S.Source.failed in
    let exit = c.from_residual in
    let step = c.in_err-first_root.ensures in
    record {
      edge = step.edge;
      root = step.root;
      asked = IfOk-from_err exit.result _ exit.ensures.0;
      holds = IfOk-from_err exit.result _ exit.ensures.0;
      later = step.later;
      kept = step.kept;
      counted = counted_exit exit.result c.add_subproof.result c.in_err-first_root.field-0.0 exit.ensures
          c.in_err-first_root.was (failed c.args.source.now) (failed c.args.source.now)
          (failed c.add_subproof.new.source) refl c.add_subproof.ensures.counted;
      asks = requests_from_start c.args.self.now.edge.size c.args.first _ _ step.asks;
      names = names_exit (NamesFalseIfFile g.H.TreeHash.digest (g.S.Source.may_answer c.args.source.now) c.args.self.now.edge) exit.result c.in_err-first_root.field-0.0 exit.ensures
          step.names;
      honest = λ entries r s.
          let went = step.honest entries r s in
          record {
            reader_is = went.reader_is;
            answer = failed_exit exit.result _ c.in_err-first_root.field-0.0 exit.ensures went.answer;
          };
    }

pub returns : goal.returns
returns g c =
    let failed = g.S.Source.failed in
    let digest = g.H.TreeHash.digest in
    let step = c.in_ok-first_root.ensures in
    let n = c.size-second.result in
    let first = c.args.first in
    let proof = Consistency first c.in_ok-first_root.first_root n c.root.result c.new.result in
    let kept = c.checked.ensures in
    record {
      edge = step.edge;
      root = step.root;
      asked = checked_ok digest proof c.checked.result kept.ok kept.err _
          (refl, c.size-second.ensures, c.root.ensures.root ∙ step.root);
      holds = checked_holds digest proof c.checked.result kept.ok kept.err;
      later = step.later;
      kept = step.kept;
      counted = checked_counted _ c.checked.result kept.err (failed c.args.source.now) (failed c.add_subproof.new.source)
          step.counted;
      asks = requests_from_start c.args.self.now.edge.size c.args.first _ _ step.asks;
      names = names_checked (NamesFalseIfFile g.H.TreeHash.digest (g.S.Source.may_answer c.args.source.now) c.args.self.now.edge) _ c.checked.result kept.err tt;
      honest = λ entries r s.
          let went = step.honest entries r s in
          let second_is : n ≡ length entries = c.size-second.ensures ∙ r.size_is in
          let upto : first ≤ n = omega (arith, c.requires.within, c.size-second.ensures) in
          let all = take_all n entries (omega (arith, second_is)) in
          let first_is = went.answer.hash_is ∙ ap (λ es. mth digest (take first es)) all in
          let root_is = c.root.ensures.root ∙ went.reader_is.root_is in
          let path_is : c.new.result ≡ proof_of digest first entries =
          c.new.ensures ∙ (went.answer.path_is
          ∙ (ap (λ xs. xs ++ subproof_of digest first (part 0 n entries) true) c.new-path.ensures.items
          ∙ ap (λ es. subproof_of digest first es true) all)) in
          record {
            reader_is = went.reader_is;
            answer = checked_true digest proof c.checked.result kept.ok kept.err _
                (consistency_is digest entries first n c.in_ok-first_root.first_root c.root.result c.new.result second_is
                c.requires.some upto first_is root_is path_is)
                (consistency_holds digest entries first n c.in_ok-first_root.first_root c.root.result c.new.result second_is
                c.requires.some upto first_is root_is path_is);
          };
    }
