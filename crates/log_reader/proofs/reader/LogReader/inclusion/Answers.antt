use Rattle.std.proofs.Common.{◌≡◌, ◌<◌, ◌++◌, length, subst, sym, ap, ◌∙◌, arith, refl}
use Rattle.std.proofs.lemmas.List.{take_all}
use Rattle.tlog_hash.specs.Rows.{part}
use Rattle.tlog_proof.specs.Inclusion.{path_of}
use Rattle.tlog_proof.specs.declared.proof.Proof.TheVariants.{Inclusion}
use Rattle.log_reader.specs.Nodes.{IsNodeRange}
use Rattle.log_reader.proofs.Asked.{inclusion_holds, inclusion_is}
use Rattle.log_reader.proofs.NodeNumbers.{whole_node}
use Rattle.log_reader.proofs.TrueReads.{tiles_later}
use Rattle.std.proofs.lemmas.Result.{IfOk-from_err}
use Rattle.log_reader.proofs.Exits.{checked_counted, checked_holds, checked_ok, checked_true, counted_exit, failed_exit}
use Rattle.log_reader.proofs.Kept.{kept_twice, stays_twice}
use Rattle.log_reader.proofs.FalseFiles.{files_before, names_checked, names_exit, names_if}
use Rattle.log_reader.specs.FalseFiles.{NamesFalseIfFile}
use Rattle.log_reader.proofs.reader.LogReader.inclusion.Goals as goal

pub add_path-requires-clause-node : goal.add_path-requires-clause-node
add_path-requires-clause-node g c =
    let size = c.size-size.result in
    let same = c.size-size.ensures ∙ sym (ap (λ e. e.size) c.in_ok-leaf.ensures.edge) in
    subst (λ m. IsNodeRange m 0 size) same (whole_node size (omega arith) c.size-size.type_inv)

pub returns-in_err-leaf : goal.returns-in_err-leaf
returns-in_err-leaf g c =
    let failed = g.S.Source.failed in
    let exit = c.from_residual in
    let step = c.in_err-leaf.ensures in
    record {
      edge = step.edge;
      root = step.root;
      asked = IfOk-from_err exit.result _ exit.ensures.0;
      holds = IfOk-from_err exit.result _ exit.ensures.0;
      later = step.later;
      kept = step.kept;
      counted = counted_exit exit.result c.leaf.result c.in_err-leaf.field-0.0 exit.ensures c.in_err-leaf.was
          (failed c.args.source.now) (failed c.args.source.now) (failed c.leaf.new.source) refl c.leaf.ensures.counted;
      names = names_exit (NamesFalseIfFile g.H.TreeHash.digest (g.S.Source.may_answer c.args.source.now) c.args.self.now.edge) exit.result c.in_err-leaf.field-0.0 exit.ensures
          (names_if g.H.TreeHash.digest (g.S.Source.may_answer c.args.source.now) c.args.self.now.edge c.in_err-leaf.field-0.0 step.names);
      honest = λ entries r s.
          let went = step.honest entries r s in
          record {
            reader_is = went.reader_is;
            answer = failed_exit exit.result _ c.in_err-leaf.field-0.0 exit.ensures went.answer;
          };
    }

pub returns-in_err-add_path : goal.returns-in_err-add_path
returns-in_err-add_path g c =
    let files = g.S.Source.files in
    let failed = g.S.Source.failed in
    let exit = c.from_residual-in_err-add_path in
    let leaf = c.in_ok-leaf.ensures in
    let step = c.in_err-add_path.ensures in
    record {
      edge = step.edge ∙ leaf.edge;
      root = step.root ∙ leaf.root;
      asked = IfOk-from_err exit.result _ exit.ensures.0;
      holds = IfOk-from_err exit.result _ exit.ensures.0;
      later = stays_twice leaf.later step.later;
      kept = kept_twice (files c.args.source.now) (files c.leaf.new.source) (files c.add_path.new.source) leaf.kept step.kept;
      counted = counted_exit exit.result c.add_path.result c.in_err-add_path.field-0.0 exit.ensures c.in_err-add_path.was
          (failed c.args.source.now) (failed c.leaf.new.source) (failed c.add_path.new.source) leaf.counted
          c.add_path.ensures.counted;
      names = names_exit (NamesFalseIfFile g.H.TreeHash.digest (g.S.Source.may_answer c.args.source.now) c.args.self.now.edge) exit.result c.in_err-add_path.field-0.0 exit.ensures
          (files_before g.H.TreeHash.digest (g.S.Source.may_answer c.args.source.now) (g.S.Source.may_answer c.leaf.new.source) leaf.later
          c.args.self.now.edge c.leaf.new.self.edge leaf.edge c.in_err-add_path.field-0.0 step.names);
      honest = λ entries r s.
          let at = leaf.honest entries r s in
          let went = step.honest entries at.reader_is (tiles_later g.H.TreeHash.digest entries _ _ leaf.later s) in
          record {
            reader_is = went.reader_is;
            answer = failed_exit exit.result _ c.in_err-add_path.field-0.0 exit.ensures went.answer;
          };
    }

pub returns : goal.returns
returns g c =
    let files = g.S.Source.files in
    let failed = g.S.Source.failed in
    let digest = g.H.TreeHash.digest in
    let leaf = c.in_ok-leaf.ensures in
    let step = c.in_ok-add_path.ensures in
    let n = c.size-size.result in
    let index = c.args.index in
    let proof = Inclusion n index c.root.result c.in_ok-leaf.leaf c.new.result in
    let kept = c.checked.ensures in
    record {
      edge = step.edge ∙ leaf.edge;
      root = step.root ∙ leaf.root;
      asked = checked_ok digest proof c.checked.result kept.ok kept.err _
          (c.size-size.ensures, refl, c.root.ensures.root ∙ (step.root ∙ leaf.root));
      holds = checked_holds digest proof c.checked.result kept.ok kept.err;
      later = stays_twice leaf.later step.later;
      kept = kept_twice (files c.args.source.now) (files c.leaf.new.source) (files c.add_path.new.source) leaf.kept step.kept;
      counted = checked_counted _ c.checked.result kept.err (failed c.args.source.now) (failed c.add_path.new.source)
          (step.counted ∙ leaf.counted);
      names = names_checked (NamesFalseIfFile g.H.TreeHash.digest (g.S.Source.may_answer c.args.source.now) c.args.self.now.edge) _ c.checked.result kept.err tt;
      honest = λ entries r s.
          let at = leaf.honest entries r s in
          let went = step.honest entries at.reader_is (tiles_later digest entries _ _ leaf.later s) in
          let size_is : n ≡ length entries = c.size-size.ensures ∙ r.size_is in
          let below : index < n = subst (λ m. index < m) (sym c.size-size.ensures) c.requires in
          let root_is = c.root.ensures.root ∙ went.reader_is.root_is in
          let path_is : c.new.result ≡ path_of digest index entries =
          c.new.ensures ∙ (went.answer ∙ (ap (λ xs. xs ++ path_of digest index (part 0 n entries)) c.new-path.ensures.items
          ∙ ap (path_of digest index) (take_all n entries (omega (arith, size_is))))) in
          record {
            reader_is = went.reader_is;
            answer = checked_true digest proof c.checked.result kept.ok kept.err _
                (inclusion_is digest entries n index c.root.result c.in_ok-leaf.leaf c.new.result size_is below root_is at.answer path_is)
                (inclusion_holds digest entries n index c.root.result c.in_ok-leaf.leaf c.new.result size_is below root_is at.answer
                path_is);
          };
    }
