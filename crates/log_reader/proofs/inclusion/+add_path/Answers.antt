use Rattle.std.proofs.Common.{◌+◌, ◌-◌, ◌≤◌, ◌++◌, ◌∷◌, [], length, subst, sym, ap, ◌∙◌, rules, arith, refl}
use Rattle.tlog_hash.specs.Rows.{part}
use Rattle.tlog_hash.specs.Tree.{mth}
use Rattle.tlog_proof.specs.Inclusion.{path_of}
use Rattle.tlog_proof.proofs.Parts.{none_added, path_of-left, path_of-one, path_of-right, then_push}
use Rattle.log_reader.specs.FalseFiles.{NamesFalseIfFile}
use Rattle.log_reader.specs.Nodes.{IsNodeRange}
use Rattle.log_reader.proofs.Exits.{counted_exit, failed_exit}
use Rattle.log_reader.proofs.FalseFiles.{files_before, names_exit}
use Rattle.log_reader.proofs.Kept.{kept_once, kept_twice, stays_twice}
use Rattle.log_reader.proofs.NodeNumbers.{left_node, right_node}
use Rattle.log_reader.proofs.TrueReads.{tiles_later}
use Rattle.log_reader.proofs.inclusion.+add_path.Goals as goal

pub returns-then-len-eq1 : goal.returns-then-len-eq1
returns-then-len-eq1 g t c = record {
  edge = refl;
  root = refl;
  later = record { stays = λ path answer may. may };
  kept = kept_once (g.S.Source.files c.args.source.now);
  counted = refl;
  names = tt;
  honest = λ entries r s.
      let node = c.requires.node in
      let within : c.args.node.0 + c.args.node.1 ≤ length entries =
      subst (λ m. c.args.node.0 + c.args.node.1 ≤ m) r.size_is node.within in
      record {
        reader_is = r;
        answer = none_added c.args.path.now.items _
            (path_of-one g.H.TreeHash.digest entries c.args.node.0 c.args.node.1 c.args.index c.if-len-eq1.true within);
      };
}

pub add_path-requires : goal.add_path-requires
add_path-requires g t c κs within =
    let left = left_node c.args.reader.now.edge.size c.args.node.0 c.args.node.1 c.split-k.result c.requires.node (omega arith)
    c.split-k.ensures.value in
    search (rules, left)

pub add_path-requires-2 : goal.add_path-requires-2
add_path-requires-2 g t c κs within =
    let right = right_node c.args.reader.now.edge.size c.args.node.0 c.args.node.1 c.split-k.result c.requires.node (omega arith)
    c.split-k.ensures.value in
    search (rules, right)

pub add_node-requires : goal.add_node-requires
add_node-requires g t c =
    let start = c.args.node.0 in
    let n = c.args.node.1 in
    let k = c.split-k.result in
    let right = right_node c.args.reader.now.edge.size start n k c.requires.node (omega arith) c.split-k.ensures.value in
    subst (λ m. IsNodeRange m (start + k) (n - k)) (sym (ap (λ e. e.size) c.in_ok-add_path.ensures.edge)) right

pub add_node-requires-2 : goal.add_node-requires-2
add_node-requires-2 g t c =
    let start = c.args.node.0 in
    let n = c.args.node.1 in
    let k = c.split-k.result in
    let left = left_node c.args.reader.now.edge.size start n k c.requires.node (omega arith) c.split-k.ensures.value in
    subst (λ m. IsNodeRange m start k) (sym (ap (λ e. e.size) c.in_ok-add_path-2.ensures.edge)) left

pub returns-in_err-add_path : goal.returns-in_err-add_path
returns-in_err-add_path g t c =
    let failed = g.S.Source.failed in
    let exit = c.from_residual in
    let step = c.in_err-add_path.ensures in
    let fault = c.in_err-add_path.field-0.0 in
    record {
      edge = step.edge;
      root = step.root;
      later = step.later;
      kept = step.kept;
      counted = counted_exit exit.result c.add_path.result fault exit.ensures c.in_err-add_path.was (failed c.args.source.now)
          (failed c.args.source.now) (failed c.add_path.new.source) refl c.add_path.ensures.counted;
      names = names_exit (NamesFalseIfFile g.H.TreeHash.digest (g.S.Source.may_answer c.args.source.now) c.args.reader.now.edge)
          exit.result fault exit.ensures step.names;
      honest = λ entries r s.
          let went = step.honest entries r s in
          record { reader_is = went.reader_is; answer = failed_exit exit.result _ fault exit.ensures went.answer };
    }

pub returns-in_err-add_node : goal.returns-in_err-add_node
returns-in_err-add_node g t c =
    let digest = g.H.TreeHash.digest in
    let may = g.S.Source.may_answer in
    let files = g.S.Source.files in
    let failed = g.S.Source.failed in
    let edge = c.args.reader.now.edge in
    let exit = c.from_residual-in_err-add_node in
    let below = c.in_ok-add_path.ensures in
    let step = c.in_err-add_node.ensures in
    let fault = c.in_err-add_node.field-0.0 in
    record {
      edge = step.edge ∙ below.edge;
      root = step.root ∙ below.root;
      later = stays_twice below.later step.later;
      kept = kept_twice (files c.args.source.now) (files c.add_path.new.source) (files c.add_node.new.source) below.kept step.kept;
      counted = counted_exit exit.result c.add_node.result fault exit.ensures c.in_err-add_node.was (failed c.args.source.now)
          (failed c.add_path.new.source) (failed c.add_node.new.source) below.counted c.add_node.ensures.counted;
      names = names_exit (NamesFalseIfFile digest (may c.args.source.now) edge) exit.result fault exit.ensures
          (files_before digest (may c.args.source.now) (may c.add_path.new.source) below.later edge c.add_path.new.reader.edge
          below.edge fault step.names);
      honest = λ entries r s.
          let low = below.honest entries r s in
          let went = step.honest entries low.reader_is (tiles_later digest entries _ _ below.later s) in
          record { reader_is = went.reader_is; answer = failed_exit exit.result _ fault exit.ensures went.answer };
    }

pub returns-then-index-k : goal.returns-then-index-k
returns-then-index-k g t c =
    let d = g.H.TreeHash.digest in
    let may = g.S.Source.may_answer in
    let files = g.S.Source.files in
    let below = c.in_ok-add_path.ensures in
    let step = c.in_ok-add_node.ensures in
    record {
      edge = step.edge ∙ below.edge;
      root = step.root ∙ below.root;
      later = stays_twice below.later step.later;
      kept = kept_twice (files c.args.source.now) (files c.add_path.new.source) (files c.add_node.new.source) below.kept step.kept;
      counted = step.counted ∙ below.counted;
      names = tt;
      honest = λ entries r s.
          let start = c.args.node.0 in
          let n = c.args.node.1 in
          let k = c.split-k.result in
          let i = c.args.index in
          let within : start + n ≤ length entries = subst (λ m. start + n ≤ m) r.size_is c.requires.node.within in
          let low = below.honest entries r s in
          let went = step.honest entries low.reader_is
          (tiles_later d entries (may c.args.source.now) (may c.add_path.new.source) below.later s) in
          record {
            reader_is = went.reader_is;
            answer = then_push c.args.path.now.items c.add_path.new.path.items c.add_node.new.path.items (path_of d i (part start k entries))
                (path_of d i (part start n entries)) (mth d (part (start + k) (n - k) entries)) low.answer
                (went.answer.1 ∙ ap (λ h. c.add_path.new.path.items ++ h ∷ []) went.answer.0)
                (path_of-left d entries start n k (omega arith) c.split-k.ensures.value within i c.if-index-k.true);
          };
    }

pub returns-in_err-add_path-2 : goal.returns-in_err-add_path-2
returns-in_err-add_path-2 g t c =
    let failed = g.S.Source.failed in
    let exit = c.from_residual-in_err-add_path-2 in
    let step = c.in_err-add_path-2.ensures in
    let fault = c.in_err-add_path-2.field-0.0 in
    record {
      edge = step.edge;
      root = step.root;
      later = step.later;
      kept = step.kept;
      counted = counted_exit exit.result c.add_path-2.result fault exit.ensures c.in_err-add_path-2.was (failed c.args.source.now)
          (failed c.args.source.now) (failed c.add_path-2.new.source) refl c.add_path-2.ensures.counted;
      names = names_exit (NamesFalseIfFile g.H.TreeHash.digest (g.S.Source.may_answer c.args.source.now) c.args.reader.now.edge)
          exit.result fault exit.ensures step.names;
      honest = λ entries r s.
          let went = step.honest entries r s in
          record { reader_is = went.reader_is; answer = failed_exit exit.result _ fault exit.ensures went.answer };
    }

pub returns-in_err-add_node-2 : goal.returns-in_err-add_node-2
returns-in_err-add_node-2 g t c =
    let digest = g.H.TreeHash.digest in
    let may = g.S.Source.may_answer in
    let files = g.S.Source.files in
    let failed = g.S.Source.failed in
    let edge = c.args.reader.now.edge in
    let exit = c.from_residual-in_err-add_node-2 in
    let below = c.in_ok-add_path-2.ensures in
    let step = c.in_err-add_node-2.ensures in
    let fault = c.in_err-add_node-2.field-0.0 in
    record {
      edge = step.edge ∙ below.edge;
      root = step.root ∙ below.root;
      later = stays_twice below.later step.later;
      kept = kept_twice (files c.args.source.now) (files c.add_path-2.new.source) (files c.add_node-2.new.source) below.kept step.kept;
      counted = counted_exit exit.result c.add_node-2.result fault exit.ensures c.in_err-add_node-2.was (failed c.args.source.now)
          (failed c.add_path-2.new.source) (failed c.add_node-2.new.source) below.counted c.add_node-2.ensures.counted;
      names = names_exit (NamesFalseIfFile digest (may c.args.source.now) edge) exit.result fault exit.ensures
          (files_before digest (may c.args.source.now) (may c.add_path-2.new.source) below.later edge c.add_path-2.new.reader.edge
          below.edge fault step.names);
      honest = λ entries r s.
          let low = below.honest entries r s in
          let went = step.honest entries low.reader_is (tiles_later digest entries _ _ below.later s) in
          record { reader_is = went.reader_is; answer = failed_exit exit.result _ fault exit.ensures went.answer };
    }

pub returns : goal.returns
returns g t c =
    let d = g.H.TreeHash.digest in
    let may = g.S.Source.may_answer in
    let files = g.S.Source.files in
    let below = c.in_ok-add_path-2.ensures in
    let step = c.in_ok-add_node-2.ensures in
    record {
      edge = step.edge ∙ below.edge;
      root = step.root ∙ below.root;
      later = stays_twice below.later step.later;
      kept = kept_twice (files c.args.source.now) (files c.add_path-2.new.source) (files c.add_node-2.new.source) below.kept step.kept;
      counted = step.counted ∙ below.counted;
      names = tt;
      honest = λ entries r s.
          let start = c.args.node.0 in
          let n = c.args.node.1 in
          let k = c.split-k.result in
          let i = c.args.index in
          let within : start + n ≤ length entries = subst (λ m. start + n ≤ m) r.size_is c.requires.node.within in
          let low = below.honest entries r s in
          let went = step.honest entries low.reader_is
          (tiles_later d entries (may c.args.source.now) (may c.add_path-2.new.source) below.later s) in
          record {
            reader_is = went.reader_is;
            answer = then_push c.args.path.now.items c.add_path-2.new.path.items c.add_node-2.new.path.items (path_of d (i - k) (part (start + k) (n - k) entries))
                (path_of d i (part start n entries)) (mth d (part start k entries)) low.answer
                (went.answer.1 ∙ ap (λ h. c.add_path-2.new.path.items ++ h ∷ []) went.answer.0)
                (path_of-right d entries start n k (omega arith) c.split-k.ensures.value within i c.if-index-k.false);
          };
    }
