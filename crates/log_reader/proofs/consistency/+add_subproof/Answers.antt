use Rattle.std.proofs.Common.{◌≡◌, ◌+◌, ◌-◌, ◌<◌, ◌≤◌, ◌++◌, ◌∷◌, [], if◌then◌else◌, length, subst, sym, ap, rules, arith, refl, ◌∙◌}
use Rattle.std.proofs.lemmas.List.{append-nil}
use Rattle.log_reader.specs.Nodes.{IsNodeRange}
use Rattle.log_reader.proofs.FirstHashes.{left_added, right_added, whole_added}
use Rattle.log_reader.proofs.NodeNumbers.{left_node, right_node}
use Rattle.log_reader.proofs.TrueReads.{reads_more, tiles_later}
use Rattle.log_reader.proofs.Exits.{counted_exit, failed_exit}
use Rattle.log_reader.proofs.Kept.{kept_twice, stays_twice}
use Rattle.log_reader.proofs.FalseFiles.{files_before, names_exit}
use Rattle.log_reader.specs.FalseFiles.{NamesFalseIfFile}
use Rattle.log_reader.specs.Requested.{IsProofTile, IsTileOverNode, IsWholeOrLeft}
use Rattle.log_reader.proofs.Requested.{left_tiles, left_whole, requests_twice, requests_wider, right_end, right_tiles, whole_tiles}
use Rattle.log_reader.proofs.consistency.+add_subproof.Goals as goal

pub returns-then-held : goal.returns-then-held
returns-then-held g t c = record {
  edge = c.node_hash.ensures.edge;
  root = c.node_hash.ensures.root;
  later = c.node_hash.ensures.later;
  kept = c.node_hash.ensures.kept;
  counted = c.node_hash.ensures.counted;
  asks = requests_wider _ _ _ _
      (whole_tiles c.args.reader.now.edge.size c.args.node.0 c.args.node.1 c.args.first (omega (arith, c.requires.node.some)) c.if-first-len.true
      (c.requires.whole c.if-first-len.true)) c.node_hash.ensures.asks;
  names = c.node_hash.ensures.names;
  honest = λ entries r s.
      let start = c.args.node.0 in
      let n = c.args.node.1 in
      let within : start + n ≤ length entries = subst (λ m. start + n ≤ m) r.size_is c.requires.node.within in
      let went = c.node_hash.ensures.honest entries r s in
      let old = c.args.path.now.items in
      record {
        reader_is = went.reader_is;
        answer = reads_more c.node_hash.result _ _
            (λ hash is. whole_added g.H.TreeHash.digest entries start n c.args.first c.args.held c.requires.some
            c.requires.within within old old hash c.if-first-len.true is
            (sym (append-nil old) ∙ ap (λ b. old ++ (if b then [] else hash ∷ [])) (sym c.if-held.true))) went.answer;
      };
}

pub returns-then-first-len : goal.returns-then-first-len
returns-then-first-len g t c = record {
  edge = c.add_node.ensures.edge;
  root = c.add_node.ensures.root;
  later = c.add_node.ensures.later;
  kept = c.add_node.ensures.kept;
  counted = c.add_node.ensures.counted;
  asks = requests_wider _ _ _ _
      (whole_tiles c.args.reader.now.edge.size c.args.node.0 c.args.node.1 c.args.first (omega (arith, c.requires.node.some)) c.if-first-len.true
      (c.requires.whole c.if-first-len.true)) c.add_node.ensures.asks;
  names = c.add_node.ensures.names;
  honest = λ entries r s.
      let start = c.args.node.0 in
      let n = c.args.node.1 in
      let within : start + n ≤ length entries = subst (λ m. start + n ≤ m) r.size_is c.requires.node.within in
      let went = c.add_node.ensures.honest entries r s in
      let old = c.args.path.now.items in
      record {
        reader_is = went.reader_is;
        answer = reads_more c.add_node.result _ _
            (λ hash is. whole_added g.H.TreeHash.digest entries start n c.args.first c.args.held c.requires.some
            c.requires.within within old c.add_node.new.path.items hash c.if-first-len.true is.0
            (is.1 ∙ ap (λ b. old ++ (if b then [] else hash ∷ [])) (sym c.if-held.false))) went.answer;
      };
}

pub add_subproof-requires : goal.add_subproof-requires
add_subproof-requires g t c κs within =
    let left = left_node c.args.reader.now.edge.size c.args.node.0 c.args.node.1 c.split-k.result c.requires.node (omega arith)
    c.split-k.ensures.value in
    let whole : c.args.first ≡ c.split-k.result → IsWholeOrLeft c.args.reader.now.edge.size c.args.node.0 c.split-k.result =
    λ same. left_whole c.args.reader.now.edge.size c.args.node.0 c.args.node.1 c.split-k.result c.args.first c.requires.node (omega arith)
    c.split-k.ensures.value c.requires.some same in
    search (rules, left, whole)

pub add_node-requires-then-first-k : goal.add_node-requires-then-first-k
add_node-requires-then-first-k g t c =
    let start = c.args.node.0 in
    let n = c.args.node.1 in
    let k = c.split-k.result in
    let right = right_node c.args.reader.now.edge.size start n k c.requires.node (omega arith) c.split-k.ensures.value in
    subst (λ m. IsNodeRange m (start + k) (n - k)) (sym (ap (λ e. e.size) c.in_ok-hash.ensures.edge)) right

pub returns-in_err-hash : goal.returns-in_err-hash
returns-in_err-hash g t c =
    let failed = g.S.Source.failed in
    let exit = c.from_residual in
    let step = c.in_err-hash.ensures in
    record {
      edge = step.edge;
      root = step.root;
      later = step.later;
      kept = step.kept;
      counted = counted_exit exit.result c.add_subproof.result c.in_err-hash.field-0.0 exit.ensures c.in_err-hash.was
          (failed c.args.source.now) (failed c.args.source.now) (failed c.add_subproof.new.source) refl
          c.add_subproof.ensures.counted;
      asks = step.asks;
      names = names_exit (NamesFalseIfFile g.H.TreeHash.digest (g.S.Source.may_answer c.args.source.now) c.args.reader.now.edge) exit.result c.in_err-hash.field-0.0 exit.ensures
          step.names;
      honest = λ entries r s.
          let went = step.honest entries r s in
          record {
            reader_is = went.reader_is;
            answer = failed_exit exit.result _ c.in_err-hash.field-0.0 exit.ensures went.answer;
          };
    }

pub returns-in_err-add_node : goal.returns-in_err-add_node
returns-in_err-add_node g t c =
    let files = g.S.Source.files in
    let failed = g.S.Source.failed in
    let exit = c.from_residual-in_err-add_node in
    let below = c.in_ok-hash.ensures in
    let step = c.in_err-add_node.ensures in
    record {
      edge = step.edge ∙ below.edge;
      root = step.root ∙ below.root;
      later = stays_twice below.later step.later;
      kept = kept_twice (files c.args.source.now) (files c.add_subproof.new.source) (files c.add_node-then-first-k.new.source) below.kept
          step.kept;
      counted = counted_exit exit.result c.add_node-then-first-k.result c.in_err-add_node.field-0.0 exit.ensures c.in_err-add_node.was
          (failed c.args.source.now) (failed c.add_subproof.new.source) (failed c.add_node-then-first-k.new.source) below.counted
          c.add_node-then-first-k.ensures.counted;
      asks =
          let n = c.args.reader.now.edge.size in
          let start = c.args.node.0 in
          let len = c.args.node.1 in
          let k = c.split-k.result in
          let first = c.args.first in
          requests_twice _ _ _ _ below.asks (requests_wider _ _ _ _
          (λ path h. right_tiles n start len k first c.requires.node (omega arith) c.split-k.ensures.value c.requires.some
          c.if-first-k.true path (subst (λ m. IsTileOverNode m (start + k) (len - k) path) (ap (λ e. e.size) below.edge) h)) step.asks);
      names = names_exit (NamesFalseIfFile g.H.TreeHash.digest (g.S.Source.may_answer c.args.source.now) c.args.reader.now.edge) exit.result c.in_err-add_node.field-0.0 exit.ensures
          (files_before g.H.TreeHash.digest (g.S.Source.may_answer c.args.source.now) (g.S.Source.may_answer c.add_subproof.new.source) below.later
          c.args.reader.now.edge c.add_subproof.new.reader.edge below.edge c.in_err-add_node.field-0.0 step.names);
      honest = λ entries r s.
          let low = below.honest entries r s in
          let went = step.honest entries low.reader_is (tiles_later g.H.TreeHash.digest entries _ _ below.later s) in
          record {
            reader_is = went.reader_is;
            answer = failed_exit exit.result _ c.in_err-add_node.field-0.0 exit.ensures went.answer;
          };
    }

pub returns-then-first-k : goal.returns-then-first-k
returns-then-first-k g t c =
    let files = g.S.Source.files in
    let low = c.in_ok-hash.ensures in
    let went = c.in_ok-add_node.ensures in
    record {
      edge = went.edge ∙ low.edge;
      root = went.root ∙ low.root;
      later = stays_twice low.later went.later;
      kept = kept_twice (files c.args.source.now) (files c.add_subproof.new.source) (files c.add_node-then-first-k.new.source) low.kept went.kept;
      counted = went.counted ∙ low.counted;
      asks =
          let n = c.args.reader.now.edge.size in
          let start = c.args.node.0 in
          let len = c.args.node.1 in
          let k = c.split-k.result in
          let first = c.args.first in
          requests_twice _ _ _ _ low.asks (requests_wider _ _ _ _
          (λ path h. right_tiles n start len k first c.requires.node (omega arith) c.split-k.ensures.value c.requires.some
          c.if-first-k.true path (subst (λ m. IsTileOverNode m (start + k) (len - k) path) (ap (λ e. e.size) low.edge) h)) went.asks);
      names = tt;
      honest = λ entries r s.
          let may = g.S.Source.may_answer in
          let start = c.args.node.0 in
          let n = c.args.node.1 in
          let within : start + n ≤ length entries = subst (λ m. start + n ≤ m) r.size_is c.requires.node.within in
          let low = c.in_ok-hash.ensures.honest entries r s in
          let went = c.in_ok-add_node.ensures.honest entries low.reader_is
          (tiles_later g.H.TreeHash.digest entries (may c.args.source.now) (may c.add_subproof.new.source) c.in_ok-hash.ensures.later s) in
          record {
            reader_is = went.reader_is;
            answer = left_added g.H.TreeHash.digest entries start n c.args.first c.args.held c.requires.some c.requires.within within
                c.args.path.now.items c.add_node-then-first-k.new.path.items c.in_ok-hash.hash c.split-k.result (omega arith) c.split-k.ensures.value
                c.add_subproof.new.path.items c.if-first-k.true low.answer
                (went.answer.1 ∙ ap (λ hash. c.add_subproof.new.path.items ++ hash ∷ []) went.answer.0);
          };
    }

pub add_subproof-requires-2 : goal.add_subproof-requires-2
add_subproof-requires-2 g t c κs within =
    let right = right_node c.args.reader.now.edge.size c.args.node.0 c.args.node.1 c.split-k.result c.requires.node (omega arith)
    c.split-k.ensures.value in
    search (rules, right)

pub add_node-requires-2 : goal.add_node-requires-2
add_node-requires-2 g t c =
    let start = c.args.node.0 in
    let n = c.args.node.1 in
    let k = c.split-k.result in
    let left = left_node c.args.reader.now.edge.size start n k c.requires.node (omega arith) c.split-k.ensures.value in
    subst (λ m. IsNodeRange m start k) (sym (ap (λ e. e.size) c.in_ok-end.ensures.edge)) left

pub returns-in_err-end : goal.returns-in_err-end
returns-in_err-end g t c =
    let failed = g.S.Source.failed in
    let exit = c.from_residual-in_err-end in
    let step = c.in_err-end.ensures in
    record {
      edge = step.edge;
      root = step.root;
      later = step.later;
      kept = step.kept;
      counted = counted_exit exit.result c.add_subproof-2.result c.in_err-end.field-0.0 exit.ensures c.in_err-end.was
          (failed c.args.source.now) (failed c.args.source.now) (failed c.add_subproof-2.new.source) refl
          c.add_subproof-2.ensures.counted;
      asks = requests_wider _ _ _ _
          (λ path h. subst (λ p. IsProofTile c.args.reader.now.edge.size p path)
          (right_end c.args.node.0 c.split-k.result c.args.first c.if-first-k.false) h) step.asks;
      names = names_exit (NamesFalseIfFile g.H.TreeHash.digest (g.S.Source.may_answer c.args.source.now) c.args.reader.now.edge) exit.result c.in_err-end.field-0.0 exit.ensures
          step.names;
      honest = λ entries r s.
          let went = step.honest entries r s in
          record {
            reader_is = went.reader_is;
            answer = failed_exit exit.result _ c.in_err-end.field-0.0 exit.ensures went.answer;
          };
    }

pub returns-in_err-left : goal.returns-in_err-left
returns-in_err-left g t c =
    let files = g.S.Source.files in
    let failed = g.S.Source.failed in
    let exit = c.from_residual-in_err-left in
    let below = c.in_ok-end.ensures in
    let step = c.in_err-left.ensures in
    record {
      edge = step.edge ∙ below.edge;
      root = step.root ∙ below.root;
      later = stays_twice below.later step.later;
      kept = kept_twice (files c.args.source.now) (files c.add_subproof-2.new.source) (files c.add_node-2.new.source) below.kept
          step.kept;
      counted = counted_exit exit.result c.add_node-2.result c.in_err-left.field-0.0 exit.ensures c.in_err-left.was
          (failed c.args.source.now) (failed c.add_subproof-2.new.source) (failed c.add_node-2.new.source) below.counted
          c.add_node-2.ensures.counted;
      asks =
          let n = c.args.reader.now.edge.size in
          let start = c.args.node.0 in
          let len = c.args.node.1 in
          let k = c.split-k.result in
          let first = c.args.first in
          requests_twice _ _ _ _ (requests_wider _ _ _ _
          (λ path h. subst (λ p. IsProofTile n p path) (right_end start k first c.if-first-k.false) h) below.asks)
          (requests_wider _ _ _ _
          (λ path h. left_tiles n start len k first c.requires.node (omega arith) c.split-k.ensures.value c.requires.some
          (omega (arith, c.if-first-k.false)) (omega (arith, c.if-first-len.false, c.requires.within)) path
          (subst (λ m. IsTileOverNode m start k path) (ap (λ e. e.size) below.edge) h)) step.asks);
      names = names_exit (NamesFalseIfFile g.H.TreeHash.digest (g.S.Source.may_answer c.args.source.now) c.args.reader.now.edge) exit.result c.in_err-left.field-0.0 exit.ensures
          (files_before g.H.TreeHash.digest (g.S.Source.may_answer c.args.source.now) (g.S.Source.may_answer c.add_subproof-2.new.source) below.later
          c.args.reader.now.edge c.add_subproof-2.new.reader.edge below.edge c.in_err-left.field-0.0 step.names);
      honest = λ entries r s.
          let low = below.honest entries r s in
          let went = step.honest entries low.reader_is (tiles_later g.H.TreeHash.digest entries _ _ below.later s) in
          record {
            reader_is = went.reader_is;
            answer = failed_exit exit.result _ c.in_err-left.field-0.0 exit.ensures went.answer;
          };
    }

pub returns : goal.returns
returns g t c =
    let files = g.S.Source.files in
    let low = c.in_ok-end.ensures in
    let went = c.in_ok-left.ensures in
    record {
      edge = went.edge ∙ low.edge;
      root = went.root ∙ low.root;
      later = stays_twice low.later went.later;
      kept = kept_twice (files c.args.source.now) (files c.add_subproof-2.new.source) (files c.add_node-2.new.source) low.kept went.kept;
      counted = went.counted ∙ low.counted;
      asks =
          let n = c.args.reader.now.edge.size in
          let start = c.args.node.0 in
          let len = c.args.node.1 in
          let k = c.split-k.result in
          let first = c.args.first in
          requests_twice _ _ _ _ (requests_wider _ _ _ _
          (λ path h. subst (λ p. IsProofTile n p path) (right_end start k first c.if-first-k.false) h) low.asks)
          (requests_wider _ _ _ _
          (λ path h. left_tiles n start len k first c.requires.node (omega arith) c.split-k.ensures.value c.requires.some
          (omega (arith, c.if-first-k.false)) (omega (arith, c.if-first-len.false, c.requires.within)) path
          (subst (λ m. IsTileOverNode m start k path) (ap (λ e. e.size) low.edge) h)) went.asks);
      names = tt;
      honest = λ entries r s.
          let may = g.S.Source.may_answer in
          let start = c.args.node.0 in
          let n = c.args.node.1 in
          let within : start + n ≤ length entries = subst (λ m. start + n ≤ m) r.size_is c.requires.node.within in
          let less : c.args.first < n = omega (arith, c.if-first-len.false, c.requires.within) in
          let low = c.in_ok-end.ensures.honest entries r s in
          let went = c.in_ok-left.ensures.honest entries low.reader_is
          (tiles_later g.H.TreeHash.digest entries (may c.args.source.now) (may c.add_subproof-2.new.source) c.in_ok-end.ensures.later s) in
          record {
            reader_is = went.reader_is;
            answer = right_added g.H.TreeHash.digest entries start n c.args.first c.args.held c.requires.some c.requires.within within
                c.args.path.now.items c.add_node-2.new.path.items c.node.result c.split-k.result (omega arith) c.split-k.ensures.value
                c.add_subproof-2.new.path.items less c.if-first-k.false c.in_ok-end.end c.in_ok-left.left low.answer went.answer.0
                went.answer.1 c.node.ensures;
          };
    }
