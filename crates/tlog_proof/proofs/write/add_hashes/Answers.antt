use Rattle.std.proofs.Common.{◌≡◌, ◌+◌, ◌∷◌, [], ◌++◌, take, get_or, string_bytes, sym, subst, ap, ◌∙◌, append_assoc}
use Rattle.std.proofs.Common.{arith}
use Rattle.std.specs.Prelude.{codes}
use Rattle.std.specs.List.{AllByRecursion}
use Rattle.std.proofs.lemmas.List.{take_more}
use Rattle.std.proofs.lemmas.Result.{IfOk-from_err}
use Rattle.tlog_text.specs.Hash.{Is32Bytes}
use Rattle.tlog_proof.specs.Text.{path_lines, hash_line}
use Rattle.tlog_proof.proofs.Lines.{path_lines-push, path_lines-append, hashes-push}
use Rattle.tlog_proof.proofs.write.add_hashes.Goals as goal

pub loop-hash-preserved : goal.loop-hash-preserved
loop-hash-preserved c =
    let old = string_bytes c.args.text.now in
    let path = c.args.path.now in
    let i = c.loop-hash.hash-index in
    let hash = get_or path i [] in
    let so_far = take i path in
    let more : take (i + 1) path ≡ so_far ++ hash ∷ [] = take_more path i [] (omega arith) in
    record {
      written =
          c.in_ok-add_hash.ensures.ok
          ∙ ap (λ bs. bs ++ hash_line (codes "path ") hash []) c.loop-hash.invariant.written
          ∙ append_assoc old (path_lines so_far []) (hash_line (codes "path ") hash [])
          ∙ ap (λ bs. old ++ bs)
          (path_lines-append so_far (hash_line (codes "path ") hash []) ∙ sym (path_lines-push so_far hash []) ∙
          ap (λ p. path_lines p []) (sym more));
      hashes = subst (AllByRecursion Is32Bytes) (sym more)
          (hashes-push so_far hash c.loop-hash.invariant.hashes c.in_ok-add_hash.ensures.is_hash);
    }

pub returns-in_err-add_hash-clause-ok : goal.returns-in_err-add_hash-clause-ok
returns-in_err-add_hash-clause-ok c = IfOk-from_err c.from_residual.result _ c.from_residual.ensures.0

pub returns-in_err-add_hash-clause-hashes : goal.returns-in_err-add_hash-clause-hashes
returns-in_err-add_hash-clause-hashes c = IfOk-from_err c.from_residual.result _ c.from_residual.ensures.0
