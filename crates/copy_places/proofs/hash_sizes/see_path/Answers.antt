use Rattle.std.proofs.Common.{◌≡◌, ◌+◌, ◌∷◌, [], ◌++◌, take, get_or, sym, subst, arith}
use Rattle.std.specs.List.{AllByRecursion}
use Rattle.std.proofs.lemmas.List.{take_more}
use Rattle.tlog_text.specs.Hash.{Is32Bytes}
use Rattle.tlog_proof.proofs.Lines.{hashes-push}
use Rattle.copy_places.proofs.hash_sizes.see_path.Goals as goal

pub loop-hash-preserved : goal.loop-hash-preserved
loop-hash-preserved c =
    let path = c.args.path.now in
    let i = c.loop-hash.hash-index in
    let hash = get_or path i [] in
    let more : take (i + 1) path ≡ take i path ++ hash ∷ [] = take_more path i [] (omega arith) in
    subst (AllByRecursion Is32Bytes) (sym more)
    (hashes-push (take i path) hash c.loop-hash.invariant c.hash_len.ensures)
