use Rattle.std.proofs.Common.{◌≡◌, ◌+◌, ◌++◌, ◌∷◌, ◌<◌, ◌∙◌, Bor, List, [], ℕ, ap, arith, get_or, length, map, sym, take}
use Rattle.std.proofs.lemmas.List.{map-append, take_all, take_more}
use Rattle.std.proofs.lemmas.Result.{IfOk-from_err}
use Rattle.tlog_hash.specs.Tree.{leaf_hash}
use Rattle.log_reader.proofs.verify.leaf_hashes.Goals as goal

map_more : {A B : Type 0} (f : A → B) (xs : List A) (i : ℕ) (d : A) → i < length xs →
    map f (take (i + 1) xs) ≡ map f (take i xs) ++ f (get_or xs i d) ∷ []
map_more f xs i d lt = ap (map f) (take_more xs i d lt) ∙ map-append f (take i xs) (get_or xs i d ∷ [])

pub loop-entry-preserved : goal.loop-entry-preserved
loop-entry-preserved g c =
    c.in_ok-push.ensures.items ∙ ((λ k. c.loop-entry.invariant k ++ c.leaf.ensures k ∷ [])
    ∙ sym (map_more (λ (e : Bor (List ℕ)). leaf_hash g.H.TreeHash.digest e.now) c.args.entries.now c.loop-entry.entry-index
    (record { ref_ptr = (0, 0); now = [] }) (omega arith)))

pub returns-in_err-push : goal.returns-in_err-push
returns-in_err-push g c = IfOk-from_err _ _ c.from_residual.ensures.0

pub returns : goal.returns
returns g c = c.loop-entry.invariant
    ∙ ap (map (λ (e : Bor (List ℕ)). leaf_hash g.H.TreeHash.digest e.now))
    (take_all c.loop-entry.entry-index c.args.entries.now (omega arith))
