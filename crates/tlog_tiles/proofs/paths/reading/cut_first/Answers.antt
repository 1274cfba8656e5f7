use Rattle.std.proofs.Common.{◌++◌, List, ℕ, take, ◌+◌, ◌∷◌, sym, ap, ◌∙◌}
use Rattle.std.proofs.lemmas.List.{take_rest}
use Rattle.tlog_tiles.proofs.TextLemmas.{cut_at, no_slash-take}
use Rattle.tlog_tiles.proofs.paths.reading.cut_first.Goals as goal

pub returns-then-byte-eq47-clause-found : goal.returns-then-byte-eq47-clause-found
returns-then-byte-eq47-clause-found c =
    let bytes = c.args.bytes.now in
    let at = c.loop-at.at in (
      no_slash-take bytes at c.loop-at.invariant,
      cut_at bytes at c.loop-at-test.true c.if-byte-eq47.true ∙
          ap (λ (x : List ℕ). take at bytes ++ 47 ∷ x) (sym (take_rest bytes (at + 1))),
    )
