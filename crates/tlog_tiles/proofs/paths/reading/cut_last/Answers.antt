use Rattle.std.proofs.Common.{◌<◌, ◌++◌, List, ℕ, length, take, ◌+◌, ◌-◌, ◌∷◌, sym, ap, subst, ◌∙◌, arith}
use Rattle.std.proofs.lemmas.List.{take_rest}
use Rattle.tlog_tiles.specs.Path.{HasNoSlash}
use Rattle.tlog_tiles.proofs.TextLemmas.{cut_at, no_slash-drop}
use Rattle.tlog_tiles.proofs.paths.reading.cut_last.Goals as goal

pub returns-then-bytes-at-eq47-clause-found : goal.returns-then-bytes-at-eq47-clause-found
returns-then-bytes-at-eq47-clause-found c =
    let bytes = c.args.bytes.now in
    let at = c.loop-at.at - 1 in
    let whole = take_rest bytes (at + 1) in
    let within : at < length bytes = omega arith in
    let none = no_slash-drop bytes (at + 1) (λ k low high. c.loop-at.invariant k (omega arith) high) in (
      subst HasNoSlash (sym whole) none,
      cut_at bytes at within c.if-bytes-at-eq47.true ∙ ap (λ (x : List ℕ). take at bytes ++ 47 ∷ x) (sym whole),
    )
