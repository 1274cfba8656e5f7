use Rattle.std.proofs.Common.{◌∙◌, ap, length, sym}
use Rattle.std.proofs.lemmas.Bool.{eqb-false}
use Rattle.std.proofs.lemmas.List.{length-map}
use Rattle.program_copies.proofs.compare.given_heads.Goals as goal

pub heads_for-requires : goal.heads_for-requires
heads_for-requires g c = λ none.
    eqb-false (length c.args.names.now) 0 (sym c.is_empty.ensures ∙ c.if-is_empty.false)
    (sym (length-map c.args.names.now (λ name. name.now)) ∙ ap length none)
