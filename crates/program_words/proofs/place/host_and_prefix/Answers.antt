use Rattle.std.proofs.Common.{suc, Some, None, lit<, inl, inr, ◌∙◌, ap, length, drop, drop-cons, arith, ◌∷◌}
use Rattle.std.proofs.lemmas.Str.Pattern.{find_char}
use Rattle.std.proofs.lemmas.List.{drop_all}
use Rattle.mirror_client.specs.Site.{slash}
use Rattle.program_words.proofs.Places.{front_lacks}
use Rattle.program_words.proofs.place.host_and_prefix.Goals as goal

pub returns-in-Some-clause-before : goal.returns-in-Some-clause-before
returns-in-Some-clause-before c =
    let at = find_char slash c.args.word.now (Some c.in-Some.at) c.in-Some.ensures.cases (lit< tt) in
    front_lacks slash c.in-Some.at c.args.word.now c.split_at.result.0.now c.split_at.ensures.front at.2

pub returns-in-Some-clause-after : goal.returns-in-Some-clause-after
returns-in-Some-clause-after c =
    let at = find_char slash c.args.word.now (Some c.in-Some.at) c.in-Some.ensures.cases (lit< tt) in
    inr (
      drop (suc c.in-Some.at) c.args.word.now,
      c.split_at.ensures.back
          ∙ (drop-cons c.args.word.now c.in-Some.at 0 at.0
          ∙ ap (λ b. b ∷ drop (suc c.in-Some.at) c.args.word.now) at.1),
    )

pub returns-in-None-clause-before : goal.returns-in-None-clause-before
returns-in-None-clause-before c =
    front_lacks slash (length c.args.word.now) c.args.word.now c.split_at-in-None.result.0.now
    c.split_at-in-None.ensures.front (find_char slash c.args.word.now None c.in-None.ensures.cases (lit< tt))

pub returns-in-None-clause-after : goal.returns-in-None-clause-after
returns-in-None-clause-after c =
    inl (c.split_at-in-None.ensures.back ∙ drop_all (length c.args.word.now) c.args.word.now (omega arith))
