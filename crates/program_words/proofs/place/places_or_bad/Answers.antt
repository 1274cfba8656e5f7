use Rattle.std.proofs.Common.{map, option_map, subst}
use Rattle.program_words.specs.Spelling.{ArePlaces, FindsPart}
use Rattle.program_words.proofs.Judging.{noted}
use Rattle.program_words.proofs.place.places_or_bad.Goals as goal

pub returns-in-Ok-None : goal.returns-in-Ok-None
returns-in-Ok-None c =
    let Found = FindsPart (ArePlaces (map (λ w. w.now) c.args.words.now)) in
    noted (ArePlaces (map (λ w. w.now) c.args.words.now)) c.args.refusals.now _ _
    (λ places are.
    subst (λ o. Found (option_map (λ p. p.items) o)) c.in-Ok-None.field-0-is c.in-Ok-None.ensures places are)
    c.note.ensures
