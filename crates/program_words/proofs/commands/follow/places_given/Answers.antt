use Rattle.std.proofs.Common.{None, Some, codes, map, subst, sym}
use Rattle.clap.specs.Words.{found_of, rows_of}
use Rattle.program_words.specs.Commands.{ArePlacesGiven, IsPlacesGiven}
use Rattle.program_words.specs.Refusals.{JudgesPart}
use Rattle.program_words.proofs.Judging.{noted}
use Rattle.program_words.proofs.Refusing.{listed}
use Rattle.program_words.proofs.commands.follow.places_given.Goals as goal

pub returns-in-Some : goal.returns-in-Some
returns-in-Some c =
    subst (λ o. JudgesPart (ArePlacesGiven o) c.args.refusals.now c.places_or_bad.new.refusals c.places_or_bad.result.items)
    (sym (listed (found_of c.args.found.now) (codes "place") (Some (map (λ w. w.now) c.in-Some.words.now)) c.in-Some.ensures))
    c.places_or_bad.ensures

pub returns-in-None : goal.returns-in-None
returns-in-None c =
    noted (IsPlacesGiven (rows_of (found_of c.args.found.now))) c.args.refusals.now _ _
    (λ places are.
    subst (λ o. ArePlacesGiven o places) (listed (found_of c.args.found.now) (codes "place") None c.in-None.ensures) are)
    c.note.ensures
