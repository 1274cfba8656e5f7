use Rattle.copy_places.specs.declared.place.PlaceAnswer.TheVariants.{File}
use Rattle.copy_places.proofs.Gathering.{gathers_added, gathers_passed}
use Rattle.copy_places.proofs.gather.Gathered.take_note.Goals as goal

pub returns-in_ok-push-in-Ok : goal.returns-in_ok-push-in-Ok
returns-in_ok-push-in-Ok g c =
    λ answers h. gathers_added _ _ answers c.args.note c.args.self.now.candidates.items _ c.args.self.now.first
    c.in-Ok.candidate c.in_ok-push-in-Ok.ensures.items c.in-Ok.ensures h

pub returns-in_ok-refused-in-Err : goal.returns-in_ok-refused-in-Err
returns-in_ok-refused-in-Err g c =
    λ answers h. gathers_passed _ _ answers (File c.args.note) c.in_ok-refused-in-Err.field-0
    c.args.self.now.candidates.items _ c.args.self.now.first _ c.pass_over.ensures.candidates c.pass_over.ensures.first
    (c.in-Err.fault, c.in_ok-refused-in-Err.ensures.1, c.in_ok-refused-in-Err.ensures.0, c.in-Err.ensures) h
