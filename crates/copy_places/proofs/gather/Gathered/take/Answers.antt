use Rattle.copy_places.proofs.Gathering.{failed, gathers_passed, not_found}
use Rattle.copy_places.proofs.gather.Gathered.take.Goals as goal

pub returns-in-NotFound : goal.returns-in-NotFound
returns-in-NotFound g c =
    λ answers h. gathers_passed _ _ answers c.args.answer _ c.args.self.now.candidates.items _ c.args.self.now.first _
    c.pass_over.ensures.candidates c.pass_over.ensures.first (not_found _ _ c.args.answer c.in-NotFound.is) h

pub returns-in-Failed : goal.returns-in-Failed
returns-in-Failed g c =
    λ answers h. gathers_passed _ _ answers c.args.answer _ c.args.self.now.candidates.items _ c.args.self.now.first _
    c.pass_over-in-Failed.ensures.candidates c.pass_over-in-Failed.ensures.first
    (failed _ _ c.args.answer c.in-Failed.is) h
