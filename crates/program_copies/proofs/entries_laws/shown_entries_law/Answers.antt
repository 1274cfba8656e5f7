use Rattle.program_copies.proofs.TrueEntries.{shown_entries_are_true}
use Rattle.program_copies.proofs.entries_laws.shown_entries_law.Goals as goal

pub returns : goal.returns
returns c = shown_entries_are_true
