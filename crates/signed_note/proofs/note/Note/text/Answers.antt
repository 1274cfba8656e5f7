use Rattle.std.proofs.Common.{rules}
use Rattle.signed_note.proofs.note.Note.text.Goals as goal

pub returns : goal.returns
returns c = rw (← c.self.view_is) (search rules)
