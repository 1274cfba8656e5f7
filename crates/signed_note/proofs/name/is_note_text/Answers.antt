use Rattle.std.proofs.Common.{rules, tests}
use Rattle.std.proofs.lemmas.Iterator.Search.{all_from_yields_List}
use Rattle.std.proofs.lemmas.Iterator.{YieldsList-from_chars}
use Rattle.signed_note.specs.Names.{is_note_char}
use Rattle.signed_note.proofs.name.is_note_text.Goals as goal

pub returns : goal.returns
returns c =
    all_from_yields_List is_note_char _ _ _ c.all.ensures.ran (YieldsList-from_chars c.args.text.now c.utf8.text cc)
    (λ x b q k. search (rules, tests))
