use Rattle.std.proofs.Common.{rules, tests}
use Rattle.std.proofs.lemmas.Iterator.Search.{all_from_yields_List}
use Rattle.std.proofs.lemmas.Iterator.{YieldsList-from_chars}
use Rattle.signed_note.specs.Names.{is_name_char}
use Rattle.signed_note.proofs.name.has_name_characters.Goals as goal

pub returns : goal.returns
returns c =
    all_from_yields_List is_name_char _ _ _ c.all.ensures.ran (YieldsList-from_chars c.args.name.now c.utf8.name cc)
    (λ x b q k. search (rules, tests))
