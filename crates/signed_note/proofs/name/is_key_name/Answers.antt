use Rattle.std.proofs.Common.{sym, ◌∙◌, ◌<◌, length, arith}
use Rattle.std.proofs.lemmas.List.Sums.{AllPass-from_list_all, list_all-from_AllPass}
use Rattle.std.proofs.lemmas.Bool.Decides.{nat_tests}
use Rattle.signed_note.specs.Names.{is_name_char}
use Rattle.signed_note.proofs.name.is_key_name.Goals as goal

pub returns-then-not-is_empty : goal.returns-then-not-is_empty
returns-then-not-is_empty c =
    let some : 0 < length c.args.name.now = grind (arith, nat_tests) in (
      λ h. record {
        utf8 = c.utf8.name;
        some =
            some;
        characters = AllPass-from_list_all is_name_char _ (sym c.has_name_characters.ensures ∙ h);
      },
      λ h. c.has_name_characters.ensures ∙ list_all-from_AllPass is_name_char _ h.characters,
    )
