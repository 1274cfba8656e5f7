use Rattle.std.proofs.Common.{sym, ◌∙◌, ◌≤◌, length, arith, nat_le}
use Rattle.std.proofs.lemmas.List.Sums.{AllPass-from_list_all, list_all-from_AllPass}
use Rattle.std.proofs.lemmas.Bool.Decides.{nat_tests}
use Rattle.signed_note.specs.Names.{space}
use Rattle.signed_note.proofs.own_name.is_own_name.Goals as goal
use Rattle.signed_note.proofs.own_name.is_own_name.Goals.{then-is_key_name, else-is_key_name}

pub returns-then-is_printed : goal.returns-then-is_printed
returns-then-is_printed c =
    elim c.if-is_key_name.branch [
      | then-is_key_name w ↦ (
        λ h. record {
          key_name = c.is_key_name.ensures.0 w.if-is_key_name.true;
          printed =
              AllPass-from_list_all (nat_le space) _
              (sym w.is_printed.ensures ∙ (sym w.value-is ∙ c.if-is_printed.true));
          short = grind (arith, nat_tests);
        },
        λ h. let short : length c.args.name.now ≤ 255 = h.short in grind (arith, nat_tests),
      )
      | else-is_key_name w ↦ absurd cc
    ]

pub returns-else-is_printed : goal.returns-else-is_printed
returns-else-is_printed c =
    elim c.if-is_key_name.branch [
      | then-is_key_name w ↦ (
        λ h. absurd cc,
        λ h. w.value-is ∙ (w.is_printed.ensures ∙ list_all-from_AllPass (nat_le space) _ h.printed),
      )
      | else-is_key_name w ↦ (
        λ h. absurd cc,
        λ h. let named = c.is_key_name.ensures.1 h.key_name in absurd cc,
      )
    ]
