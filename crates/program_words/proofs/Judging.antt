-- How the readers of the parts of a command are combined.
use Rattle.std.proofs.Common.{◌≡◌, ◌∙◌, ap, sym, subst, refl, Bool, true, false, true≢false, is_some}
use Rattle.program_words.specs.Refusals.{IsGood, JudgesPart, ReadsPart, judged_as, judged_by, no_refusals}
use Rattle.program_words.specs.declared.commands.Command.{Command}
use Rattle.program_words.specs.declared.refusals.Refusals.{Refusals}

-- the part was read
pub kept : {X : Type 0} (P : X → Type 0) (r : Refusals) (x : X) → P x → JudgesPart P r r x
kept P r x is = record { good = λ g. (g, is); bad = λ y also. refl }

-- a bad word is noted, because the options have no such part
pub noted : {X : Type 0} (P : X → Type 0) (before after : Refusals) (x : X) → ((y : X) → ¬ P y) →
    is_some after.bad ≡ true → JudgesPart P before after x
noted P before after x none bad = record {
  good = λ g. absurd (true≢false (sym bad ∙ g.bad));
  bad = λ y is. absurd (none y is);
}

-- memory was refused
pub lacking : {X : Type 0} (P : X → Type 0) (before after : Refusals) (x : X) → after.bad ≡ before.bad →
    after.out_of_memory ≡ true → JudgesPart P before after x
lacking P before after x same lacks = record {
  good = λ g. absurd (true≢false (sym lacks ∙ g.memory));
  bad = λ y is. same;
}

judge : (P : Command → Type 0) (after : Refusals) (command : Command) (memory bad : Bool) → after.out_of_memory ≡ memory →
    is_some after.bad ≡ bad → JudgesPart P no_refusals after command → ReadsPart P (judged_by memory bad command)
judge P after command true bad m b j = tt
judge P after command false true m b j = λ other is. true≢false (sym b ∙ ap is_some (j.bad other is))
judge P after command false false m b j = let g : IsGood after = record { bad = b; memory = m } in (j.good g).1

-- a command was read, and nothing was refused before
pub judged_so : (P : Command → Type 0) (before after : Refusals) (command : Command) → before ≡ no_refusals →
    JudgesPart P before after command → ReadsPart P (judged_as after command)
judged_so P before after command none j =
    judge P after command after.out_of_memory (is_some after.bad) refl refl
    (subst (λ (r : Refusals). JudgesPart P r after command) none j)
