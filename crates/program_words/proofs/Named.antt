-- Texts that differ, and the groups of the commands by their names.
use Rattle.std.proofs.Common.{◌≡◌, ◌∙◌, List, refl, subst, sym, false, true, true≢false}
use Rattle.std.specs.List.{list_any}
use Rattle.std.specs.Str.{bytes_eq}
use Rattle.std.proofs.lemmas.Slice.Eq.{bytes_eq-Decides}
use Rattle.clap.specs.Words.{Row}
use Rattle.program_words.specs.Commands.{copy_names, name_of, place_names, report_names, state_names}
use Rattle.program_words.specs.Readings.{IsSaid}
use Rattle.program_words.specs.Spelling.{Text}
use Rattle.program_words.specs.declared.commands.Command.{Command}
use Rattle.program_words.specs.declared.commands.Command.TheVariants as order
use Rattle.program_words.specs.declared.commands.CopyCommand.{CopyCommand}
use Rattle.program_words.specs.declared.commands.CopyCommand.TheVariants as copy
use Rattle.program_words.specs.declared.commands.PlaceCommand.{PlaceCommand}
use Rattle.program_words.specs.declared.commands.PlaceCommand.TheVariants as place
use Rattle.program_words.specs.declared.commands.ReportCommand.{ReportCommand}
use Rattle.program_words.specs.declared.commands.ReportCommand.TheVariants as report
use Rattle.program_words.specs.declared.commands.StateCommand.{StateCommand}
use Rattle.program_words.specs.declared.commands.StateCommand.TheVariants as state

-- two texts differ if a comparison says so
pub apart : (name a b : Text) → name ≡ a → name ≡ b → bytes_eq a b ≡ false → ⊥
apart name a b p q e = true≢false (sym ((bytes_eq-Decides a b).1 (sym p ∙ q)) ∙ e)

abbrev IsListed : List Text → Command → Type 0
IsListed names command = list_any (bytes_eq (name_of command)) names ≡ true

of_state : (c : StateCommand) → IsListed state_names (order.State c)
of_state (state.Build c) = refl
of_state other = refl

of_report : (c : ReportCommand) → IsListed report_names (order.Report c)
of_report (report.Root c) = refl
of_report other = refl

of_copy : (c : CopyCommand) → IsListed copy_names (order.Copy c)
of_copy (copy.Status c) = refl
of_copy other = refl

of_place : (c : PlaceCommand) → IsListed place_names (order.Place c)
of_place (place.Follow c) = refl
of_place other = refl

-- the text is none of these names
abbrev IsNone : List Text → Text → Type 0
IsNone names name = list_any (bytes_eq name) names ≡ false

unlisted : (names : List Text) (name : Text) (command : Command) → IsNone names name → name ≡ name_of command →
    IsListed names command → ⊥
unlisted names name command none is listed =
    true≢false (sym (subst (λ (n : Text). list_any (bytes_eq n) names ≡ true) (sym is) listed) ∙ none)

-- a command with this name is one of the only group that has the name
module _ {Z : Type 0} (name : Text) {options : List Row} where
  pub by_state : IsNone report_names name → IsNone copy_names name → IsNone place_names name →
      ((c : StateCommand) → IsSaid name options (order.State c) → Z) → (command : Command) → IsSaid name options command → Z
  by_state r c p one (order.State x) said = one x said
  by_state r c p one (order.Report x) said = absurd (unlisted report_names name (order.Report x) r said.0 (of_report x))
  by_state r c p one (order.Copy x) said = absurd (unlisted copy_names name (order.Copy x) c said.0 (of_copy x))
  by_state r c p one (order.Place x) said = absurd (unlisted place_names name (order.Place x) p said.0 (of_place x))

  pub by_report : IsNone state_names name → IsNone copy_names name → IsNone place_names name →
      ((c : ReportCommand) → IsSaid name options (order.Report c) → Z) → (command : Command) → IsSaid name options command → Z
  by_report s c p one (order.Report x) said = one x said
  by_report s c p one (order.State x) said = absurd (unlisted state_names name (order.State x) s said.0 (of_state x))
  by_report s c p one (order.Copy x) said = absurd (unlisted copy_names name (order.Copy x) c said.0 (of_copy x))
  by_report s c p one (order.Place x) said = absurd (unlisted place_names name (order.Place x) p said.0 (of_place x))

  pub by_place : IsNone state_names name → IsNone report_names name → IsNone copy_names name →
      ((c : PlaceCommand) → IsSaid name options (order.Place c) → Z) → (command : Command) → IsSaid name options command → Z
  by_place s r c one (order.Place x) said = one x said
  by_place s r c one (order.State x) said = absurd (unlisted state_names name (order.State x) s said.0 (of_state x))
  by_place s r c one (order.Report x) said = absurd (unlisted report_names name (order.Report x) r said.0 (of_report x))
  by_place s r c one (order.Copy x) said = absurd (unlisted copy_names name (order.Copy x) c said.0 (of_copy x))

  -- the name is that of a command over a state and of one over a copy
  pub by_source : IsNone state_names name → IsNone place_names name →
      ((c : ReportCommand) → IsSaid name options (order.Report c) → Z) →
      ((c : CopyCommand) → IsSaid name options (order.Copy c) → Z) → (command : Command) → IsSaid name options command → Z
  by_source s p over other (order.Report x) said = over x said
  by_source s p over other (order.Copy x) said = other x said
  by_source s p over other (order.State x) said = absurd (unlisted state_names name (order.State x) s said.0 (of_state x))
  by_source s p over other (order.Place x) said = absurd (unlisted place_names name (order.Place x) p said.0 (of_place x))
