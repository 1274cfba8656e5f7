-- The numbers of a command are in their ranges.
use Rattle.std.proofs.Common.{ℕ, ◌≤◌, List, length, Option, Some, None, arith}
use Rattle.program_words.specs.Program.{AsksFor}
use Rattle.program_words.specs.Commands.{IsCount, IsNumberGiven, IsTakeWidth}
use Rattle.program_words.specs.declared.commands.Command.{Command as Order}
use Rattle.program_words.specs.declared.commands.Command.TheVariants as order
use Rattle.program_words.specs.declared.commands.ReportCommand.TheVariants as report
use Rattle.program_words.specs.declared.commands.StateCommand.TheVariants as state
use Rattle.program_words.specs.declared.commands.take.Kind.{Kind}
use Rattle.program_words.specs.declared.commands.take.Kind.TheVariants as kind
use Rattle.program_library.specs.Commands.{IsDoable}

take_width : (word : Option (List ℕ)) (width : ℕ) → IsTakeWidth word width → (1 ≤ width) × (width ≤ 256)
take_width None width h = (omega (arith, h), omega (arith, h))
take_width (Some word) width h = (h.least_is, h.most_is)

most_given : (least most : ℕ) (word : Option (List ℕ)) (n : ℕ) → IsNumberGiven least most word n → n ≤ most
most_given least most None n h = absurd h
most_given least most (Some word) n h = h.most_is

some_file : (kind : Kind) (count : ℕ) → IsCount kind count → 1 ≤ count
some_file kind.Head count h = h
some_file kind.Tile count h = omega (arith, h)
some_file kind.Bundle count h = omega (arith, h)

pub asked_doable : (words : List (List ℕ)) (c : Order) → AsksFor words c → IsDoable c
asked_doable words (order.Report (report.Root c)) h = most_given 0 256 _ c.width h.2
asked_doable words (order.State (state.Take c)) h =
    let width = take_width _ c.width h.2.width in
    (width.0, width.1, some_file c.kind (length c.files.items) h.2.count)
asked_doable words other h = tt
