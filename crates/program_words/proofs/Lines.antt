-- The matches of a parser and the words.
use Rattle.std.proofs.Common.{◌≡◌, ◌∙◌, ap, sym, subst, inl, inr, List, [], option_map, unwrap_or, Option, Some, None}
use Rattle.std.proofs.Common.{Result, Ok, Err, true≢false, is_some, refl, codes, Bool, true, false, IsTrue, ◌↔◌}
use Rattle.std.specs.Prelude.{Box}
use Rattle.std.specs.Box.{box_value}
use Rattle.clap.specs.Words.{HasKind, HasMatchesOf, Row, Text, first_of, kind_of, subcommand_name_of, subcommand_rows}
use Rattle.clap.specs.Words.{subcommand_rows_of}
use Rattle.clap.specs.declared.error.Error.{Error}
use Rattle.clap.specs.declared.parser.matches.ArgMatches.{ArgMatches}
use Rattle.clap.specs.declared.parser.matches.ArgMatches.TheViews.{out-ArgMatches, out-SubCommand}
use Rattle.clap.specs.declared.parser.matches.SubCommand.{SubCommand}
use Rattle.program_words.specs.Program.{Calls, faults, mirror_app}
use Rattle.program_words.specs.Commands.{HasFlag, Says, name_of}
use Rattle.program_words.specs.Refusals.{ReadsPart, judged_by}
use Rattle.program_words.specs.LineReadings.{AsksWhy, Reads, ReadsKeyFile, IsFaultOf, no_keys}
use Rattle.program_words.specs.Readings.{IsSaid}
use Rattle.program_words.specs.declared.commands.Command.{Command}
use Rattle.program_words.specs.declared.fault.CommandFault.{CommandFault}
use Rattle.program_words.specs.declared.fault.CommandFault.TheVariants.{Help, Words, BadArgument, OutOfMemory}

-- the name and the options of the command, as the parser gives them
entered_is : {Z : Type 0} → (o : Option (Box SubCommand Z)) (name : Text) (options : List Row)
    → Some name ≡ option_map (λ b. (out-SubCommand (box_value b)).name.now) o
    → Some options ≡ option_map (λ p. p.1) (subcommand_rows o) → subcommand_rows o ≡ Some (name, options)
entered_is None name options n r = cc
entered_is (Some b) name options n r = cc

pub called : (words : List Text) (m : ArgMatches) (name : Text) (options : List Row) → faults words ≡ []
    → HasMatchesOf mirror_app words m
    → Some name ≡ subcommand_name_of m → Some options ≡ option_map (λ p. p.1) (subcommand_rows_of m)
    → Calls words name options
called words m name options lawful matches n r =
    record { lawful = lawful; named = sym (matches refl).1 ∙ entered_is (out-ArgMatches m).subcommand name options n r }

-- the result of a command's own reader of these options is the command of the words
pub understood : (words : List Text) (name : Text) (options : List Row) (r : Result Command CommandFault) →
    Calls words name options → ReadsPart (IsSaid name options) r → Reads words r
understood words name options (Ok command) calls u = (options, subst (λ n. Calls words n options) u.0 calls, u.1)
understood words name options (Err (Help text)) calls u = absurd u
understood words name options (Err (Words text)) calls u = absurd u
understood words name options (Err BadArgument) calls u = (
  calls.lawful,
  λ command asked.
      let same : Some (name_of command, asked.0) ≡ Some (name, options) = sym asked.1.named ∙ calls.named in
      let names = ap (λ o. let p : Text × List Row = unwrap_or o (name, options) in p.0) same in
      let rows = ap (λ o. let p : Text × List Row = unwrap_or o (name, options) in p.1) same in
      u command (sym names, subst (λ (o : List Row). Says o command) rows asked.2),
)
understood words name options (Err OutOfMemory) calls u = tt

-- words without a command are no command line
pub nothing_named : (words : List Text) (m : ArgMatches) (name : Text) (options : List Row)
    → HasMatchesOf mirror_app words m → None ≡ option_map (λ p. p.1) (subcommand_rows_of m)
    → Calls words name options → ⊥
nothing_named words m name options matches r calls =
    let same : subcommand_rows_of m ≡ Some (name, options) = (matches refl).1 ∙ calls.named in
    let bad : None ≡ Some options = r ∙ ap (option_map (λ (p : Text × List Row). p.1)) same in
    true≢false (ap is_some (sym bad))

-- a fault of the parser as a fault of the program
pub refused : (words : List Text) (e : Error) (fault : CommandFault) → HasKind (faults words) e →
    IsFaultOf (kind_of e) fault → ReadsKeyFile words (no_keys fault)
refused words e (Help text) (inl memory) recorded = absurd (elim recorded [ inl h ↦ cc | inr h ↦ cc ])
refused words e (Help text) (inr among) recorded = (kind_of e, among, recorded)
refused words e (Words text) (inl memory) recorded = absurd (recorded.0 memory)
refused words e (Words text) (inr among) recorded = (kind_of e, among, recorded.1)
refused words e BadArgument h recorded = absurd recorded
refused words e OutOfMemory h recorded = tt

-- the same for the reader of the words
pub read_refused : (words : List Text) (fault : CommandFault) → ReadsKeyFile words (no_keys fault) →
    Reads words (Err fault)
read_refused words (Help text) h = h
read_refused words (Words text) h = h
read_refused words BadArgument h = absurd h
read_refused words OutOfMemory h = tt

pub keys_read : (words : List Text) (name : Text) (options : List Row) (keys : Option Text) → Calls words name options →
    first_of (codes "keys") options ≡ keys → ReadsKeyFile words (Ok keys)
keys_read words name options (Some k) calls e = record { name = name; options = options; calls = calls; given = e }
keys_read words name options None calls e = record { name = name; options = options; calls = calls; given = e }

-- ---- the option `why`

-- the options of a command line are the ones that the parser gives
same_options : (words : List Text) (name name' : Text) (options options' : List Row) → Calls words name options
    → Calls words name' options' → options ≡ options'
same_options words name name' options options' calls calls' =
    let same : Some (name, options) ≡ Some (name', options') = sym calls.named ∙ calls'.named in
    ap (λ o. let p : Text × List Row = unwrap_or o (name, options) in p.1) same

pub why_read : (words : List Text) (name : Text) (options : List Row) (b : Bool) → Calls words name options →
    IsTrue b ↔ HasFlag options (codes "why") → IsTrue b ↔ AsksWhy words
why_read words name options b calls flag = (
  λ t. record { name = name; options = options; calls = calls; given = flag.0 t },
  λ asks.
      flag.1 (subst (λ (o : List Row). HasFlag o (codes "why")) (same_options words asks.name name asks.options options asks.calls calls)
      asks.given),
)

-- a command is refused for a bad word only if there is one
pub bad_named : (memory bad : Bool) (command : Command) → judged_by memory bad command ≡ Err BadArgument → bad ≡ true
bad_named true bad command e = cc e
bad_named false true command e = refl
bad_named false false command e = cc e
