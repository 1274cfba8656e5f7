-- What the readers of a command find in its options.
use Rattle.std.specs.Prelude.{◌≡◌, List, codes, length}
use Rattle.clap.specs.Words.{Row, Text}
use Rattle.program_words.specs.declared.commands.Command.{Command}
use Rattle.program_words.specs.declared.place.Place.{Place}
use Rattle.program_words.specs.declared.parts.Source.{Source}
use Rattle.program_words.specs.declared.parts.Source.TheVariants as source
use Rattle.program_words.specs.declared.commands.prove.ProofKind.{ProofKind}
use Rattle.program_words.specs.declared.commands.prove.ProofKind.TheVariants as proof
use Rattle.program_words.specs.declared.commands.take.Kind.{Kind}
use Rattle.program_words.specs.Spelling.{IsPlace}
use Rattle.program_words.specs.Commands.{AreFiles, Given, HasValue, IsCopyAlone, IsCount, IsStateAlone, NotGiven}
use Rattle.program_words.specs.Commands.{Says, name_of}

-- the option has this value, and the other option is missing
abbrev pub IsWordAlone : List Row → Text → Text → Text → Type 0
IsWordAlone options name other text = Given options name text × NotGiven options other

-- the options name a state or a copy, but not both
abbrev pub IsSource : List Row → Source → Type 0
IsSource options (source.State args) = IsStateAlone options args
IsSource options (source.Copy args) = IsCopyAlone options args

-- the word for a kind of proof
abbrev pub proof_name : ProofKind → Text
proof_name proof.Inclusion = codes "inclusion"
proof_name proof.Consistency = codes "consistency"

-- these files are named, and their number is possible for that kind
abbrev pub AreFilesOf : Kind → List Row → List Text → Type 0
AreFilesOf kind options files = AreFiles options files × IsCount kind (length files)

-- the options name the place of `pull` or `audit`
abbrev pub IsPlaceGiven : List Row → Place → Type 0
IsPlaceGiven options place =
    HasValue options (codes "kind") (λ kind. HasValue options (codes "place") (λ word. IsPlace kind word place))

-- the command has that name, and the options say it
abbrev pub IsSaid : Text → List Row → Command → Type 0
IsSaid name options command = (name ≡ name_of command) × Says options command
