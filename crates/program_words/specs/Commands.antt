-- The commands, each with its command line and the meaning of its options.
use Rattle.std.specs.Prelude.{◌≡◌, ℕ, ◌≤◌, List, [], ◌∷◌, Option, Some, None}
use Rattle.std.specs.Prelude.{length, map, option_map, unwrap_or, codes, ⊤}
use Rattle.std.specs.Prelude.{◌↔◌, IsTrue}
use Rattle.clap.specs.Words.{App, Row, Text, all_of, first_of, new_app, with_rule}
use Rattle.tlog_text.specs.Hash.{IsHashText}
use Rattle.tlog_shape.specs.declared.TheConstants.{MAX_SIZE}
use Rattle.tlog_proof.specs.declared.proof.Ask.{Ask}
use Rattle.tlog_proof.specs.declared.proof.Ask.TheVariants.{Inclusion, Consistency}
use Rattle.mirror_client.specs.declared.pace.Pace.{Pace}
use Rattle.program_words.specs.App.{state_or_copy_app, choice_rule, copy_app, flag_rule, folder_app, held_app}
use Rattle.program_words.specs.App.{list_rule, log_app, made_app, option_rule, place_rule}
use Rattle.program_words.specs.App.{ahead_rule, progress_rule, wait_rule, words_rule}
use Rattle.program_words.specs.declared.commands.Command.{Command}
use Rattle.program_words.specs.declared.commands.Command.TheVariants as order
use Rattle.program_words.specs.declared.commands.CopyCommand.TheVariants as copy
use Rattle.program_words.specs.declared.commands.PlaceCommand.TheVariants as place
use Rattle.program_words.specs.declared.commands.ReportCommand.TheVariants as report
use Rattle.program_words.specs.declared.commands.StateCommand.TheVariants as state
use Rattle.program_words.specs.declared.commands.root.Root.{Root as RootWords}
use Rattle.program_words.specs.declared.parts.Log.{Log}
use Rattle.program_words.specs.declared.parts.StateArgs.{StateArgs}
use Rattle.program_words.specs.declared.parts.CopyArgs.{CopyArgs}
use Rattle.program_words.specs.declared.parts.OutputArgs.{OutputArgs}
use Rattle.program_words.specs.declared.commands.build.Build.{Build}
use Rattle.program_words.specs.declared.commands.take.Kind.{Kind}
use Rattle.program_words.specs.declared.commands.take.Kind.TheVariants.{Head, Tile, Bundle}
use Rattle.program_words.specs.declared.commands.take.Take.{Take}
use Rattle.program_words.specs.declared.commands.merge.Merge.{Merge}
use Rattle.program_words.specs.declared.place.Place.{Place}
use Rattle.program_words.specs.Spelling.{ArePlaces, IsNumberIn, IsPlace}
use Rattle.program_words.specs.declared.commands.pull.Pull.{Pull}
use Rattle.program_words.specs.declared.commands.follow.Follow.{Follow}
use Rattle.program_words.specs.declared.commands.audit.Audit.{Audit}
use Rattle.program_words.specs.declared.commands.missing.Missing.{Missing}
use Rattle.program_words.specs.declared.commands.compare.Compare.{Compare}
use Rattle.program_words.specs.declared.commands.compare.CopyCompare.{CopyCompare}
use Rattle.program_words.specs.declared.commands.prove.Prove.{Prove}
use Rattle.program_words.specs.declared.commands.prove.CopyProve.{CopyProve}
use Rattle.program_words.specs.declared.commands.entries.EntryRange.{EntryRange}
use Rattle.program_words.specs.declared.commands.entries.Entries.{Entries}
use Rattle.program_words.specs.declared.commands.entries.CopyEntries.{CopyEntries}
use Rattle.program_words.specs.declared.commands.export.Export.{Export}
use Rattle.program_words.specs.declared.commands.notes.Notes.{Notes}
use Rattle.program_words.specs.declared.commands.serve.Serve.{Serve}
use Rattle.program_words.specs.declared.commands.serve.CopyServe.{CopyServe}

-- ---- options

-- the option has this value
abbrev pub Given : List Row → Text → Text → Type 0
Given options name text = first_of name options ≡ Some text

-- the option is missing
abbrev pub NotGiven : List Row → Text → Type 0
NotGiven options name = first_of name options ≡ None

-- the option has a value with this property
pub record HasValue (options : List Row) (name : Text) (IsSuch : Text → Type 0) : Type 0 where
  pub value : Text
  pub given : Given options name value
  pub is_such : IsSuch value

-- the option without a value is given
abbrev pub HasFlag : List Row → Text → Type 0
HasFlag options name = Given options name (codes "true")

-- there is a text, and it spells the number, which is within these bounds
abbrev pub IsNumberGiven : ℕ → ℕ → Option Text → ℕ → Type 0
IsNumberGiven least most None n = ⊥
IsNumberGiven least most (Some word) n = IsNumberIn least most n word

-- the option has a value that spells the number, which is within these bounds
abbrev pub HasNumber : List Row → Text → ℕ → ℕ → ℕ → Type 0
HasNumber options name least most n = IsNumberGiven least most (first_of name options) n

-- the number that the text spells, within these bounds; without a text, `other`
abbrev pub IsNumberOr : ℕ → ℕ → ℕ → Option Text → ℕ → Type 0
IsNumberOr least most other None n = n ≡ other
IsNumberOr least most other (Some word) n = IsNumberIn least most n word

-- the number that the option's value spells, within these bounds; without the option, `other`
abbrev pub HasNumberOr : List Row → Text → ℕ → ℕ → ℕ → ℕ → Type 0
HasNumberOr options name least most other n = IsNumberOr least most other (first_of name options) n

-- the number of requests that may be sent ahead
abbrev pub IsAhead : List Row → ℕ → Type 0
IsAhead options ahead = HasNumberOr options (codes "ahead") 0 64 6 ahead

-- the number of seconds that a run waits in all for one busy place: up to a day, a minute by default
abbrev pub IsWait : List Row → ℕ → Type 0
IsWait options wait = HasNumberOr options (codes "wait") 0 86_400 60 wait

-- how servers are asked
pub record IsPace (options : List Row) (pace : Pace) : Type 0 where
  pub ahead : IsAhead options pace.ahead
  pub wait : IsWait options pace.wait

-- the words for `file`, in order
abbrev pub AreFiles : List Row → List Text → Type 0
AreFiles options files = unwrap_or (all_of (codes "file") options) [] ≡ files

-- a size or an index
abbrev pub IsSize : ℕ → Text → Type 0
IsSize n word = IsNumberIn 0 MAX_SIZE n word

-- ---- parts that commands share

-- the options name the log and its key file
pub record IsLog (options : List Row) (log : Log) : Type 0 where
  pub origin : Given options (codes "origin") log.origin.now
  pub keys : Given options (codes "keys") log.keys.now

-- the options name a mirror in a state file
pub record IsStateArgs (options : List Row) (args : StateArgs) : Type 0 where
  pub log : IsLog options args.log
  pub state : Given options (codes "state") args.state.now

-- the options name a copy in a folder
pub record IsCopyArgs (options : List Row) (args : CopyArgs) : Type 0 where
  pub log : IsLog options args.log
  pub folder : Given options (codes "dir") args.folder.now

-- a command over a state or a copy: the options name a state and no copy
pub record IsStateAlone (options : List Row) (args : StateArgs) : Type 0 where
  pub state : IsStateArgs options args
  pub alone : NotGiven options (codes "dir")

-- a command over a state or a copy: the options name a copy and no state
pub record IsCopyAlone (options : List Row) (args : CopyArgs) : Type 0 where
  pub copy : IsCopyArgs options args
  pub alone : NotGiven options (codes "state")

-- the options name the file for a mirror's state
pub record IsOutputArgs (options : List Row) (args : OutputArgs) : Type 0 where
  pub log : IsLog options args.log
  pub out : Given options (codes "out") args.out.now

-- ---- the commands

-- -- root

-- `root --width W`
abbrev pub root_app : App
root_app = with_rule (new_app (codes "root")) (option_rule (codes "width"))

-- the options of `root`
abbrev pub IsRoot : List Row → RootWords → Type 0
IsRoot options root = HasNumber options (codes "width") 0 256 root.width

-- -- check

-- `check`
abbrev pub check_app : App
check_app = new_app (codes "check")

-- -- build

-- `build --origin O --keys K --dir D [--progress]`
abbrev pub build_app : App
build_app = with_rule (copy_app (codes "build")) progress_rule

-- the options of `build`
pub record IsBuild (options : List Row) (build : Build) : Type 0 where
  pub log : IsLog options build.log
  pub folder : Given options (codes "dir") build.folder.now
  pub progress : IsTrue build.progress ↔ HasFlag options (codes "progress")

-- -- take

-- `take --origin O --keys K --out T [--state S] [--width W] KIND FILE...`
abbrev pub take_app : App
take_app = with_rule (with_rule (with_rule (with_rule (made_app (codes "take"))
    (choice_rule (codes "state"))) (choice_rule (codes "width")))
    (place_rule (codes "kind"))) (list_rule (codes "file"))

-- the word for a kind of item
abbrev pub kind_name : Kind → Text
kind_name Head = codes "head"
kind_name Tile = codes "tile"
kind_name Bundle = codes "bundle"

-- the possible number of files: for a head one note and any number of rows
abbrev pub IsCount : Kind → ℕ → Type 0
IsCount Head n = 1 ≤ n
IsCount Tile n = n ≡ 1
IsCount Bundle n = n ≡ 1

-- the width, which is 256 if the option is missing
abbrev pub IsTakeWidth : Option Text → ℕ → Type 0
IsTakeWidth None width = width ≡ 256
IsTakeWidth (Some word) width = IsNumberIn 1 256 width word

-- the options of `take`
pub record IsTake (options : List Row) (take : Take) : Type 0 where
  pub mirror : IsOutputArgs options take.mirror
  pub state : first_of (codes "state") options ≡ option_map (λ s. s.now) take.state
  pub width : IsTakeWidth (first_of (codes "width") options) take.width
  pub kind : Given options (codes "kind") (kind_name take.kind)
  pub files : AreFiles options (map (λ f. f.now) take.files.items)
  pub count : IsCount take.kind (length take.files.items)

-- -- merge

-- `merge --origin O --keys K --out T A B`
abbrev pub merge_app : App
merge_app =
    with_rule (with_rule (made_app (codes "merge")) (place_rule (codes "a")))
    (place_rule (codes "b"))

-- the options of `merge`
pub record IsMerge (options : List Row) (merge : Merge) : Type 0 where
  pub mirror : IsOutputArgs options merge.mirror
  pub first : Given options (codes "a") merge.first.now
  pub second : Given options (codes "b") merge.second.now

-- -- pull

-- `pull --origin O --keys K --out T [--state S] [--keep] [--ahead N] [--wait SECONDS] [--progress] KIND
-- PLACE`
abbrev pub pull_app : App
pull_app = with_rule (with_rule (with_rule (with_rule (with_rule (with_rule (with_rule
    (made_app (codes "pull")) (choice_rule (codes "state"))) (flag_rule (codes "keep"))) ahead_rule)
    wait_rule) progress_rule) (place_rule (codes "kind"))) (place_rule (codes "place"))

-- the options of `pull`
pub record IsPull (options : List Row) (pull : Pull) : Type 0 where
  pub mirror : IsOutputArgs options pull.mirror
  pub state : first_of (codes "state") options ≡ option_map (λ s. s.now) pull.state
  pub keep : IsTrue pull.keep ↔ HasFlag options (codes "keep")
  pub pace : IsPace options pull.pace
  pub progress : IsTrue pull.progress ↔ HasFlag options (codes "progress")
  pub place : HasValue options (codes "kind")
      (λ kind. HasValue options (codes "place") (λ word. IsPlace kind word pull.place))

-- -- follow

-- `follow --origin O --keys K --dir D [--checkpoint FILE] [--forks F] [--repair] [--ahead N] [--wait SECONDS] [--progress]
-- KIND PLACE..`
abbrev pub follow_app : App
follow_app = with_rule (with_rule (with_rule (with_rule (with_rule (with_rule (with_rule
    (copy_app (codes "follow")) (choice_rule (codes "checkpoint"))) (choice_rule (codes "forks")))
    (flag_rule (codes "repair"))) ahead_rule) wait_rule) progress_rule) (words_rule (codes "place"))

-- there are words, and they name these places; `clap` requires at least one word
abbrev pub ArePlacesGiven : Option (List Text) → List Place → Type 0
ArePlacesGiven None places = ⊥
ArePlacesGiven (Some words) places = ArePlaces words places

-- the options name these places
abbrev pub IsPlacesGiven : List Row → List Place → Type 0
IsPlacesGiven options places = ArePlacesGiven (all_of (codes "place") options) places

-- the options of `follow`
pub record IsFollow (options : List Row) (follow : Follow) : Type 0 where
  pub copy : IsCopyArgs options follow.copy
  pub checkpoint : first_of (codes "checkpoint") options ≡ option_map (λ f. f.now) follow.checkpoint
  pub forks : first_of (codes "forks") options ≡ option_map (λ f. f.now) follow.forks
  pub repair : IsTrue follow.repair ↔ HasFlag options (codes "repair")
  pub pace : IsPace options follow.pace
  pub progress : IsTrue follow.progress ↔ HasFlag options (codes "progress")
  pub why : IsTrue follow.why ↔ HasFlag options (codes "why")
  pub places : IsPlacesGiven options follow.places.items

-- -- audit

-- `audit --origin O --keys K [--ahead N] [--wait SECONDS] [--progress] KIND PLACE`
abbrev pub audit_app : App
audit_app = with_rule (with_rule (with_rule (with_rule (with_rule (log_app (codes "audit"))
    ahead_rule) wait_rule) progress_rule) (place_rule (codes "kind"))) (place_rule (codes "place"))

-- the options of `audit`
pub record IsAudit (options : List Row) (audit : Audit) : Type 0 where
  pub log : IsLog options audit.log
  pub pace : IsPace options audit.pace
  pub progress : IsTrue audit.progress ↔ HasFlag options (codes "progress")
  pub place : HasValue options (codes "kind")
      (λ kind. HasValue options (codes "place") (λ word. IsPlace kind word audit.place))

-- -- status

-- `status --origin O --keys K (--state S | --dir D)`
abbrev pub status_app : App
status_app = state_or_copy_app (codes "status")

-- -- missing

-- `missing --origin O --keys K --state S --size N --root ROOT`
abbrev pub missing_app : App
missing_app =
    with_rule (with_rule (held_app (codes "missing")) (option_rule (codes "size")))
    (option_rule (codes "root"))

-- the value of the option `root` spells this root
abbrev pub IsRootGiven : List Row → List ℕ → Type 0
IsRootGiven options root = HasValue options (codes "root") (λ word. IsHashText word root)

-- the options of `missing`
pub record IsMissingAsk (options : List Row) (missing : Missing) : Type 0 where
  pub mirror : IsStateArgs options missing.mirror
  pub size : HasNumber options (codes "size") 0 MAX_SIZE missing.size
  pub root : IsRootGiven options missing.root

-- -- forks

-- `forks --origin O --keys K --state S`
abbrev pub forks_app : App
forks_app = held_app (codes "forks")

-- -- compare

-- `compare --origin O --keys K (--state S | --dir D) [FILE...]`
abbrev pub compare_app : App
compare_app = with_rule (state_or_copy_app (codes "compare")) (list_rule (codes "file"))

-- the options of `compare` for a state
pub record IsCompare (options : List Row) (compare : Compare) : Type 0 where
  pub mirror : IsStateAlone options compare.mirror
  pub files : AreFiles options (map (λ f. f.now) compare.files.items)

-- the options of `compare` for a copy
pub record IsCopyCompare (options : List Row) (compare : CopyCompare) : Type 0 where
  pub copy : IsCopyAlone options compare.copy
  pub files : AreFiles options (map (λ f. f.now) compare.files.items)

-- -- prove

-- `prove --origin O --keys K (--state S | --dir D) KIND A B`
abbrev pub prove_app : App
prove_app = with_rule (with_rule (with_rule (state_or_copy_app (codes "prove"))
    (place_rule (codes "kind"))) (place_rule (codes "a"))) (place_rule (codes "b"))

-- the three words request this proof
abbrev pub IsAsk : Text → Text → Text → Ask → Type 0
IsAsk kind a b (Inclusion size index) = (kind ≡ codes "inclusion") × IsSize size a × IsSize index b
IsAsk kind a b (Consistency first second) =
    (kind ≡ codes "consistency") × IsSize first a × IsSize second b

-- the options request this proof
abbrev pub IsAskGiven : List Row → Ask → Type 0
IsAskGiven options ask = HasValue options (codes "kind")
    (λ kind. HasValue options (codes "a")
    (λ a. HasValue options (codes "b") (λ b. IsAsk kind a b ask)))

-- the options of `prove` for a state
pub record IsProve (options : List Row) (prove : Prove) : Type 0 where
  pub mirror : IsStateAlone options prove.mirror
  pub ask : IsAskGiven options prove.ask

-- the options of `prove` for a copy
pub record IsCopyProve (options : List Row) (prove : CopyProve) : Type 0 where
  pub copy : IsCopyAlone options prove.copy
  pub ask : IsAskGiven options prove.ask

-- -- entries

-- `entries --origin O --keys K (--state S | --dir D) [--base64] FROM TO`
abbrev pub entries_app : App
entries_app = with_rule (with_rule (with_rule (state_or_copy_app (codes "entries"))
    (flag_rule (codes "base64"))) (place_rule (codes "from"))) (place_rule (codes "to"))

-- the options name a range of entries and the format of the output
pub record IsEntryRange (options : List Row) (range : EntryRange) : Type 0 where
  pub start : HasNumber options (codes "from") 0 MAX_SIZE range.from
  pub end : HasNumber options (codes "to") 0 MAX_SIZE range.to
  pub base64 : IsTrue range.base64 ↔ HasFlag options (codes "base64")

-- the options of `entries` for a state
pub record IsEntries (options : List Row) (entries : Entries) : Type 0 where
  pub mirror : IsStateAlone options entries.mirror
  pub range : IsEntryRange options entries.range

-- the options of `entries` for a copy
pub record IsCopyEntries (options : List Row) (entries : CopyEntries) : Type 0 where
  pub copy : IsCopyAlone options entries.copy
  pub range : IsEntryRange options entries.range

-- -- export

-- `export --origin O --keys K --state S --dir D [--update] [--progress]`
abbrev pub export_app : App
export_app =
    with_rule (with_rule (folder_app (codes "export")) (flag_rule (codes "update"))) progress_rule

-- the options of `export`
pub record IsExport (options : List Row) (export : Export) : Type 0 where
  pub mirror : IsStateArgs options export.mirror
  pub folder : Given options (codes "dir") export.folder.now
  pub progress : IsTrue export.progress ↔ HasFlag options (codes "progress")

-- -- notes

-- `notes --origin O --keys K --state S --dir D`
abbrev pub notes_app : App
notes_app = folder_app (codes "notes")

-- the options of `notes`
pub record IsNotes (options : List Row) (notes : Notes) : Type 0 where
  pub mirror : IsStateArgs options notes.mirror
  pub folder : Given options (codes "dir") notes.folder.now

-- -- serve

-- `serve --origin O --keys K (--state S | --dir D) --port P --requests N`
abbrev pub serve_app : App
serve_app =
    with_rule (with_rule (state_or_copy_app (codes "serve")) (option_rule (codes "port")))
    (option_rule (codes "requests"))

-- the options of `serve` for a state
pub record IsServe (options : List Row) (serve : Serve) : Type 0 where
  pub mirror : IsStateAlone options serve.mirror
  pub port : HasNumber options (codes "port") 1 65535 serve.port
  pub requests : HasNumber options (codes "requests") 0 MAX_SIZE serve.requests

-- the options of `serve` for a copy
pub record IsCopyServe (options : List Row) (serve : CopyServe) : Type 0 where
  pub copy : IsCopyAlone options serve.copy
  pub port : HasNumber options (codes "port") 1 65535 serve.port
  pub requests : HasNumber options (codes "requests") 0 MAX_SIZE serve.requests
  pub why : IsTrue serve.why ↔ HasFlag options (codes "why")

-- ---- the list of the commands

-- the command lines, in the order in which `clap` lists them
abbrev pub command_apps : List App
command_apps =
    root_app ∷ check_app ∷ build_app ∷ take_app ∷ merge_app ∷ pull_app ∷ follow_app ∷ audit_app
    ∷ status_app ∷ missing_app ∷ forks_app ∷ compare_app ∷ prove_app ∷ entries_app ∷ export_app
    ∷ notes_app ∷ serve_app ∷ []

-- the word for the command
abbrev pub name_of : Command → Text
name_of (order.Report (report.Root c)) = codes "root"
name_of (order.Report report.Check) = codes "check"
name_of (order.State (state.Build c)) = codes "build"
name_of (order.State (state.Take c)) = codes "take"
name_of (order.State (state.Merge c)) = codes "merge"
name_of (order.State (state.Pull c)) = codes "pull"
name_of (order.Place (place.Follow c)) = codes "follow"
name_of (order.Place (place.Audit c)) = codes "audit"
name_of (order.Report (report.Status c)) = codes "status"
name_of (order.Copy (copy.Status c)) = codes "status"
name_of (order.Report (report.Missing c)) = codes "missing"
name_of (order.Report (report.Forks c)) = codes "forks"
name_of (order.Report (report.Compare c)) = codes "compare"
name_of (order.Copy (copy.Compare c)) = codes "compare"
name_of (order.Report (report.Prove c)) = codes "prove"
name_of (order.Copy (copy.Prove c)) = codes "prove"
name_of (order.Report (report.Entries c)) = codes "entries"
name_of (order.Copy (copy.Entries c)) = codes "entries"
name_of (order.State (state.Export c)) = codes "export"
name_of (order.State (state.Update c)) = codes "export"
name_of (order.State (state.Notes c)) = codes "notes"
name_of (order.Report (report.Serve c)) = codes "serve"
name_of (order.Copy (copy.Serve c)) = codes "serve"

-- the names of the commands of each group; a command over a copy has that of one over a state
abbrev pub state_names : List Text
state_names = codes "build" ∷ codes "take" ∷ codes "merge" ∷ codes "pull" ∷ codes "export" ∷ codes "notes" ∷ []

abbrev pub report_names : List Text
report_names =
    codes "root" ∷ codes "check" ∷ codes "status" ∷ codes "missing" ∷ codes "forks" ∷ codes "compare" ∷ codes "prove"
    ∷ codes "entries" ∷ codes "serve" ∷ []

abbrev pub copy_names : List Text
copy_names = codes "status" ∷ codes "compare" ∷ codes "prove" ∷ codes "entries" ∷ codes "serve" ∷ []

abbrev pub place_names : List Text
place_names = codes "follow" ∷ codes "audit" ∷ []

-- the options are those of this command, among the commands with its name
abbrev pub Says : List Row → Command → Type 0
Says options (order.Report (report.Root c)) = IsRoot options c
Says options (order.Report report.Check) = ⊤
Says options (order.State (state.Build c)) = IsBuild options c
Says options (order.State (state.Take c)) = IsTake options c
Says options (order.State (state.Merge c)) = IsMerge options c
Says options (order.State (state.Pull c)) = IsPull options c
Says options (order.Place (place.Follow c)) = IsFollow options c
Says options (order.Place (place.Audit c)) = IsAudit options c
Says options (order.Report (report.Status c)) = IsStateAlone options c
Says options (order.Copy (copy.Status c)) = IsCopyAlone options c
Says options (order.Report (report.Missing c)) = IsMissingAsk options c
Says options (order.Report (report.Forks c)) = IsStateArgs options c
Says options (order.Report (report.Compare c)) = IsCompare options c
Says options (order.Copy (copy.Compare c)) = IsCopyCompare options c
Says options (order.Report (report.Prove c)) = IsProve options c
Says options (order.Copy (copy.Prove c)) = IsCopyProve options c
Says options (order.Report (report.Entries c)) = IsEntries options c
Says options (order.Copy (copy.Entries c)) = IsCopyEntries options c
Says options (order.State (state.Export c)) = IsExport options c × (¬ HasFlag options (codes "update"))
Says options (order.State (state.Update c)) = IsExport options c × HasFlag options (codes "update")
Says options (order.State (state.Notes c)) = IsNotes options c
Says options (order.Report (report.Serve c)) = IsServe options c
Says options (order.Copy (copy.Serve c)) = IsCopyServe options c
