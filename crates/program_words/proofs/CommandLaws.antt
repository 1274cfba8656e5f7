-- The meaning of some command lines, and laws for all.
use Rattle.std.proofs.Common.{◌≡◌, ◌∙◌, Bool, true, false, cond, ap, sym, subst, inl, inr, refl, ℕ, List, [], ◌∷◌, map}
use Rattle.std.proofs.Common.{Option, Some, None, is_some, codes, lit<, lit≤, option_map, unwrap_or, true≢false}
use Rattle.std.specs.Prelude.{find}
use Rattle.clap.specs.Words.{Kinds, Row, Shape, Text, subcommand_of}
use Rattle.clap.specs.Kinds.{or_else}
use Rattle.clap.specs.Faults.{check_fault, defaults_fault, entered_fault, level_fault, settle_fault, walk_fault}
use Rattle.clap.specs.Walk.{Held, Names, answers_to, finished, nothing_held, settled, stop_after, walk, walk_from}
use Rattle.clap.specs.Simple.{argument_words, built, entered, label_of, names_of, rows_at}
use Rattle.clap.specs.declared.error.kind.ErrorKind.TheVariants as kind
use Rattle.clap.proofs.OnLiterals.{clap_on_literals}
use Rattle.tlog_text.proofs.Decimals.{decimal_here}
use Rattle.program_words.specs.Spelling.{IsNumberIn}
use Rattle.program_words.specs.Program.{AsksFor, faults, mirror_app}
use Rattle.program_words.specs.Commands.{Says, name_of}
use Rattle.program_words.specs.LineLaws.{IsOneOf, LawfulWordsName, WordsAskForOneName, command_names}
use Rattle.program_words.specs.declared.commands.Command.TheVariants.{Report}
use Rattle.program_words.specs.declared.commands.ReportCommand.TheVariants.{Root, Check}

abbrev pub root_words : Text → List Text
root_words width = codes "root" ∷ codes "--width" ∷ width ∷ []

root_lawful : faults (root_words (codes "200")) ≡ []
unfolding clap_on_literals
root_lawful = refl

root_is : (n : ℕ) → IsNumberIn 0 256 n (codes "200") → AsksFor (root_words (codes "200")) (Report (Root (record { width = n })))
unfolding clap_on_literals
root_is n w =
    (_, record { lawful = root_lawful; named = refl }, w)

pub root_asked : AsksFor (root_words (codes "200")) (Report (Root (record { width = 200 })))
root_asked = root_is 200 (record {
  number = decimal_here (codes "200") (lit< tt) refl (λ two zero. cc);
  least_is = lit≤ tt;
  most_is = lit≤ tt;
})

check_lawful : faults (codes "check" ∷ []) ≡ []
unfolding clap_on_literals
check_lawful = refl

check_named : subcommand_of mirror_app (codes "check" ∷ []) ≡ Some (codes "check", [])
unfolding clap_on_literals
check_named = refl

pub check_asked : AsksFor (codes "check" ∷ []) (Report Check)
check_asked = ([], record { lawful = check_lawful; named = check_named }, tt)

pub no_width : faults (codes "root" ∷ []) ≡ kind.MissingRequiredArgument ∷ []
unfolding clap_on_literals
no_width = refl

pub version : faults (codes "--version" ∷ []) ≡ kind.DisplayVersion ∷ []
unfolding clap_on_literals
version = refl

pub help : faults (codes "root" ∷ codes "--help" ∷ []) ≡ kind.DisplayHelp ∷ []
unfolding clap_on_literals
help = refl

abbrev name_in : Text → List Row → Option (Text × List Row) → Text
name_in name options o =
    let p : Text × List Row = unwrap_or o (name, options) in
    p.0

-- the name of the command that a word selects is one of the names
answer_in : (word : Text) (rest : List Text) (shapes : List Shape) (name : Text) (options : List Row)
    → option_map (λ s. rows_at s rest) (find (λ s. answers_to word (label_of s)) shapes) ≡ Some (name, options)
    → IsOneOf (map (λ s. s.name) shapes) name
answer_in word rest [] name options e = absurd (true≢false (ap is_some (sym e)))
answer_in word rest (a ∷ shapes) name options e =
    go (answers_to word (label_of a)) (answer_in word rest shapes name options) e
  where
    go : (x : Bool)
        → (option_map (λ (s : Shape). rows_at s rest) (find (λ s. answers_to word (label_of s)) shapes)
        ≡ Some (name, options) → IsOneOf (map (λ (s : Shape). s.name) shapes) name)
        → option_map (λ (s : Shape). rows_at s rest) (cond x (Some a) (find (λ s. answers_to word (label_of s)) shapes))
        ≡ Some (name, options) → IsOneOf (map (λ (s : Shape). s.name) (a ∷ shapes)) name
    go true others f = inl (sym (ap (name_in name options) f))
    go false others f = inr (others f)

answered : (stop : Option (Text × List Text)) (name : Text) (options : List Row) →
    entered (built mirror_app) stop ≡ Some (name, options) → IsOneOf command_names name
answered None name options e = absurd (true≢false (ap is_some (sym e)))
answered (Some p) name options e = answer_in p.0 p.1 (built mirror_app).subs name options e

last_nothing : (a b : Kinds) → or_else a b ≡ [] → b ≡ []
last_nothing [] b e = e
last_nothing (k ∷ ks) b e = cc

some_of : {X : Type 0} → (o : Option X) → is_some o ≡ true → (x : X) × (o ≡ Some x)
some_of None e = absurd (true≢false (sym e))
some_of (Some x) e = (x, refl)

-- if nothing is wrong, the last check passes
level_checked : (s : Shape) (names : Names) (h : Held) (words : List Text) (has : Bool) (below : Kinds)
    → level_fault s names h words has below ≡ []
    → check_fault s (finished s.rules (walk s.rules names h words).held) has ≡ []
level_checked s names h words has below none =
    let end = (walk s.rules names h words).held in
    let last = check_fault s (finished s.rules end) has in
    let defaults = defaults_fault (settled s.rules end).rows s.rules in
    let settles = settle_fault s.rules s.args_override_self end in
    last_nothing defaults last (last_nothing settles (or_else defaults last)
    (last_nothing below (or_else settles (or_else defaults last)) (last_nothing
    (walk_fault s names (walk_from h) words) (or_else below (or_else settles (or_else defaults last))) none)))

checked_has : (s : Shape) (rows : List Row) (has : Bool) → s.arg_required_else_help ≡ false →
    s.subcommand_required ≡ true → check_fault s rows has ≡ [] → has ≡ true
checked_has s rows true helps wants none = refl
checked_has s rows false helps wants none = let bad : kind.MissingSubcommand ∷ [] ≡ [] = rw (helps, wants) at none in cc

-- a lawful command line names a command
pub lawful_one : LawfulWordsName
lawful_one words none =
    let app = built mirror_app in
    let own = argument_words mirror_app words in
    let stop = stop_after app.top.rules (names_of app) own in
    let has = is_some (entered app stop) in
    let last = level_checked app.top (names_of app) nothing_held own has (entered_fault app stop) none in
    let named = some_of (subcommand_of mirror_app words) (checked_has app.top
    (finished app.top.rules (walk app.top.rules (names_of app) nothing_held own).held) has refl refl last) in
    (named.0.0, named.0.1, record { lawful = none; named = named.1 }, answered stop named.0.0 named.0.1 named.1)

pub one_asked : WordsAskForOneName
one_asked words a b p q =
    let same : Some (name_of b, q.0) ≡ Some (name_of a, p.0) = sym q.1.named ∙ p.1.named in
    let names = ap (λ o. let x : Text × List Row = unwrap_or o (name_of a, p.0) in x.0) same in
    let rows = ap (λ o. let x : Text × List Row = unwrap_or o (name_of a, p.0) in x.1) same in
    (sym names, p.0, p.2, subst (λ (o : List Row). Says o b) rows q.2)
