use Rattle.std.proofs.Common.{◌<◌, subst, length, arith, map}
use Rattle.tlog_text.specs.Answers.{seen}
use Rattle.state_commands.specs.Entries.{ReadsEntries}
use Rattle.state_commands.specs.declared.entries.TheConstants.{MAX_READ_LEN}
use Rattle.state_commands.proofs.EntryLists.{whole_read}
use Rattle.state_commands.proofs.entries.read_entries.Goals as goal

pub returns-clause-answer : goal.returns-clause-answer
returns-clause-answer g c =
    let short : length c.in_ok-bytes.bytes.items < MAX_READ_LEN =
    omega (arith, c.in_ok-bytes.bytes.small, c.in_ok-bytes.bytes.ok.0, c.in_ok-bytes.bytes.ok.1) in
    whole_read (g.R.Read.remaining c.args.reader.now) MAX_READ_LEN c.in_ok-bytes.bytes.items
    (seen (λ v. map (λ e. e.items) v.items) c.entries_of.result) c.in_ok-bytes.ensures.bytes short
    (subst (λ b. ReadsEntries b (seen (λ v. map (λ e. e.items) v.items) c.entries_of.result)) c.deref.ensures.value
    c.entries_of.ensures.reads)
