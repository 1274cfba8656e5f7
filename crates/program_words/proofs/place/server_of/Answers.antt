use Rattle.std.proofs.Common.{◌∙◌, sym}
use Rattle.std.proofs.lemmas.Bool.{false≢true}
use Rattle.std.proofs.lemmas.Result.{IfOk-from_err}
use Rattle.program_words.proofs.Places.{one_name, one_port, one_site, some_port}
use Rattle.program_words.proofs.place.server_of.Goals as goal

pub returns-then-not-branch : goal.returns-then-not-branch
returns-then-not-branch c = λ p is.
    let cut = c.host_and_prefix.ensures in
    let s = one_site c.args.word.now c.host_and_prefix.result.0.now c.host_and_prefix.result.1.now cut.whole cut.before
    cut.after p is in
    false≢true (sym c.if-not-branch.true ∙ c.in_ok-is_site.ensures.1 s.2.site)

pub returns-in_default : goal.returns-in_default
returns-in_default c = λ p is.
    let cut = c.host_and_prefix.ensures in
    let s = one_site c.args.word.now c.host_and_prefix.result.0.now c.host_and_prefix.result.1.now cut.whole cut.before
    cut.after p is in
    some_port c.args.word.now c.host_and_prefix.result.0.now c.host_and_prefix.result.1.now s.0 s.1
    c.in_default.ensures.none s.2

pub returns-in_default-number_in : goal.returns-in_default-number_in
returns-in_default-number_in c = λ p is.
    let cut = c.host_and_prefix.ensures in
    let s = one_site c.args.word.now c.host_and_prefix.result.0.now c.host_and_prefix.result.1.now cut.whole cut.before
    cut.after p is in
    c.in_default-number_in.ensures s.1 (one_port c.args.word.now c.host_and_prefix.result.0.now
    c.host_and_prefix.result.1.now c.in-Some.name.now c.in-Some.digits.now s.0 s.1 c.in-Some.ensures.some
    c.in-Some.ensures.last s.2)

pub returns-in_default-address_of : goal.returns-in_default-address_of
returns-in_default-address_of c = λ p is.
    let cut = c.host_and_prefix.ensures in
    let s = one_site c.args.word.now c.host_and_prefix.result.0.now c.host_and_prefix.result.1.now cut.whole cut.before
    cut.after p is in
    c.in_default-address_of.ensures s.0 (one_name c.args.word.now c.host_and_prefix.result.0.now
    c.host_and_prefix.result.1.now c.in-Some.name.now c.in-Some.digits.now s.0 s.1 c.in-Some.ensures.some
    c.in-Some.ensures.last s.2)

pub returns-in_err-is_site : goal.returns-in_err-is_site
returns-in_err-is_site c = IfOk-from_err c.from_residual.result _ c.from_residual.ensures.0
