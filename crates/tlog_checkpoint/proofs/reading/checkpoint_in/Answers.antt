use Rattle.std.proofs.Common.{◌<◌, ◌≤◌, length, arith, sym, ◌∙◌, []}
use Rattle.std.proofs.lemmas.List.{length-map}
use Rattle.tlog_checkpoint.proofs.Answered.{few_lines, empty_line, no_empty_line}
use Rattle.tlog_checkpoint.proofs.reading.checkpoint_in.Goals as goal

pub returns-in_default : goal.returns-in_default
returns-in_default c =
    let few : length c.in_ok-lines.lines.items < 3 = rw c.as_slice.ensures.value at c.in_default.len_below in
    few_lines c.args.text.now _ c.in_ok-lines.ensures
    (omega (arith, length-map c.in_ok-lines.lines.items (λ line. line.now)))

pub returns-then-has_empty_line : goal.returns-then-has_empty_line
returns-then-has_empty_line c =
    let enough : 3 ≤ length c.in_ok-lines.lines.items = rw c.as_slice.ensures.value at c.in-len3-up.len_at_least in
    let found = rw c.deref.ensures.value at c.has_empty_line.ensures in
    empty_line (λ line. line.now) c.args.text.now c.in_ok-lines.lines.items c.in_ok-lines.ensures enough
    (sym found ∙ c.if-has_empty_line.true)

pub returns : goal.returns
returns c =
    let enough : 3 ≤ length c.in_ok-lines.lines.items = rw c.as_slice.ensures.value at c.in-len3-up.len_at_least in
    let found = rw c.deref.ensures.value at c.has_empty_line.ensures in
    let answer = rw c.as_slice.ensures.value at c.checkpoint_of.ensures in
    no_empty_line (λ line. line.now) c.args.text.now c.in_ok-lines.lines.items c.in_ok-lines.ensures enough
    (record { ref_ptr = (0, 0); now = [] }) c.checkpoint_of.result (sym found ∙ c.if-has_empty_line.false) answer
