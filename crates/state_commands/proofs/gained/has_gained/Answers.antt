use Rattle.std.proofs.Common.{◌≡◌, ◌∙◌, ap, arith, sym}
use Rattle.std.specs.FinSet.{len}
use Rattle.state_commands.proofs.Sizes.{gains_note, same_unless}
use Rattle.state_commands.proofs.gained.has_gained.Goals as goal

pub returns-else-len-before-clause-gained : goal.returns-else-len-before-clause-gained
returns-else-len-before-clause-gained g c = λ old held sub.
    let count : len c.args.mirror.now.view.strings ≡ c.len.result =
    ap len (sym c.strings.ensures.strings) ∙ sym c.len.ensures in
    let same = c.if-len-before.false in
    rw c.is_some.ensures (gains_note old c.args.mirror.now.view c.args.before.now c.note_at.result held sub
    (omega (arith, count, same)) c.note_at.ensures)

pub returns-else-len-before-clause-same : goal.returns-else-len-before-clause-same
returns-else-len-before-clause-same g c = λ old held sub not.
    let count : len c.args.mirror.now.view.strings ≡ c.len.result =
    ap len (sym c.strings.ensures.strings) ∙ sym c.len.ensures in
    let same = c.if-len-before.false in
    same_unless old c.args.mirror.now.view c.args.before.now c.note_at.result held sub
    (omega (arith, count, same)) c.note_at.ensures (rw c.is_some.ensures at not)
