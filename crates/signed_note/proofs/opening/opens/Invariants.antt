use Rattle.std.proofs.Common.{◌≡◌, false, take}
use Rattle.std.specs.List.{list_any}
use Rattle.signed_note.specs.Notes.{is_accepted_by}
use Rattle.signed_note.proofs.opening.opens.Given as goal

abbrev pub invariant-loop-line : goal.invariant-loop-line
invariant-loop-line g l =
    list_any (λ line. list_any
    (λ k. is_accepted_by l.text line ((goal.Verifier-dyn g (k.vtable, k.value)).key k.value)) l.keys)
    (take l.line-index l.lines) ≡ false
