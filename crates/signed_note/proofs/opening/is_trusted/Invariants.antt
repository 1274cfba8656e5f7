use Rattle.std.proofs.Common.{◌≡◌, false, take}
use Rattle.std.specs.List.{list_any}
use Rattle.signed_note.specs.Notes.{is_accepted_by}
use Rattle.signed_note.proofs.opening.is_trusted.Given as goal

abbrev pub invariant-loop-one : goal.invariant-loop-one
invariant-loop-one g l =
    list_any (λ k. is_accepted_by l.text l.line ((goal.Verifier-dyn g (k.vtable, k.value)).key k.value))
    (take l.one-index l.keys) ≡ false
