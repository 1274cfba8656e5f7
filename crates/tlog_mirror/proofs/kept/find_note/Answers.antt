use Rattle.std.proofs.Common.{rules, of_calls}
use Rattle.std.specs.Cmp.Lexicographic.{slice_cmp}
use Rattle.std.specs.Ordering.{nat_cmp}
use Rattle.std.proofs.lemmas.Fn.{always_returns_same}
use Rattle.tlog_mirror.specs.Kept.{note_bytes}
use Rattle.tlog_mirror.proofs.kept.find_note.Goals as goal

-- the closure compares the bytes of a note
pub returns-clause-place : goal.returns-clause-place
returns-clause-place c =
    c.binary_search_by.ensures.position (λ k. slice_cmp nat_cmp (note_bytes k) c.args.bytes.now)
    (always_returns_same _ _ _ (λ a r f called. search (rules, of_calls)))
