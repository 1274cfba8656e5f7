-- The served entries, laid out in memory. The invariant of `Mirror` cites this word, and so do the contracts of private
-- functions.
use Rattle.std.specs.Prelude.{ℕ, List, Option, Some, None, ⊤}
use Rattle.mirror_model.specs.View.{View}
use Rattle.mirror_model.specs.Served.{Served}
use Rattle.tlog_mirror.specs.Kept.{note_bytes}
use Rattle.tlog_mirror.specs.declared.laid.Laid.{Laid}

-- the laid out files of a view, if there are any, are for the served note and its entries
abbrev pub IsLaidOut :
    {H : Type 0} → (List ℕ → List ℕ) → View → Option (Laid H) → Type 0
IsLaidOut digest v None = ⊤
IsLaidOut digest v (Some laid) =
    Served digest v (note_bytes laid.note) laid.note.size laid.note.root laid.files
