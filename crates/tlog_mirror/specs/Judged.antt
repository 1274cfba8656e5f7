-- Which answers the take of an item may give.
use Rattle.std.specs.Prelude.{ℕ, List, Result}
use Rattle.signed_note.specs.Keys.{Key}
use Rattle.mirror_model.specs.declared.fault.TakeFault.{TakeFault}
use Rattle.mirror_model.specs.declared.items.Item.{Item}
use Rattle.mirror_model.specs.declared.items.Item.TheVariants.{Head, Tile, Bundle}
use Rattle.mirror_model.specs.Refusals.{JudgesHead, JudgesTile, JudgesBundle}

-- the answer of a take is the first refusal that applies, as from the call for its kind of item
abbrev pub JudgesItem :
    (List ℕ → List ℕ) → List Key → List ℕ → Item → Result (Unit {0}) TakeFault → Type 0
JudgesItem digest keys origin (Head note edge) answer =
    JudgesHead digest origin keys note edge answer
JudgesItem digest keys origin (Tile width bytes) answer = JudgesTile width bytes answer
JudgesItem digest keys origin (Bundle width bytes) answer = JudgesBundle width bytes answer
