-- The answers of a saver, about the written bytes.
use Rattle.std.specs.Prelude.{ℕ, List, Option, Result, Ok, Err}
use Rattle.std.specs.Io.KnownBytes.{Appends, Keeps}
use Rattle.byte_streams.specs.Streams.{AppendsPrefix}
use Rattle.mirror_model.specs.View.{View}
use Rattle.mirror_files.specs.StateText.{StateText}
use Rattle.mirror_files.specs.declared.save_fault.SaveFault.{SaveFault}
use Rattle.mirror_files.specs.declared.save_fault.SaveFault.TheVariants.{WriteFault, OutOfMemory}

-- each answer of a saver is right: at Ok it wrote the text of the view, and nothing else; at WriteFault a prefix of it,
-- at OutOfMemory nothing
abbrev pub Saves : View → Option (List ℕ) → Option (List ℕ) → Result (Unit {0}) SaveFault → Type 0
Saves v old new (Ok done) = (text : List ℕ) × StateText v text × Appends old new text
Saves v old new (Err WriteFault) = (text : List ℕ) × StateText v text × AppendsPrefix old new text
Saves v old new (Err OutOfMemory) = Keeps old new
