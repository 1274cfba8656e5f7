-- The answers of the reader of a state text of a known origin, about all that needs neither a digest nor keys.
use Rattle.std.specs.Prelude.{ℕ, List, Result, Ok, Err, ⊤}
use Rattle.mirror_files.specs.StateText.{Parts}
use Rattle.mirror_files.specs.Reading.{ReadsParts}
use Rattle.mirror_files.specs.Content.{HasStrings, IsOfOtherOrigin, IsDisordered, HasBadString}
use Rattle.mirror_files.specs.declared.parts.PartsFault.{PartsFault}
use Rattle.mirror_files.specs.declared.parts.PartsFault.TheVariants as reading
use Rattle.mirror_files.specs.declared.load_fault.LoadFault.{LoadFault}
use Rattle.mirror_files.specs.declared.load_fault.LoadFault.TheVariants.{StateMagic, StateShort}
use Rattle.mirror_files.specs.declared.load_fault.LoadFault.TheVariants.{StateLong, StateDigest}
use Rattle.mirror_files.specs.declared.load_fault.LoadFault.TheVariants.{OtherOrigin, StateOrder}
use Rattle.mirror_files.specs.declared.load_fault.LoadFault.TheVariants.{StateString, StateHead}
use Rattle.mirror_files.specs.declared.load_fault.LoadFault.TheVariants.{Collision, StateEdge, ReadFault}
use Rattle.mirror_files.specs.declared.load_fault.LoadFault.TheVariants.{OutOfMemory}

-- the fault of a loader if the lists cannot be read
abbrev pub load_fault_of : PartsFault → LoadFault
load_fault_of reading.StateMagic = StateMagic
load_fault_of reading.StateShort = StateShort
load_fault_of reading.StateLong = StateLong
load_fault_of reading.StateDigest = StateDigest
load_fault_of reading.OutOfMemory = OutOfMemory

-- each answer of a reader of lists is right about them; it decides all that needs neither a digest nor keys
abbrev pub ChecksLists : List ℕ → List ℕ → Result Parts LoadFault → Type 0
ChecksLists origin bytes (Ok parts) = HasStrings origin bytes parts
ChecksLists origin bytes (Err StateMagic) = ReadsParts bytes (Err reading.StateMagic)
ChecksLists origin bytes (Err StateShort) = ReadsParts bytes (Err reading.StateShort)
ChecksLists origin bytes (Err StateLong) = ReadsParts bytes (Err reading.StateLong)
ChecksLists origin bytes (Err StateDigest) = ReadsParts bytes (Err reading.StateDigest)
ChecksLists origin bytes (Err OtherOrigin) = IsOfOtherOrigin origin bytes
ChecksLists origin bytes (Err StateOrder) = IsDisordered origin bytes
ChecksLists origin bytes (Err StateString) = HasBadString origin bytes
ChecksLists origin bytes (Err StateHead) = ⊥
ChecksLists origin bytes (Err Collision) = ⊥
ChecksLists origin bytes (Err StateEdge) = ⊥
ChecksLists origin bytes (Err ReadFault) = ⊥
ChecksLists origin bytes (Err OutOfMemory) = ⊤
