-- The line of the port that clients connect to. Only contracts of private functions cite `connection_fault`.
use Rattle.std.specs.Prelude.{◌⊎◌, ℕ, List, ◌++◌, Option, Result, Ok, Err, codes, ⊤}
use Rattle.std.specs.Fmt.{decimal}
use Rattle.std.specs.Io.KnownBytes.{Appends, Keeps}
use Rattle.byte_streams.specs.Streams.{AppendsPrefix}
use Rattle.mirror_http.specs.declared.fault.HttpFault.{HttpFault}
use Rattle.mirror_http.specs.declared.fault.HttpFault.TheVariants as http
use Rattle.program_io.specs.Listening.{Listening, local}
use Rattle.program_io.specs.declared.port.ListenFault.{ListenFault}
use Rattle.program_io.specs.declared.port.ListenFault.TheVariants.{PortFault, WriteFault, OutOfMemory}

-- the name of the fault of a connection
abbrev pub connection_fault : HttpFault → List ℕ
connection_fault http.ReadFault = codes "ReadFault"
connection_fault http.WriteFault = codes "WriteFault"
connection_fault http.OutOfMemory = codes "OutOfMemory"

-- the line with the address at which connections are accepted
abbrev pub listening_text : Listening → List ℕ
listening_text at = codes "listening " ++ (at.host ++ (codes ":" ++ (decimal at.port ++ codes "\n")))

-- the meaning of each answer of serving at that address for its line: it was written, or a prefix of it at a write fault; if the port
-- cannot be opened or a connection cannot be accepted, nothing or the complete line was written
abbrev pub PrintsListening : {T : Type 0} → Listening → Option (List ℕ) → Option (List ℕ) → Result T ListenFault → Type 0
PrintsListening at old new (Ok x) = Appends old new (listening_text at)
PrintsListening at old new (Err WriteFault) = AppendsPrefix old new (listening_text at)
PrintsListening at old new (Err PortFault) = Keeps old new ⊎ Appends old new (listening_text at)
PrintsListening at old new (Err OutOfMemory) = Keeps old new

-- the same at 127.0.0.1 and that port
abbrev pub PrintsPort : {T : Type 0} → ℕ → Option (List ℕ) → Option (List ℕ) → Result T ListenFault → Type 0
PrintsPort port old new answer = PrintsListening (local port) old new answer

-- after these faults text may have been written: the write failed; the port failed, maybe after its line was written
abbrev pub IsPortWritten : ListenFault → Type 0
IsPortWritten PortFault = ⊤
IsPortWritten WriteFault = ⊤
IsPortWritten OutOfMemory = ⊥
