-- The client's faults for the faults of a body.
use Rattle.mirror_http.specs.declared.fault.HttpFault.TheVariants as http
use Rattle.tlog_tiles.specs.declared.paths.Path.TheVariants.{Checkpoint}
use Rattle.copy_reader.specs.declared.fault.CopyFault.{CopyFault}
use Rattle.copy_reader.specs.declared.fault.CopyFault.TheVariants.{BadOrigin, Head, CopyDamaged, ShelfFault, OutOfMemory}
use Rattle.program_copies.specs.declared.reply_fault.CopyAnswerFault.{CopyAnswerFault}
use Rattle.program_copies.specs.declared.reply_fault.CopyAnswerFault.TheVariants as answering

abbrev pub by_body : CopyFault → CopyAnswerFault
by_body BadOrigin = answering.CopyDamaged Checkpoint
by_body (Head fault) = answering.CopyDamaged Checkpoint
by_body (CopyDamaged path) = answering.CopyDamaged path
by_body ShelfFault = answering.ShelfFault
by_body OutOfMemory = answering.Http http.OutOfMemory
