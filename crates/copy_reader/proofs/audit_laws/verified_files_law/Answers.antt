use Rattle.copy_reader.proofs.TrueFiles.{verified_files_are_true}
use Rattle.copy_reader.proofs.audit_laws.verified_files_law.Goals as goal

pub returns : goal.returns
returns c = verified_files_are_true
