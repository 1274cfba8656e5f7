use Rattle.std.proofs.lemmas.Result.{IfOk-from_err}
use Rattle.tlog_proof.proofs.write.add_proof.Goals as goal

pub returns-in_err-push_str-in-Inclusion : goal.returns-in_err-push_str-in-Inclusion
returns-in_err-push_str-in-Inclusion c = IfOk-from_err c.from_residual.result _ c.from_residual.ensures.0

pub returns-in_err-add_number-in-Inclusion : goal.returns-in_err-add_number-in-Inclusion
returns-in_err-add_number-in-Inclusion c = let exit = c.from_residual-in_err-add_number-in-Inclusion in IfOk-from_err exit.result _ exit.ensures.0

pub returns-in_err-add_number-in-Inclusion-2 : goal.returns-in_err-add_number-in-Inclusion-2
returns-in_err-add_number-in-Inclusion-2 c = let exit = c.from_residual-in_err-add_number-in-Inclusion-2 in IfOk-from_err exit.result _ exit.ensures.0

pub returns-in_err-add_hash-in-Inclusion : goal.returns-in_err-add_hash-in-Inclusion
returns-in_err-add_hash-in-Inclusion c = let exit = c.from_residual-in_err-add_hash-in-Inclusion in IfOk-from_err exit.result _ exit.ensures.0

pub returns-in_err-add_hash-in-Inclusion-2 : goal.returns-in_err-add_hash-in-Inclusion-2
returns-in_err-add_hash-in-Inclusion-2 c = let exit = c.from_residual-in_err-add_hash-in-Inclusion-2 in IfOk-from_err exit.result _ exit.ensures.0

pub returns-in_err-push_str-in-Consistency : goal.returns-in_err-push_str-in-Consistency
returns-in_err-push_str-in-Consistency c = let exit = c.from_residual-in_err-push_str-in-Consistency in IfOk-from_err exit.result _ exit.ensures.0

pub returns-in_err-add_number-in-Consistency : goal.returns-in_err-add_number-in-Consistency
returns-in_err-add_number-in-Consistency c = let exit = c.from_residual-in_err-add_number-in-Consistency in IfOk-from_err exit.result _ exit.ensures.0

pub returns-in_err-add_hash-in-Consistency : goal.returns-in_err-add_hash-in-Consistency
returns-in_err-add_hash-in-Consistency c = let exit = c.from_residual-in_err-add_hash-in-Consistency in IfOk-from_err exit.result _ exit.ensures.0

pub returns-in_err-add_number-in-Consistency-2 : goal.returns-in_err-add_number-in-Consistency-2
returns-in_err-add_number-in-Consistency-2 c = let exit = c.from_residual-in_err-add_number-in-Consistency-2 in IfOk-from_err exit.result _ exit.ensures.0

pub returns-in_err-add_hash-in-Consistency-2 : goal.returns-in_err-add_hash-in-Consistency-2
returns-in_err-add_hash-in-Consistency-2 c = let exit = c.from_residual-in_err-add_hash-in-Consistency-2 in IfOk-from_err exit.result _ exit.ensures.0
