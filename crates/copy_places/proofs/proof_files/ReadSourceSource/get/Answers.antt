use Rattle.std.proofs.Common.{subst}
use Rattle.copy_places.specs.ReadFiles.{IsRead, Reading}
use Rattle.copy_places.proofs.ReadFiles.{reading_failed, reading_on}
use Rattle.copy_places.proofs.proof_files.ReadSourceSource.get.Goals as goal

pub returns-in_err-push-in-None-clause-later : goal.returns-in_err-push-in-None-clause-later
returns-in_err-push-in-None-clause-later c =
    record { stays = λ path answer read. subst (λ (r : Reading). IsRead r.files path answer) c.self.view_is read }

pub invariant_of-self-in-None : goal.invariant_of-self-in-None
invariant_of-self-in-None c =
    rw c.in_ok-push-in-None.ensures.items
    (reading_failed c.self.inside.files c.self.inside.asked.items c.saturating_add-self-inside.result c.args.path.now
    c.in-None.ensures.none)

pub returns-in-None-clause-later : goal.returns-in-None-clause-later
returns-in-None-clause-later c =
    record { stays = λ path answer read. subst (λ (r : Reading). IsRead r.files path answer) c.self.view_is read }

pub invariant_of-self-2 : goal.invariant_of-self-2
invariant_of-self-2 c =
    rw c.in_ok-push.ensures.items
    (reading_on c.self.inside.files c.self.inside.asked.items c.self.inside.failures c.args.path.now c.self.invariant)

pub returns-clause-later : goal.returns-clause-later
returns-clause-later c =
    record { stays = λ path answer read. subst (λ (r : Reading). IsRead r.files path answer) c.self.view_is read }
