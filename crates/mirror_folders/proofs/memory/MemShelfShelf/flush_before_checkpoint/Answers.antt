use Rattle.std.proofs.Common.{◌≡◌, ap, ◌∙◌, ◌++◌, ◌∷◌, [], true, not, is_ok}
use Rattle.mirror_folders.specs.Flushes.{InMemory}
use Rattle.mirror_folders.proofs.Securing.{gains_one}
use Rattle.mirror_folders.proofs.memory.MemShelfShelf.flush_before_checkpoint.Goals as goal

pub returns-clause-secured : goal.returns-clause-secured
returns-clause-secured c =
    let ok : is_ok c.push.result ≡ true = c.is_err.ensures.negation ∙ ap not c.if-is_err.false in
    gains_one c.args.self.now.flushes _ c.args.path.now
    ((rw ok at c.push.ensures.items) ∙ ap (λ (s : InMemory). s.flushes.files ++ c.args.path.now ∷ []) c.self.view_is)
