use Rattle.std.proofs.Common.{ap, ◌∙◌, ◌++◌, List, ℕ, take}
use Rattle.std.specs.Prelude.{codes}
use Rattle.std.specs.Fmt.{decimal}
use Rattle.tlog_text.specs.Hash.{base64_of}
use Rattle.mirror_files.proofs.Names.{name_joined}
use Rattle.mirror_files.proofs.naming.checkpoint_text.Goals as goal

pub returns : goal.returns
returns c =
    c.in_ok-push_str.ensures.bytes
    ∙ ap (λ (x : List ℕ). x ++ codes "..")
    (c.in_ok-push_front.ensures
    ∙ ap (λ (x : List ℕ). x ++ base64_of (take 3 c.args.root.now)) c.in_ok-text.ensures.ok)
    ∙ name_joined (decimal c.args.size) (base64_of (take 3 c.args.root.now))
