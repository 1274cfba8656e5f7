use Rattle.std.proofs.Common.{◌∷◌, [], ◌++◌, string_bytes, ap, ◌∙◌, lit<}
use Rattle.std.proofs.lemmas.Result.{IfOk-from_err}
use Rattle.tlog_text.specs.Hash.{base64_of}
use Rattle.tlog_proof.proofs.Lines.{three_added}
use Rattle.tlog_proof.proofs.write.add_hash.Goals as goal

pub returns-clause-ok : goal.returns-clause-ok
unfolding base64_of
returns-clause-ok c =
    three_added (string_bytes c.args.text.now) c.args.name.now (base64_of c.args.hash.now) (10 ∷ [])
    (string_bytes c.push_str.new.self) (string_bytes c.push_hash.new.text) (string_bytes c.push.new.self)
    c.in_ok-push_str.ensures.bytes c.in_ok-push_hash.ensures.ok
    (c.in_ok-push.ensures.bytes ∙
    ap (λ xs. string_bytes c.push_hash.new.text ++ xs) (c.in_ok-push.ensures.ascii (lit< tt)))

pub returns-in_err-push_str-clause-ok : goal.returns-in_err-push_str-clause-ok
returns-in_err-push_str-clause-ok c = IfOk-from_err c.from_residual.result _ c.from_residual.ensures.0

pub returns-in_err-push_hash-clause-ok : goal.returns-in_err-push_hash-clause-ok
returns-in_err-push_hash-clause-ok c = let exit = c.from_residual-in_err-push_hash in IfOk-from_err exit.result _ exit.ensures.0

pub returns-in_err-push-clause-ok : goal.returns-in_err-push-clause-ok
returns-in_err-push-clause-ok c = let exit = c.from_residual-in_err-push in IfOk-from_err exit.result _ exit.ensures.0
