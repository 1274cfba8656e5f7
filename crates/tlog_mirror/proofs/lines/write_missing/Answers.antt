use Rattle.std.proofs.Common.{◌++◌, sym, subst, ◌∙◌}
use Rattle.std.specs.Io.KnownBytes.{Appends}
use Rattle.std.proofs.lemmas.Result.{IfOk-from_err}
use Rattle.byte_streams.specs.Streams.{AppendsPrefix}
use Rattle.mirror_model.specs.Texts.{missing_text}
use Rattle.tlog_mirror.specs.Pieces.{Sends}
use Rattle.tlog_mirror.proofs.SentPieces.{ends, ends_early}
use Rattle.tlog_mirror.proofs.MissingSteps.{is_err}
use Rattle.tlog_mirror.proofs.lines.write_missing.Goals as goal

pub returns-in_err-any-clause-err : goal.returns-in_err-any-clause-err
returns-in_err-any-clause-err g c = λ is paths lists.
    subst (λ h. AppendsPrefix (g.W.Write.contents c.args.output.now) (g.W.Write.contents c.write_levels.new.output)
    (h ++ missing_text paths)) c.new-held.ensures.items
    (c.in_err-any.ensures.err
    (sym (is_err c.from_residual-in_err-any.result c.in_err-any.field-0.0 c.from_residual-in_err-any.ensures.1) ∙ is) paths lists)

pub returns-in_err-write_whole-clause-err : goal.returns-in_err-write_whole-clause-err
returns-in_err-write_whole-clause-err g c = λ _ paths lists.
    let old = g.W.Write.contents c.args.output.now in
    let now = g.W.Write.contents c.write_levels.new.output in
    let new = g.W.Write.contents c.write_whole.new.writer in
    ends_early old now new c.write_levels.new.held.items (missing_text paths)
    (subst (λ h. Sends old now c.write_levels.new.held.items (h ++ missing_text paths)) c.new-held.ensures.items
    (c.in_ok-any.ensures.ok paths lists))
    (subst (AppendsPrefix now new) c.as_slice.ensures.value c.in_err-write_whole.ensures.err)

pub returns-clause-ok : goal.returns-clause-ok
returns-clause-ok g c = λ paths lists.
    let old = g.W.Write.contents c.args.output.now in
    let now = g.W.Write.contents c.write_levels.new.output in
    let new = g.W.Write.contents c.write_whole.new.writer in
    ends old now new c.write_levels.new.held.items (missing_text paths)
    (subst (λ h. Sends old now c.write_levels.new.held.items (h ++ missing_text paths)) c.new-held.ensures.items
    (c.in_ok-any.ensures.ok paths lists))
    (subst (Appends now new) c.as_slice.ensures.value c.in_ok-write_whole.ensures.ok)

pub returns-in_err-any-clause-ok : goal.returns-in_err-any-clause-ok
returns-in_err-any-clause-ok g c = IfOk-from_err _ _ c.from_residual-in_err-any.ensures.0

pub returns-in_err-any-clause-any : goal.returns-in_err-any-clause-any
returns-in_err-any-clause-any g c = IfOk-from_err _ _ c.from_residual-in_err-any.ensures.0

pub returns-in_err-write_whole-clause-ok : goal.returns-in_err-write_whole-clause-ok
returns-in_err-write_whole-clause-ok g c = IfOk-from_err _ _ c.from_residual-in_err-write_whole.ensures.0

pub returns-in_err-write_whole-clause-any : goal.returns-in_err-write_whole-clause-any
returns-in_err-write_whole-clause-any g c = IfOk-from_err _ _ c.from_residual-in_err-write_whole.ensures.0

pub returns-in_err-part-clause-ok : goal.returns-in_err-part-clause-ok
returns-in_err-part-clause-ok g c = IfOk-from_err _ _ c.from_residual.ensures.0

pub returns-in_err-part-clause-any : goal.returns-in_err-part-clause-any
returns-in_err-part-clause-any g c = IfOk-from_err _ _ c.from_residual.ensures.0
