use Rattle.std.proofs.Common.{◌+◌, [], ◌∷◌, ◌++◌, map, refl, sym, subst, true}
use Rattle.mirror_model.specs.Texts.{path_line}
use Rattle.byte_streams.specs.Streams.{AppendsPrefix}
use Rattle.mirror_trees.specs.Levels.{fresh_from, path_at}
use Rattle.tlog_mirror.specs.MissingLines.{level_paths}
use Rattle.tlog_mirror.specs.Pieces.{Sends}
use Rattle.tlog_mirror.proofs.SentPieces.{in_err}
use Rattle.tlog_mirror.proofs.WrittenLines.{IsWritten, one_text, starts, writes, breaks, all_sends, all_records}
use Rattle.tlog_mirror.proofs.MissingSteps.{next_path, no_path, says_one}
use Rattle.tlog_mirror.proofs.lines.write_level.Goals as goal

pub loop-number-init : goal.loop-number-init
loop-number-init g c = λ numbers lists.
    starts path_line (g.W.Write.contents c.args.output.now) c.args.held.now.items c.args.held.now.items c.args.before
    (level_paths c.args.size c.args.level numbers) refl

pub loop-number-preserved : goal.loop-number-preserved
loop-number-preserved g c = λ numbers lists.
    let old = g.W.Write.contents c.args.output.now in
    let now = g.W.Write.contents c.loop-number.output in
    let new = g.W.Write.contents c.write_file.new.output in
    let path = path_at c.args.size c.args.level c.in-Some.number in
    let all = level_paths c.args.size c.args.level numbers in
    let rest = map (path_at c.args.size c.args.level) (fresh_from (c.in-Some.number + 1) numbers) in
    writes path_line old now c.args.held.now.items c.loop-number.held.items c.args.before c.loop-number.any all
    (path ∷ []) rest
    (subst (IsWritten path_line old now c.args.held.now.items c.loop-number.held.items c.args.before c.loop-number.any all)
    (next_path c.args.size c.args.level numbers c.loop-number.from c.in-Some.number
    (sym (c.in-Some.ensures.first numbers lists))) (c.loop-number.invariant numbers lists))
    new c.write_file.new.held.items true
    (subst (λ t. Sends now new c.write_file.new.held.items (c.loop-number.held.items ++ t)) (sym (one_text path_line path))
    c.in_ok-write_file.ensures.ok) (says_one c.loop-number.any path)

pub returns-in_err-write_file-clause-err : goal.returns-in_err-write_file-clause-err
returns-in_err-write_file-clause-err g c =
    in_err c.from_residual.result (λ numbers lists.
    let old = g.W.Write.contents c.args.output.now in
    let now = g.W.Write.contents c.loop-number.output in
    let new = g.W.Write.contents c.write_file.new.output in
    let path = path_at c.args.size c.args.level c.in-Some.number in
    let all = level_paths c.args.size c.args.level numbers in
    let rest = map (path_at c.args.size c.args.level) (fresh_from (c.in-Some.number + 1) numbers) in
    breaks path_line old now c.args.held.now.items c.loop-number.held.items c.args.before c.loop-number.any all
    (path ∷ []) rest
    (subst (IsWritten path_line old now c.args.held.now.items c.loop-number.held.items c.args.before c.loop-number.any all)
    (next_path c.args.size c.args.level numbers c.loop-number.from c.in-Some.number
    (sym (c.in-Some.ensures.first numbers lists))) (c.loop-number.invariant numbers lists))
    new
    (subst (λ t. AppendsPrefix now new (c.loop-number.held.items ++ t)) (sym (one_text path_line path))
    c.in_err-write_file.ensures.err))

pub returns-clause-ok : goal.returns-clause-ok
returns-clause-ok g c = λ numbers lists.
    all_sends path_line (g.W.Write.contents c.args.output.now) (g.W.Write.contents c.loop-number.output)
    c.args.held.now.items c.loop-number.held.items c.args.before c.loop-number.any
    (level_paths c.args.size c.args.level numbers) _
    (no_path c.args.size c.args.level numbers c.loop-number.from (sym (c.in_default.ensures.first numbers lists)))
    (c.loop-number.invariant numbers lists)

pub returns-clause-any : goal.returns-clause-any
returns-clause-any g c = λ numbers lists.
    all_records path_line (g.W.Write.contents c.args.output.now) (g.W.Write.contents c.loop-number.output)
    c.args.held.now.items c.loop-number.held.items c.args.before c.loop-number.any
    (level_paths c.args.size c.args.level numbers) _
    (no_path c.args.size c.args.level numbers c.loop-number.from (sym (c.in_default.ensures.first numbers lists)))
    (c.loop-number.invariant numbers lists)
