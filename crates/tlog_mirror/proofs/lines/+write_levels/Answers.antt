use Rattle.std.proofs.Common.{◌-◌, ℕ, List, [], ◌++◌, ◌∙◌, ◌⊎◌, refl, sym, ap, subst, append-nil}
use Rattle.std.specs.Prelude.{◌↔◌, ◌≢◌, IsTrue}
use Rattle.std.proofs.lemmas.Result.{on_ok_weaker, IfOk-weaker}
use Rattle.std.proofs.lemmas.Result.{IfOk-from_err}
use Rattle.mirror_model.specs.Texts.{missing_text}
use Rattle.byte_streams.specs.Streams.{AppendsPrefix}
use Rattle.byte_streams.specs.declared.fault.StreamFault.TheVariants.{WriteFault}
use Rattle.tlog_mirror.specs.MissingLines.{IsLevelOf, level_paths}
use Rattle.tlog_mirror.specs.Pieces.{Sends}
use Rattle.tlog_mirror.proofs.SentPieces.{held_back, sends_then, fails_then}
use Rattle.tlog_mirror.proofs.MissingSteps.{fails_first, parts_of, no_levels, says_both, text_both, at_err, is_err}
use Rattle.tlog_mirror.proofs.lines.+write_levels.Goals as goal

pub returns-then-levels-eq0-clause-ok : goal.returns-then-levels-eq0-clause-ok
returns-then-levels-eq0-clause-ok g t c = λ paths lists.
    let old = g.W.Write.contents c.args.output.now in
    let had = c.args.held.now.items in
    let none =
    no_levels g.H.TreeHash.digest c.args.store.now c.args.size c.args.root.now c.args.levels paths c.if-levels-eq0.true
    lists in
    held_back old old had (missing_text paths) had refl
    (sym (append-nil had) ∙ ap (λ ps. had ++ missing_text ps) (sym none))

pub returns-then-levels-eq0-clause-any : goal.returns-then-levels-eq0-clause-any
returns-then-levels-eq0-clause-any g t c = λ paths lists.
    let none =
    no_levels g.H.TreeHash.digest c.args.store.now c.args.size c.args.root.now c.args.levels paths c.if-levels-eq0.true
    lists in
    (λ h. absurd (cc h), λ some. absurd (some none))

pub returns-in_err-above-clause-err : goal.returns-in_err-above-clause-err
returns-in_err-above-clause-err g t c = λ is paths lists.
    let old = g.W.Write.contents c.args.output.now in
    let mid = g.W.Write.contents c.write_levels.new.output in
    let had = c.args.held.now.items in
    let p =
    parts_of g.H.TreeHash.digest c.args.store.now c.args.size c.args.root.now c.args.levels paths c.if-levels-eq0.false
    lists in
    let own = level_paths c.args.size (8 - c.args.levels) p.numbers in
    fails_first old mid had (missing_text p.above) (missing_text own) (missing_text paths)
    (text_both p.above own paths p.is)
    (c.in_err-above.ensures.err
    (sym (is_err c.from_residual-in_err-above.result c.in_err-above.field-0.0 c.from_residual-in_err-above.ensures.1) ∙ is)
    p.above p.higher)

pub returns-clause-ok : goal.returns-clause-ok
returns-clause-ok g t c =
    let old = g.W.Write.contents c.args.output.now in
    let mid = g.W.Write.contents c.write_levels.new.output in
    let new = g.W.Write.contents c.write_level.new.output in
    let had = c.args.held.now.items in
    let back = c.write_levels.new.held.items in
    let held = c.write_level.new.held.items in
    on_ok_weaker c.write_level.result
    (λ (q : (numbers : List ℕ) →
    IsLevelOf g.H.TreeHash.digest c.args.store.now c.args.size c.args.root.now (8 - c.args.levels) numbers →
    Sends mid new held (back ++ missing_text (level_paths c.args.size (8 - c.args.levels) numbers))). λ paths lists.
    let p =
    parts_of g.H.TreeHash.digest c.args.store.now c.args.size c.args.root.now c.args.levels paths c.if-levels-eq0.false
    lists in
    let own = level_paths c.args.size (8 - c.args.levels) p.numbers in
    subst (λ t. Sends old new held (had ++ t)) (text_both p.above own paths p.is)
    (sends_then old mid new had back (missing_text p.above) (missing_text own)
    (c.in_ok-above.ensures.ok p.above p.higher) held (q p.numbers p.own)))
    c.write_level.ensures.ok

pub returns-clause-any : goal.returns-clause-any
returns-clause-any g t c =
    IfOk-weaker c.write_level.result
    (λ any. (numbers : List ℕ) →
    IsLevelOf g.H.TreeHash.digest c.args.store.now c.args.size c.args.root.now (8 - c.args.levels) numbers →
    IsTrue any ↔ (IsTrue c.in_ok-above.above ⊎ (level_paths c.args.size (8 - c.args.levels) numbers ≢ [])))
    _ (λ any q. λ paths lists. let p =
    parts_of g.H.TreeHash.digest c.args.store.now c.args.size c.args.root.now c.args.levels paths c.if-levels-eq0.false
    lists in
    says_both c.in_ok-above.above any p.above (level_paths c.args.size (8 - c.args.levels) p.numbers) paths p.is
    (c.in_ok-above.ensures.any p.above p.higher) (q p.numbers p.own))
    c.write_level.ensures.any

pub returns-clause-err : goal.returns-clause-err
returns-clause-err g t c = λ is paths lists.
    let old = g.W.Write.contents c.args.output.now in
    let mid = g.W.Write.contents c.write_levels.new.output in
    let new = g.W.Write.contents c.write_level.new.output in
    let had = c.args.held.now.items in
    let back = c.write_levels.new.held.items in
    let p =
    parts_of g.H.TreeHash.digest c.args.store.now c.args.size c.args.root.now c.args.levels paths c.if-levels-eq0.false
    lists in
    let own = level_paths c.args.size (8 - c.args.levels) p.numbers in
    subst (λ t. AppendsPrefix old new (had ++ t)) (text_both p.above own paths p.is)
    (fails_then old mid new had back (missing_text p.above) (missing_text own)
    (c.in_ok-above.ensures.ok p.above p.higher)
    (at_err c.write_level.result WriteFault is c.write_level.ensures.err p.numbers p.own))

pub returns-in_err-clear-clause-ok : goal.returns-in_err-clear-clause-ok
returns-in_err-clear-clause-ok g t c = IfOk-from_err _ _ c.from_residual.ensures.0

pub returns-in_err-clear-clause-any : goal.returns-in_err-clear-clause-any
returns-in_err-clear-clause-any g t c = IfOk-from_err _ _ c.from_residual.ensures.0

pub returns-in_err-begin-clause-ok : goal.returns-in_err-begin-clause-ok
returns-in_err-begin-clause-ok g t c = IfOk-from_err _ _ c.from_residual-in_err-begin.ensures.0

pub returns-in_err-begin-clause-any : goal.returns-in_err-begin-clause-any
returns-in_err-begin-clause-any g t c = IfOk-from_err _ _ c.from_residual-in_err-begin.ensures.0

pub returns-in_err-above-clause-ok : goal.returns-in_err-above-clause-ok
returns-in_err-above-clause-ok g t c = IfOk-from_err _ _ c.from_residual-in_err-above.ensures.0

pub returns-in_err-above-clause-any : goal.returns-in_err-above-clause-any
returns-in_err-above-clause-any g t c = IfOk-from_err _ _ c.from_residual-in_err-above.ensures.0
