use Rattle.std.proofs.Common.{◌≡◌, Err, rules, subst, ◌∙◌}
use Rattle.std.specs.Prelude.{string_bytes}
use Rattle.mirror_model.specs.Marks.{State}
use Rattle.mirror_model.specs.Steps.{Exhausted, Answers}
use Rattle.mirror_model.specs.View.{union}
use Rattle.node_store.specs.declared.store.AddFault.{AddFault}
use Rattle.tlog_mirror.specs.Adding.{added, with_notes, with_strings}
use Rattle.tlog_mirror.proofs.MergedMirrors.{first_notes, others_edges, merged_part, strings_part}
use Rattle.tlog_mirror.proofs.mirror.Mirror.merge.Goals as goal

pub returns-in-Err-OutOfMemory-clause-merges : goal.returns-in-Err-OutOfMemory-clause-merges
returns-in-Err-OutOfMemory-clause-merges g c =
    let d = g.H.TreeHash.digest in
    let o = c.other.inside in
    let old = c.args.self.now.view in
    let same : old.origin ≡ string_bytes o.origin = search rules in
    let adds : Answers d old (Unit {0}) (with_strings old o.strings) Exhausted c.add_strings.new.self.view =
    subst (λ (fault : AddFault). Answers d old (Unit {0}) (with_strings old o.strings)
    (added (Err fault)) c.add_strings.new.self.view) c.in-Err-OutOfMemory.field-0-is
    c.in-Err-OutOfMemory.ensures.adds in
    subst (λ (s : State). Answers d old (old.origin ≡ s.view.origin)
    (union old s.view) Exhausted c.add_strings.new.self.view) c.other.view_is
    (strings_part d old
    (string_bytes o.origin) o.kept.items o.strings o.known.remembered c.add_strings.new.self.view same adds)

pub keep_notes-requires-clause-edges : goal.keep_notes-requires-clause-edges
keep_notes-requires-clause-edges g c =
    let d = g.H.TreeHash.digest in
    let o = c.other.inside in
    let old = c.args.self.now.view in
    let same : old.origin ≡ string_bytes o.origin = search rules in
    others_edges d old
    (string_bytes o.origin) o.kept.items o.strings o.known.remembered c.other.invariant.0 same c.add_strings.new.self.view
    c.in-Ok.ensures.adds.2 c.as_slice.result.now c.as_slice.ensures.value

pub returns-in-Err-clause-merges : goal.returns-in-Err-clause-merges
returns-in-Err-clause-merges g c =
    let d = g.H.TreeHash.digest in
    let o = c.other.inside in
    let old = c.args.self.now.view in
    let same : old.origin ≡ string_bytes o.origin = search rules in
    subst (λ (s : State). Answers d old (old.origin ≡ s.view.origin)
    (union old s.view) Exhausted c.keep_notes.new.self.view) c.other.view_is
    (merged_part d old
    (string_bytes o.origin) o.kept.items o.strings o.known.remembered c.in-Err.ensures.err.0 c.keep_notes.new.self.view same
    c.in-Ok.ensures.adds.1
    (c.in-Err.ensures.err.1 ∙
    (λ t. with_notes (c.in-Ok.ensures.adds.2 t) (first_notes c.in-Err.ensures.err.0 (c.as_slice.ensures.value t)))))
