use Rattle.std.proofs.Common.{◌≡◌, get_or, ◌∙◌}
use Rattle.std.proofs.lemmas.List.{get_or_default}
use Rattle.tlog_mirror.proofs.MergedMirrors.{noted_none, noted_more, note_said, note_edge}
use Rattle.tlog_mirror.proofs.mirror.Mirror.keep_notes.Goals as goal

pub loop-kept-init : goal.loop-kept-init
loop-kept-init g c = record {
  view = noted_none c.args.self.now.view c.args.notes.now;
  remembered = λ _. c.args.self.now.remembered;
  said = c.requires.said;
  edges = c.requires.edges;
}

pub keep_note-requires-clause-said : goal.keep_note-requires-clause-said
keep_note-requires-clause-said g c =
    let at : c.in_ok-copy.copy ≡ get_or c.args.notes.now c.loop-kept.kept-index c.in_ok-copy.copy =
    c.in_ok-copy.ensures ∙ c.kept-item.is ∙
    get_or_default c.args.notes.now c.loop-kept.kept-index c.kept-item.result c.in_ok-copy.copy c.loop-kept-test.true in
    note_said c.args.self.now.view c.args.notes.now c.loop-kept.kept-index c.in_ok-copy.copy c.loop-kept-test.true at
    c.loop-kept.self.view c.loop-kept.invariant.view c.loop-kept.invariant.said

pub keep_note-requires-clause-edge : goal.keep_note-requires-clause-edge
keep_note-requires-clause-edge g c =
    let at : c.in_ok-copy.copy ≡ get_or c.args.notes.now c.loop-kept.kept-index c.in_ok-copy.copy =
    c.in_ok-copy.ensures ∙ c.kept-item.is ∙
    get_or_default c.args.notes.now c.loop-kept.kept-index c.kept-item.result c.in_ok-copy.copy c.loop-kept-test.true in
    note_edge c.args.self.now.view c.args.notes.now c.loop-kept.kept-index c.in_ok-copy.copy c.loop-kept-test.true at
    c.loop-kept.self.view c.loop-kept.invariant.view g.H.TreeHash.digest c.loop-kept.invariant.edges

pub loop-kept-preserved : goal.loop-kept-preserved
loop-kept-preserved g c =
    let at : c.in_ok-copy.copy ≡ get_or c.args.notes.now c.loop-kept.kept-index c.in_ok-copy.copy =
    c.in_ok-copy.ensures ∙ c.kept-item.is ∙
    get_or_default c.args.notes.now c.loop-kept.kept-index c.kept-item.result c.in_ok-copy.copy c.loop-kept-test.true in
    record {
      view = noted_more c.args.self.now.view c.args.notes.now c.loop-kept.kept-index c.in_ok-copy.copy
          c.loop-kept-test.true at c.loop-kept.self.view c.keep_note.new.self.view c.loop-kept.invariant.view
          c.in_ok-keep_note.ensures.ok;
      remembered = c.in_ok-keep_note.ensures.remembered ∙ c.loop-kept.invariant.remembered;
      said = c.loop-kept.invariant.said;
      edges = c.loop-kept.invariant.edges;
    }
