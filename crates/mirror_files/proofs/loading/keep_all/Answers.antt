use Rattle.std.proofs.Common.{refl, ◌∙◌}
use Rattle.std.proofs.lemmas.List.Elements.{All-nil}
use Rattle.mirror_model.specs.Complete.{HasEdge}
use Rattle.mirror_files.proofs.KeptNotes.{noted_none}
use Rattle.mirror_files.proofs.LoadedNotes.{head_edges, head_kept, head_lacks, head_said, heads_kept}
use Rattle.mirror_files.proofs.loading.keep_all.Goals as goal

pub loop-head-init : goal.loop-head-init
loop-head-init g c = record {
  view = noted_none c.args.mirror.now.view;
  edges = All-nil (HasEdge g.H.TreeHash.digest c.args.mirror.now.view);
  remembered = refl;
}

pub keep_opened_head-requires : goal.keep_opened_head-requires
keep_opened_head-requires g c =
    head_said g.H.TreeHash.digest c.args.mirror.now.view c.loop-head.mirror.view c.loop-head.mirror.view c.args.heads.now
    c.loop-head.head-index c.head-item.result c.loop-head-test.true c.head-item.is c.loop-head.invariant.view c.requires

pub returns-in-Ok-false-clause-keeps : goal.returns-in-Ok-false-clause-keeps
returns-in-Ok-false-clause-keeps g c =
    head_lacks g.H.TreeHash.digest c.args.mirror.now.view c.loop-head.mirror.view c.keep_opened_head.new.self.view
    c.args.heads.now c.loop-head.head-index c.head-item.result c.loop-head-test.true c.head-item.is
    c.loop-head.invariant.view (Unit {0}) c.in-Ok-false.field-0 c.in-Ok-false.ensures.keeps c.in-Ok-false.field-0-test

pub loop-head-preserved : goal.loop-head-preserved
loop-head-preserved g c = record {
  view = head_kept g.H.TreeHash.digest c.args.mirror.now.view c.loop-head.mirror.view c.keep_opened_head.new.self.view
      c.args.heads.now c.loop-head.head-index c.head-item.result c.loop-head-test.true c.head-item.is
      c.loop-head.invariant.view (Unit {0}) c.in-Ok-true.field-0 c.in-Ok-true.ensures.keeps c.in-Ok-true.field-0-test;
  edges = head_edges g.H.TreeHash.digest c.args.mirror.now.view c.loop-head.mirror.view c.keep_opened_head.new.self.view
      c.args.heads.now c.loop-head.head-index c.head-item.result c.loop-head-test.true c.head-item.is
      c.loop-head.invariant.view (Unit {0}) c.in-Ok-true.field-0 c.in-Ok-true.ensures.keeps c.in-Ok-true.field-0-test
      c.loop-head.invariant.edges;
  remembered = c.in-Ok-true.ensures.remembered ∙ c.loop-head.invariant.remembered;
}

pub returns-clause-keeps : goal.returns-clause-keeps
returns-clause-keeps g c =
    heads_kept g.H.TreeHash.digest c.args.mirror.now.view c.loop-head.mirror.view c.args.heads.now c.loop-head.head-index
    c.loop-head-test.false c.loop-head.invariant.view c.loop-head.invariant.edges
