use Rattle.std.proofs.Common.{rules, ◌≢◌}
use Rattle.std.proofs.lemmas.List.Elements.{All-nil}
use Rattle.mirror_model.specs.Complete.{HasEdge}
use Rattle.tlog_mirror.specs.declared.fault.RestoreFault.TheVariants as restoring
use Rattle.mirror_files.proofs.ListedItems.{all_passes}
use Rattle.mirror_files.proofs.KeptNotes.{noted_none, kept_view, kept_edges}
use Rattle.mirror_files.proofs.OpenedNotes.{first_here}
use Rattle.mirror_files.proofs.RefusedNotes.{stays_unheld}
use Rattle.mirror_files.proofs.refused.first_unheld.Goals as goal

pub loop-i-init : goal.loop-i-init
loop-i-init g c = record {
  view = noted_none c.args.mirror.now.view;
  edges = All-nil (HasEdge g.H.TreeHash.digest c.args.mirror.now.view);
}

pub returns-in-Err : goal.returns-in-Err
returns-in-Err g c =
    let memory : c.in-Err.field-0 ≢ restoring.OutOfMemory = search rules in
    record {
      found = first_here (HasEdge g.H.TreeHash.digest c.args.mirror.now.view) c.args.notes.now c.loop-i.i _
          c.loop-i-test.true c.loop-i.invariant.edges
          (stays_unheld g.H.TreeHash.digest c.args.mirror.now.view c.loop-i.mirror.view
          c.keep_held_head.new.self.view _ c.args.notes.now c.loop-i.i _ c.loop-i-test.true c.loop-i.invariant.view
          c.requires c.in-Err.field-0 memory c.in-Err.ensures.keeps);
      none = tt;
    }

pub loop-i-preserved : goal.loop-i-preserved
loop-i-preserved g c = record {
  view = kept_view g.H.TreeHash.digest c.args.mirror.now.view c.loop-i.mirror.view c.keep_held_head.new.self.view _
      c.args.notes.now c.loop-i.i _ c.loop-i-test.true c.loop-i.invariant.view c.in-Ok.ensures.keeps;
  edges = kept_edges g.H.TreeHash.digest c.args.mirror.now.view c.loop-i.mirror.view c.keep_held_head.new.self.view _
      c.args.notes.now c.loop-i.i _ c.loop-i-test.true c.loop-i.invariant.view c.in-Ok.ensures.keeps
      c.loop-i.invariant.edges;
}

pub returns-clause-none : goal.returns-clause-none
returns-clause-none g c =
    all_passes (HasEdge g.H.TreeHash.digest c.args.mirror.now.view) c.args.notes.now c.loop-i.i c.loop-i-test.false
    c.loop-i.invariant.edges
